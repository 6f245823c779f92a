-- The machine's operations on masks are the operations on sets: each is read member by member, and sets with the same members are equal.
use mathlib.Core.Path.{◌≡◌, refl, sym, ap, ap₂, ◌∙◌}
use mathlib.Core.Bool.{Bool, true, false, cond, not, ◌&&◌, ◌||◌}
use Prim.Native.Nat.{ℕ, zero, suc, ◌+◌, ◌-◌, ◌*◌, ◌/◌, ◌%◌, ◌^◌, ◌≤◌, ◌<◌, min, max}
use native.Mathlib.Nat.{le_of_suc-le-suc, lt_of_le_of_lt, not-suc-le-zero}
use native.Mathlib.Omega.{arith}
use borrow.Author.Tests.{eq-eqb, ne_eqb, eqb-true, eqb-false}
use lib.Dec.{eqb, eqb-zero-suc, eqb-suc-zero, eqb-suc-suc}
use lib.Pow.{shl_exact, pow-lt}
use lib.Bits.{bit_and, bit_or, and_step, or_step, and_mask, and_comm, or_comm, and_le_l, or_lt}
use lib.Count.{count_trailing_zeros, under}
use Rattle.sets.specs.Sets.{member, collect, union, intersection, difference, insert, remove, lowest_in, lowest, bit}
use Rattle.sets.proofs.Laws.{by-test, none, member_zero, member_suc, ext, collect_small, collected}

-- ---- the members of what the machine makes

digit : (s : ℕ) → s % 2 ≡ bit (member 0 s)
digit s =
    by-test (eqb (s % 2) 1)
    (λ e. rw (member_zero, e) (eqb-true (s % 2) 1 e))
    (λ e. rw (member_zero, e) (omega (arith, eqb-false (s % 2) 1 e)))

-- a number by its lowest bit and the others
apart : (b : Bool) (r s : ℕ) → s ≡ r * 2 + bit b → (member 0 s ≡ b) × (s / 2 ≡ r)
apart true r s e = (member_zero s ∙ eq-eqb (s % 2) 1 (omega arith), omega arith)
apart false r s e = (member_zero s ∙ ne_eqb (s % 2) 1 (omega arith), omega arith)

-- an operation that goes bit by bit, by `f` on bits, which `g` says of tests
module _ (op f : ℕ → ℕ → ℕ) (g : Bool → Bool → Bool)
    (step : (s t : ℕ) → op s t ≡ op (s / 2) (t / 2) * 2 + f (s % 2) (t % 2))
    (low : (a b : Bool) → f (bit a) (bit b) ≡ bit (g a b)) where
  made : (s t : ℕ) → op s t ≡ op (s / 2) (t / 2) * 2 + bit (g (member 0 s) (member 0 t))
  made s t = step s t ∙ ap (λ (x : ℕ). op (s / 2) (t / 2) * 2 + x) (ap₂ f (digit s) (digit t) ∙ low (member 0 s) (member 0 t))

  member_made : (k s t : ℕ) → member k (op s t) ≡ g (member k s) (member k t)
  member_made zero s t = (apart (g (member 0 s) (member 0 t)) (op (s / 2) (t / 2)) (op s t) (made s t)).0
  member_made (suc k) s t =
      member_suc k (op s t)
      ∙ ap (member k) (apart (g (member 0 s) (member 0 t)) (op (s / 2) (t / 2)) (op s t) (made s t)).1
      ∙ member_made k (s / 2) (t / 2)
      ∙ ap₂ g (sym (member_suc k s)) (sym (member_suc k t))

low_or : (a b : Bool) → max (bit a) (bit b) ≡ bit (a || b)
low_or true true = refl
low_or true false = refl
low_or false true = refl
low_or false false = refl

low_and : (a b : Bool) → min (bit a) (bit b) ≡ bit (a && b)
low_and true true = refl
low_and true false = refl
low_and false true = refl
low_and false false = refl

pub member_or : (k s t : ℕ) → member k (bit_or s t) ≡ (member k s || member k t)
member_or = member_made bit_or max (λ a b. a || b) or_step low_or

pub member_and : (k s t : ℕ) → member k (bit_and s t) ≡ (member k s && member k t)
member_and = member_made bit_and min (λ a b. a && b) and_step low_and

-- one bit of what `!` makes, and the others
not_apart : (w s : ℕ) → s < 2 ^ suc w → (member 0 ((2 ^ suc w - 1) - s) ≡ not (member 0 s)) × (((2 ^ suc w - 1) - s) / 2 ≡ (2 ^ w - 1) - s / 2)
not_apart w s h =
    apart (not (member 0 s)) ((2 ^ w - 1) - s / 2) ((2 ^ suc w - 1) - s) (flipped (member 0 s) (digit s))
  where
    flipped : (b : Bool) → s % 2 ≡ bit b → (2 ^ suc w - 1) - s ≡ ((2 ^ w - 1) - s / 2) * 2 + bit (not b)
    flipped true e = omega arith
    flipped false e = omega arith

pub member_not : (w k s : ℕ) → k < w → s < 2 ^ w → member k ((2 ^ w - 1) - s) ≡ not (member k s)
member_not zero k s l h = absurd (not-suc-le-zero l)
member_not (suc w) zero s l h = (not_apart w s h).0
member_not (suc w) (suc k) s l h =
    member_suc k ((2 ^ suc w - 1) - s)
    ∙ ap (member k) (not_apart w s h).1
    ∙ member_not w k (s / 2) (le_of_suc-le-suc l) (omega arith)
    ∙ ap not (sym (member_suc k s))

-- the mask of one task
pub member_one : (k n : ℕ) → member k (2 ^ n) ≡ eqb k n
member_one zero zero = member_zero 1
member_one zero (suc n) = member_zero (2 ^ suc n) ∙ ne_eqb (2 ^ suc n % 2) 1 (omega arith) ∙ sym (eqb-zero-suc n)
member_one (suc k) zero = member_suc k 1 ∙ none k ∙ sym (eqb-suc-zero k)
member_one (suc k) (suc n) = member_suc k (2 ^ suc n) ∙ ap (member k) (half n) ∙ member_one k n ∙ sym (eqb-suc-suc k n)
  where
    half : (n : ℕ) → 2 ^ suc n / 2 ≡ 2 ^ n
    half n = omega arith

-- ---- the operations

-- a mask whose members are the tasks that pass a test is the set of those tasks
pub collects : (s : ℕ) (p : ℕ → Bool) → s < 2 ^ 32 → ((k : ℕ) → k < 32 → member k s ≡ p k) → s ≡ collect p
collects s p l h = ext 32 s (collect p) l (collect_small p) (λ k m. h k m ∙ sym (collected p k m))

pub is_member : (n s : ℕ) → eqb (bit_and (s / 2 ^ n) 1) 1 ≡ member n s
unfolding member
is_member n s = ap (λ (x : ℕ). eqb x 1) (and_mask (s / 2 ^ n) 1)

module _ (s t : ℕ) (l : s < 2 ^ 32) (m : t < 2 ^ 32) where
  pub or_union : bit_or s t ≡ union s t
  unfolding union
  or_union = collects (bit_or s t) (λ k. member k s || member k t) (or_lt 32 s t l m) (λ k h. member_or k s t)

  pub and_intersection : bit_and s t ≡ intersection s t
  unfolding intersection
  and_intersection = collects (bit_and s t) (λ k. member k s && member k t) (lt_of_le_of_lt (and_le_l s t) l) (λ k h. member_and k s t)

  pub and_difference : bit_and s ((2 ^ 32 - 1) - t) ≡ difference s t
  unfolding difference
  and_difference =
      collects (bit_and s ((2 ^ 32 - 1) - t)) (λ k. member k s && not (member k t)) (lt_of_le_of_lt (and_le_l s ((2 ^ 32 - 1) - t)) l)
      (λ k h. member_and k s ((2 ^ 32 - 1) - t) ∙ ap (λ (b : Bool). member k s && b) (member_not 32 k t h m))

shifted : (n : ℕ) → n < 32 → (1 * 2 ^ n) % 2 ^ 32 ≡ 2 ^ n
shifted n h = shl_exact 1 n 32 (omega arith) (omega arith) ∙ omega arith

module _ (n s : ℕ) (l : s < 2 ^ 32) where
  pub or_insert : n < 32 → bit_or s ((1 * 2 ^ n) % 2 ^ 32) ≡ insert n s
  unfolding insert
  or_insert h =
      rw (shifted n h, or_comm s (2 ^ n))
      (collects (bit_or (2 ^ n) s) (λ k. eqb k n || member k s) (or_lt 32 (2 ^ n) s (pow-lt h) l)
      (λ k m. member_or k (2 ^ n) s ∙ ap (λ (b : Bool). b || member k s) (member_one k n)))

  pub and_remove : n < 32 → bit_and s ((2 ^ 32 - 1) - (1 * 2 ^ n) % 2 ^ 32) ≡ remove n s
  unfolding remove
  and_remove h =
      rw (shifted n h, and_comm s ((2 ^ 32 - 1) - 2 ^ n))
      (collects (bit_and ((2 ^ 32 - 1) - 2 ^ n) s) (λ k. not (eqb k n) && member k s) (omega (arith, and_le_l ((2 ^ 32 - 1) - 2 ^ n) s))
      (λ k m. member_and k ((2 ^ 32 - 1) - 2 ^ n) s
      ∙ ap (λ (b : Bool). b && member k s) (member_not 32 k (2 ^ n) m (pow-lt h) ∙ ap not (member_one k n))))

  pub insert_past : 32 ≤ n → s ≡ insert n s
  unfolding insert
  insert_past h = collects s (λ k. eqb k n || member k s) l (λ k m. rw (ne_eqb k n (omega arith)))

  pub remove_past : 32 ≤ n → s ≡ remove n s
  unfolding remove
  remove_past h = collects s (λ k. not (eqb k n) && member k s) l (λ k m. rw (ne_eqb k n (omega arith)))

zeros_lowest : (k s : ℕ) → count_trailing_zeros k s ≡ lowest_in k s
unfolding count_trailing_zeros lowest_in
zeros_lowest zero s = refl
zeros_lowest (suc k) s = rw (digit s) (go (member 0 s) (zeros_lowest k (s / 2)))
  where
    go : (b : Bool) {x y : ℕ} → x ≡ y → under (bit b) x ≡ cond b 0 (suc y)
    go true e = refl
    go false e = ap suc e

pub trailing_lowest : (s : ℕ) → count_trailing_zeros 32 s ≡ lowest s
unfolding lowest
trailing_lowest s = zeros_lowest 32 s

-- ---- without the lowest

idem : (b : Bool) → (b && b) ≡ b
idem true = refl
idem false = refl

never : (b : Bool) → (b && false) ≡ false
never true = refl
never false = refl

odd_less : (s : ℕ) → s % 2 ≡ 1 → (member 0 (s - 1) ≡ false) × ((s - 1) / 2 ≡ s / 2)
odd_less s e = apart false (s / 2) (s - 1) (let h : s - 1 ≡ s / 2 * 2 + 0 = omega arith in h)

even_less : (s : ℕ) → s % 2 ≡ 0 → (s ≡ 0 → ⊥) → (s - 1) / 2 ≡ s / 2 - 1
even_less s e h = omega arith

-- one less has the members of s above its lowest, and not the lowest: what both have is s without its lowest
without_lowest : (w k s : ℕ) → s < 2 ^ w → (s ≡ 0 → ⊥) → (member k s && member k (s - 1)) ≡ (not (eqb k (lowest_in w s)) && member k s)
unfolding lowest_in
without_lowest zero k s l h = absurd (h (omega arith))
without_lowest (suc w) zero s l h =
    by-test (member 0 s)
    (λ e. rw (e, (odd_less s (rw e at (digit s))).0))
    (λ e. rw (e, never (not (eqb 0 (suc (lowest_in w (s / 2)))))))
without_lowest (suc w) (suc k) s l h =
    by-test (member 0 s)
    (λ e. rw (e, eqb-suc-zero k, member_suc k s, member_suc k (s - 1), (odd_less s (rw e at (digit s))).1) (idem (member k (s / 2))))
    (λ e. rw (e, eqb-suc-suc k (lowest_in w (s / 2)), member_suc k s, member_suc k (s - 1), even_less s (rw e at (digit s)) h)
    (without_lowest w k (s / 2) (omega arith) (λ z. h (half s z (rw e at (digit s))))))
  where
    half : (s : ℕ) → s / 2 ≡ 0 → s % 2 ≡ 0 → s ≡ 0
    half s z e = omega arith

pub and_rest : (s : ℕ) → s < 2 ^ 32 → (s ≡ 0 → ⊥) → bit_and s (s - 1) ≡ remove (lowest s) s
unfolding remove lowest
and_rest s l h =
    collects (bit_and s (s - 1)) (λ k. not (eqb k (lowest_in 32 s)) && member k s) (lt_of_le_of_lt (and_le_l s (s - 1)) l)
    (λ k m. member_and k s (s - 1) ∙ without_lowest 32 k s l h)

-- no task is left of none
pub rest_none : 0 ≡ remove (lowest 0) 0
unfolding remove
rest_none = collects 0 (λ k. not (eqb k (lowest 0)) && member k 0) (omega arith) (λ k m. rw (none k) (sym (never (not (eqb k (lowest 0))))))
