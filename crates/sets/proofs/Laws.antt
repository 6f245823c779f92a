-- The laws of sets of tasks: what each operation holds, equality by members, how many members there are, and the lowest.
use mathlib.Core.Path.{◌≡◌, refl, sym, ap, ◌∙◌, subst}
use mathlib.Core.Bool.{Bool, true, false, cond, not, ◌&&◌, ◌||◌, true≢false, false≢true}
use mathlib.Core.Logic.{◌⊎◌, inl, inr, ⊎_elim}
use Prim.Native.Nat.{ℕ, zero, suc, ◌+◌, ◌*◌, ◌/◌, ◌%◌, ◌^◌, ◌≤◌, ◌<◌}
use native.Mathlib.Nat.{div-div-eq-div-mul, pow-suc, mul_comm, div-one, le_of_suc-le-suc, div-eq_of_lt, lt_of_lt_of_le, eq-or-lt_of_le, not-suc-le-zero}
use native.Mathlib.Omega.{arith}
use borrow.Author.Tests.{eqb-true, eqb-false, eq-eqb, ne_eqb, ltb-true, ltb-false, not-true}
use lib.Dec.{eqb, ltb}
use lib.Pow.{pow_mono}
use Rattle.sets.specs.Sets.{member, below, collect, union, intersection, difference, insert, remove, bit, count, size, lowest_in, lowest}

-- ---- tests

-- by the value of a test
pub by-test {ℓ} : {P : Type ℓ} (b : Bool) → (b ≡ true → P) → (b ≡ false → P) → P
by-test true f g = f refl
by-test false f g = g refl

pub both : (a b : Bool) → a ≡ true → b ≡ true → (a && b) ≡ true
both a b p q = rw (p, q)

pub left : (a b : Bool) → (a && b) ≡ true → a ≡ true
left true b h = refl
left false b h = h

pub right : (a b : Bool) → (a && b) ≡ true → b ≡ true
right true b h = h
right false b h = absurd (false≢true h)

pub either_left : (a b : Bool) → a ≡ true → (a || b) ≡ true
either_left a b p = rw p

pub either_right : (a b : Bool) → b ≡ true → (a || b) ≡ true
either_right true b p = refl
either_right false b p = p

pub one_of : (a b : Bool) → (a || b) ≡ true → (a ≡ true) ⊎ (b ≡ true)
one_of true b h = inl refl
one_of false b h = inr h

pub clash {ℓ} : {P : Type ℓ} (a : Bool) → a ≡ true → a ≡ false → P
clash a p q = absurd (true≢false (sym p ∙ q))

-- ---- digit by digit

shift : (n s : ℕ) → s / 2 ^ suc n ≡ s / 2 / 2 ^ n
shift n s = sym (div-div-eq-div-mul s 2 (2 ^ n) ∙ ap (λ (x : ℕ). s / x) (mul_comm 2 (2 ^ n) ∙ sym (pow-suc 2 n)))

pub member_zero : (s : ℕ) → member 0 s ≡ eqb (s % 2) 1
unfolding member
member_zero s = ap (λ (x : ℕ). eqb (x % 2) 1) (div-one s)

pub member_suc : (n s : ℕ) → member (suc n) s ≡ member n (s / 2)
unfolding member
member_suc n s = ap (λ (x : ℕ). eqb (x % 2) 1) (shift n s)

pub none : (n : ℕ) → member n 0 ≡ false
none zero = member_zero 0
none (suc n) = member_suc n 0 ∙ none n

-- two masks of w digits with the same members below w are one
pub ext : (w s t : ℕ) → s < 2 ^ w → t < 2 ^ w → ((n : ℕ) → n < w → member n s ≡ member n t) → s ≡ t
ext zero s t hs ht h = omega arith
ext (suc w) s t hs ht h =
    let high : s / 2 ≡ t / 2 = ext w (s / 2) (t / 2) (omega arith) (omega arith)
    (λ n l. sym (member_suc n s) ∙ h (suc n) (omega arith) ∙ member_suc n t) in
    let low : eqb (s % 2) 1 ≡ eqb (t % 2) 1 = sym (member_zero s) ∙ h 0 (omega arith) ∙ member_zero t in
    by-test (eqb (t % 2) 1)
    (λ e. omega (arith, eqb-true (t % 2) 1 e, eqb-true (s % 2) 1 (low ∙ e)))
    (λ e. omega (arith, eqb-false (t % 2) 1 e, eqb-false (s % 2) 1 (low ∙ e)))

-- past its digits a mask has no member
pub none_past : (w n s : ℕ) → w ≤ n → s < 2 ^ w → member n s ≡ false
unfolding member
none_past w n s l h = ap (λ (x : ℕ). eqb (x % 2) 1) (div-eq_of_lt (lt_of_lt_of_le h (pow_mono l)))

-- ---- the set of the tasks that pass a test

below_step : (k : ℕ) (p : ℕ → Bool) → below (suc k) p ≡ bit (p 0) + 2 * below k (λ n. p (suc n))
unfolding below
below_step zero p = by-test (p 0) (λ e. rw e) (λ e. rw e)
below_step (suc k) p =
    go (p (suc k)) (below (suc k) p) (below k (λ n. p (suc n))) (bit (p 0)) (below_step k p)
  where
    go : (b : Bool) (x y z : ℕ) → x ≡ z + 2 * y → x + cond b (2 ^ suc k) 0 ≡ z + 2 * (y + cond b (2 ^ k) 0)
    go true x y z h = let e : x + 2 ^ suc k ≡ z + 2 * (y + 2 ^ k) = omega arith in e
    go false x y z h = omega arith

below_small : (k : ℕ) (p : ℕ → Bool) → below k p < 2 ^ k
unfolding below
below_small zero p = omega arith
below_small (suc k) p = by-test (p k) (λ e. rw e (omega (arith, below_small k p))) (λ e. rw e (omega (arith, below_small k p)))

member_below : (n k : ℕ) (p : ℕ → Bool) → n < k → member n (below k p) ≡ p n
member_below n zero p l = absurd (not-suc-le-zero l)
member_below zero (suc k) p l =
    member_zero (below (suc k) p) ∙
    go (p 0) (below (suc k) p) (below k (λ n. p (suc n))) (below_step k p)
  where
    go : (b : Bool) (x y : ℕ) → x ≡ bit b + 2 * y → eqb (x % 2) 1 ≡ b
    go true x y h = eq-eqb (x % 2) 1 (omega arith)
    go false x y h = ne_eqb (x % 2) 1 (omega arith)
member_below (suc n) (suc k) p l =
    member_suc n (below (suc k) p)
    ∙ ap (member n) (go (p 0) (below (suc k) p) (below k (λ n. p (suc n))) (below_step k p))
    ∙ member_below n k (λ n. p (suc n)) (le_of_suc-le-suc l)
  where
    go : (b : Bool) (x y : ℕ) → x ≡ bit b + 2 * y → x / 2 ≡ y
    go true x y h = omega arith
    go false x y h = omega arith

pub collect_small : (p : ℕ → Bool) → collect p < 2 ^ 32
unfolding collect
collect_small p = below_small 32 p

pub collected : (p : ℕ → Bool) (n : ℕ) → n < 32 → member n (collect p) ≡ p n
unfolding collect
collected p n l = member_below n 32 p l

pub collect_in : (p : ℕ → Bool) (n : ℕ) → n < 32 → p n ≡ true → member n (collect p) ≡ true
collect_in p n l h = collected p n l ∙ h

-- a member of such a set is a task, and passes the test
pub collect_task : (p : ℕ → Bool) (n : ℕ) → member n (collect p) ≡ true → n < 32
collect_task p n h = by-test (ltb n 32) (λ e. ltb-true _ _ e) (λ e. clash (member n (collect p)) h (none_past 32 n (collect p) (ltb-false _ _ e) (collect_small p)))

pub collect_out : (p : ℕ → Bool) (n : ℕ) → member n (collect p) ≡ true → p n ≡ true
collect_out p n h = sym (collected p n (collect_task p n h)) ∙ h

-- ---- the operations on sets

module _ (s t k : ℕ) where
  pub union_left : k < 32 → member k s ≡ true → member k (union s t) ≡ true
  unfolding union
  union_left l h = collect_in (λ k. member k s || member k t) k l (either_left (member k s) (member k t) h)

  pub union_right : k < 32 → member k t ≡ true → member k (union s t) ≡ true
  unfolding union
  union_right l h = collect_in (λ k. member k s || member k t) k l (either_right (member k s) (member k t) h)

  pub union_out : member k (union s t) ≡ true → (member k s ≡ true) ⊎ (member k t ≡ true)
  unfolding union
  union_out h = one_of (member k s) (member k t) (collect_out (λ k. member k s || member k t) k h)

  pub intersection_in : k < 32 → member k s ≡ true → member k t ≡ true → member k (intersection s t) ≡ true
  unfolding intersection
  intersection_in l h m = collect_in (λ k. member k s && member k t) k l (both (member k s) (member k t) h m)

  pub intersection_left : member k (intersection s t) ≡ true → member k s ≡ true
  unfolding intersection
  intersection_left h = left (member k s) (member k t) (collect_out (λ k. member k s && member k t) k h)

  pub intersection_right : member k (intersection s t) ≡ true → member k t ≡ true
  unfolding intersection
  intersection_right h = right (member k s) (member k t) (collect_out (λ k. member k s && member k t) k h)

  pub difference_in : k < 32 → member k s ≡ true → member k t ≡ false → member k (difference s t) ≡ true
  unfolding difference
  difference_in l h m = collect_in (λ k. member k s && not (member k t)) k l (both (member k s) (not (member k t)) h (ap not m))

  pub difference_left : member k (difference s t) ≡ true → member k s ≡ true
  unfolding difference
  difference_left h = left (member k s) (not (member k t)) (collect_out (λ k. member k s && not (member k t)) k h)

  pub difference_right : member k (difference s t) ≡ true → member k t ≡ false
  unfolding difference
  difference_right h = not-true (member k t) (right (member k s) (not (member k t)) (collect_out (λ k. member k s && not (member k t)) k h))

module _ (n s k : ℕ) where
  pub insert_same : k < 32 → eqb k n ≡ true → member k (insert n s) ≡ true
  unfolding insert
  insert_same l h = collect_in (λ k. eqb k n || member k s) k l (either_left (eqb k n) (member k s) h)

  pub insert_other : k < 32 → member k s ≡ true → member k (insert n s) ≡ true
  unfolding insert
  insert_other l h = collect_in (λ k. eqb k n || member k s) k l (either_right (eqb k n) (member k s) h)

  pub insert_out : member k (insert n s) ≡ true → (eqb k n ≡ true) ⊎ (member k s ≡ true)
  unfolding insert
  insert_out h = one_of (eqb k n) (member k s) (collect_out (λ k. eqb k n || member k s) k h)

  pub remove_in : k < 32 → eqb k n ≡ false → member k s ≡ true → member k (remove n s) ≡ true
  unfolding remove
  remove_in l e h = collect_in (λ k. not (eqb k n) && member k s) k l (both (not (eqb k n)) (member k s) (ap not e) h)

  pub remove_out : member k (remove n s) ≡ true → member k s ≡ true
  unfolding remove
  remove_out h = right (not (eqb k n)) (member k s) (collect_out (λ k. not (eqb k n) && member k s) k h)

  pub remove_other : member k (remove n s) ≡ true → eqb k n ≡ false
  unfolding remove
  remove_other h = not-true (eqb k n) (left (not (eqb k n)) (member k s) (collect_out (λ k. not (eqb k n) && member k s) k h))

-- what holds below k and at k holds below suc k
pub below_suc : (P : ℕ → Type 0) (k : ℕ) → ((j : ℕ) → j < k → P j) → P k → (j : ℕ) → j < suc k → P j
below_suc P k all here j l = ⊎_elim (λ e. subst P (sym e) here) (λ m. all j m) (eq-or-lt_of_le (le_of_suc-le-suc l))

-- ---- how many

pub count_sum : (k : ℕ) (p q r : ℕ → Bool) → ((n : ℕ) → n < k → bit (p n) ≡ bit (q n) + bit (r n)) → count k p ≡ count k q + count k r
unfolding count
count_sum zero p q r h = refl
count_sum (suc k) p q r h = omega (arith, count_sum k p q r (λ n l. h n (omega arith)), h k (omega arith))

pub count_le : (k : ℕ) (p q r : ℕ → Bool) → ((n : ℕ) → n < k → bit (p n) ≤ bit (q n) + bit (r n)) → count k p ≤ count k q + count k r
unfolding count
count_le zero p q r h = omega arith
count_le (suc k) p q r h = omega (arith, count_le k p q r (λ n l. h n (omega arith)), h k (omega arith))

pub count_none : (k : ℕ) (p : ℕ → Bool) → ((n : ℕ) → n < k → p n ≡ false) → count k p ≡ 0
unfolding count
count_none zero p h = refl
count_none (suc k) p h = rw (h k (omega arith)) (omega (arith, count_none k p (λ n l. h n (omega arith))))

pub count_one : (k h : ℕ) → h < k → count k (λ n. eqb n h) ≡ 1
unfolding count
count_one zero h l = absurd (not-suc-le-zero l)
count_one (suc k) h l =
    by-test (eqb k h)
    (λ e. rw e (omega (arith, count_none k (λ n. eqb n h) (λ n m. ne_eqb n h (omega (arith, eqb-true k h e))))))
    (λ e. rw e (omega (arith, count_one k h (omega (arith, eqb-false k h e)))))

pub count_one_le : (k h : ℕ) → count k (λ n. eqb n h) ≤ 1
unfolding count
count_one_le zero h = omega arith
count_one_le (suc k) h =
    by-test (eqb k h)
    (λ e. rw e (omega (arith, count_none k (λ n. eqb n h) (λ n m. ne_eqb n h (omega (arith, eqb-true k h e))))))
    (λ e. rw e (omega (arith, count_one_le k h)))

-- ---- how many, of the operations on sets

bit_or : (a b : Bool) → bit (a || b) ≤ bit a + bit b
bit_or true b = omega arith
bit_or false b = omega arith

bit_or_apart : (a b : Bool) → (b ≡ true → a ≡ false) → bit (a || b) ≡ bit a + bit b
bit_or_apart true true h = absurd (true≢false (h refl))
bit_or_apart true false h = refl
bit_or_apart false b h = omega arith

bit_remove : (e b : Bool) → (e ≡ true → b ≡ true) → bit b ≡ bit (not e && b) + bit e
bit_remove true b h = rw (h refl)
bit_remove false true h = refl
bit_remove false false h = refl

bit_new : (e b : Bool) → (e ≡ true → b ≡ false) → bit (e || b) ≡ bit b + bit e
bit_new true b h = rw (h refl)
bit_new false b h = omega arith

pub size_union : (s t : ℕ) → size (union s t) ≤ size s + size t
unfolding size union
size_union s t =
    count_le 32 (λ k. member k (union s t)) (λ k. member k s) (λ k. member k t)
    (λ n l. rw (collected (λ k. member k s || member k t) n l) (bit_or (member n s) (member n t)))

pub size_union_apart : (s t : ℕ) → ((k : ℕ) → member k t ≡ true → member k s ≡ false) → size (union s t) ≡ size s + size t
unfolding size union
size_union_apart s t h =
    count_sum 32 (λ k. member k (union s t)) (λ k. member k s) (λ k. member k t)
    (λ n l. rw (collected (λ k. member k s || member k t) n l) (bit_or_apart (member n s) (member n t) (h n)))

pub size_remove : (n s : ℕ) → n < 32 → member n s ≡ true → size s ≡ size (remove n s) + 1
unfolding size remove
size_remove n s l h =
    count_sum 32 (λ k. member k s) (λ k. member k (remove n s)) (λ k. eqb k n)
    (λ k m. rw (collected (λ k. not (eqb k n) && member k s) k m) (bit_remove (eqb k n) (member k s) (λ e. ap (λ (x : ℕ). member x s) (eqb-true k n e) ∙ h)))
    ∙ ap (λ (x : ℕ). count 32 (λ k. member k (remove n s)) + x) (count_one 32 n l)

pub size_insert : (n s : ℕ) → size (insert n s) ≤ size s + 1
unfolding size insert
size_insert n s =
    omega (
      arith,
      count_one_le 32 n,
      count_le 32 (λ k. member k (insert n s)) (λ k. eqb k n) (λ k. member k s)
          (λ k m. rw (collected (λ k. eqb k n || member k s) k m) (bit_or (eqb k n) (member k s))),
    )

-- a task that was no member is one more
pub size_insert_new : (n s : ℕ) → n < 32 → member n s ≡ false → size (insert n s) ≡ size s + 1
unfolding size insert
size_insert_new n s l h =
    count_sum 32 (λ k. member k (insert n s)) (λ k. member k s) (λ k. eqb k n)
    (λ k m. rw (collected (λ k. eqb k n || member k s) k m) (bit_new (eqb k n) (member k s) (λ e. ap (λ (x : ℕ). member x s) (eqb-true k n e) ∙ h)))
    ∙ ap (λ (x : ℕ). count 32 (λ k. member k s) + x) (count_one 32 n l)

pub size_none : size 0 ≡ 0
unfolding size
size_none = count_none 32 (λ k. member k 0) (λ n l. none n)

pub size_some : (n s : ℕ) → n < 32 → member n s ≡ true → 1 ≤ size s
size_some n s l h = omega (arith, size_remove n s l h)

-- a set of tasks with no member is 0
pub empty : (s : ℕ) → s < 2 ^ 32 → ((k : ℕ) → k < 32 → member k s ≡ false) → s ≡ 0
empty s l h = ext 32 s 0 l (omega arith) (λ n m. h n m ∙ sym (none n))

pub union_small : (s t : ℕ) → union s t < 2 ^ 32
unfolding union
union_small s t = collect_small (λ k. member k s || member k t)

pub intersection_small : (s t : ℕ) → intersection s t < 2 ^ 32
unfolding intersection
intersection_small s t = collect_small (λ k. member k s && member k t)

pub difference_small : (s t : ℕ) → difference s t < 2 ^ 32
unfolding difference
difference_small s t = collect_small (λ k. member k s && not (member k t))

pub remove_small : (n s : ℕ) → remove n s < 2 ^ 32
unfolding remove
remove_small n s = collect_small (λ k. not (eqb k n) && member k s)

pub insert_small : (n s : ℕ) → insert n s < 2 ^ 32
unfolding insert
insert_small n s = collect_small (λ k. eqb k n || member k s)

-- ---- each operation, task by task

module _ (s t k : ℕ) (l : k < 32) where
  pub united : member k (union s t) ≡ (member k s || member k t)
  unfolding union
  united = collected (λ k. member k s || member k t) k l

  pub intersection_member : member k (intersection s t) ≡ (member k s && member k t)
  unfolding intersection
  intersection_member = collected (λ k. member k s && member k t) k l

  pub difference_member : member k (difference s t) ≡ (member k s && not (member k t))
  unfolding difference
  difference_member = collected (λ k. member k s && not (member k t)) k l

module _ (n s k : ℕ) (l : k < 32) where
  pub inserted : member k (insert n s) ≡ (eqb k n || member k s)
  unfolding insert
  inserted = collected (λ k. eqb k n || member k s) k l

  pub removed : member k (remove n s) ≡ (not (eqb k n) && member k s)
  unfolding remove
  removed = collected (λ k. not (eqb k n) && member k s) k l

-- with the empty set
pub union_none : (s : ℕ) → s < 2 ^ 32 → union s 0 ≡ s
union_none s l = ext 32 (union s 0) s (union_small s 0) l (λ k m. united s 0 k m ∙ rw (none k) (or_false (member k s)))
  where
    or_false : (b : Bool) → (b || false) ≡ b
    or_false true = refl
    or_false false = refl

pub intersection_none : (t : ℕ) → intersection 0 t ≡ 0
intersection_none t = empty (intersection 0 t) (intersection_small 0 t) (λ k m. intersection_member 0 t k m ∙ rw (none k))

pub same_task : (n : ℕ) → eqb n n ≡ true
same_task n = eq-eqb n n refl

-- a member of a set of tasks is a task
pub member_task : (n s : ℕ) → s < 2 ^ 32 → member n s ≡ true → n < 32
member_task n s l h = by-test (ltb n 32) (λ e. ltb-true n 32 e) (λ e. clash (member n s) h (none_past 32 n s (ltb-false n 32 e) l))

count_most : (k : ℕ) (p : ℕ → Bool) → count k p ≤ k
unfolding count
count_most zero p = omega arith
count_most (suc k) p = go (p k) (count k p) (count_most k p)
  where
    go : (b : Bool) (x : ℕ) → x ≤ k → x + bit b ≤ suc k
    go true x h = omega arith
    go false x h = omega arith

pub size_most : (s : ℕ) → size s ≤ 32
unfolding size
size_most s = count_most 32 (λ k. member k s)

-- ---- the lowest

lowest_in_most : (k s : ℕ) → lowest_in k s ≤ k
unfolding lowest_in
lowest_in_most zero s = omega arith
lowest_in_most (suc k) s = go (member 0 s) (lowest_in k (s / 2)) (lowest_in_most k (s / 2))
  where
    go : (b : Bool) (x : ℕ) → x ≤ k → cond b 0 (suc x) ≤ suc k
    go true x h = omega arith
    go false x h = omega arith

lowest_in_member : (k s : ℕ) → lowest_in k s < k → member (lowest_in k s) s ≡ true
unfolding lowest_in
lowest_in_member zero s l = absurd (not-suc-le-zero l)
lowest_in_member (suc k) s l = go (member 0 s) refl (lowest_in k (s / 2)) (lowest_in_member k (s / 2)) l
  where
    go : (b : Bool) → member 0 s ≡ b → (x : ℕ) → (x < k → member x (s / 2) ≡ true) → cond b 0 (suc x) < suc k → member (cond b 0 (suc x)) s ≡ true
    go true e x h l = e
    go false e x h l = member_suc x s ∙ h (le_of_suc-le-suc l)

lowest_in_first : (k s j : ℕ) → j < lowest_in k s → member j s ≡ false
unfolding lowest_in
lowest_in_first zero s j l = absurd (not-suc-le-zero l)
lowest_in_first (suc k) s j l = go (member 0 s) refl (lowest_in k (s / 2)) (lowest_in_first k (s / 2)) j l
  where
    go : (b : Bool) → member 0 s ≡ b → (x : ℕ) → ((j : ℕ) → j < x → member j (s / 2) ≡ false) → (j : ℕ) → j < cond b 0 (suc x) → member j s ≡ false
    go true e x h j l = absurd (not-suc-le-zero l)
    go false e x h zero l = e
    go false e x h (suc j) l = member_suc j s ∙ h j (le_of_suc-le-suc l)

pub lowest_most : (s : ℕ) → lowest s ≤ 32
unfolding lowest
lowest_most s = lowest_in_most 32 s

pub lowest_member : (s : ℕ) → lowest s < 32 → member (lowest s) s ≡ true
unfolding lowest
lowest_member s l = lowest_in_member 32 s l

-- nothing below it is a member
pub lowest_first : (s k : ℕ) → k < lowest s → member k s ≡ false
unfolding lowest
lowest_first s k l = lowest_in_first 32 s k l

pub lowest_least : (s k : ℕ) → member k s ≡ true → lowest s ≤ k
lowest_least s k h =
    by-test (ltb k (lowest s))
    (λ e. clash (member k s) h (lowest_first s k (ltb-true k (lowest s) e)))
    (λ e. ltb-false k (lowest s) e)

-- it is a task just if the set is not empty
pub lowest_task : (s : ℕ) → s < 2 ^ 32 → (s ≡ 0 → ⊥) → lowest s < 32
lowest_task s l h =
    by-test (ltb (lowest s) 32)
    (λ e. ltb-true (lowest s) 32 e)
    (λ e. absurd (h (empty s l (λ k m. lowest_first s k (lt_of_lt_of_le m (ltb-false (lowest s) 32 e))))))

pub lowest_none : lowest 0 ≡ 32
unfolding lowest lowest_in member
lowest_none = refl
