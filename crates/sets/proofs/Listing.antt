-- The members of a set one by one: the first is the lowest, the others are those of the set without it, and a set is told by its members.
use mathlib.Core.Path.{◌≡◌, refl, sym, ap, ◌∙◌}
use mathlib.Core.Bool.{Bool, true, false, cond, ◌&&◌, ◌||◌}
use mathlib.Core.List.{List, [], ◌∷◌, ◌++◌}
use Prim.Native.Nat.{ℕ, zero, suc, ◌^◌, ◌≤◌, ◌<◌}
use native.Mathlib.Nat.{not-suc-le-zero}
use native.Mathlib.Omega.{arith}
use borrow.Author.Tests.{eqb-true, eqb-false, eq-eqb, ne_eqb}
use lib.Dec.{eqb}
use Rattle.sets.specs.Sets.{member, remove, lowest, members_below}
use Rattle.sets.proofs.Laws.{by-test, ext, none, removed, remove_small, lowest_member, lowest_first, lowest_task}

pub none_below : (k s : ℕ) → ((j : ℕ) → j < k → member j s ≡ false) → members_below k s ≡ []
unfolding members_below
none_below zero s h = refl
none_below (suc k) s h = rw (h k (omega arith), none_below k s (λ j l. h j (omega arith)))

-- the first is the lowest
module _ (n s : ℕ) (there : member n s ≡ true) (first : (j : ℕ) → j < n → member j s ≡ false) where
  without : (k : ℕ) → k < 32 → n < k → member k (remove n s) ≡ member k s
  without k l m = rw (removed n s k l, ne_eqb k n (omega arith))

  not_itself : n < 32 → member n (remove n s) ≡ false
  not_itself l = rw (removed n s n l, eq-eqb n n refl)

  not_below : (j : ℕ) → j < 32 → j < n → member j (remove n s) ≡ false
  not_below j l m = rw (removed n s j l, ne_eqb j n (omega arith)) (first j m)

  first_below : (k : ℕ) → k ≤ 32 → n < k → members_below k s ≡ n ∷ members_below k (remove n s)
  unfolding members_below
  first_below zero l m = absurd (not-suc-le-zero m)
  first_below (suc k) l m =
      by-test (eqb k n)
      (λ e.
      let at : k ≡ n = eqb-true k n e in
      rw (
        at,
        there,
        not_itself (omega arith),
        none_below n s first,
        none_below n (remove n s) (λ j i. not_below j (omega arith) i),
      ))
      (λ e.
      let past : n < k = omega (arith, eqb-false k n e) in
      rw (without k (omega arith) past, first_below k (omega arith) past))

pub next_member : (s : ℕ) → s < 2 ^ 32 → (s ≡ 0 → ⊥) → members_below 32 s ≡ lowest s ∷ members_below 32 (remove (lowest s) s)
next_member s l some =
    let task = lowest_task s l some in
    first_below (lowest s) s (lowest_member s task) (λ j m. lowest_first s j m) 32 (omega arith) task

pub no_member : members_below 32 0 ≡ []
no_member = none_below 32 0 (λ j l. none j)

-- ---- a set is told by its members

among : ℕ → List ℕ → Bool
among k [] = false
among k (x ∷ xs) = eqb k x || among k xs

among_both : (k : ℕ) (xs ys : List ℕ) → among k (xs ++ ys) ≡ (among k xs || among k ys)
unfolding among
among_both k [] ys = refl
among_both k (x ∷ xs) ys = rw (among_both k xs ys) (regroup (eqb k x) (among k xs) (among k ys))
  where
    regroup : (a b c : Bool) → (a || (b || c)) ≡ ((a || b) || c)
    regroup true b c = refl
    regroup false b c = refl

among_one : (b : Bool) (k n : ℕ) → among k (cond b (n ∷ []) []) ≡ (eqb k n && b)
unfolding among
among_one true k n = go (eqb k n)
  where
    go : (a : Bool) → (a || false) ≡ (a && true)
    go true = refl
    go false = refl
among_one false k n = go (eqb k n)
  where
    go : (a : Bool) → false ≡ (a && false)
    go true = refl
    go false = refl

among_past : (w k s : ℕ) → w ≤ k → among k (members_below w s) ≡ false
unfolding members_below among
among_past zero k s l = refl
among_past (suc w) k s l =
    among_both k (members_below w s) (cond (member w s) (w ∷ []) [])
    ∙ rw (among_past w k s (omega arith), among_one (member w s) k w, ne_eqb k w (omega arith))

among_below : (w k s : ℕ) → k < w → among k (members_below w s) ≡ member k s
unfolding members_below among
among_below zero k s l = absurd (not-suc-le-zero l)
among_below (suc w) k s l =
    among_both k (members_below w s) (cond (member w s) (w ∷ []) [])
    ∙ by-test (eqb k w)
    (λ e. rw (among_one (member w s) k w, e, among_past w k s (omega (arith, eqb-true k w e)), eqb-true k w e))
    (λ e. rw (among_one (member w s) k w, e, among_below w k s (omega (arith, eqb-false k w e))) (or_false (member k s)))
  where
    or_false : (b : Bool) → (b || false) ≡ b
    or_false true = refl
    or_false false = refl

pub same_members : (s t : ℕ) → s < 2 ^ 32 → t < 2 ^ 32 → members_below 32 s ≡ members_below 32 t → s ≡ t
same_members s t l m e = ext 32 s t l m (λ k h. sym (among_below 32 k s h) ∙ ap (among k) e ∙ among_below 32 k t h)

-- ---- from what was left of a set to what is left after its next member

pub record Next (left n after : ℕ) : Type 0 where
  pub some : left ≡ 0 → ⊥
  pub is_lowest : n ≡ lowest left
  pub is_rest : after ≡ remove (lowest left) left

pub next_of : (left n after : ℕ) → left < 2 ^ 32 → after < 2 ^ 32 → members_below 32 left ≡ n ∷ members_below 32 after → Next left n after
next_of left n after l m e =
    let d = next_member left l some in
    let same : members_below 32 after ≡ members_below 32 (remove (lowest left) left) = cc in
    record { some = some; is_lowest = cc; is_rest = same_members after (remove (lowest left) left) m (remove_small (lowest left) left) same }
  where
    some : left ≡ 0 → ⊥
    some z = let d : members_below 32 left ≡ [] = rw z no_member in cc

pub none_left : (left : ℕ) → left < 2 ^ 32 → members_below 32 left ≡ [] → left ≡ 0
none_left left l e = same_members left 0 l (omega arith) (e ∙ sym no_member)
