-- What `highest` finds: a member of the set with no lower priority than any, and no other that goes before it, or none in an empty set.
use Rattle.std.proofs.Common.{◌≡◌, ◌⊎◌, ◌≤◌, ◌<◌}
use Rattle.guarantees.specs.Types.{refl, sym, ap, ◌∙◌, subst, Bool, true, false, cond, inl, inr, ⊎_elim, List, ℕ, zero, suc, Option, None, Some}
use native.Mathlib.Nat.{not-suc-le-zero, eq-or-lt_of_le}
use native.Mathlib.Omega.{arith}
use borrow.Author.Tests.{eqb-true, eq-eqb, ltb-true, ltb-false}
use lib.Dec.{eqb}
use lib.ListN.{get_or}
use Rattle.sets.specs.Sets.{member}
use Rattle.sets.proofs.Laws.{by-test, below_suc, clash}
use Rattle.rules.specs.Order.{goes_before, better, highest_below, highest}

-- what a pick is among the members below k of a set
abbrev pub BestBelow : ℕ → List ℕ → ℕ → Option ℕ → Type 0
BestBelow k priority s None = (j : ℕ) → j < k → member j s ≡ false
BestBelow k priority s (Some h) = (h < k) × (member h s ≡ true) × ((j : ℕ) → j < k → member j s ≡ true → get_or priority h 0 ≤ get_or priority j 0)

abbrev pub Best : List ℕ → ℕ → Option ℕ → Type 0
Best priority s p = BestBelow 32 priority s p

best_skip : (k : ℕ) (priority : List ℕ) (s : ℕ) (p : Option ℕ) → member k s ≡ false → BestBelow k priority s p → BestBelow (suc k) priority s p
best_skip k priority s None m b = below_suc (λ (j : ℕ). member j s ≡ false) k b m
best_skip k priority s (Some h) m b = (
  omega (arith, b.0),
  b.1,
  below_suc (λ (j : ℕ). member j s ≡ true → get_or priority h 0 ≤ get_or priority j 0) k b.2 (λ t. clash (member k s) t m),
)

-- of two, the one that goes first has no lower priority
module _ (priority : List ℕ) (since : ℕ → ℕ) (k h : ℕ) where
  leads : goes_before priority since k h ≡ true → get_or priority k 0 ≤ get_or priority h 0
  leads e =
      by-test (eqb (get_or priority k 0) (get_or priority h 0))
      (λ x. omega (arith, eqb-true (get_or priority k 0) (get_or priority h 0) x))
      (λ x. omega (arith, ltb-true (get_or priority k 0) (get_or priority h 0) (rw x at e)))

  trails : goes_before priority since k h ≡ false → get_or priority h 0 ≤ get_or priority k 0
  trails e =
      by-test (eqb (get_or priority k 0) (get_or priority h 0))
      (λ x. omega (arith, eqb-true (get_or priority k 0) (get_or priority h 0) x))
      (λ x. ltb-false (get_or priority k 0) (get_or priority h 0) (rw x at e))

module _ (priority : List ℕ) (since : ℕ → ℕ) where
  best_take : (k s : ℕ) (p : Option ℕ) → member k s ≡ true → BestBelow k priority s p → BestBelow (suc k) priority s (better priority since p k)
  unfolding better
  best_take k s None m b = (
    omega arith,
    m,
    below_suc (λ (j : ℕ). member j s ≡ true → get_or priority k 0 ≤ get_or priority j 0) k (λ j l t. clash (member j s) t (b j l)) (λ t. omega arith),
  )
  best_take k s (Some h) m b =
      by-test (goes_before priority since k h)
      (λ e. rw e (
        omega arith,
        m,
        below_suc (λ (j : ℕ). member j s ≡ true → get_or priority k 0 ≤ get_or priority j 0) k (λ j l t. omega (arith, b.2 j l t, leads priority since k h e)) (λ t. omega arith),
      ))
      (λ e. rw e (
        omega (arith, b.0),
        b.1,
        below_suc (λ (j : ℕ). member j s ≡ true → get_or priority h 0 ≤ get_or priority j 0) k b.2 (λ t. trails priority since k h e),
      ))

  best_below : (k s : ℕ) → BestBelow k priority s (highest_below k priority since s)
  unfolding highest_below
  best_below zero s = λ j l. absurd (not-suc-le-zero l)
  best_below (suc k) s =
      by-test (member k s)
      (λ m. rw m (best_take k s (highest_below k priority since s) m (best_below k s)))
      (λ m. rw m (best_skip k priority s (highest_below k priority since s) m (best_below k s)))

  pub best : (s : ℕ) → Best priority s (highest priority since s)
  unfolding highest
  best s = best_below 32 s

-- ---- and of equal priority with none released before it, and of equal time with none of a lower number

module _ (priority : List ℕ) (since : ℕ → ℕ) where
  -- task h goes no later than task j
  abbrev pub First : ℕ → ℕ → Type 0
  First h j =
      (get_or priority h 0 < get_or priority j 0)
      ⊎ ((get_or priority h 0 ≡ get_or priority j 0) × ((since h < since j) ⊎ ((since h ≡ since j) × (h ≤ j))))

  abbrev FirstBelow : ℕ → ℕ → Option ℕ → Type 0
  FirstBelow k s None = Unit {0}
  FirstBelow k s (Some h) = (h < k) × ((j : ℕ) → j < k → member j s ≡ true → First h j)

  itself : (k : ℕ) → First k k
  itself k = inr (refl, inr (refl, omega arith))

  -- what goes before the first of some goes before them too
  goes_on : (k h j : ℕ) → goes_before priority since k h ≡ true → First h j → First k j
  goes_on k h j e f =
      by-test (eqb (get_or priority k 0) (get_or priority h 0))
      (λ x. let same : get_or priority k 0 ≡ get_or priority h 0 = eqb-true (get_or priority k 0) (get_or priority h 0) x in
      let l : since k < since h = ltb-true (since k) (since h) (rw x at e) in
      ⊎_elim (λ a. inl (omega arith)) (λ a. inr (same ∙ a.0, inl (⊎_elim (λ b. omega arith) (λ b. omega (arith, b.0)) a.1))) f)
      (λ x. let l : get_or priority k 0 < get_or priority h 0 = ltb-true (get_or priority k 0) (get_or priority h 0) (rw x at e) in
      ⊎_elim (λ a. inl (omega arith)) (λ a. inl (omega (arith, a.0))) f)

  stays_first : (k h : ℕ) → h < k → goes_before priority since k h ≡ false → First h k
  stays_first k h l e =
      by-test (eqb (get_or priority k 0) (get_or priority h 0))
      (λ x. let m : since h ≤ since k = ltb-false (since k) (since h) (rw x at e) in
      inr (sym (eqb-true (get_or priority k 0) (get_or priority h 0) x), ⊎_elim (λ z. inr (z, omega arith)) (λ z. inl z) (eq-or-lt_of_le m)))
      (λ x. let m : get_or priority h 0 ≤ get_or priority k 0 = ltb-false (get_or priority k 0) (get_or priority h 0) (rw x at e) in
      ⊎_elim (λ z. clash (eqb (get_or priority k 0) (get_or priority h 0)) (eq-eqb (get_or priority k 0) (get_or priority h 0) (sym z)) x) (λ z. inl z) (eq-or-lt_of_le m))

  first_take : (k s : ℕ) (p : Option ℕ) → member k s ≡ true → BestBelow k priority s p → FirstBelow k s p → FirstBelow (suc k) s (better priority since p k)
  unfolding better
  first_take k s None m b f = (omega arith, below_suc (λ (j : ℕ). member j s ≡ true → First k j) k (λ j l t. clash (member j s) t (b j l)) (λ t. itself k))
  first_take k s (Some h) m b f =
      by-test (goes_before priority since k h)
      (λ e. rw e (omega arith, below_suc (λ (j : ℕ). member j s ≡ true → First k j) k (λ j l t. goes_on k h j e (f.1 j l t)) (λ t. itself k)))
      (λ e. rw e (omega (arith, f.0), below_suc (λ (j : ℕ). member j s ≡ true → First h j) k f.1 (λ t. stays_first k h f.0 e)))

  first_skip : (k s : ℕ) (p : Option ℕ) → member k s ≡ false → FirstBelow k s p → FirstBelow (suc k) s p
  first_skip k s None m f = tt
  first_skip k s (Some h) m f = (omega (arith, f.0), below_suc (λ (j : ℕ). member j s ≡ true → First h j) k f.1 (λ t. clash (member k s) t m))

  first_below : (k s : ℕ) → FirstBelow k s (highest_below k priority since s)
  unfolding highest_below
  first_below zero s = tt
  first_below (suc k) s =
      by-test (member k s)
      (λ m. rw m (first_take k s (highest_below k priority since s) m (best_below priority since k s) (first_below k s)))
      (λ m. rw m (first_skip k s (highest_below k priority since s) m (first_below k s)))

  pub first : (s h : ℕ) → highest priority since s ≡ Some h → (j : ℕ) → j < 32 → member j s ≡ true → First h j
  unfolding highest
  first s h e = (subst (FirstBelow 32 s) e (first_below 32 s)).1

-- ---- two sets with the same members, and releases at the same times, have the same highest

module _ (priority : List ℕ) (since since' : ℕ → ℕ) where
  better_same : (k : ℕ) (p : Option ℕ) → ((j : ℕ) → j < suc k → since j ≡ since' j) → ((h : ℕ) → p ≡ Some h → h < k) → better priority since p k ≡ better priority since' p k
  unfolding better
  better_same k None e l = refl
  better_same k (Some h) e l = rw (e k (omega arith), e h (omega (arith, l h refl)))

  highest_same_below : (k s s' : ℕ) → ((j : ℕ) → j < k → member j s ≡ member j s') → ((j : ℕ) → j < k → since j ≡ since' j)
      → highest_below k priority since s ≡ highest_below k priority since' s'
  unfolding highest_below
  highest_same_below zero s s' h e = refl
  highest_same_below (suc k) s s' h e =
      let x : highest_below k priority since s ≡ highest_below k priority since' s' = highest_same_below k s s' (λ j l. h j (omega arith)) (λ j l. e j (omega arith)) in
      let y : better priority since (highest_below k priority since s) k ≡ better priority since' (highest_below k priority since' s') k =
      better_same k (highest_below k priority since s) e (below k s) ∙ ap (λ (r : Option ℕ). better priority since' r k) x in
      ap (λ (r : Option ℕ). cond (member k s) (better priority since (highest_below k priority since s) k) r) x
      ∙ ap (λ (r : Option ℕ). cond (member k s) r (highest_below k priority since' s')) y
      ∙ ap (λ (b : Bool). cond b (better priority since' (highest_below k priority since' s') k) (highest_below k priority since' s')) (h k (omega arith))
    where
      below : (k s h : ℕ) → highest_below k priority since s ≡ Some h → h < k
      below k s h e = (subst (BestBelow k priority s) e (best_below priority since k s)).0

  pub highest_same : (s s' : ℕ) → ((j : ℕ) → j < 32 → member j s ≡ member j s') → ((j : ℕ) → j < 32 → since j ≡ since' j)
      → highest priority since s ≡ highest priority since' s'
  unfolding highest
  highest_same s s' h e = highest_same_below 32 s s' h e
