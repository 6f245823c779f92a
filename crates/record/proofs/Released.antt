-- The releases of an instant, of those of an accepted file that are left: the set handed in has a task of the table for each of them, and those after
-- it come later.
use mathlib.Core.Path.{◌≡◌, refl, ap, ◌∙◌, subst}
use mathlib.Core.Bool.{Bool, true, false, ◌&&◌, ◌||◌, true≢false}
use mathlib.Core.Logic.{◌⊎◌, inl, inr, ⊎_elim}
use mathlib.Core.List.{List, [], ◌∷◌}
use Prim.Native.Nat.{ℕ, ◌+◌, ◌^◌, ◌≤◌, ◌<◌}
use native.Mathlib.Omega.{arith}
use borrow.Author.Tests.{eqb-true, eqb-false, ltb-true}
use lib.Dec.{eqb, ltb}
use lib.ListN.{length}
use Rattle.sets.specs.Sets.{member, insert, bit, size}
use Rattle.sets.proofs.Laws.{by-test, clash, left, right, one_of, count_sum, count_one, none, inserted, insert_out, member_task}
use Rattle.entries.specs.Limits as limits
use Rattle.record.specs.Types.{Release, Some}
use Rattle.run.specs.Files.{rises}
use Rattle.run.specs.Run.{released_from, released_at, released_after}
use Rattle.record.specs.FileClaim.{of_task}
use Rattle.record.proofs.Accepted.{RisesTo, Sorted}
use Rattle.run.proofs.Listing

-- ---- how many

apart : (a b : Bool) → (a ≡ true → b ≡ false) → bit (a || b) ≡ bit a + bit b
apart true b h = rw (h refl)
apart false b h = omega arith

one_more : (n s : ℕ) → n < 32 → member n s ≡ false → size (insert n s) ≡ size s + 1
unfolding size
one_more n s l h =
    omega (
      arith,
      count_one 32 n l,
      count_sum 32 (λ k. member k (insert n s)) (λ k. eqb k n) (λ k. member k s)
          (λ k m. rw (inserted n s k m) (apart (eqb k n) (member k s) (λ e. ap (λ (x : ℕ). member x s) (eqb-true k n e) ∙ h))),
    )

-- ---- the releases at a time, and those after it

-- the first release comes at a time or after it; and after it
abbrev pub NotBefore : ℕ → List Release → Type 0
NotBefore t [] = Unit {0}
NotBefore t (r ∷ rs) = t ≤ r.time

abbrev pub After : ℕ → List Release → Type 0
After t [] = Unit {0}
After t (r ∷ rs) = t < r.time

-- no task of a set comes again at a time
abbrev pub Under : ℕ → ℕ → List Release → Type 0
Under t set [] = Unit {0}
Under t set (r ∷ rs) = r.time ≡ t → (k : ℕ) → member k set ≡ true → k < r.task

pub none_under : (t : ℕ) (rs : List Release) → Under t 0 rs
none_under t [] = tt
none_under t (r ∷ rs) = λ e k m. clash (member k 0) m (none k)

pub rises_on : (l r : Release) → rises (Some l) r ≡ true → (l.time < r.time) ⊎ ((l.time ≡ r.time) × (l.task < r.task))
unfolding rises
rises_on l r h =
    let e : Bool = eqb l.time r.time in
    let k : Bool = ltb l.task r.task in
    ⊎_elim (λ x. inl (ltb-true l.time r.time x)) (λ x. inr (eqb-true l.time r.time (left e k x), ltb-true l.task r.task (right e k x)))
    (one_of (ltb l.time r.time) (e && k) h)

on_time : (r : Release) (rs : List Release) → RisesTo (Some r) rs → NotBefore r.time rs
on_time r [] h = tt
on_time r (q ∷ qs) h = ⊎_elim (λ x. omega arith) (λ x. omega arith) (rises_on r q h)

pub under_more : (t set : ℕ) (r : Release) (rs : List Release) → r.time ≡ t → ((k : ℕ) → member k set ≡ true → k < r.task) → RisesTo (Some r) rs
    → Under t (insert r.task set) rs
under_more t set r [] e h g = tt
under_more t set r (q ∷ qs) e h g = λ x k m.
    ⊎_elim (λ y. absurd (omega arith))
    (λ y. ⊎_elim (λ z. omega (arith, eqb-true k r.task z)) (λ z. omega (arith, h k z)) (insert_out r.task set k m))
    (rises_on r q g)

-- a release at a time is not left
after_most : (t : ℕ) (rs : List Release) → length (released_after t rs) ≤ length rs
after_most t [] = unfold released_after in omega arith
after_most t (r ∷ rs) =
    by-test (eqb r.time t)
    (λ e. rw (Listing.after_taken t 0 r rs (eqb-true r.time t e)) (omega (arith, after_most t rs)))
    (λ e. rw (Listing.after_later t 0 r rs (eqb-false r.time t e)) (omega arith))

pub fewer : (t : ℕ) (r : Release) (rs : List Release) → r.time ≡ t → length (released_after t (r ∷ rs)) < length (r ∷ rs)
fewer t r rs e = rw (Listing.after_taken t 0 r rs e) (omega (arith, after_most t rs))

module _ (present : ℕ) (tasks : present < 2 ^ 32) (t : ℕ) where
  -- a set with the releases of a time put to it, and the releases after them
  pub record Split (set : ℕ) (rs : List Release) (set' : ℕ) (rs' : List Release) : Type 0 where
    pub known : (k : ℕ) → member k set' ≡ true → (member k set ≡ true) ⊎ (member k present ≡ true)
    pub sorted : Sorted present rs'
    pub later : After t rs'
    pub sizes : size set' + length rs' ≡ size set + length rs
    pub each : (k : ℕ) → k < 32 → bit (member k set') + of_task k rs' ≡ bit (member k set) + of_task k rs

  split_one : (set : ℕ) (r : Release) (rs : List Release) (set' : ℕ) (rs' : List Release) → member r.task present ≡ true
      → ((k : ℕ) → member k set ≡ true → k < r.task) → Split (insert r.task set) rs set' rs' → Split set (r ∷ rs) set' rs'
  unfolding of_task
  split_one set r rs set' rs' p u h = record {
    known = λ k m.
        ⊎_elim
        (λ x. ⊎_elim (λ y. inr (ap (λ (n : ℕ). member n present) (eqb-true k r.task y) ∙ p)) (λ y. inl y) (insert_out r.task set k x))
        (λ x. inr x) (h.known k m);
    sorted = h.sorted;
    later = h.later;
    sizes = omega (arith, h.sizes, one_more r.task set (member_task r.task present tasks p) fresh);
    each = λ k l.
        omega (
          arith,
          h.each k l,
          ap bit (inserted r.task set k l),
          apart (eqb k r.task) (member k set) (λ e. ap (λ (x : ℕ). member x set) (eqb-true k r.task e) ∙ fresh),
        );
  }
    where
      fresh : member r.task set ≡ false
      fresh = by-test (member r.task set) (λ x. absurd (omega (arith, u r.task x))) (λ x. x)

  split_from : (set : ℕ) (rs : List Release) → Sorted present rs → NotBefore t rs → Under t set rs → Split set rs (released_from t set rs) (released_after t rs)
  unfolding Sorted
  split_from set [] h n u = unfold released_from released_after in record { known = λ k m. inl m; sorted = tt; later = tt; sizes = refl; each = λ k l. refl }
  split_from set (r ∷ rs) h n u =
      by-test (eqb r.time t)
      (λ e.
      let x : r.time ≡ t = eqb-true r.time t e in
      rw (Listing.taken t set r rs x, Listing.after_taken t set r rs x)
      (split_one set r rs (released_from t (insert r.task set) rs) (released_after t rs) h.0 (u x)
      (split_from (insert r.task set) rs h.3 (subst (λ (y : ℕ). NotBefore y rs) x (on_time r rs h.2)) (under_more t set r rs x (u x) h.2))))
      (λ e.
      let x : r.time ≡ t → ⊥ = eqb-false r.time t e in
      rw (Listing.later t set r rs x, Listing.after_later t set r rs x)
      (record { known = λ k m. inl m; sorted = h; later = omega arith; sizes = refl; each = λ k l. refl }))

  pub split : (rs : List Release) → Sorted present rs → NotBefore t rs → Split 0 rs (released_at t rs) (released_after t rs)
  split rs h n = split_from 0 rs h n (none_under t rs)

  -- a set that is not empty comes early
  pub early : (rs : List Release) → Sorted present rs → eqb (released_at t rs) 0 ≡ false → t ≤ limits.last_release
  unfolding Sorted
  early [] h e = unfold released_from in absurd (true≢false e)
  early (r ∷ rs) h e =
      by-test (eqb r.time t)
      (λ x. omega (arith, eqb-true r.time t x))
      (λ x. absurd (eqb-false (released_at t (r ∷ rs)) 0 e (Listing.later t 0 r rs (eqb-false r.time t x))))
