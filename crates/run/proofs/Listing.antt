-- The releases from a place on, one by one. Assumes nothing.
use mathlib.Core.Path.{◌≡◌, refl, sym, ap, ap₂, ◌∙◌, subst}
use mathlib.Core.Logic.{⊎_elim}
use mathlib.Core.List.{List, [], ◌∷◌}
use Prim.Native.Nat.{ℕ, zero, suc, ◌+◌, ◌-◌, ◌/◌, ◌^◌, ◌≤◌, ◌<◌}
use native.Mathlib.Omega.{arith}
use borrow.Author.Tests.{eq-eqb, ne_eqb, leb-true, leb-false}
use lib.Dec.{leb}
use lib.ListN.{length, take, drop, length-drop}
use native.Mathlib.Nat.{add-zero, add_assoc}
use Rattle.words.proofs.Laws.{in_rest, rest_whole}
use Rattle.sets.specs.Sets.{insert}
use Rattle.sets.proofs.Laws.{by-test}
use Rattle.rules.specs.Steps.{Stands}
use Rattle.entries.specs.Entries.{release_at}
use Rattle.run.specs.Types.{Release}
use Rattle.run.specs.Listed.{listed, releases_at}
use Rattle.run.specs.Run.{first_time, released_from, released_after}

module _ (s : List ℕ) (at : ℕ) where
  pub here : 10 ≤ length s - at → releases_at s at ≡ release_at s at ∷ releases_at s (at + 10)
  unfolding releases_at listed
  here h =
      let e : (length s - at) / 10 ≡ suc ((length s - (at + 10)) / 10) = omega arith in
      rw e

  pub none : length s - at < 10 → releases_at s at ≡ []
  unfolding releases_at listed
  none h = let e : (length s - at) / 10 ≡ 0 = omega arith in rw e

-- the rest of a slice has the releases from there on
release_in_rest : (s : List ℕ) (at i : ℕ) → release_at (drop at s) i ≡ release_at s (at + i)
unfolding release_at
release_in_rest s at i = rw (in_rest 1 at (i + 1) s, in_rest 8 at (i + 2) s, sym (add_assoc at i 1), sym (add_assoc at i 2))

listed_in_rest : (k : ℕ) (s : List ℕ) (at i : ℕ) → listed k (drop at s) i ≡ listed k s (at + i)
unfolding listed
listed_in_rest zero s at i = refl
listed_in_rest (suc k) s at i = ap₂ (λ (r : Release) (rs : List Release). r ∷ rs) (release_in_rest s at i) (listed_in_rest k s at (i + 10) ∙ ap (listed k s) (sym (add_assoc at i 10)))

pub in_the_rest : (s : List ℕ) (at i : ℕ) → releases_at (drop at s) i ≡ releases_at s (at + i)
unfolding releases_at
in_the_rest s at i =
    ap (λ (n : ℕ). listed (n / 10) (drop at s) i) (omega (arith, length-drop at s))
    ∙ listed_in_rest ((length s - (at + i)) / 10) s at i

-- and so has it where it is borrowed
pub in_part : (s : List ℕ) (at : ℕ) → releases_at (take (length s - at) (drop at s)) 0 ≡ releases_at s at
in_part s at = ap (λ (x : List ℕ). releases_at x 0) (rest_whole at s) ∙ in_the_rest s at 0 ∙ ap (releases_at s) (add-zero at)

pub behind_part : (s : List ℕ) (at i : ℕ) → releases_at (take (length s - at) (drop at s)) i ≡ releases_at s (at + i)
behind_part s at i = ap (λ (x : List ℕ). releases_at x i) (rest_whole at s) ∙ in_the_rest s at i

listed_length : (k : ℕ) (s : List ℕ) (at : ℕ) → length (listed k s at) ≡ k
unfolding listed
listed_length zero s at = refl
listed_length (suc k) s at = ap suc (listed_length k s (at + 10))

pub how_many : (s : List ℕ) (at : ℕ) → length (releases_at s at) ≡ (length s - at) / 10
unfolding releases_at
how_many s at = listed_length ((length s - at) / 10) s at

module _ (t set : ℕ) (r : Release) (rs : List Release) where
  pub taken : r.time ≡ t → released_from t set (r ∷ rs) ≡ released_from t (insert r.task set) rs
  unfolding released_from
  taken e = rw (eq-eqb r.time t e, released_from)

  pub after_taken : r.time ≡ t → released_after t (r ∷ rs) ≡ released_after t rs
  unfolding released_after
  after_taken e = rw (eq-eqb r.time t e, released_after)

  pub later : (r.time ≡ t → ⊥) → released_from t set (r ∷ rs) ≡ set
  unfolding released_from
  later h = rw (ne_eqb r.time t h, released_from)

  pub after_later : (r.time ≡ t → ⊥) → released_after t (r ∷ rs) ≡ r ∷ rs
  unfolding released_after
  after_later h = rw (ne_eqb r.time t h, released_after)

-- ---- the time of the next release, as a plain number

time_is : (x : ℕ) (r : Release) (rs : List Release) → Stands x (first_time (r ∷ rs)) → x ≡ r.time
time_is x r rs h = ⊎_elim (λ w. cc) (λ w. absurd (let f = w.1 in let z : ◌≡◌ {A = ℕ} 0 1 = cc in omega arith)) h.is

none_is : (x : ℕ) → Stands x (first_time []) → x ≡ 2 ^ 64 - 1
none_is x h = ⊎_elim (λ w. absurd (let z : ◌≡◌ {A = ℕ} 0 1 = cc in omega arith)) (λ w. w.0) h.is

module _ (s : List ℕ) (at t : ℕ) {x : ℕ} (h : Stands x (first_time (releases_at s at))) where
  there : 10 ≤ length s - at → x ≡ (release_at s at).time
  there l = time_is x (release_at s at) (releases_at s (at + 10)) (subst (λ (rs : List Release). Stands x (first_time rs)) (here s at l) h)

  -- it is a time before the last tick: a release stands there
  pub stands_here : x ≡ t → t < 2 ^ 64 - 1 → (10 ≤ length s - at) × ((release_at s at).time ≡ t)
  stands_here e l =
      by-test (leb 10 (length s - at))
      (λ m. let some = leb-true 10 (length s - at) m in (some, sym (there some) ∙ e))
      (λ m. absurd (omega (arith, none_is x (subst (λ (rs : List Release). Stands x (first_time rs)) (none s at (leb-false 10 (length s - at) m)) h))))

  -- it is another time: no release of this one is left
  pub stops_here : (x ≡ t → ⊥) → (set : ℕ) → (released_from t set (releases_at s at) ≡ set) × (released_after t (releases_at s at) ≡ releases_at s at)
  unfolding released_from released_after
  stops_here f set =
      by-test (leb 10 (length s - at))
      (λ m.
      let some = leb-true 10 (length s - at) m in
      let other : (release_at s at).time ≡ t → ⊥ = λ e. f (there some ∙ e) in
      rw (here s at some) (later t set (release_at s at) (releases_at s (at + 10)) other, after_later t set (release_at s at) (releases_at s (at + 10)) other))
      (λ m. rw (none s at (leb-false 10 (length s - at) m)) (refl, refl))
