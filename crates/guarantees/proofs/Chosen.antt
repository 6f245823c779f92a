-- First come, first served: what the engine chooses goes no later than any job that is ready.
use Rattle.std.proofs.Common.{◌≡◌, ◌∷◌, ◌++◌, ◌<◌}
use Rattle.guarantees.specs.Types.{refl, sym, ap, ◌∙◌, subst, true, List, [], ℕ, Table, Option, None, Some, Interval, State, Call, Instant}
use native.Mathlib.Omega.{arith}
use borrow.Author.Tests.{eq-eqb}
use lib.ListN.{get_or}
use Rattle.sets.specs.Sets.{member}
use Rattle.rules.specs.Order.{highest_of}
use Rattle.rules.specs.View.{values}
use Rattle.rules.specs.Instant.{step_d, step_e, step_g, steps_c_d, choose, begin, at_e, at_f, at_g, taken_at, fresh_stage}
use Rattle.rules.specs.Calls.{refusal, opened}
use Rattle.guarantees.specs.History.{history, after_calls}
use Rattle.guarantees.specs.Queries.{since, after, no_origin}
use Rattle.guarantees.specs.Choosing.{NoLater, Chooses, FirstCome}
use Rattle.guarantees.proofs.Highest.{Best, first}
use Rattle.guarantees.proofs.Cases.{held_at, e_cases, g_cases}
use Rattle.guarantees.proofs.Steps.{best_of}
use Rattle.guarantees.proofs.Frames.{Frame, at_c, b_frame, d_frame, frame_e, release_g}
use Rattle.guarantees.proofs.Walk.{after_append, served}
use Rattle.guarantees.proofs.Origins.{opened_origin, since_after}

none-task {ℓ} : {A : Type ℓ} (n : ℕ) → None ≡ Some n → A
none-task n e = absurd (let z : ◌≡◌ {A = ℕ} 0 1 = cc in omega arith)

-- ---- the choice, where the times are the state's

module _ (times : ℕ → ℕ) where
  abbrev TimesOf : State → Type 0
  TimesOf d = (k : ℕ) → k < 32 → times k ≡ get_or d.jobs.release k 0

  picks : (d : State) (q n m : ℕ) → highest_of d d.jobs.ready ≡ Some q → TimesOf d → Some q ≡ Some n → m < 32 → member m d.jobs.ready ≡ true → NoLater d times n m
  picks d q n m e h v l r =
      let z : highest_of d d.jobs.ready ≡ Some n = e ∙ v in
      let s : n < 32 = (subst (Best d.table.priority d.jobs.ready) z (best_of d d.jobs.ready)).0 in
      rw (h n s, h m l) (first d.table.priority (λ k. get_or d.jobs.release k 0) d.jobs.ready n z m l r)

  choice : (d : State) (t : ℕ) (i : Interval) (q : Option ℕ) → highest_of d d.jobs.ready ≡ q → TimesOf d → (n m : ℕ)
      → (values (choose d t i q)).copyin ≡ Some n → m < 32 → member m d.jobs.ready ≡ true → NoLater d times n m
  unfolding choose
  choice d t i None e h n m v l r = none-task n v
  choice d t i (Some q) e h n m v l r = picks d q n m e h v l r

  e_chooses : (d : State) (t : ℕ) → TimesOf d → Chooses d (step_e d t d.phase) times
  e_chooses d t h n m before after l r =
      e_cases (λ x. (values x).copyin ≡ Some n → NoLater d times n m) d t (λ w. none-task n (sym before ∙ w))
      (λ i e s u w. choice d t i (highest_of d d.jobs.ready) refl h n m w l r) after

  g_chooses : (f : State) (t taken : ℕ) → TimesOf f → Chooses f (step_g f t taken f.phase) times
  g_chooses f t taken h n m before after l r =
      g_cases (λ x. (values x).copyin ≡ Some n → NoLater f times n m) f t taken (λ i e w. none-task n (sym before ∙ w)) (λ next outgoing e w v. none-task n (sym before ∙ v))
      (λ next outgoing e w v. unfold begin in e_chooses (begin f t taken next outgoing) t (unfold begin in h) n m (unfold begin in refl) v l (unfold begin in r)) after

-- ---- along the calls

module _ (table : Table) (marks : ℕ) (calls : List Call) (t set : ℕ) (e : refusal (after_calls (opened table marks) calls) t set ≡ 0) where
  abbrev d : State
  d = after_calls (opened table marks) calls

  abbrev told : ℕ → ℕ
  told = since (history (opened table marks) (calls ++ (Instant t set ∷ [])))

  then : after_calls (opened table marks) (calls ++ (Instant t set ∷ [])) ≡ at_g d t set
  unfolding after_calls
  then = after_append calls (Instant t set ∷ []) (opened table marks) ∙ served d t set (eq-eqb (refusal d t set) 0 e)

  times_g : (k : ℕ) → k < 32 → told k ≡ get_or (at_g d t set).jobs.release k 0
  times_g k l =
      (since_after k l (calls ++ (Instant t set ∷ [])) (opened table marks) no_origin (opened_origin table marks k l)).since_is
      ∙ ap (λ (g : State). get_or g.jobs.release k 0) then

  times_c : (x : State) → x.jobs.release ≡ (at_c d t set).jobs.release → TimesOf told x
  times_c x h k l = times_g k l ∙ ap (λ (r : List ℕ). get_or r k 0) (release_g d t set ∙ sym h)

  pub first_come : FirstCome d t set told
  first_come = record {
    in_e = unfold at_e steps_c_d in e_chooses told (step_d (at_c d t set) (taken_at d t set) (at_c d t set).phase) t
        (times_c (step_d (at_c d t set) (taken_at d t set) (at_c d t set).phase) (ap (λ (x : Frame). x.release) (d_frame (at_c d t set) (taken_at d t set))));
    in_g = unfold at_g in g_chooses told (at_f d t set).state t (held_at d t set)
        (times_c (at_f d t set).state (unfold at_f in ap (λ (x : Frame). x.release) (b_frame (fresh_stage (at_e d t set)) t ∙ frame_e d t set)));
  }
