-- An instant by its steps: where each step leaves what the rules say of the step before it, the last leaves what they say of the instant.
use Rattle.std.proofs.Common.{◌≡◌}
use Rattle.rules.specs.Types.{ℕ, Phase, Between, Within, State, Closed, NoInterval, Occurred, Stage, refl, ap, ◌∙◌}
use mathlib.Core.Path.{ap₂}
use Rattle.sets.specs.Sets.{union}
use Rattle.sets.proofs.Laws.{by-test}
use Rattle.rules.specs.Instant.{over, close_stage, step_a, step_b, too_soon, passing, taken, deferred, skipped, held_over, steps_c_to_f, step_g, due, at_b, taken_at, deferred_at, skipped_at, at_e, at_f, at_g, closing, occurred}

-- before step b no interval has ended
pub none_closed : (d : State) (t : ℕ) (x : Phase) → (step_a d t x).closed ≡ NoInterval
unfolding step_a
none_closed d t (Between next outgoing) = refl
none_closed d t (Within i) = refl

-- the test keeps the job that was completed
pub keeps_done : (s : Stage) (t : ℕ) (x : Phase) → (step_b s t x).done ≡ s.done
unfolding step_b close_stage
keeps_done s t (Between next outgoing) = refl
keeps_done s t (Within i) = by-test (over i) (λ e. rw e) (λ e. rw e)

-- ---- the state after steps b, f and g

pub record Steps (d : State) (t set taken_now deferred_now held : ℕ) (b f g : State) : Type 0 where
  pub b_is : b ≡ (at_b d t).state
  pub taken_is : taken_now ≡ taken b (passing b t set)
  pub deferred_is : deferred_now ≡ deferred b (passing b t set)
  pub f_is : f ≡ (steps_c_to_f b t taken_now deferred_now).state
  pub held_is : held ≡ held_over b.phase taken_now
  pub g_is : g ≡ step_g f t held f.phase

module _ {taken_now deferred_now held : ℕ} {b f g : State} (d : State) (t set : ℕ) (h : Steps d t set taken_now deferred_now held b f g) where
  taken_is_taken : taken_now ≡ taken_at d t set
  unfolding taken_at
  taken_is_taken = h.taken_is ∙ ap (λ x. taken x (passing x t set)) h.b_is

  deferred_is_deferred : deferred_now ≡ deferred_at d t set
  unfolding deferred_at
  deferred_is_deferred = h.deferred_is ∙ ap (λ x. deferred x (passing x t set)) h.b_is

  pub is_f : steps_c_to_f b t taken_now deferred_now ≡ at_f d t set
  unfolding at_f at_e steps_c_to_f
  is_f = rw (h.b_is, taken_is_taken, deferred_is_deferred)

  pub is_g : g ≡ at_g d t set
  unfolding at_g
  is_g = rw (h.g_is, h.f_is ∙ ap (λ (x : Stage). x.state) is_f, h.held_is, h.b_is, taken_is_taken)

  pub is_occurred : {o : Occurred} {x y : Closed} → o.done ≡ (at_b d t).done
      → x ≡ (at_b d t).closed → y ≡ (steps_c_to_f b t taken_now deferred_now).closed → o.closed ≡ closing x y
      → o.skipped ≡ union (too_soon b t set) (skipped b (passing b t set)) → o.due ≡ due g.phase → o ≡ occurred d t set
  unfolding occurred skipped_at
  is_occurred p x y q r s =
      rw (
        p,
        q ∙ ap₂ closing x (y ∙ ap (λ (z : Stage). z.closed) is_f),
        r ∙ ap (λ z. union (too_soon z t set) (skipped z (passing z t set))) h.b_is,
        s ∙ ap (λ z. due z.phase) is_g,
      )
