-- Nobody is chosen while the engine copies out; so that where a copy-out ends, its interval does not end before the releases.
use Rattle.std.proofs.Common.{◌≡◌, ◌&&◌, ◌⊎◌}
use Rattle.guarantees.specs.Types.{refl, sym, ap, ◌∙◌, subst, Bool, true, false, not, true≢false, false≢true, inl, inr, ⊎_elim, [], ℕ, Jobs, Option, None, Some, CopyOut, NoCopyOut, CopyingOut, CopiedOut, CopyIn, Unchosen, Interval, Phase, Between, Within, State, Stage}
use Rattle.sets.proofs.Laws.{by-test, clash}
use Rattle.rules.specs.With.{at_clock}
use Rattle.rules.specs.Order.{highest_of}
use Rattle.rules.specs.Instant.{step_a, step_b, step_c, step_d, step_e, step_g, ended, completed, copyin_at, copyout_at, copying_out, settled, over, resting, close, close_stage, cancel, choose, begin, with_candidates, fresh_stage, at_a, at_b, at_e, at_f, at_g, taken_at, deferred_at}
use Rattle.guarantees.specs.History.{completion_events, end_events}
use Rattle.guarantees.proofs.Cases.{Held, is_unchosen, held_at, copyout_cases, a_cases, b_cases, d_cases, e_cases, g_cases}

abbrev pub Alone : Phase → Type 0
Alone (Between next outgoing) = Unit {0}
Alone (Within i) = copying_out i.copyout ≡ true → i.copyin ≡ Unchosen

abbrev pub AloneIn : State → Type 0
AloneIn d = Alone d.phase

module _ (t : ℕ) where
  a_alone : (d : State) → AloneIn d → AloneIn (step_a d t d.phase).state
  a_alone d h = a_cases AloneIn d t (λ next outgoing e. h) (λ i e. unfold ended in λ z. ap (copyin_at t) (subst Alone e h (before i.copyout z)))
    where
      before : (o : CopyOut) → copying_out (copyout_at t o) ≡ true → copying_out o ≡ true
      before o = copyout_cases t (λ x. copying_out x ≡ true → copying_out o ≡ true) o (λ e. e) (λ n s u e f z. absurd (false≢true z))

  b_alone : (s : Stage) → AloneIn s.state → AloneIn (step_b s t s.state.phase).state
  unfolding close
  b_alone s h = b_cases AloneIn s t (λ i e o. h) (λ next outgoing e. h) (λ i e o. tt)

  c_alone : (b : State) (taken deferred : ℕ) → AloneIn b → AloneIn (step_c b t taken deferred)
  unfolding step_c with_candidates
  c_alone b taken deferred h = go b.phase h
    where
      go : (p : Phase) → Alone p → Alone (with_candidates b taken p)
      go (Between next outgoing) h = tt
      go (Within i) h = h

  d_alone : (c : State) (taken : ℕ) → AloneIn c → AloneIn (step_d c taken c.phase)
  unfolding cancel
  d_alone c taken h = d_cases AloneIn c taken h (λ i n fate e held b z. absurd (unheld i.copyin n held (subst Alone e h z)))
    where
      unheld : (k : CopyIn) (n : ℕ) → Held k n → k ≡ Unchosen → ⊥
      unheld k n held u = ⊎_elim (λ x. true≢false (ap is_unchosen (sym u ∙ x.1))) (λ x. true≢false (ap is_unchosen (sym u ∙ x))) held

  e_alone : (d : State) → AloneIn d → AloneIn (step_e d t d.phase)
  unfolding choose
  e_alone d h = e_cases AloneIn d t h (λ i e u v. chosen i (highest_of d d.jobs.ready) v)
    where
      chosen : (i : Interval) (q : Option ℕ) → copying_out i.copyout ≡ false → Alone (choose d t i q).phase
      chosen i None v = λ z. clash (copying_out i.copyout) z v
      chosen i (Some n) v = λ z. clash (copying_out i.copyout) z v

  g_alone : (f : State) (taken : ℕ) → AloneIn f → AloneIn (step_g f t taken f.phase)
  g_alone f taken h =
      g_cases AloneIn f t taken (λ i e. h) (λ next outgoing e w. h) (λ next outgoing e w. e_alone (begin f t taken next outgoing) (unfold begin in λ z. refl))

  pub alone_after : (d : State) (set : ℕ) → AloneIn d → AloneIn (at_g d t set)
  unfolding at_g at_f at_e at_b at_a
  alone_after d set h =
      let a : Stage = at_a d t in
      let b : State = (at_b d t).state in
      let c : State = step_c b t (taken_at d t set) (deferred_at d t set) in
      let x : State = step_d c (taken_at d t set) c.phase in
      g_alone (at_f d t set).state (held_at d t set)
      (b_alone (fresh_stage (at_e d t set)) (e_alone x (d_alone c (taken_at d t set) (c_alone b (taken_at d t set) (deferred_at d t set) (b_alone a (a_alone (at_clock d t) h))))))

  -- where a job is copied out now, its interval does not end before the releases
  pub completes_or_ends : (d : State) → AloneIn d → (completion_events (at_a d t).done ≡ []) ⊎ (end_events t (at_a d t).state.phase (at_b d t).state.phase ≡ [])
  unfolding at_a at_b step_a step_b close_stage completed ended completion_events end_events
  completes_or_ends d h = go d.phase h
    where
      none_done : (j : Jobs) (o : CopyOut) → copying_out o ≡ false → completion_events (completed j t o) ≡ []
      none_done j NoCopyOut e = refl
      none_done j (CopyingOut n start until) e = absurd (true≢false e)
      none_done j (CopiedOut n) e = refl

      not_over : (i : Interval) → i.copyin ≡ Unchosen → over (ended d.table t i) ≡ false
      not_over i e = ap (λ (k : CopyIn). resting (ended d.table t i).processor && (not (copying_out (copyout_at t i.copyout)) && settled (copyin_at t k))) e ∙ no (resting (ended d.table t i).processor) (not (copying_out (copyout_at t i.copyout)))
        where
          no : (a b : Bool) → (a && (b && false)) ≡ false
          no true true = refl
          no true false = refl
          no false b = refl

      go : (p : Phase) → Alone p → let s : Stage = step_a (at_clock d t) t p in (completion_events s.done ≡ []) ⊎ (end_events t s.state.phase (step_b s t s.state.phase).state.phase ≡ [])
      go (Between next outgoing) h = inl refl
      go (Within i) h =
          let s : Stage = step_a (at_clock d t) t (Within i) in
          by-test (copying_out i.copyout)
          (λ e. inr (ap (λ (b : Bool). end_events t (Within (ended d.table t i)) (close_stage s t (ended d.table t i) b).state.phase) (not_over i (h e))))
          (λ e. inl (none_done d.jobs i.copyout e))
