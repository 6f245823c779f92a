-- What ends at an instant, by its answer and by the history: an interval that ends was open before, so that no more of them end than have begun; and
-- the job done is the one that completes.
use mathlib.Core.Path.{◌≡◌, refl, sym, ap, ◌∙◌, subst}
use mathlib.Core.Bool.{Bool, true, false}
use Prim.Native.Nat.{ℕ, ◌+◌, ◌≤◌}
use native.Mathlib.Omega.{arith}
use Rattle.rules.specs.With.{at_clock}
use Rattle.rules.specs.Order.{highest_of}
use Rattle.rules.specs.Instant.{fresh_stage, step_a, step_b, step_c, step_d, step_e, close, close_stage, over, closing, with_candidates, cancel, choose, at_a, at_b, at_e, at_f, at_g, taken_at, deferred_at, occurred}
use Rattle.guarantees.specs.Types.{Option, JobEntry, None, Some, Interval, Phase, Between, Within, State, Closed, NoInterval, Span, Stage}
use Rattle.guarantees.specs.History.{completion_events, begin_events}
use Rattle.guarantees.specs.Queries.{total, is_begin, is_completion}
use Rattle.guarantees.proofs.Cases.{d_cases, e_cases}
use Rattle.record.specs.FileClaim.{is_job}
use Rattle.record.proofs.Lengths.{is_interval}

-- ---- the intervals

abbrev pub is_open : Phase → ℕ
is_open (Between next outgoing) = 0
is_open (Within i) = 1

abbrev is_span : Closed → ℕ
is_span NoInterval = 0
is_span (Span e) = 1

same_span : (c : Closed) → is_interval (closing c c) ≡ is_span c
same_span NoInterval = refl
same_span (Span e) = refl

one_span : (c : Closed) → is_interval (closing NoInterval c) ≡ is_span c
one_span NoInterval = refl
one_span (Span e) = refl

either_span : (b f : Closed) → is_interval (closing b f) ≤ is_span b + is_span f
either_span NoInterval NoInterval = omega arith
either_span NoInterval (Span e) = omega arith
either_span (Span e) f = omega arith

-- a
a_open : (d : State) (t : ℕ) (p : Phase) → d.phase ≡ p → is_open (step_a d t p).state.phase ≡ is_open p
unfolding step_a
a_open d t (Between next outgoing) e = ap is_open e
a_open d t (Within i) e = refl

a_closed : (d : State) (t : ℕ) (p : Phase) → (step_a d t p).closed ≡ NoInterval
unfolding step_a
a_closed d t (Between next outgoing) = refl
a_closed d t (Within i) = refl

-- b, f
b_ends : (s : Stage) (t : ℕ) (p : Phase) → s.state.phase ≡ p
    → is_interval (closing s.closed (step_b s t p).closed) + is_open (step_b s t p).state.phase ≤ is_span s.closed + is_open p
unfolding step_b
b_ends s t (Between next outgoing) e = omega (arith, same_span s.closed, ap is_open e)
b_ends s t (Within i) e = go (over i) s.closed refl
  where
    go : (b : Bool) (c : Closed) → s.closed ≡ c
        → is_interval (closing s.closed (close_stage s t i b).closed) + is_open (close_stage s t i b).state.phase ≤ is_span s.closed + 1
    go true NoInterval x = unfold close_stage close in rw x (omega arith)
    go true (Span y) x = unfold close_stage close in rw x (omega arith)
    go false c x = unfold close_stage in omega (arith, same_span s.closed, ap is_open e)

-- c, d, e
c_open : (d : State) (taken_now : ℕ) (p : Phase) → is_open (with_candidates d taken_now p) ≡ is_open p
unfolding with_candidates
c_open d taken_now (Between next outgoing) = refl
c_open d taken_now (Within i) = refl

d_open : (d : State) (taken_now : ℕ) → is_open (step_d d taken_now d.phase).phase ≡ is_open d.phase
unfolding cancel
d_open d taken_now = d_cases (λ x. is_open x.phase ≡ is_open d.phase) d taken_now refl (λ i n u e s b. ap is_open (sym e))

choose_open : (d : State) (t : ℕ) (i : Interval) (q : Option ℕ) → is_open (choose d t i q).phase ≡ 1
unfolding choose
choose_open d t i None = refl
choose_open d t i (Some q) = refl

e_open : (d : State) (t : ℕ) → is_open (step_e d t d.phase).phase ≡ is_open d.phase
e_open d t =
    e_cases (λ x. is_open x.phase ≡ is_open d.phase) d t refl (λ i e s u. choose_open d t i (highest_of d d.jobs.ready) ∙ ap is_open (sym e))

-- g
g_open : (t : ℕ) (p q : Phase) → is_open q ≤ is_open p + total is_begin (begin_events t p q)
unfolding begin_events total
g_open t (Within i) (Between next outgoing) = omega arith
g_open t (Within i) (Within j) = omega arith
g_open t (Between next outgoing) (Between x y) = omega arith
g_open t (Between next outgoing) (Within j) = omega arith

module _ (d : State) (t set : ℕ) where
  to_b : is_span (at_b d t).closed + is_open (at_b d t).state.phase ≤ is_open d.phase
  unfolding at_b
  to_b = unfold at_a in omega (
    arith,
    b_ends (at_a d t) t (at_a d t).state.phase refl,
    a_open (at_clock d t) t d.phase refl,
    subst (λ (c : Closed). is_interval (closing c (at_b d t).closed) ≡ is_span (at_b d t).closed) (sym (a_closed (at_clock d t) t d.phase)) (one_span (at_b d t).closed),
    ap is_span (a_closed (at_clock d t) t d.phase),
  )

  to_e : is_open (at_e d t set).phase ≡ is_open (at_b d t).state.phase
  unfolding at_e
  to_e =
      let b : State = (at_b d t).state in
      let taken_now : ℕ = taken_at d t set in
      let c : State = step_c b t taken_now (deferred_at d t set) in
      let x : State = step_d c taken_now c.phase in
      e_open x t ∙ d_open c taken_now ∙ (unfold step_c in c_open b taken_now b.phase)

  pub ends_paid : is_interval (occurred d t set).closed + is_open (at_g d t set).phase
      ≤ is_open d.phase + total is_begin (begin_events t (at_f d t set).state.phase (at_g d t set).phase)
  unfolding occurred at_f
  ends_paid =
      let e : State = at_e d t set in
      omega (
        arith,
        to_b,
        to_e,
        b_ends (fresh_stage e) t e.phase refl,
        one_span (at_f d t set).closed,
        either_span (at_b d t).closed (at_f d t set).closed,
        g_open t (at_f d t set).state.phase (at_g d t set).phase,
      )

-- ---- the job that completes

b_done : (s : Stage) (t : ℕ) (p : Phase) → (step_b s t p).done ≡ s.done
unfolding step_b
b_done s t (Between next outgoing) = refl
b_done s t (Within i) = go (over i)
  where
    go : (b : Bool) → (close_stage s t i b).done ≡ s.done
    go true = unfold close_stage in refl
    go false = unfold close_stage in refl

is_job_total : (o : Option JobEntry) → is_job o ≡ total is_completion (completion_events o)
unfolding completion_events total
is_job_total None = refl
is_job_total (Some e) = refl

pub job_completes : (d : State) (t set : ℕ) → is_job (occurred d t set).done ≡ total is_completion (completion_events (at_a d t).done)
unfolding occurred at_b
job_completes d t set = ap is_job (b_done (at_a d t) t (at_a d t).state.phase) ∙ is_job_total (at_a d t).done
