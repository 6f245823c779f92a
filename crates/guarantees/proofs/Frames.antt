-- The steps leave the table and the marks, and the clock at the instant's time; steps a and c alone change what is pending, and step c alone what
-- waits and the release times.
use Rattle.std.proofs.Common.{◌≡◌}
use Rattle.guarantees.specs.Types.{refl, ap, ◌∙◌, List, ℕ, Table, WaitingReleases, Clock, At, Option, None, Some, Interval, Phase, Between, Within, State, Stage}
use Rattle.sets.specs.Sets.{union}
use Rattle.rules.specs.Instant.{step_a, step_b, step_c, step_d, step_e, step_g, without_done, after_done, close, cancel, choose, begin, at_a, at_b, at_e, at_f, at_g, taken_at, deferred_at, fresh_stage}
use Rattle.rules.specs.With.{at_clock}
use Rattle.rules.specs.Order.{highest_of}
use Rattle.guarantees.proofs.Cases.{held_at, a_cases, b_cases, d_cases, e_cases, g_cases}

pub record Frame : Type 0 where
  pub table : Table
  pub marked : ℕ
  pub clock : Clock
  pub pending : ℕ
  pub waiting : WaitingReleases
  pub release : List ℕ

abbrev pub frame : State → Frame
frame d = record { table = d.table; marked = d.marked; clock = d.clock; pending = d.jobs.pending; waiting = d.waiting; release = d.jobs.release }

-- with other pending jobs
abbrev frame_with : State → ℕ → Frame
frame_with d s = record { table = d.table; marked = d.marked; clock = d.clock; pending = s; waiting = d.waiting; release = d.jobs.release }

-- ---- each step

a_frame : (d : State) (t : ℕ) → frame (step_a d t d.phase).state ≡ frame_with d (step_a d t d.phase).state.jobs.pending
unfolding without_done
a_frame d t = a_cases (λ x. frame x ≡ frame_with d x.jobs.pending) d t (λ next outgoing e. refl) (λ i e. refl)

pub b_frame : (s : Stage) (t : ℕ) → frame (step_b s t s.state.phase).state ≡ frame s.state
unfolding close
b_frame s t = b_cases (λ x. frame x ≡ frame s.state) s t (λ i e o. refl) (λ next outgoing e. refl) (λ i e o. refl)

pub d_frame : (d : State) (taken : ℕ) → frame (step_d d taken d.phase) ≡ frame d
unfolding cancel
d_frame d taken = d_cases (λ x. frame x ≡ frame d) d taken refl (λ i n u e s b. refl)

choose_frame : (d : State) (t : ℕ) (i : Interval) (q : Option ℕ) → frame (choose d t i q) ≡ frame d
unfolding choose
choose_frame d t i None = refl
choose_frame d t i (Some q) = refl

pub e_frame : (d : State) (t : ℕ) → frame (step_e d t d.phase) ≡ frame d
e_frame d t = e_cases (λ x. frame x ≡ frame d) d t refl (λ i e s u. choose_frame d t i (highest_of d d.jobs.ready))

pub g_frame : (d : State) (t taken : ℕ) → frame (step_g d t taken d.phase) ≡ frame d
unfolding begin
g_frame d t taken =
    g_cases (λ x. frame x ≡ frame d) d t taken (λ i e. refl) (λ next outgoing e w. refl) (λ next outgoing e w. e_frame (begin d t taken next outgoing) t)

-- ---- up to step b

frame_b : (d : State) (t : ℕ) → frame (at_b d t).state ≡ frame_with (at_clock d t) (at_a d t).state.jobs.pending
unfolding at_b at_a
frame_b d t = b_frame (at_a d t) t ∙ a_frame (at_clock d t) t

a_pending : (d : State) (t : ℕ) (p : Phase) → (step_a d t p).state.jobs.pending ≡ after_done d.jobs.pending (step_a d t p).done
unfolding step_a without_done
a_pending d t (Between next outgoing) = refl
a_pending d t (Within i) = refl

pub table_a : (d : State) (t : ℕ) → (at_a d t).state.table ≡ d.table
unfolding at_a
table_a d t = ap (λ (x : Frame). x.table) (a_frame (at_clock d t) t)

pub table_b : (d : State) (t : ℕ) → (at_b d t).state.table ≡ d.table
table_b d t = ap (λ (x : Frame). x.table) (frame_b d t)

pub marked_b : (d : State) (t : ℕ) → (at_b d t).state.marked ≡ d.marked
marked_b d t = ap (λ (x : Frame). x.marked) (frame_b d t)

pub pending_b : (d : State) (t : ℕ) → (at_b d t).state.jobs.pending ≡ after_done d.jobs.pending (at_a d t).done
unfolding at_a
pending_b d t = ap (λ (x : Frame). x.pending) (frame_b d t) ∙ a_pending (at_clock d t) t d.phase

pub waiting_b : (d : State) (t : ℕ) → (at_b d t).state.waiting ≡ d.waiting
waiting_b d t = ap (λ (x : Frame). x.waiting) (frame_b d t)

pub release_b : (d : State) (t : ℕ) → (at_b d t).state.jobs.release ≡ d.jobs.release
release_b d t = ap (λ (x : Frame). x.release) (frame_b d t)

-- ---- step c, and from it on

-- the state that it leaves
abbrev pub at_c : State → ℕ → ℕ → State
at_c d t set = step_c (at_b d t).state t (taken_at d t set) (deferred_at d t set)

-- and after step d
abbrev pub at_d : State → ℕ → ℕ → State
at_d d t set = let c : State = at_c d t set in step_d c (taken_at d t set) c.phase

pub c_table : (d : State) (t taken deferred : ℕ) → (step_c d t taken deferred).table ≡ d.table
unfolding step_c
c_table d t taken deferred = refl

c_clock : (d : State) (t taken deferred : ℕ) → (step_c d t taken deferred).clock ≡ d.clock
unfolding step_c
c_clock d t taken deferred = refl

c_pending : (d : State) (t taken deferred : ℕ) → (step_c d t taken deferred).jobs.pending ≡ union d.jobs.pending taken
unfolding step_c
c_pending d t taken deferred = refl

pub frame_e : (d : State) (t set : ℕ) → frame (at_e d t set) ≡ frame (at_c d t set)
unfolding at_e
frame_e d t set =
    let taken : ℕ = taken_at d t set in
    let c : State = at_c d t set in
    e_frame (step_d c taken c.phase) t ∙ d_frame c taken

pub frame_g : (d : State) (t set : ℕ) → frame (at_g d t set) ≡ frame (at_c d t set)
unfolding at_g at_f
frame_g d t set =
    g_frame (at_f d t set).state t (held_at d t set)
    ∙ b_frame (fresh_stage (at_e d t set)) t ∙ frame_e d t set

c_marked : (d : State) (t taken deferred : ℕ) → (step_c d t taken deferred).marked ≡ d.marked
unfolding step_c
c_marked d t taken deferred = refl

module _ (d : State) (t set : ℕ) where
  pub marked_g : (at_g d t set).marked ≡ d.marked
  marked_g = ap (λ (x : Frame). x.marked) (frame_g d t set) ∙ c_marked (at_b d t).state t (taken_at d t set) (deferred_at d t set) ∙ marked_b d t

  pub table_e : (at_e d t set).table ≡ d.table
  table_e = ap (λ (x : Frame). x.table) (frame_e d t set) ∙ c_table (at_b d t).state t (taken_at d t set) (deferred_at d t set) ∙ table_b d t

  pub table_g : (at_g d t set).table ≡ d.table
  table_g = ap (λ (x : Frame). x.table) (frame_g d t set) ∙ c_table (at_b d t).state t (taken_at d t set) (deferred_at d t set) ∙ table_b d t

  pub clock_g : (at_g d t set).clock ≡ At t
  clock_g =
      ap (λ (x : Frame). x.clock) (frame_g d t set) ∙ c_clock (at_b d t).state t (taken_at d t set) (deferred_at d t set) ∙ ap (λ (x : Frame). x.clock) (frame_b d t)

  pub pending_g : (at_g d t set).jobs.pending ≡ union (at_b d t).state.jobs.pending (taken_at d t set)
  pending_g = ap (λ (x : Frame). x.pending) (frame_g d t set) ∙ c_pending (at_b d t).state t (taken_at d t set) (deferred_at d t set)

  -- what waits after an instant waits since its step c
  pub waiting_g : (at_g d t set).waiting ≡ (at_c d t set).waiting
  waiting_g = ap (λ (x : Frame). x.waiting) (frame_g d t set)

  pub release_g : (at_g d t set).jobs.release ≡ (at_c d t set).jobs.release
  release_g = ap (λ (x : Frame). x.release) (frame_g d t set)
