-- When the phases under way end: a property of their end times, for any property, that each step keeps if what starts has it. And an instant
-- at which nothing ends and nothing is taken leaves them.
use Rattle.std.proofs.Common.{◌≡◌, ◌+◌, ◌^◌, ◌<◌}
use Rattle.guarantees.specs.Types.{refl, sym, ap, ◌∙◌, subst, Bool, true, false, ℕ, Table, Jobs, Option, None, Some, Processor, Idle, CopyingIn, Executing, Finished, CopyOut, NoCopyOut, CopyingOut, CopiedOut, CopyIn, Unchosen, NoneChosen, Copying, Loaded, Cancelled, Interval, Next, NoneNext, LoadedNext, PromotedNext, Outgoing, NoneOutgoing, AwaitsCopyOut, Phase, Between, Within, State, Stage}
use native.Mathlib.Omega.{arith}
use borrow.Author.Tests.{eqb-false}
use lib.Dec.{eqb}
use Rattle.table.specs.Table.{copyin_length, execution_length, copyout_length}
use Rattle.sets.specs.Sets.{member, union, intersection, bit}
use Rattle.sets.proofs.Laws.{united, none, by-test, clash, intersection_left, empty, union_small}
use Rattle.guarantees.proofs.Highest.{Best}
use Rattle.rules.specs.Instant.{step_a, step_b, step_c, step_d, step_e, step_g, close, over, with_candidates, cancel, choose, begin, begin_processor, begin_copyout, copying_out, wanted, taken, deferred, completed, after_done, without_done, ended, copyin_at, copyout_at, processor_at, at_a, at_b, at_e, at_f, at_g, taken_at, deferred_at, fresh_stage}
use Rattle.rules.specs.With.{at_clock, later}
use Rattle.rules.specs.Order.{highest_of, outranks}
use Rattle.guarantees.proofs.Frames.{Frame, at_c, at_d, b_frame, c_table, d_frame, table_b, table_e, pending_b}
use Rattle.guarantees.proofs.Releases.{passed, passed_known}
use Rattle.guarantees.proofs.Settled.{Decided, DecidedAt, OpenAt, RestAt}
use Rattle.guarantees.proofs.Places.{Parted}
use Rattle.guarantees.proofs.Steps.{Sub, best_of}
use Rattle.guarantees.proofs.Cases.{held_at, b_cases, d_cases, e_cases, g_cases}
use Rattle.guarantees.proofs.Places
use Rattle.guarantees.specs.States.{processor_known, next_known, outgoing_known, phase_known}

-- a property of the times at which the phases under way end

module _ (P : ℕ → Type 0) where
  abbrev pub processor_times : Processor → Type 0
  processor_times Idle = Unit {0}
  processor_times (CopyingIn n until) = P until
  processor_times (Executing n start until) = P until
  processor_times (Finished n start) = Unit {0}

  abbrev pub copyout_times : CopyOut → Type 0
  copyout_times NoCopyOut = Unit {0}
  copyout_times (CopyingOut n start until) = P until
  copyout_times (CopiedOut n) = Unit {0}

  abbrev pub copyin_times : CopyIn → Type 0
  copyin_times Unchosen = Unit {0}
  copyin_times NoneChosen = Unit {0}
  copyin_times (Copying n until) = P until
  copyin_times (Loaded n) = Unit {0}
  copyin_times (Cancelled n fate) = Unit {0}

  abbrev pub Times : Phase → Type 0
  Times (Between next outgoing) = Unit {0}
  Times (Within i) = processor_times i.processor × copyout_times i.copyout × copyin_times i.copyin

-- a property of one time for another
module _ (P Q : ℕ → Type 0) (f : (u : ℕ) → P u → Q u) where
  processor_map : (q : Processor) → processor_times P q → processor_times Q q
  processor_map Idle h = tt
  processor_map (CopyingIn n until) h = f until h
  processor_map (Executing n start until) h = f until h
  processor_map (Finished n start) h = tt

  copyout_map : (o : CopyOut) → copyout_times P o → copyout_times Q o
  copyout_map NoCopyOut h = tt
  copyout_map (CopyingOut n start until) h = f until h
  copyout_map (CopiedOut n) h = tt

  copyin_map : (c : CopyIn) → copyin_times P c → copyin_times Q c
  copyin_map Unchosen h = tt
  copyin_map NoneChosen h = tt
  copyin_map (Copying n until) h = f until h
  copyin_map (Loaded n) h = tt
  copyin_map (Cancelled n fate) h = tt

  pub times_map : (p : Phase) → Times P p → Times Q p
  times_map (Between next outgoing) h = tt
  times_map (Within i) h = (processor_map i.processor h.0, copyout_map i.copyout h.1, copyin_map i.copyin h.2)

-- ---- after step d

module _ (present : ℕ) (tasks : present < 4294967296) (t : ℕ) (b : State) (set : ℕ) where
  pub parted_d : Sub set present → Parted present tasks b b.phase
      → let c : State = step_c b t (taken b set) (deferred b set) in
      let y : State = step_d c (taken b set) c.phase in Parted present tasks y y.phase
  parted_d g k =
      let c : State = step_c b t (taken b set) (deferred b set) in
      (Places.d_moves present tasks c (taken b set) (Places.c_takes present tasks b t set g k).parted).parted

module _ (table : Table) (t : ℕ) (b : State) (set : ℕ) where
  pub table_d : b.table ≡ table
      → let c : State = step_c b t (taken b set) (deferred b set) in
      let y : State = step_d c (taken b set) c.phase in y.table ≡ table
  table_d x =
      let c : State = step_c b t (taken b set) (deferred b set) in
      ap (λ (y : Frame). y.table) (d_frame c (taken b set)) ∙ c_table b t (taken b set) (deferred b set) ∙ x

module _ (table : Table) (tasks : table.present < 2 ^ 32) (t : ℕ) (P : ℕ → Type 0) where
  -- what starts at t ends at a time with P
  pub record Starts : Type 0 where
    pub copyin : (n : ℕ) → member n table.present ≡ true → P (later t (copyin_length table.columns n))
    pub execution : (n : ℕ) → member n table.present ≡ true → P (later t (execution_length table.columns n))
    pub copyout : (n : ℕ) → member n table.present ≡ true → P (later t (copyout_length table.columns n))

  abbrev pub Later : ℕ → Type 0
  Later u = (u ≡ t → ⊥) → P u

  module _ (s : Starts) where
    -- a
    a_processor : (q : Processor) → processor_known table.present q → processor_times Later q → processor_times P (processor_at table t q)
    unfolding processor_at
    a_processor Idle k h = tt
    a_processor (CopyingIn n until) k h = by-test (eqb until t) (λ e. rw e (s.execution n k)) (λ e. rw e (h (eqb-false until t e)))
    a_processor (Executing n start until) k h = by-test (eqb until t) (λ e. rw e tt) (λ e. rw e (h (eqb-false until t e)))
    a_processor (Finished n start) k h = tt

    a_copyout : (o : CopyOut) → copyout_times Later o → copyout_times P (copyout_at t o)
    unfolding copyout_at
    a_copyout NoCopyOut h = tt
    a_copyout (CopyingOut n start until) h = by-test (eqb until t) (λ e. rw e tt) (λ e. rw e (h (eqb-false until t e)))
    a_copyout (CopiedOut n) h = tt

    a_copyin : (c : CopyIn) → copyin_times Later c → copyin_times P (copyin_at t c)
    a_copyin Unchosen h = tt
    a_copyin NoneChosen h = tt
    a_copyin (Copying n until) h = by-test (eqb until t) (λ e. rw e tt) (λ e. rw e (h (eqb-false until t e)))
    a_copyin (Loaded n) h = tt
    a_copyin (Cancelled n fate) h = tt

    a_times : (d : State) (p : Phase) → d.phase ≡ p → d.table ≡ table → Parted table.present tasks d p → Times Later p → Times P (step_a d t p).state.phase
    unfolding step_a ended
    a_times d (Between next outgoing) e x k h = subst (Times P) (sym e) tt
    a_times d (Within i) e x k h =
        (subst (λ (y : Table). processor_times P (processor_at y t i.processor)) (sym x) (a_processor i.processor k.known.1 h.0), a_copyout i.copyout h.1, a_copyin i.copyin h.2)

    -- b, f
    b_times : (z : Stage) → Times P z.state.phase → Times P (step_b z t z.state.phase).state.phase
    unfolding close
    b_times z h = b_cases (λ x. Times P x.phase) z t (λ i e o. h) (λ next outgoing e. h) (λ i e o. tt)

    -- c
    c_times : (d : State) (taken : ℕ) (p : Phase) → Times P p → Times P (with_candidates d taken p)
    unfolding with_candidates
    c_times d taken (Between next outgoing) h = tt
    c_times d taken (Within i) h = h

    -- d
    d_times : (d : State) (taken : ℕ) → Times P d.phase → Times P (step_d d taken d.phase).phase
    unfolding cancel
    d_times d taken h =
        d_cases (λ x. Times P x.phase) d taken h (λ i n u e s b. ((subst (Times P) e h).0, (subst (Times P) e h).1, tt))

    -- e
    choose_times : (d : State) (i : Interval) (q : Option ℕ) → d.table ≡ table → Sub d.jobs.ready table.present → Best d.table.priority d.jobs.ready q
        → Times P (Within i) → Times P (choose d t i q).phase
    unfolding choose
    choose_times d i None x k b h = (h.0, h.1, tt)
    choose_times d i (Some q) x k b h =
        (h.0, h.1, subst (λ (y : Table). P (later t (copyin_length y.columns q))) (sym x) (s.copyin q (k q b.0 b.1)))

    e_times : (d : State) → d.table ≡ table → Sub d.jobs.ready table.present → Times P d.phase → Times P (step_e d t d.phase).phase
    e_times d x k h =
        e_cases (λ y. Times P y.phase) d t h
        (λ i e s u. choose_times d i (highest_of d d.jobs.ready) x k (best_of d d.jobs.ready) (subst (Times P) e h))

    -- g
    g_processor : (next : Next) → next_known table.present next → processor_times P (begin_processor table t next)
    g_processor NoneNext k = tt
    g_processor (LoadedNext n) k = s.execution n k
    g_processor (PromotedNext n) k = s.copyin n k

    g_copyout : (outgoing : Outgoing) → outgoing_known table.present outgoing → copyout_times P (begin_copyout table t outgoing)
    g_copyout NoneOutgoing k = tt
    g_copyout (AwaitsCopyOut n start) k = s.copyout n k

    g_times : (f : State) (taken : ℕ) → f.table ≡ table → Parted table.present tasks f f.phase → Times P f.phase → Times P (step_g f t taken f.phase).phase
    unfolding begin
    g_times f taken x k h =
        g_cases (λ y. Times P y.phase) f t taken (λ i e. h) (λ next outgoing e w. h)
        (λ next outgoing e w.
        let n : next_known table.present next × outgoing_known table.present outgoing = subst (phase_known table.present) e k.known in
        e_times (begin f t taken next outgoing) x k.ready (
          subst (λ (y : Table). processor_times P (begin_processor y t next)) (sym x) (g_processor next n.0),
          subst (λ (y : Table). copyout_times P (begin_copyout y t outgoing)) (sym x) (g_copyout outgoing n.1),
          tt,
        ))

    -- the steps together
    pub instant_times : (d : State) (set : ℕ) → d.table ≡ table → Sub set table.present → Parted table.present tasks d d.phase → Times Later d.phase
        → Times P (at_g d t set).phase
    unfolding at_g at_f at_e at_b at_a taken_at deferred_at
    instant_times d set x f k h =
        let pr : ℕ = table.present in
        let d0 : State = at_clock d t in
        let a : Stage = at_a d t in
        let b : State = (at_b d t).state in
        let c : State = at_c d t set in
        let y : State = at_d d t set in
        let e : State = at_e d t set in
        let z : Stage = fresh_stage e in
        let ff : State = (at_f d t set).state in
        let k0 : Parted pr tasks d0 d.phase = record { few = k.few; marks = k.marks; pending = k.pending; ready = k.ready; waits = k.waits; known = k.known; parts = k.parts } in
        let kb : Parted pr tasks b b.phase = (Places.to_b pr tasks d t k).parted in
        let ky : Parted pr tasks y y.phase = parted_d table.present tasks t b (passed d t set) (passed_known d t set pr f) kb in
        let ke : Parted pr tasks e e.phase = (Places.to_e pr tasks d t set f kb).parted in
        let kf : Parted pr tasks ff ff.phase = (Places.b_moves pr tasks z t e.phase refl ke).parted in
        let hb : Times P b.phase = b_times a (a_times d0 d.phase refl x k0 h) in
        let he : Times P e.phase = e_times y (table_d table t b (passed d t set) (table_b d t ∙ x)) ky.ready (d_times c (taken_at d t set) (to_c b (passed d t set) hb)) in
        g_times ff (held_at d t set) (ap (λ (y : Frame). y.table) (b_frame z t) ∙ table_e d t set ∙ x) kf (b_times z he)
      where
        to_c : (b : State) (set : ℕ) → Times P b.phase → Times P (step_c b t (taken b set) (deferred b set)).phase
        to_c b set h = unfold step_c in c_times b (taken b set) b.phase h

-- ---- an instant at which nothing ends and nothing is taken

abbrev pub processor_drop : ℕ → Processor → ℕ
processor_drop t Idle = 0
processor_drop t (CopyingIn n until) = bit (eqb until t)
processor_drop t (Executing n start until) = bit (eqb until t)
processor_drop t (Finished n start) = 0

abbrev pub copyout_drop : ℕ → CopyOut → ℕ
copyout_drop t NoCopyOut = 0
copyout_drop t (CopyingOut n start until) = bit (eqb until t)
copyout_drop t (CopiedOut n) = 0

abbrev pub copyin_drop : ℕ → CopyIn → ℕ
copyin_drop t Unchosen = 0
copyin_drop t NoneChosen = 0
copyin_drop t (Copying n until) = bit (eqb until t)
copyin_drop t (Loaded n) = 0
copyin_drop t (Cancelled n fate) = 0

-- how many phases end at t
abbrev pub drop : ℕ → Phase → ℕ
drop t (Between next outgoing) = 0
drop t (Within i) = processor_drop t i.processor + copyout_drop t i.copyout + copyin_drop t i.copyin

no_drop : (b : Bool) → bit b ≡ 0 → b ≡ false
no_drop true h = absurd (omega arith)
no_drop false h = refl

still_processor : (table : Table) (t : ℕ) (q : Processor) → processor_drop t q ≡ 0 → processor_at table t q ≡ q
unfolding processor_at
still_processor table t Idle h = refl
still_processor table t (CopyingIn n until) h = rw (no_drop (eqb until t) h)
still_processor table t (Executing n start until) h = rw (no_drop (eqb until t) h)
still_processor table t (Finished n start) h = refl

still_copyout : (t : ℕ) (o : CopyOut) → copyout_drop t o ≡ 0 → copyout_at t o ≡ o
unfolding copyout_at
still_copyout t NoCopyOut h = refl
still_copyout t (CopyingOut n start until) h = rw (no_drop (eqb until t) h)
still_copyout t (CopiedOut n) h = refl

still_copyin : (t : ℕ) (c : CopyIn) → copyin_drop t c ≡ 0 → copyin_at t c ≡ c
still_copyin t Unchosen h = refl
still_copyin t NoneChosen h = refl
still_copyin t (Copying n until) h = rw (no_drop (eqb until t) h)
still_copyin t (Loaded n) h = refl
still_copyin t (Cancelled n fate) h = refl

-- no copy-out ends, so that no job completes
still_done : (j : Jobs) (t : ℕ) (o : CopyOut) → copyout_drop t o ≡ 0 → completed j t o ≡ None
unfolding completed
still_done j t NoCopyOut h = refl
still_done j t (CopyingOut n start until) h = rw (no_drop (eqb until t) h)
still_done j t (CopiedOut n) h = refl

-- and what is pending stays so up to the releases
pub still_pending : (d : State) (t : ℕ) → drop t d.phase ≡ 0 → (at_b d t).state.jobs.pending ≡ d.jobs.pending
unfolding at_a
still_pending d t z = pending_b d t ∙ ap (after_done d.jobs.pending) (go d.phase z)
  where
    go : (p : Phase) → drop t p ≡ 0 → (step_a (at_clock d t) t p).done ≡ None
    go (Between next outgoing) z = unfold step_a in refl
    go (Within i) z = unfold step_a in still_done d.jobs t i.copyout (omega arith)

module _ (P : ℕ → Type 0) (t : ℕ) where
  -- the times of a phase that is settled
  pub record Still (d : State) (p : Phase) : Type 0 where
    pub times : Times P p
    pub decided : DecidedAt p
    pub open_yet : OpenAt p
    pub rests : RestAt d.jobs.ready p

  back : (d : State) {p : Phase} → d.phase ≡ p → Still d p → Still d d.phase
  back d e h = subst (λ (x : Phase). Still d x) (sym e) h

  a_still : (d : State) (p : Phase) → d.phase ≡ p → drop t p ≡ 0 → Still d p → Still (step_a d t p).state (step_a d t p).state.phase
  unfolding step_a without_done
  a_still d (Between next outgoing) e z h = back d e h
  a_still d (Within i) e z h = record {
    times = subst (λ (x : Interval). Times P (Within x)) (sym same) h.times;
    decided = subst (λ (x : Interval). DecidedAt (Within x)) (sym same) h.decided;
    open_yet = subst (λ (x : Interval). OpenAt (Within x)) (sym same) h.open_yet;
    rests = tt;
  }
    where
      same : ended d.table t i ≡ i
      same =
          unfold ended in
          rw (still_processor d.table t i.processor (omega arith), still_copyout t i.copyout (omega arith), still_copyin t i.copyin (omega arith))

  abbrev Stays-still : State → Type 0
  Stays-still d = Still d d.phase

  b_still : (s : Stage) → Stays-still s.state → Stays-still (step_b s t s.state.phase).state
  b_still s h =
      b_cases Stays-still s t (λ i e o. h) (λ next outgoing e. h) (λ i e o. clash (over i) o (subst OpenAt e h.open_yet))

  c_still : (d : State) (taken deferred : ℕ) (p : Phase) → ((k : ℕ) → k < 32 → member k taken ≡ false) → Still d p → Still (step_c d t taken deferred) (with_candidates d taken p)
  unfolding with_candidates step_c
  c_still d taken deferred (Between next outgoing) n h = record {
    times = tt;
    decided = tt;
    open_yet = tt;
    rests = (h.rests.0, h.rests.1, rw h.rests.2 (empty (union 0 taken) (union_small 0 taken) (λ k l. rw (united 0 taken k l, none k, n k l))));
  }
  c_still d taken deferred (Within i) n h = record { times = h.times; decided = h.decided; open_yet = h.open_yet; rests = tt }

  not_outranked : (d : State) (taken c : ℕ) (q : Option ℕ) → ((k : ℕ) → k < 32 → member k taken ≡ false) → Best d.table.priority (intersection taken d.marked) q → outranks d c q ≡ false
  not_outranked d taken c None n b = refl
  not_outranked d taken c (Some q) n b = clash (member q taken) (intersection_left taken d.marked q b.1) (n q b.0)

  d_still : (d : State) (taken : ℕ) → ((k : ℕ) → k < 32 → member k taken ≡ false) → Stays-still d → Stays-still (step_d d taken d.phase)
  d_still d taken n h =
      let q : Option ℕ = highest_of d (intersection taken d.marked) in
      d_cases Stays-still d taken h (λ i c u e s b. clash (outranks d c q) b (not_outranked d taken c q n (best_of d (intersection taken d.marked))))

  e_still : (d : State) → Stays-still d → Stays-still (step_e d t d.phase)
  e_still d h =
      e_cases Stays-still d t h (λ i e s u. clash (copying_out i.copyout) (subst (λ (c : CopyIn). Decided c i.copyout) s (subst DecidedAt e h.decided)) u)

  g_still : (f : State) (taken : ℕ) → Stays-still f → Stays-still (step_g f t taken f.phase)
  g_still f taken h =
      g_cases Stays-still f t taken (λ i e. h) (λ next outgoing e w. h)
      (λ next outgoing e w. clash (wanted next outgoing f.jobs.ready) w (unwanted next outgoing f.jobs.ready (subst (RestAt f.jobs.ready) e h.rests)))
    where
      unwanted : (next : Next) (outgoing : Outgoing) (ready : ℕ) → (next ≡ NoneNext) × (outgoing ≡ NoneOutgoing) × (ready ≡ 0) → wanted next outgoing ready ≡ false
      unwanted next outgoing ready h = rw (h.0, h.1, h.2)

  pub instant_still : (d : State) (set : ℕ) → drop t d.phase ≡ 0 → ((k : ℕ) → k < 32 → member k (taken_at d t set) ≡ false) → Still d d.phase → Still (at_g d t set) (at_g d t set).phase
  unfolding at_g at_f at_e at_b at_a
  instant_still d set z m h =
      let a : Stage = at_a d t in
      let b : State = (at_b d t).state in
      let c : State = at_c d t set in
      let y : State = at_d d t set in
      let e : State = at_e d t set in
      let s : Stage = fresh_stage e in
      let f : State = (at_f d t set).state in
      let hb : Still b b.phase = b_still a (a_still (at_clock d t) d.phase refl z (record { times = h.times; decided = h.decided; open_yet = h.open_yet; rests = h.rests })) in
      let hc : Still c c.phase = to_c b (taken_at d t set) (deferred_at d t set) m hb in
      let he : Still e e.phase = e_still y (d_still c (taken_at d t set) m hc) in
      g_still f (held_at d t set) (b_still s he)
    where
      to_c : (b : State) (taken deferred : ℕ) → ((k : ℕ) → k < 32 → member k taken ≡ false) → Still b b.phase → Still (step_c b t taken deferred) (step_c b t taken deferred).phase
      to_c b taken deferred m h = unfold step_c in c_still b taken deferred b.phase m h
