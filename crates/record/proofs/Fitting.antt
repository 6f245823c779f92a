-- What occurs at an instant fits its fields: so do the times and tasks that the state holds, from opening on, and each step keeps it. Assumes nothing.
use Rattle.std.proofs.Common.{◌≡◌, ◌∷◌, ◌^◌, ◌<◌, ◌++◌}
use Rattle.guarantees.specs.Types.{refl, subst, Bool, true, false, ⊎_elim, List, [], ℕ, zero, suc, Table, Jobs, WaitingReleases, Option, JobEntry, None, Some, Processor, Idle, CopyingIn, Executing, Finished, CopyOut, NoCopyOut, CopyingOut, CopiedOut, CopyIn, Unchosen, NoneChosen, Copying, Loaded, Cancelled, Interval, Next, NoneNext, LoadedNext, PromotedNext, Outgoing, NoneOutgoing, AwaitsCopyOut, Phase, Between, Within, State, Closed, NoInterval, Span, Stage}
use native.Mathlib.Omega.{arith}
use lib.Dec.{eqb}
use lib.ListN.{get_or, replicate}
use Rattle.sets.specs.Sets.{member}
use Rattle.sets.proofs.Laws.{by-test}
use Rattle.rules.specs.With.{at_clock}
use Rattle.rules.specs.Order.{highest}
use Rattle.rules.specs.Instant.{fresh_stage, processor_at, copyout_at, copyin_at, ended, completed, without_done, step_a, over, processor_task, copyout_task, copyin_task, promoted, next_of, awaiting_copyout, close, interval_entry, close_stage, step_b, original, stamped, with_candidates, step_c, cancel, step_d, choose, step_e, begin_processor, begin_copyout, begin, step_g, at_a, at_b, taken_at, deferred_at, at_e, at_f, at_g, skipped_at, closing, occurred}
use Rattle.rules.specs.Entries.{done_entries, skipped_entries, closed_entries, entries}
use Rattle.rules.specs.Calls.{opened}
use Rattle.guarantees.proofs.Highest.{Best, best}
use Rattle.guarantees.proofs.Cases.{held_at, copyin_cases, copyout_cases, processor_cases, d_cases, e_cases, g_cases}
use Rattle.entries.specs.RoundTrip.{TaskFits, JobFits, IntervalFits, EntryFits}
use Rattle.record.specs.Types.{cond, RecordEntry, ReleaseSkipped, Option, None, Some, Closing, Unclosed, BeforeReleases, AfterReleases}
use Rattle.record.specs.Fits.{EntriesFit}

-- ---- What fits

abbrev TimeFits : ℕ → Type 0
TimeFits u = u < 256 ^ 8

abbrev ProcessorFits : Processor → Type 0
ProcessorFits Idle = Unit {0}
ProcessorFits (CopyingIn n until) = TaskFits (Some n)
ProcessorFits (Executing n start until) = TaskFits (Some n) × TimeFits start
ProcessorFits (Finished n start) = TaskFits (Some n) × TimeFits start

abbrev CopyOutFits : CopyOut → Type 0
CopyOutFits NoCopyOut = Unit {0}
CopyOutFits (CopyingOut n start until) = TaskFits (Some n) × TimeFits start
CopyOutFits (CopiedOut n) = TaskFits (Some n)

abbrev NextFits : Next → Type 0
NextFits NoneNext = Unit {0}
NextFits (LoadedNext n) = TaskFits (Some n)
NextFits (PromotedNext n) = TaskFits (Some n)

abbrev OutgoingFits : Outgoing → Type 0
OutgoingFits NoneOutgoing = Unit {0}
OutgoingFits (AwaitsCopyOut n start) = TaskFits (Some n) × TimeFits start

abbrev CopyInFits : CopyIn → Type 0
CopyInFits c = TaskFits (copyin_task c)

abbrev PhaseFits : Phase → Type 0
PhaseFits (Between next outgoing) = NextFits next × OutgoingFits outgoing
PhaseFits (Within i) = TimeFits i.begin × ProcessorFits i.processor × CopyOutFits i.copyout × CopyInFits i.copyin

abbrev ReleasesFit : List ℕ → Type 0
ReleasesFit release = (n : ℕ) → TimeFits (get_or release n 0)

pub record StateFits (d : State) : Type 0 where
  pub releases : ReleasesFit d.jobs.release
  pub waits : ReleasesFit d.waiting.times
  pub phase : PhaseFits d.phase

abbrev SpanFits : Closed → Type 0
SpanFits NoInterval = Unit {0}
SpanFits (Span e) = IntervalFits e

unfoldable pub DoneFits : Option JobEntry → Type 0
DoneFits None = Unit {0}
DoneFits (Some e) = JobFits e

abbrev ClosedFits : Closing → Type 0
ClosedFits Unclosed = Unit {0}
ClosedFits (BeforeReleases e) = IntervalFits e
ClosedFits (AfterReleases e) = IntervalFits e

pub record StageFits (s : Stage) : Type 0 where
  pub state : StateFits s.state
  pub done : DoneFits s.done
  pub closed : SpanFits s.closed

-- ---- Entries that fit

pub both_fit : (xs ys : List RecordEntry) → EntriesFit xs → EntriesFit ys → EntriesFit (xs ++ ys)
unfolding EntriesFit
both_fit [] ys h g = g
both_fit (e ∷ xs) ys h g = (h.0, both_fit xs ys h.1 g)

done_fits : (o : Option JobEntry) → DoneFits o → EntriesFit (done_entries o)
unfolding DoneFits EntriesFit EntryFits
done_fits None h = tt
done_fits (Some e) h = (h, tt)

closed_fits : (c : Closing) (skips : List RecordEntry) → ClosedFits c → EntriesFit skips → EntriesFit (closed_entries c skips)
unfolding EntriesFit EntryFits
closed_fits Unclosed skips h g = g
closed_fits (BeforeReleases e) skips h g = (h, g)
closed_fits (AfterReleases e) skips h g = both_fit skips _ g (h, tt)

skips_fit : (k set t : ℕ) → TimeFits t → EntriesFit (skipped_entries k set t)
unfolding skipped_entries EntriesFit EntryFits
skips_fit zero set t h = tt
skips_fit (suc k) set t h = both_fit (skipped_entries k set t) _ (skips_fit k set t h) (go (member k set))
  where
    go : (b : Bool) → EntriesFit (cond b (ReleaseSkipped (record { task = k; time = t }) ∷ []) [])
    go true = (h, tt)
    go false = tt

-- what is picked from a set is a task below 32
picked : (priority : List ℕ) (since : ℕ → ℕ) (s : ℕ) → TaskFits (highest priority since s)
picked priority since s = go (highest priority since s) (best priority since s)
  where
    go : (p : Option ℕ) → Best priority s p → TaskFits p
    go None b = unfold TaskFits in tt
    go (Some n) b = unfold TaskFits in λ e. omega (arith, b.0)

-- ---- The steps

module _ (t : ℕ) (now : TimeFits t) where
  -- a
  a_processor : (table : Table) (q : Processor) → ProcessorFits q → ProcessorFits (processor_at table t q)
  a_processor table q h =
      processor_cases t table ProcessorFits q h (λ n u e x. (subst ProcessorFits e h, now)) (λ n s u e x. subst ProcessorFits e h)

  a_copyout : (o : CopyOut) → CopyOutFits o → CopyOutFits (copyout_at t o)
  a_copyout o h = copyout_cases t CopyOutFits o h (λ n s u e x. (subst CopyOutFits e h).0)

  a_copyin : (c : CopyIn) → CopyInFits c → CopyInFits (copyin_at t c)
  a_copyin c h = copyin_cases t CopyInFits c h (λ n u e x. subst CopyInFits e h)

  a_done : (j : Jobs) (o : CopyOut) → ReleasesFit j.release → CopyOutFits o → DoneFits (completed j t o)
  unfolding completed DoneFits
  a_done j NoCopyOut r h = tt
  a_done j (CopyingOut n start until) r h =
      by-test (eqb until t) (λ e. rw e (record { release_fits = r n; start_fits = h.1; completion_fits = now })) (λ e. rw e tt)
  a_done j (CopiedOut n) r h = tt

  a_fits : (d : State) (p : Phase) → d.phase ≡ p → StateFits d → StageFits (step_a d t p)
  unfolding step_a without_done ended DoneFits
  a_fits d (Between next outgoing) e h = record { state = h; done = tt; closed = tt }
  a_fits d (Within i) e h =
      let f : PhaseFits (Within i) = subst PhaseFits e h.phase in
      record {
        state = record {
          releases = h.releases;
          waits = h.waits;
          phase = (f.0, a_processor d.table i.processor f.1, a_copyout i.copyout f.2, a_copyin i.copyin f.3);
        };
        done = a_done d.jobs i.copyout h.releases f.2;
        closed = tt;
      }

  -- b, f
  b_promoted : (d : State) (i : Interval) (c : CopyIn) → TaskFits (promoted d i c)
  unfolding promoted
  b_promoted d i Unchosen = unfold TaskFits in tt
  b_promoted d i NoneChosen = picked d.table.priority _ _
  b_promoted d i (Copying n until) = unfold TaskFits in tt
  b_promoted d i (Loaded n) = unfold TaskFits in tt
  b_promoted d i (Cancelled n fate) = picked d.table.priority _ _

  b_next : (c : CopyIn) (p : Option ℕ) → CopyInFits c → TaskFits p → NextFits (next_of c p)
  b_next c (Some n) h k = k
  b_next Unchosen None h k = tt
  b_next NoneChosen None h k = tt
  b_next (Copying n until) None h k = tt
  b_next (Loaded n) None h k = h
  b_next (Cancelled n fate) None h k = tt

  b_outgoing : (q : Processor) → ProcessorFits q → OutgoingFits (awaiting_copyout q)
  b_outgoing Idle h = tt
  b_outgoing (CopyingIn n until) h = tt
  b_outgoing (Executing n start until) h = tt
  b_outgoing (Finished n start) h = h

  b_processor : (q : Processor) → ProcessorFits q → TaskFits (processor_task q)
  b_processor Idle h = unfold TaskFits in tt
  b_processor (CopyingIn n until) h = h
  b_processor (Executing n start until) h = h.0
  b_processor (Finished n start) h = h.0

  b_copyout : (o : CopyOut) → CopyOutFits o → TaskFits (copyout_task o)
  b_copyout NoCopyOut h = unfold TaskFits in tt
  b_copyout (CopyingOut n start until) h = h.0
  b_copyout (CopiedOut n) h = h

  b_close : (s : Stage) (i : Interval) (b : Bool) → PhaseFits (Within i) → StageFits s → StageFits (close_stage s t i b)
  unfolding close_stage
  b_close s i false f h = h
  b_close s i true f h =
      let p : TaskFits (promoted s.state i i.copyin) = b_promoted s.state i i.copyin in
      record {
        state = unfold close in record {
          releases = h.state.releases;
          waits = h.state.waits;
          phase = (b_next i.copyin (promoted s.state i i.copyin) f.3 p, b_outgoing i.processor f.1);
        };
        done = h.done;
        closed = unfold interval_entry in record {
          begin_fits = f.0;
          end_fits = now;
          task_fits = b_processor i.processor f.1;
          copiedout_fits = b_copyout i.copyout f.2;
          chosen_fits = f.3;
          promoted_fits = p;
        };
      }

  b_fits : (s : Stage) (p : Phase) → s.state.phase ≡ p → StageFits s → StageFits (step_b s t p)
  unfolding step_b
  b_fits s (Between next outgoing) e h = h
  b_fits s (Within i) e h = b_close s i (over i) (subst PhaseFits e h.state.phase) h

  -- c
  c_releases : (s : ℕ) (f : ℕ → ℕ) → ((k : ℕ) → f k < 256 ^ 8) → (k : ℕ) (xs : List ℕ) → ReleasesFit xs → ReleasesFit (stamped s f k xs)
  unfolding stamped
  c_releases s f g k [] h n = h n
  c_releases s f g k (x ∷ xs) h zero = by-test (member k s) (λ e. rw e (g k)) (λ e. rw e (h 0))
  c_releases s f g k (x ∷ xs) h (suc n) = c_releases s f g (suc k) xs (λ m. h (suc m)) n

  c_original : (w : WaitingReleases) → ReleasesFit w.times → (k : ℕ) → original w t k < 256 ^ 8
  c_original w h k = by-test (member k w.tasks) (λ e. rw e (h k)) (λ e. rw e now)

  c_phase : (d : State) (taken_now : ℕ) (p : Phase) → PhaseFits p → PhaseFits (with_candidates d taken_now p)
  unfolding with_candidates
  c_phase d taken_now (Between next outgoing) h = h
  c_phase d taken_now (Within i) h = h

  c_fits : (d : State) (taken_now deferred_now : ℕ) → StateFits d → StateFits (step_c d t taken_now deferred_now)
  unfolding step_c
  c_fits d taken_now deferred_now h = record {
    releases = c_releases taken_now (original d.waiting t) (c_original d.waiting h.waits) 0 d.jobs.release h.releases;
    waits = c_releases deferred_now (λ k. t) (λ k. now) 0 d.waiting.times h.waits;
    phase = c_phase d taken_now d.phase h.phase;
  }

  -- d: the job whose copy-in gives way stays the one chosen
  d_fits : (d : State) (taken_now : ℕ) → StateFits d → StateFits (step_d d taken_now d.phase)
  unfolding cancel
  d_fits d taken_now h =
      d_cases StateFits d taken_now h
      (λ i n u e s b.
      let f : PhaseFits (Within i) = subst PhaseFits e h.phase in
      record { releases = h.releases; waits = h.waits; phase = (f.0, f.1, f.2, ⊎_elim (λ x. subst CopyInFits x.1 f.3) (λ x. subst CopyInFits x f.3) s) })

  -- e
  e_choose : (d : State) (i : Interval) (q : Option ℕ) → TaskFits q → StateFits d → PhaseFits (Within i) → StateFits (choose d t i q)
  unfolding choose
  e_choose d i None k h f = record { releases = h.releases; waits = h.waits; phase = (f.0, f.1, f.2, k) }
  e_choose d i (Some n) k h f = record { releases = h.releases; waits = h.waits; phase = (f.0, f.1, f.2, k) }

  e_fits : (d : State) → StateFits d → StateFits (step_e d t d.phase)
  e_fits d h =
      e_cases StateFits d t h (λ i e s u. e_choose d i _ (picked d.table.priority _ d.jobs.ready) h (subst PhaseFits e h.phase))

  -- g
  g_processor : (table : Table) (next : Next) → NextFits next → ProcessorFits (begin_processor table t next)
  g_processor table NoneNext h = tt
  g_processor table (LoadedNext n) h = (h, now)
  g_processor table (PromotedNext n) h = h

  g_copyout : (table : Table) (outgoing : Outgoing) → OutgoingFits outgoing → CopyOutFits (begin_copyout table t outgoing)
  g_copyout table NoneOutgoing h = tt
  g_copyout table (AwaitsCopyOut n start) h = h

  g_begin : (d : State) (taken_now : ℕ) (next : Next) (outgoing : Outgoing) → StateFits d → PhaseFits (Between next outgoing)
      → StateFits (begin d t taken_now next outgoing)
  unfolding begin
  g_begin d taken_now next outgoing h f =
      record { releases = h.releases; waits = h.waits; phase = (now, g_processor d.table next f.0, g_copyout d.table outgoing f.1, unfold TaskFits in tt) }

  g_fits : (d : State) (taken_now : ℕ) → StateFits d → StateFits (step_g d t taken_now d.phase)
  g_fits d taken_now h =
      g_cases StateFits d t taken_now (λ i e. h) (λ next outgoing e w. h)
      (λ next outgoing e w. e_fits (begin d t taken_now next outgoing) (g_begin d taken_now next outgoing h (subst PhaseFits e h.phase)))

  -- ---- The instant

  module _ (d : State) (set : ℕ) (h : StateFits d) where
    to_b : StageFits (at_b d t)
    unfolding at_b at_a
    to_b =
        let a : StageFits (at_a d t) = a_fits (at_clock d t) d.phase refl (record { releases = h.releases; waits = h.waits; phase = h.phase }) in
        b_fits (at_a d t) (at_a d t).state.phase refl a

    to_e : StateFits (at_e d t set)
    unfolding at_e
    to_e =
        let taken_now : ℕ = taken_at d t set in
        let deferred_now : ℕ = deferred_at d t set in
        let c : State = step_c (at_b d t).state t taken_now deferred_now in
        e_fits (step_d c taken_now c.phase) (d_fits c taken_now (c_fits (at_b d t).state taken_now deferred_now to_b.state))

    to_f : StageFits (at_f d t set)
    unfolding at_f
    to_f =
        let e : State = at_e d t set in
        b_fits (fresh_stage e) e.phase refl (record { state = to_e; done = unfold DoneFits in tt; closed = tt })

    pub to_g : StateFits (at_g d t set)
    unfolding at_g
    to_g = g_fits (at_f d t set).state (held_at d t set) to_f.state

    closing_fits : (b f : Closed) → SpanFits b → SpanFits f → ClosedFits (closing b f)
    closing_fits (Span e) f k l = k
    closing_fits NoInterval NoInterval k l = tt
    closing_fits NoInterval (Span e) k l = l

    pub moment_fits : EntriesFit (entries t (occurred d t set))
    unfolding occurred entries
    moment_fits =
        both_fit _ _ (done_fits (at_b d t).done to_b.done)
        (closed_fits (closing (at_b d t).closed (at_f d t set).closed) _ (closing_fits (at_b d t).closed (at_f d t set).closed to_b.closed to_f.closed)
        (skips_fit 32 (skipped_at d t set) t now))

-- ---- Opening

zeros : (k n : ℕ) → TimeFits (get_or (replicate k 0) n 0)
zeros zero n = omega arith
zeros (suc k) zero = omega arith
zeros (suc k) (suc n) = zeros k n

pub opened_fits : (table : Table) (marked : ℕ) → StateFits (opened table marked)
unfolding opened
opened_fits table marked = record { releases = zeros 32; waits = zeros 32; phase = (tt, tt) }
