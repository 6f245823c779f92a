-- What happens at one instant, steps a to g, in this order. Where it applies a definition names its rule of R1 to R6.
use Rattle.rules.specs.Types.{Bool, true, false, cond, not, List, [], ℕ, suc, min, Table, Jobs, WaitingReleases, Option, None, Some, Processor, Idle, CopyingIn, Executing, Finished, CopyOut, NoCopyOut, CopyingOut, CopiedOut, CopyIn, Unchosen, NoneChosen, Copying, Loaded, Cancelled, Interval, Next, NoneNext, LoadedNext, PromotedNext, Outgoing, NoneOutgoing, AwaitsCopyOut, Phase, Between, Within, State, JobEntry, IntervalEntry, Closed, NoInterval, Span, Closing, Unclosed, BeforeReleases, AfterReleases, Occurred, Stage, ReleaseFates}
use Rattle.std.specs.Prelude.{eqb, ltb, get_or, ◌&&◌, ◌∷◌, ◌+◌, ◌-◌}
use Rattle.table.specs.Table.{copyin_length, execution_length, copyout_length, spacing}
use Rattle.sets.specs.Sets.{member, collect, union, intersection, difference, insert, remove}
use Rattle.rules.specs.With.{with_jobs, with_phase, with_ready, with_blocked, with_copyin, at_clock, later}
use Rattle.rules.specs.Order.{highest_of, outranks, higher}

-- a state in which no step has done anything yet
abbrev pub fresh_stage : State → Stage
fresh_stage d = record { state = d; done = None; closed = NoInterval }

-- ---- a. Phases that end now end. A copy-out's end completes its job.

-- the processor's own copy-in is followed by the execution
unfoldable pub processor_at : Table → ℕ → Processor → Processor
processor_at table t Idle = Idle
processor_at table t (CopyingIn n until) =
    cond (eqb until t) (Executing n t (later t (execution_length table.columns n))) (CopyingIn n until)
processor_at table t (Executing n start until) = cond (eqb until t) (Finished n start) (Executing n start until)
processor_at table t (Finished n start) = Finished n start

unfoldable pub copyout_at : ℕ → CopyOut → CopyOut
copyout_at t NoCopyOut = NoCopyOut
copyout_at t (CopyingOut n start until) = cond (eqb until t) (CopiedOut n) (CopyingOut n start until)
copyout_at t (CopiedOut n) = CopiedOut n

abbrev pub copyin_at : ℕ → CopyIn → CopyIn
copyin_at t Unchosen = Unchosen
copyin_at t NoneChosen = NoneChosen
copyin_at t (Copying n until) = cond (eqb until t) (Loaded n) (Copying n until)
copyin_at t (Loaded n) = Loaded n
copyin_at t (Cancelled n fate) = Cancelled n fate

unfoldable pub ended : Table → ℕ → Interval → Interval
ended table t i = record {
  begin = i.begin;
  work = i.work;
  processor = processor_at table t i.processor;
  copyout = copyout_at t i.copyout;
  copyin = copyin_at t i.copyin;
  candidates = i.candidates;
}

abbrev pub job_entry : Jobs → ℕ → ℕ → ℕ → JobEntry
job_entry j n start t = record { task = n; release = get_or j.release n 0; start = start; completion = t; blocked = get_or j.blocked n 0 }

-- the job whose copy-out ends now
unfoldable pub completed : Jobs → ℕ → CopyOut → Option JobEntry
completed j t NoCopyOut = None
completed j t (CopyingOut n start until) = cond (eqb until t) (Some (job_entry j n start t)) None
completed j t (CopiedOut n) = None

abbrev pub after_done : ℕ → Option JobEntry → ℕ
after_done s None = s
after_done s (Some e) = remove e.task s

-- a job is pending until its copy-out ends
unfoldable pub without_done : Jobs → Option JobEntry → Jobs
without_done j done = record { pending = after_done j.pending done; ready = j.ready; release = j.release; blocked = j.blocked }

unfoldable pub step_a : State → ℕ → Phase → Stage
step_a d t (Between next outgoing) = fresh_stage d
step_a d t (Within i) =
    let done : Option JobEntry = completed d.jobs t i.copyout in
    record {
      state = with_phase (with_jobs d (without_done d.jobs done)) (Within (ended d.table t i));
      done = done;
      closed = NoInterval;
    }

-- ---- b. If an interval is open, its processor is finished or idle, its copy-in choice has been made and no copy is under way, it ends.

abbrev pub resting : Processor → Bool
resting Idle = true
resting (CopyingIn n until) = false
resting (Executing n start until) = false
resting (Finished n start) = true

abbrev pub copying_out : CopyOut → Bool
copying_out NoCopyOut = false
copying_out (CopyingOut n start until) = true
copying_out (CopiedOut n) = false

-- the choice has been made, and its copy is not under way
abbrev pub settled : CopyIn → Bool
settled Unchosen = false
settled NoneChosen = true
settled (Copying n until) = false
settled (Loaded n) = true
settled (Cancelled n fate) = true

-- R6: both units are at their ends
abbrev pub over : Interval → Bool
over i = resting i.processor && (not (copying_out i.copyout) && settled i.copyin)

-- an interval is open and at its end
unfoldable pub is_over : Phase → Bool
is_over (Between next outgoing) = false
is_over (Within i) = over i

abbrev pub processor_task : Processor → Option ℕ
processor_task Idle = None
processor_task (CopyingIn n until) = Some n
processor_task (Executing n start until) = Some n
processor_task (Finished n start) = Some n

abbrev pub copyout_task : CopyOut → Option ℕ
copyout_task NoCopyOut = None
copyout_task (CopyingOut n start until) = Some n
copyout_task (CopiedOut n) = Some n

abbrev pub copyin_task : CopyIn → Option ℕ
copyin_task Unchosen = None
copyin_task NoneChosen = None
copyin_task (Copying n until) = Some n
copyin_task (Loaded n) = Some n
copyin_task (Cancelled n fate) = Some n

-- 0 none, 1 done, 2 cancelled, 3 thrown out
abbrev pub copyin_fate : CopyIn → ℕ
copyin_fate Unchosen = 0
copyin_fate NoneChosen = 0
copyin_fate (Copying n until) = 0
copyin_fate (Loaded n) = 1
copyin_fate (Cancelled n fate) = fate

-- R4: where the copy-in was cancelled or thrown out, or none was chosen, the highest-priority marked job released
-- in the interval and ready is promoted
unfoldable pub promoted : State → Interval → CopyIn → Option ℕ
promoted d i Unchosen = None
promoted d i NoneChosen = highest_of d (intersection i.candidates d.jobs.ready)
promoted d i (Copying n until) = None
promoted d i (Loaded n) = None
promoted d i (Cancelled n fate) = highest_of d (intersection i.candidates d.jobs.ready)

abbrev pub without_promoted : ℕ → Option ℕ → ℕ
without_promoted s None = s
without_promoted s (Some n) = remove n s

-- R5: the next interval executes the promoted job, else the loaded one, else none
abbrev pub next_of : CopyIn → Option ℕ → Next
next_of c (Some n) = PromotedNext n
next_of Unchosen None = NoneNext
next_of NoneChosen None = NoneNext
next_of (Copying n until) None = NoneNext
next_of (Loaded n) None = LoadedNext n
next_of (Cancelled n fate) None = NoneNext

-- R2: the job that was executed is copied out in the next interval
abbrev pub awaiting_copyout : Processor → Outgoing
awaiting_copyout Idle = NoneOutgoing
awaiting_copyout (CopyingIn n until) = NoneOutgoing
awaiting_copyout (Executing n start until) = NoneOutgoing
awaiting_copyout (Finished n start) = AwaitsCopyOut n start

-- the jobs released in the interval or before it that a later one executes
abbrev pub awaiting_execution : CopyIn → ℕ → ℕ
awaiting_execution Unchosen ready = ready
awaiting_execution NoneChosen ready = ready
awaiting_execution (Copying n until) ready = ready
awaiting_execution (Loaded n) ready = insert n ready
awaiting_execution (Cancelled n fate) ready = ready

-- blocked: such a job, where the processor executes a lower-priority one in the interval
unfoldable pub blocks : State → Interval → ℕ
blocks d i = higher d (processor_task i.processor) (awaiting_execution i.copyin d.jobs.ready)

-- one interval more for each task of a set, from task k on
unfoldable pub counted : ℕ → ℕ → List ℕ → List ℕ
counted s k [] = []
counted s k (x ∷ xs) = cond (member k s) (min (x + 1) 255) x ∷ counted s (suc k) xs

-- the state after an interval that ends, where the blocked intervals are counted already
unfoldable pub closed_with : State → Interval → Option ℕ → State
closed_with d i p =
    with_phase
    (with_jobs d (record {
      pending = d.jobs.pending;
      ready = without_promoted d.jobs.ready p;
      release = d.jobs.release;
      blocked = d.jobs.blocked;
    }))
    (Between (next_of i.copyin p) (awaiting_copyout i.processor))

unfoldable pub close : State → Interval → State
unfolding counted closed_with
close d i = closed_with (with_blocked d (counted (blocks d i) 0 d.jobs.blocked)) i (promoted d i i.copyin)

-- what is recorded of an interval that ends: its half, its end and the task promoted
unfoldable pub entry_with : ℕ → ℕ → Interval → Option ℕ → IntervalEntry
entry_with half t i p = record {
  begin = i.begin;
  end = t;
  half = half;
  task = processor_task i.processor;
  work = i.work;
  copiedout = copyout_task i.copyout;
  chosen = copyin_task i.copyin;
  fate = copyin_fate i.copyin;
  promoted = p;
}

unfoldable pub interval_entry : State → ℕ → Interval → IntervalEntry
unfolding entry_with
interval_entry d t i = entry_with d.half t i (promoted d i i.copyin)

unfoldable pub close_stage : Stage → ℕ → Interval → Bool → Stage
close_stage s t i false = s
close_stage s t i true = record { state = close s.state i; done = s.done; closed = Span (interval_entry s.state t i) }

unfoldable pub step_b : Stage → ℕ → Phase → Stage
step_b s t (Between next outgoing) = s
step_b s t (Within i) = close_stage s t i (over i)

-- ---- c. The releases of this instant are taken, wait or are skipped. Those that are taken belong to the open
-- interval, else to the one that step g begins.

-- 8/13: "the task's last release taken or set waiting", by its original time: that of the waiting one where one waits, else that of its
-- last job
unfoldable pub previous_release : State → ℕ → Option ℕ
previous_release d n =
    cond (member n d.waiting.tasks) (Some (get_or d.waiting.times n 0))
    (cond (member n d.waiting.before) (Some (get_or d.jobs.release n 0)) None)

-- "sooner than the spacing after" it; "a release exactly one spacing later passes"
abbrev pub comes_sooner : ℕ → ℕ → Option ℕ → Bool
comes_sooner t spacing None = false
comes_sooner t spacing (Some last) = ltb (t - last) spacing

-- of a set, the tasks whose release comes too soon: it "is skipped", before anything else is asked of it. "A task without one is not
-- tested."
unfoldable pub too_soon : State → ℕ → ℕ → ℕ
too_soon d t set =
    collect (λ n. member n set && (member n d.table.spaced && comes_sooner t (spacing d.table.columns n) (previous_release d n)))

-- the others pass
unfoldable pub passing : State → ℕ → ℕ → ℕ
passing d t set = difference set (too_soon d t set)

-- By the tasks with a pending job and those with a waiting release. "At the instant its job completes, step c takes the waiting one
-- before that instant's own releases": a waiting release of a task with no pending job any more
abbrev pub resumed : ℕ → ℕ → ℕ
resumed pending waiting = difference waiting pending

-- what the instant's own releases then find: the tasks with a pending job, and those with a release that goes on waiting
abbrev pub found_pending : ℕ → ℕ → ℕ
found_pending pending waiting = union pending (resumed pending waiting)

abbrev pub found_waiting : ℕ → ℕ → ℕ
found_waiting pending waiting = difference waiting (resumed pending waiting)

-- one of a task with no pending job is taken; one of a task with a pending job waits if none waits; and "only a release that finds one
-- waiting is skipped, so a release at the instant of taking waits in its turn"
unfoldable pub released : ℕ → ℕ → ℕ → ReleaseFates
released pending waiting set = record {
  taken = union (resumed pending waiting) (difference set (found_pending pending waiting));
  deferred = difference (intersection set (found_pending pending waiting)) (found_waiting pending waiting);
  skipped = intersection set (found_waiting pending waiting);
}

-- the same of a state
unfoldable pub taken : State → ℕ → ℕ
unfolding released
taken d set = (released d.jobs.pending d.waiting.tasks set).taken

unfoldable pub deferred : State → ℕ → ℕ
unfolding released
deferred d set = (released d.jobs.pending d.waiting.tasks set).deferred

unfoldable pub skipped : State → ℕ → ℕ
unfolding released
skipped d set = (released d.jobs.pending d.waiting.tasks set).skipped

-- the value of f for each task of a set, from task k on
unfoldable pub stamped : ℕ → (ℕ → ℕ) → ℕ → List ℕ → List ℕ
stamped s f k [] = []
stamped s f k (x ∷ xs) = cond (member k s) (f k) x ∷ stamped s f (suc k) xs

-- "The job entry shows the original time": that of the waiting release, else the present one
abbrev pub original : WaitingReleases → ℕ → ℕ → ℕ
original w t k = cond (member k w.tasks) (get_or w.times k 0) t

-- the marked ones are candidates for promotion in the interval that they belong to
unfoldable pub with_candidates : State → ℕ → Phase → Phase
with_candidates d taken (Between next outgoing) = Between next outgoing
with_candidates d taken (Within i) = Within (record {
  begin = i.begin;
  work = i.work;
  processor = i.processor;
  copyout = i.copyout;
  copyin = i.copyin;
  candidates = union i.candidates (intersection taken d.marked);
})

-- with the tasks whose release is taken, and those whose release waits from now on; a waiting release that is taken waits no more
unfoldable pub step_c : State → ℕ → ℕ → ℕ → State
unfolding stamped
step_c d t taken deferred = record {
  table = d.table;
  marked = d.marked;
  clock = d.clock;
  half = d.half;
  jobs = record {
    pending = union d.jobs.pending taken;
    ready = union d.jobs.ready taken;
    release = stamped taken (original d.waiting t) 0 d.jobs.release;
    blocked = stamped taken (λ k. 0) 0 d.jobs.blocked;
  };
  waiting = record {
    tasks = union (difference d.waiting.tasks taken) deferred;
    times = stamped deferred (λ k. t) 0 d.waiting.times;
    before = union d.waiting.before taken;
  };
  phase = with_candidates d taken d.phase;
}

-- the releases that belong to the interval that step g begins
abbrev pub held_over : Phase → ℕ → ℕ
held_over (Between next outgoing) taken = taken
held_over (Within i) taken = 0

-- ---- d. If a marked release was taken whose priority is higher than that of a copy-in under way on the engine, this copy-in is
-- cancelled and its job is ready again (R3). A marked release that is taken also throws out a lower-priority copy-in that the engine has
-- already finished in the open interval: its job is ready again, its fate is 3, and the interval counts as cancelled for promotion.

-- the copy-in of task n gives way, or stays: to the highest marked one, of which the priority alone is compared, so that none of equal
-- priority makes it give way (6/13)
unfoldable pub cancel : State → Interval → ℕ → ℕ → Bool → State
cancel d i n fate false = d
cancel d i n fate true = with_phase (with_ready d (insert n d.jobs.ready)) (Within (with_copyin i (Cancelled n fate)))

unfoldable pub cancel_by : State → ℕ → Interval → CopyIn → State
cancel_by d taken i Unchosen = d
cancel_by d taken i NoneChosen = d
cancel_by d taken i (Copying n until) = cancel d i n 2 (outranks d n (highest_of d (intersection taken d.marked)))
cancel_by d taken i (Loaded n) = cancel d i n 3 (outranks d n (highest_of d (intersection taken d.marked)))
cancel_by d taken i (Cancelled n fate) = d

unfoldable pub step_d : State → ℕ → Phase → State
step_d d taken (Between next outgoing) = d
step_d d taken (Within i) = cancel_by d taken i i.copyin

-- ---- e. If an interval is open, the engine is free and the choice has not been made, it is made: the highest-priority ready job
-- begins copy-in, or none does (R2). It is made once an interval.

unfoldable pub choose : State → ℕ → Interval → Option ℕ → State
choose d t i None = with_phase d (Within (with_copyin i NoneChosen))
choose d t i (Some n) =
    with_phase (with_ready d (remove n d.jobs.ready))
    (Within (with_copyin i (Copying n (later t (copyin_length d.table.columns n)))))

unfoldable pub choose_if : State → ℕ → Interval → CopyIn → State
choose_if d t i Unchosen = cond (copying_out i.copyout) d (choose d t i (highest_of d d.jobs.ready))
choose_if d t i NoneChosen = d
choose_if d t i (Copying n until) = d
choose_if d t i (Loaded n) = d
choose_if d t i (Cancelled n fate) = d

unfoldable pub step_e : State → ℕ → Phase → State
step_e d t (Between next outgoing) = d
step_e d t (Within i) = choose_if d t i i.copyin

-- ---- f. The test of step b again.

abbrev pub step_f : State → ℕ → Stage
step_f d t = step_b (fresh_stage d) t d.phase

-- ---- Steps c to f

-- steps c and d, with the tasks whose release is taken and those whose release waits
unfoldable pub steps_c_d : State → ℕ → ℕ → ℕ → State
steps_c_d d t taken deferred =
    let c : State = step_c d t taken deferred in
    step_d c taken c.phase

unfoldable pub steps_c_to_e : State → ℕ → ℕ → ℕ → State
unfolding steps_c_d
steps_c_to_e d t taken deferred =
    let x : State = steps_c_d d t taken deferred in
    step_e x t x.phase

-- what they leave, and the interval that ends at step f
unfoldable pub steps_c_to_f : State → ℕ → ℕ → ℕ → Stage
steps_c_to_f d t taken deferred = step_f (steps_c_to_e d t taken deferred) t

-- ---- g. If no interval is open and some job is loaded, promoted, ready or waiting for copy-out, an interval begins.

abbrev pub wanted : Next → Outgoing → ℕ → Bool
wanted NoneNext NoneOutgoing ready = not (eqb ready 0)
wanted NoneNext (AwaitsCopyOut n start) ready = true
wanted (LoadedNext n) l ready = true
wanted (PromotedNext n) l ready = true

-- R5: the processor copies in and then executes the promoted job; else it executes the loaded one; else it idles
abbrev pub begin_processor : Table → ℕ → Next → Processor
begin_processor table t NoneNext = Idle
begin_processor table t (LoadedNext n) = Executing n t (later t (execution_length table.columns n))
begin_processor table t (PromotedNext n) = CopyingIn n (later t (copyin_length table.columns n))

-- 0 idle, 1 execute, 2 copy in and execute
abbrev pub work_of : Next → ℕ
work_of NoneNext = 0
work_of (LoadedNext n) = 1
work_of (PromotedNext n) = 2

-- R2: the engine copies out the job executed in the interval before
abbrev pub begin_copyout : Table → ℕ → Outgoing → CopyOut
begin_copyout table t NoneOutgoing = NoCopyOut
begin_copyout table t (AwaitsCopyOut n start) = CopyingOut n start (later t (copyout_length table.columns n))

-- R1: the halves swap
unfoldable pub begin : State → ℕ → ℕ → Next → Outgoing → State
begin d t taken next outgoing =
    record {
      table = d.table;
      marked = d.marked;
      clock = d.clock;
      half = 1 - d.half;
      jobs = d.jobs;
      waiting = d.waiting;
      phase = Within (record {
        begin = t;
        work = work_of next;
        processor = begin_processor d.table t next;
        copyout = begin_copyout d.table t outgoing;
        copyin = Unchosen;
        candidates = intersection taken d.marked;
      });
    }

-- without a copy-out the choice is made now
unfoldable pub step_g : State → ℕ → ℕ → Phase → State
unfolding step_e
step_g d t taken (Within i) = d
step_g d t taken (Between next outgoing) =
    let b : State = begin d t taken next outgoing in
    cond (wanted next outgoing d.jobs.ready) (step_e b t b.phase) d

-- ---- The next due time: when the next phase ends

unfoldable pub sooner : Option ℕ → Option ℕ → Option ℕ
sooner None b = b
sooner (Some a) None = Some a
sooner (Some a) (Some b) = Some (min a b)

abbrev pub processor_due : Processor → Option ℕ
processor_due Idle = None
processor_due (CopyingIn n until) = Some until
processor_due (Executing n start until) = Some until
processor_due (Finished n start) = None

abbrev pub copyout_due : CopyOut → Option ℕ
copyout_due NoCopyOut = None
copyout_due (CopyingOut n start until) = Some until
copyout_due (CopiedOut n) = None

abbrev pub copyin_due : CopyIn → Option ℕ
copyin_due Unchosen = None
copyin_due NoneChosen = None
copyin_due (Copying n until) = Some until
copyin_due (Loaded n) = None
copyin_due (Cancelled n fate) = None

unfoldable pub due : Phase → Option ℕ
due (Between next outgoing) = None
due (Within i) = sooner (processor_due i.processor) (sooner (copyout_due i.copyout) (copyin_due i.copyin))

-- ---- The instant: the state after the steps up to each letter

unfoldable pub at_a : State → ℕ → Stage
at_a d t = step_a (at_clock d t) t d.phase

unfoldable pub at_b : State → ℕ → Stage
at_b d t = let a : Stage = at_a d t in step_b a t a.state.phase

unfoldable pub taken_at : State → ℕ → ℕ → ℕ
taken_at d t set = let b : State = (at_b d t).state in taken b (passing b t set)

unfoldable pub deferred_at : State → ℕ → ℕ → ℕ
deferred_at d t set = let b : State = (at_b d t).state in deferred b (passing b t set)

unfoldable pub skipped_at : State → ℕ → ℕ → ℕ
skipped_at d t set = let b : State = (at_b d t).state in union (too_soon b t set) (skipped b (passing b t set))

unfoldable pub at_e : State → ℕ → ℕ → State
unfolding steps_c_to_e
at_e d t set = steps_c_to_e (at_b d t).state t (taken_at d t set) (deferred_at d t set)

unfoldable pub at_f : State → ℕ → ℕ → Stage
at_f d t set = step_f (at_e d t set) t

unfoldable pub at_g : State → ℕ → ℕ → State
at_g d t set =
    let b : State = (at_b d t).state in
    let f : State = (at_f d t set).state in
    step_g f t (held_over b.phase (taken_at d t set)) f.phase

-- the interval that closed, of what steps b and f left
abbrev pub closing : Closed → Closed → Closing
closing (Span e) f = BeforeReleases e
closing NoInterval NoInterval = Unclosed
closing NoInterval (Span e) = AfterReleases e

-- what occurred
unfoldable pub occurred : State → ℕ → ℕ → Occurred
occurred d t set = record {
  done = (at_b d t).done;
  closed = closing (at_b d t).closed (at_f d t set).closed;
  skipped = skipped_at d t set;
  due = due (at_g d t set).phase;
}
