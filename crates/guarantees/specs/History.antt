-- What the instant list makes of the task entries and of the calls that meet no refusal: the history of a run, event by event,
-- in the order in which the events occur. Each event is read off the steps a to g of an instant. A refused call leaves none.
use Rattle.guarantees.specs.Types.{Bool, cond, List, [], ℕ, zero, suc, Option, JobEntry, None, Some, Processor, Idle, CopyingIn, Executing, Finished, CopyIn, Unchosen, NoneChosen, Copying, Loaded, Cancelled, Phase, Between, Within, State, Call, Instant}
use Rattle.std.specs.Prelude.{eqb, ◌≡◌, ◌∷◌, ◌++◌}
use Rattle.sets.specs.Sets.{member}
use Rattle.rules.specs.Instant.{at_a, at_b, at_e, at_f, at_g, taken_at, deferred_at, due, processor_task, copyout_task}
use Rattle.rules.specs.Calls.{row, serves, after_call}

pub data Event : Type 0 where
  Comes : ℕ → Event  -- an instant that is served, at a time
  Starts : ℕ → ℕ → Event  -- a, g: a task's job starts to execute, at a time
  Stops : ℕ → ℕ → Event  -- a: the execution of a task's job ends, at a time
  Finishes : ℕ → Event  -- a: the engine has copied a task's job in
  Completes : ℕ → ℕ → Event  -- a: a task's job is copied out, at a time
  Ends : ℕ → Event  -- b, f: the open interval ends, at a time
  Takes : ℕ → ℕ → Bool → Event  -- c: a task's release is taken, at a time, the task then marked or not
  Defers : ℕ → ℕ → Event  -- c: a task's release waits from now on, at a time
  GivesWay : ℕ → Event  -- d: the engine's copy-in of a task's job, under way or finished, gives way to a marked release
  Begins : ℕ → Option ℕ → Option ℕ → Event  -- g: an interval begins, at a time: the task that it executes, and the one that it copies out

-- ---- One instant

-- a. a phase of the processor that ends now: its own copy-in, which the execution follows, or an execution
unfoldable pub processor_events : ℕ → Processor → List Event
processor_events t Idle = []
processor_events t (CopyingIn n until) = cond (eqb until t) (Starts n t ∷ []) []
processor_events t (Executing n start until) = cond (eqb until t) (Stops n t ∷ []) []
processor_events t (Finished n start) = []

unfoldable pub processor_events_in : ℕ → Phase → List Event
processor_events_in t (Between next outgoing) = []
processor_events_in t (Within i) = processor_events t i.processor

-- a copy-in under way on the engine that ends now
unfoldable pub finish_events : ℕ → CopyIn → List Event
finish_events t Unchosen = []
finish_events t NoneChosen = []
finish_events t (Copying n until) = cond (eqb until t) (Finishes n ∷ []) []
finish_events t (Loaded n) = []
finish_events t (Cancelled n fate) = []

unfoldable pub finish_events_in : ℕ → Phase → List Event
finish_events_in t (Between next outgoing) = []
finish_events_in t (Within i) = finish_events t i.copyin

-- and the job that step a completes
unfoldable pub completion_events : Option JobEntry → List Event
completion_events None = []
completion_events (Some e) = Completes e.task e.completion ∷ []

-- b, f. an interval is open before the step and none is after it
unfoldable pub end_events : ℕ → Phase → Phase → List Event
end_events t (Between next outgoing) after = []
end_events t (Within i) (Between next outgoing) = Ends t ∷ []
end_events t (Within i) (Within j) = []

-- c. the jobs that are taken, of the tasks below a number
unfoldable pub take_events : ℕ → ℕ → ℕ → ℕ → List Event
take_events zero taken marked t = []
take_events (suc k) taken marked t = take_events k taken marked t ++ cond (member k taken) (Takes k t (member k marked) ∷ []) []

-- and the releases of tasks below a number that wait from now on
unfoldable pub defer_events : ℕ → ℕ → ℕ → List Event
defer_events zero deferred t = []
defer_events (suc k) deferred t = defer_events k deferred t ++ cond (member k deferred) (Defers k t ∷ []) []

-- d. a copy-in that had not given way before the step and has after it
abbrev pub given_way : CopyIn → Option ℕ
given_way Unchosen = None
given_way NoneChosen = None
given_way (Copying n until) = None
given_way (Loaded n) = None
given_way (Cancelled n fate) = Some n

unfoldable pub giving_events : Option ℕ → Option ℕ → List Event
giving_events None None = []
giving_events None (Some n) = GivesWay n ∷ []
giving_events (Some n) after = []

unfoldable pub giving_events_in : Phase → Phase → List Event
giving_events_in (Between next outgoing) after = []
giving_events_in (Within i) (Between next outgoing) = []
giving_events_in (Within i) (Within j) = giving_events (given_way i.copyin) (given_way j.copyin)

-- g. no interval is open before the step and one is after it
unfoldable pub begin_events : ℕ → Phase → Phase → List Event
begin_events t (Within i) after = []
begin_events t (Between next outgoing) (Between next' outgoing') = []
begin_events t (Between next outgoing) (Within j) = Begins t (processor_task j.processor) (copyout_task j.copyout) ∷ []

-- and an execution starts with it, if the processor does not copy in first
unfoldable pub execution_events : ℕ → Processor → List Event
execution_events t Idle = []
execution_events t (CopyingIn n until) = []
execution_events t (Executing n start until) = Starts n t ∷ []
execution_events t (Finished n start) = []

unfoldable pub start_events : ℕ → Phase → Phase → List Event
start_events t (Within i) after = []
start_events t (Between next outgoing) (Between next' outgoing') = []
start_events t (Between next outgoing) (Within j) = execution_events t j.processor

-- what occurs at an instant that is served
unfoldable pub happens : State → ℕ → ℕ → List Event
happens d t set =
    Comes t
    ∷ (processor_events_in t d.phase
    ++ (finish_events_in t d.phase
    ++ (completion_events (at_a d t).done
    ++ (end_events t (at_a d t).state.phase (at_b d t).state.phase
    ++ (take_events 32 (taken_at d t set) d.marked t
    ++ (defer_events 32 (deferred_at d t set) t
    ++ (giving_events_in (at_b d t).state.phase (at_e d t set).phase
    ++ (end_events t (at_e d t set).phase (at_f d t set).state.phase
    ++ (begin_events t (at_f d t set).state.phase (at_g d t set).phase
    ++ start_events t (at_f d t set).state.phase (at_g d t set).phase)))))))))

-- ---- A list of calls

-- what occurs by a call
unfoldable pub by_call : State → Call → List Event
by_call d c = cond (serves d c) (happens d (row c).time (row c).hands) []

-- each call gets the state that the call before it handed back
unfoldable pub after_calls : State → List Call → State
after_calls d [] = d
after_calls d (c ∷ cs) = after_calls (after_call d c) cs

unfoldable pub history : State → List Call → List Event
history d [] = []
history d (c ∷ cs) = by_call d c ++ history (after_call d c) cs

-- the calls hand in an empty set at each due time until none is left
unfoldable pub EmptySets : State → List Call → Type 0
EmptySets d [] = due d.phase ≡ None
EmptySets d (c ∷ cs) = ((t : ℕ) × (due d.phase ≡ Some t) × (c ≡ Instant t 0)) × EmptySets (after_call d c) cs
