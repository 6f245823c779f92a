-- Demand 3: the claim about a whole list of instants and mark calls. What stands between quotation marks is the demand, or document 01,
-- "The dispatcher by instants", second paragraph; below each quotation stands what it says of a history (History, Queries).
use Rattle.guarantees.specs.Types.{Bool, true, false, cond, List, [], ℕ, Table, Option, None, Some, State, Call, Instant}
use Rattle.std.specs.Prelude.{leb, get_or, length, ◌≡◌, ◌∷◌, ◌++◌, ◌+◌, ◌*◌, ◌≤◌, ◌<◌, Ok}
use Rattle.sets.specs.Sets.{member, size}
use Rattle.table.specs.Table.{copyin_length, execution_length, copyout_length}
use Rattle.rules.specs.Instant.{previous_release}
use Rattle.rules.specs.Calls.{opening, refusal}
use Rattle.guarantees.specs.History.{Event, Starts, Stops, Completes, Ends, Takes, Defers, GivesWay, Begins, history, after_calls, EmptySets}
use Rattle.guarantees.specs.Pending.{place, OneAtATime, InTime, step_by, step}
use Rattle.guarantees.specs.Releases.{Spaced}
use Rattle.guarantees.specs.Intervals.{Proceeds, came, Cause}
use Rattle.guarantees.specs.Copying.{Copies}
use Rattle.guarantees.specs.Entries.{EntriesTell}
use Rattle.guarantees.specs.Figure.{Figure}
use Rattle.guarantees.specs.Counting.{CountsRise}
use Rattle.guarantees.specs.Choosing.{FirstCome}
use Rattle.guarantees.specs.States.{PlainState}
use Rattle.guarantees.specs.Queries.{is_task, comes, Situation, NoneOpen, situation, Latest, none_yet, latest, loaded, Execution, not_yet, execution, intervals, met, end_tick, begin_tick, copied_out, taking, start, stop, completion, since, last_released, last_instant, is_take, is_begin, is_completion, total}

-- ---- The order

module _ (priority : List ℕ) (n : ℕ) where
  -- a job of lower priority than task n's: of a greater number. One of equal priority is not lower (6/13)
  abbrev pub Lower : Option ℕ → Type 0
  Lower None = ⊥
  Lower (Some k) = get_or priority n 0 < get_or priority k 0

  -- 6/13: "Where the demands say a higher-priority job runs, read one that is not lower."
  abbrev pub NotLower : Option ℕ → Type 0
  NotLower None = ⊥
  NotLower (Some k) = get_or priority k 0 ≤ get_or priority n 0

  -- a job of task n, marked or not, with its intervals: interval i, counted from 0, is get_or met i None
  pub record InOrder (marked : Bool) (met : List (Option ℕ)) : Type 0 where
    -- "From its release to the start of its execution a lower-priority job executes in none but the first two intervals, counting the
    -- one that holds the release." The tick of that start, in the last of its intervals, is said below (`Executed`).
    pub lower_in_two : (i : ℕ) → 2 ≤ i → i < length met → Lower (get_or met i None) → ⊥
    -- "In each from the third on, up to the one that executes it, the processor runs this job or a higher-priority one": one that is not
    -- lower, which this job is too
    pub third_on : (i : ℕ) → 2 ≤ i → i < length met → NotLower (get_or met i None)
    -- 2/13: "From here on a marked job meets a lower-priority one in its first interval only, without the old condition."
    pub marked_in_one : marked ≡ true → (i : ℕ) → 1 ≤ i → i < length met → Lower (get_or met i None) → ⊥

-- ---- The execution of a job

-- a tick, if the last instant has reached it
abbrev pub if_reached : ℕ → ℕ → Option ℕ
if_reached last u = cond (leb u last) (Some u) None

-- a job of task n, where an interval that executes it has begun at t, and what occurs from then on; `copied` is the task that the engine
-- has copied in in the interval before and that has not given way, and L and C are the lengths of the job's copy-in and execution
pub record Executed (L C n t : ℕ) (copied : Option ℕ) (after : List Event) : Type 0 where
  -- "The processor copies in and then executes the promoted job; else it executes the loaded one": the loaded one, which the engine has
  -- copied in, starts with its interval,
  pub loaded_starts : is_task n copied ≡ true → start n after ≡ Some t
  -- and the promoted one L ticks later, since "a phase lasts exactly its table length", as far as the list reaches;
  pub promoted_starts : is_task n copied ≡ false → start n after ≡ if_reached (last_instant t after) (t + L)
  -- and for the same reason an execution ends C ticks after its start
  pub execution_ends : (s : ℕ) → start n after ≡ Some s → stop n after ≡ if_reached (last_instant t after) (s + C)

-- ---- The copy-out of an executed job

-- a job of task n, where an interval that executes it has begun at t, and what occurs from then on; U is its copy-out's length
pub record CopiedOut (U n t : ℕ) (after : List Event) : Type 0 where
  -- "An executed job's copy-out begins on the tick on which its interval ends and the next begins,"
  pub copyout_begins : (e : ℕ) → end_tick after ≡ Some e → (begin_tick after ≡ Some e) × (copied_out after ≡ Some n)
  -- "and completes the job U ticks later, each as far as the list or the empty sets after it reach."
  pub copyout_ends : (e : ℕ) → end_tick after ≡ Some e → completion n after ≡ if_reached (last_instant t after) (e + U)

-- ---- The claim of a history

-- for the tasks of a table
pub record Holds (table : Table) (history : List Event) : Type 0 where
  -- "this holds of each job taken, whatever is released when"; "A job is marked if its task was at the release." 4/13: a job is counted
  -- from its taking, which belongs to an interval as a release of that instant does; its mark cannot have changed since its release.
  pub each_job : (before after : List Event) (n t : ℕ) (marked : Bool) → history ≡ before ++ (Takes n t marked ∷ after) →
      let at : Situation = situation NoneOpen before in InOrder table.priority n marked (met n at (intervals after))
  -- "If no interval is open and some job is loaded, promoted, ready or waiting for copy-out, an interval begins": a job that is taken while
  -- none is open is ready, so that one begins on this tick
  pub each_taking : (before after : List Event) (n t : ℕ) (marked : Bool) → history ≡ before ++ (Takes n t marked ∷ after) →
      situation NoneOpen before ≡ NoneOpen → begin_tick after ≡ Some t
  -- an execution starts with its interval, or, of a promoted job, L ticks later, and lasts C ticks
  pub each_execution : (before after : List Event) (n t : ℕ) (l : Option ℕ) → history ≡ before ++ (Begins t (Some n) l ∷ after) →
      Executed (copyin_length table.columns n) (execution_length table.columns n) n t (loaded None before) after
  -- one interval is open at a time; each executes the job promoted at the end of the one before it, the highest of the marked ones taken
  -- in that one; else the loaded one
  pub each_interval : Proceeds table.priority history
  -- the engine copies in the highest-priority ready job of when it becomes free, for as long as the table says, and then its interval ends
  pub each_copyin : Copies table.priority table.columns history
  -- and a copy-in gives way only to a marked job taken at that instant, of strictly higher priority
  pub each_cause : (before after : List Event) (n : ℕ) → history ≡ before ++ (GivesWay n ∷ after) → Cause table.priority (came before) n
  -- nothing else starts to execute: the open interval executes the job, and its execution has not started before
  pub each_start : (before after : List Event) (n s : ℕ) → history ≡ before ++ (Starts n s ∷ after) →
      let x : Latest = latest none_yet before in (x.executed ≡ Some n) × (x.ended ≡ None) × ((execution not_yet before).started ≡ None)
  -- and nothing else stops: the open interval executes the job, and its execution has started C ticks before and has not stopped since
  pub each_stop : (before after : List Event) (n u : ℕ) → history ≡ before ++ (Stops n u ∷ after) →
      let x : Latest = latest none_yet before in let y : Execution = execution not_yet before in
      (s : ℕ) × (x.executed ≡ Some n) × (x.ended ≡ None) × (y.started ≡ Some s) × (y.stopped ≡ None) ×
      (u ≡ s + execution_length table.columns n)
  -- "An interval ends at the later of its two units' ends (R6)": not before its execution has ended, nor its engine's copies, and not later
  -- than both (`Copies`)
  pub each_end : (before after : List Event) (n e : ℕ) → history ≡ before ++ (Ends e ∷ after) → (latest none_yet before).executed ≡ Some n →
      (s : ℕ) × ((execution not_yet before).stopped ≡ Some s)
  -- and the next one begins on that tick where a job is loaded, promoted or ready: one that was taken and that no interval has executed
  pub each_next : (before after : List Event) (n e : ℕ) → n < 32 → history ≡ before ++ (Ends e ∷ after) → place n before ≡ 1 →
      begin_tick after ≡ Some e
  -- "Each executed job is copied out first thing in the next interval."
  pub each_executed : (before after : List Event) (n t : ℕ) (l : Option ℕ) → history ≡ before ++ (Begins t (Some n) l ∷ after) →
      CopiedOut (copyout_length table.columns n) n t after
  -- nothing else is copied out: an interval that copies a job out begins on the tick on which the one before, which executed it, ended
  pub each_copyout : (before after : List Event) (n b : ℕ) (r : Option ℕ) → history ≡ before ++ (Begins b r (Some n) ∷ after) →
      let x : Latest = latest none_yet before in (x.executed ≡ Some n) × (x.ended ≡ Some b)
  -- and nothing else completes a job: the open interval copies it out, and has begun U ticks before
  pub each_completion : (before after : List Event) (n c : ℕ) → history ≡ before ++ (Completes n c ∷ after) →
      let x : Latest = latest none_yet before in
      (b : ℕ) × (x.begun ≡ Some b) × (x.ended ≡ None) × (x.out ≡ Some n) × (c ≡ b + copyout_length table.columns n)
  -- a task has one pending job at a time, each taken, executed, copied out and completed once; 4/13: and one release that waits behind it
  pub each_task : (n : ℕ) → OneAtATime n history
  -- 8/13: a task with a spacing has its releases that far apart
  pub each_spacing : (n : ℕ) → n < 32 → member n table.spaced ≡ true → Spaced n table history
  -- what occurs at an instant says its tick
  pub in_time : InTime history
  -- and "what happens at one instant" happens "in this order": nothing belongs to a step before one that was reached
  pub each_step : (before after : List Event) (e : Event) → history ≡ before ++ (e ∷ after) → comes e ≡ false →
      step before ≤ step_by (step before) e
  -- "Where N jobs were taken, at most 3 × N intervals have begun"; "N is the number of releases taken in
  -- the list", at once or after waiting
  pub at_most_three : total is_begin history ≤ 3 * total is_take history
  -- 7/13: the intervals of each job, how long an interval lasts, and by when each job completes
  pub figure : Figure table history

-- a job of task n that was taken, and what occurs from then on: it executes and completes
pub record Completed (n : ℕ) (after : List Event) : Type 0 where
  pub started : ℕ
  pub starts : start n after ≡ Some started
  pub done : ℕ
  pub completes : completion n after ≡ Some done

-- a release of task n that was set waiting, and what occurs from then on: it is the next of its task to be taken, at the tick of the
-- next completion of a job of its task, and its own job executes and completes
pub record TakenLater (n : ℕ) (after : List Event) : Type 0 where
  pub between : List Event
  pub later : List Event
  pub tick : ℕ
  pub marked : Bool
  pub is_taken : after ≡ between ++ (Takes n tick marked ∷ later)
  pub next_taken : taking n between ≡ None
  pub at_completion : completion n between ≡ Some tick
  pub completed : Completed n later

-- "complete every job": each has its execution and its completion after its taking
pub record AllCompleted (history : List Event) : Type 0 where
  pub each : (before after : List Event) (n t : ℕ) (marked : Bool) → history ≡ before ++ (Takes n t marked ∷ after) → Completed n after
  pub as_many : total is_completion history ≡ total is_take history
  -- 4/13: "every waiting release is executed once empty sets at the due times leave none due"
  pub each_deferred : (before after : List Event) (n t : ℕ) → history ≡ before ++ (Defers n t ∷ after) → TakenLater n after

-- ---- The claim

-- of a list of calls, instants and mark calls, refused ones included, that starts from a state that opening returned
pub record Claim (d : State) (calls : List Call) : Type 0 where
  pub of_the_list : Holds d.table (history d calls)
  -- and what the calls answer of jobs and intervals is what the history has of them
  pub entries : EntriesTell d calls
  -- "empty sets at the due times that follow": these come to an end
  pub come_to_an_end : (rest : List Call) × EmptySets (after_calls d calls) rest
  -- the same holds of the list with them, so that all of it is said "as far as the list or the empty sets after it reach"
  pub with_empty_sets : (rest : List Call) → EmptySets (after_calls d calls) rest → Holds d.table (history d (calls ++ rest))
  -- "Once empty sets have been handed in at each due time until none is left, nothing is pending."
  pub nothing_pending : (rest : List Call) → EmptySets (after_calls d calls) rest → (after_calls d (calls ++ rest)).jobs.pending ≡ 0
  pub complete_every_job : (rest : List Call) → EmptySets (after_calls d calls) rest → AllCompleted (history d (calls ++ rest))
  -- 4/13: and nothing waits
  pub nothing_waits : (rest : List Call) → EmptySets (after_calls d calls) rest → (after_calls d (calls ++ rest)).waiting.tasks ≡ 0
  -- so that N of the list with them is that of the list and one for each release that waits at its end
  pub waiting_taken : (rest : List Call) → EmptySets (after_calls d calls) rest
      → total is_take (history d (calls ++ rest)) ≡ total is_take (history d calls) + size (after_calls d calls).waiting.tasks
  -- 3/13: at an instant that is served from the state after the list, a pending job's count rises exactly where its task is in the set
  pub counts : (t set : ℕ) → refusal (after_calls d calls) t set ≡ 0 → CountsRise (after_calls d calls) t set
  -- and no time and no count of that state comes near the end of its type
  pub plain : PlainState (after_calls d calls)
  -- 8/13: what that state has as a task's last release is the last of the history that was taken or set waiting
  pub last_releases : (n : ℕ) → n < 32 → previous_release (after_calls d calls) n ≡ last_released n (history d calls)
  -- 6/13: at each instant of the list that is served the engine chooses the first of the ready jobs, by the history's original times
  pub first_come : (before after : List Call) (t set : ℕ) → calls ≡ before ++ (Instant t set ∷ after)
      → refusal (after_calls d before) t set ≡ 0
      → FirstCome (after_calls d before) t set (since (history d (before ++ (Instant t set ∷ []))))

-- "Demand 3 is a single claim about a whole list of instants and mark calls, and not one for each call. The list starts from the state
-- that opening returned, for any table it serves."
unfoldable pub Demand3 : Type 0
Demand3 = (bytes : List ℕ) (d : State) → opening bytes ≡ Ok d → (calls : List Call) → Claim d calls
