-- The state of the dispatcher, as the rules speak of it.
use Rattle.table.specs.declared.Table.{Table}
use Rattle.std.specs.Prelude.{Option, None, Some, List, ℕ}
use Rattle.entries.specs.declared.JobEntry.{JobEntry}
use Rattle.entries.specs.declared.IntervalEntry.{IntervalEntry}

-- the time of the last instant
pub data Clock : Type 0 where
  Unset : Clock
  At : (time : ℕ) → Clock

-- the jobs by task number: a release that was taken is pending until its copy-out ends, and ready while pending with no copy-in
-- under way, done or promoted
pub record Jobs : Type 0 where
  pub pending : ℕ
  pub ready : ℕ
  pub release : List ℕ
  pub blocked : List ℕ

-- 4/13: "Each task now holds one waiting release in the dispatcher's state": the tasks that have one, and its time by task number. 8/13
-- asks for a task's last release, also where none waits: the tasks that had one taken, whose last job's release time nothing clears
pub record WaitingReleases : Type 0 where
  pub tasks : ℕ
  pub times : List ℕ
  pub before : ℕ

-- what the processor does in the open interval, with the task, when its execution started and when its phase ends
pub data Processor : Type 0 where
  Idle : Processor
  CopyingIn : (task until : ℕ) → Processor
  Executing : (task start until : ℕ) → Processor
  Finished : (task start : ℕ) → Processor

-- what the engine copies out in the open interval, with the start of the execution that came before
pub data CopyOut : Type 0 where
  NoCopyOut : CopyOut
  CopyingOut : (task start until : ℕ) → CopyOut
  CopiedOut : (task : ℕ) → CopyOut

-- what the engine copies in in the open interval: the choice of it, and its fate. A copy-in that gave way to a marked release has the fate
-- 2 if it was under way and was cancelled, and 3 if it was finished and was thrown out.
pub data CopyIn : Type 0 where
  Unchosen : CopyIn
  NoneChosen : CopyIn
  Copying : (task until : ℕ) → CopyIn
  Loaded : (task : ℕ) → CopyIn
  Cancelled : (task fate : ℕ) → CopyIn

-- an open interval; `candidates` are the marked jobs released in it, of which one may be promoted at its end
pub record Interval : Type 0 where
  pub begin : ℕ
  pub work : ℕ
  pub processor : Processor
  pub copyout : CopyOut
  pub copyin : CopyIn
  pub candidates : ℕ

-- the job that the next interval executes
pub data Next : Type 0 where
  NoneNext : Next
  LoadedNext : (task : ℕ) → Next
  PromotedNext : (task : ℕ) → Next

-- the job that the last interval executed and that waits for its copy-out
pub data Outgoing : Type 0 where
  NoneOutgoing : Outgoing
  AwaitsCopyOut : (task start : ℕ) → Outgoing

-- no interval is open, or one is
pub data Phase : Type 0 where
  Between : (next : Next) (outgoing : Outgoing) → Phase
  Within : Interval → Phase

-- `half` is the processor's half in the open or the last interval, and 2 before the first, which swaps to 0
pub record State : Type 0 where
  pub table : Table
  pub marked : ℕ
  pub clock : Clock
  pub half : ℕ
  pub jobs : Jobs
  pub waiting : WaitingReleases
  pub phase : Phase

-- the interval that ended, if one did
pub data Closed : Type 0 where
  NoInterval : Closed
  Span : IntervalEntry → Closed

-- within an instant: the state after some of the steps, with what they did
pub record Stage : Type 0 where
  pub state : State
  pub done : Option JobEntry
  pub closed : Closed
