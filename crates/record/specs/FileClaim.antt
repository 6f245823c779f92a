-- Demand 3 for files: the claim about the run of every file that is accepted. What stands between quotation marks is document 01; beside
-- each quotation stands what it says of a run.
use Rattle.std.specs.Prelude.{◌≡◌, ◌<◌, length, take, eqb, ◌∷◌, ◌++◌, ◌+◌}
use Rattle.record.specs.Types.{true, cond, List, [], ℕ, Release, Head, State, Option, JobEntry, None, Some, Occurred, Outcome, Ok}
use Rattle.sets.specs.Sets.{bit}
use Rattle.entries.specs.Limits as limits
use Rattle.table.specs.Head.{head_read, head_of}
use Rattle.rules.specs.Instant.{due, sooner}
use Rattle.rules.specs.Calls.{opened, opening, row, serves, after_call}
use Rattle.rules.specs.declared.Call.{Call}
use Rattle.rules.specs.declared.Call.TheVariants.{Instant}
use Rattle.guarantees.specs.History.{after_calls, history}
use Rattle.guarantees.specs.Queries.{total, is_take}
use Rattle.guarantees.specs.Releases.{Balance}
use Rattle.guarantees.specs.Intervals.{no_course, ended}
use Rattle.guarantees.specs.Entries.{skips, done, completions, closed}
use Rattle.guarantees.specs.Claim.{Claim, AllCompleted}
use Rattle.guarantees.specs.Requests.{Request, fresh, calls_made}
use Rattle.record.specs.Requests.{answers_to, by_commits}
use Rattle.run.specs.Files.{Releases, releases_of}
use Rattle.run.specs.Run.{Moment, moment, first_time, released_at, released_after, moments_of}
use Rattle.record.specs.Writing.{WroteInNumbers, file}

-- ---- The calls that feed a file to the dispatcher by instants

-- "Feeding a file's releases and all due times, with no mark call": each call is an instant at the sooner of the next release and the next
-- due time, with the set released then, until no release is left and nothing is due
unfoldable pub Feeds : State → List Release → List Call → Type 0
Feeds d rs [] = (rs ≡ []) × (due d.phase ≡ None)
Feeds d rs (c ∷ cs) =
    (t : ℕ) × (sooner (first_time rs) (due d.phase) ≡ Some t) × (c ≡ Instant t (released_at t rs)) ×
    Feeds (after_call d c) (released_after t rs) cs

-- what calls answer: the instants that are served, with what occurred and the state that they hand back
unfoldable pub answers : State → List Call → List Moment
answers d [] = []
answers d (c ∷ cs) = cond (serves d c) (moment d (row c).time (row c).hands ∷ []) [] ++ answers (after_call d c) cs

-- what occurred at each
unfoldable pub occurrences : List Moment → List Occurred
occurrences [] = []
occurrences (m ∷ ms) = m.occurred ∷ occurrences ms

-- each is an instant that meets no row of the refusals
unfoldable pub AllServed : State → List Call → Type 0
AllServed d [] = Unit {0}
AllServed d (c ∷ cs) = ((row c).is_instant ≡ true) × ((row c).number d ≡ 0) × AllServed (after_call d c) cs

-- ---- How many jobs a record has, and how many releases a file

abbrev pub is_job : Option JobEntry → ℕ
is_job None = 0
is_job (Some e) = 1

-- kind 16
unfoldable pub jobs_done : List Moment → ℕ
jobs_done [] = 0
jobs_done (m ∷ ms) = is_job m.occurred.done + jobs_done ms

-- how many of some releases are task n's
unfoldable pub of_task : ℕ → List Release → ℕ
of_task n [] = 0
of_task n (r ∷ rs) = bit (eqb n r.task) + of_task n rs

-- ---- The claim

-- of the calls that feed the releases rs to the dispatcher d, where the file's run has the moments ms
pub record FedClaim (d : State) (rs : List Release) (ms : List Moment) (calls : List Call) : Type 0 where
  -- "A call that meets no row is served": every one of them is
  pub all_served : AllServed d calls
  -- "gives its record": what they answer is what the record is made of
  pub gives_record : answers d calls ≡ ms
  -- 9/13: "sessions made of commits give the same record as before", and so do all requests that come to these calls, whatever
  -- enquiries and refused commits are among them
  pub by_commits_too : answers_to (fresh d) (by_commits (fresh d) calls) ≡ ms
  pub by_requests : (requests : List Request) → calls_made (fresh d) requests ≡ calls → answers_to (fresh d) requests ≡ ms
  -- no run is cut off: it has fewer instants than its budget
  pub within_budget : length calls < limits.budget (length rs)
  -- demand 3 of this list of calls, "lists of calls and files alike", and that what each entry of a job says is true (`entries`)
  pub claim : Claim d calls
  -- "The record has kind 16 at step a": one entry for each job that completes, in their order,
  pub each_done : done (occurrences ms) ≡ completions (history d calls)
  -- "kind 17 at the interval's end": and one for each interval that ended, in their order, with all that it says
  pub each_interval : closed (occurrences ms) ≡ ended d.table.priority no_course (history d calls)
  -- "The run goes on until nothing is pending."
  pub nothing_pending : (after_calls d calls).jobs.pending ≡ 0
  -- 4/13: and nothing waits
  pub nothing_waits : (after_calls d calls).waiting.tasks ≡ 0
  -- the run completes all N, "N is the number of releases taken in the list or the file"
  pub complete_every_job : AllCompleted (history d calls)
  -- 4/13: each release of the file was taken at once, set waiting or skipped, task by task; and nothing waits
  pub each_release : (n : ℕ) → n < 32 → Balance n (of_task n rs) (skips n (occurrences ms)) (history d calls)
  -- and the record has an entry for each of the N
  pub an_entry_each : jobs_done ms ≡ total is_take (history d calls)

-- of a file's bytes and its releases
pub record FileClaim (s : List ℕ) (rs : List Release) (d : State) : Type 0 where
  -- "It opens from the task entries alone."
  pub opens : opening (take (head_read (head_of s)).end s) ≡ Ok d
  pub come_to_an_end : (calls : List Call) × Feeds d rs calls
  pub of_the_feed : (calls : List Call) → Feeds d rs calls → FedClaim d rs (moments_of s rs) calls

-- for every input that is accepted
unfoldable pub Demand3Files : Type 0
Demand3Files = (s : List ℕ) (rs : List Release) → releases_of s ≡ Releases rs →
    let k : Head = head_read (head_of s) in FileClaim s rs (opened k.table k.marked)

-- ---- The claim on a promise

-- the claim for the run of an input, where it is accepted
abbrev pub AcceptedWithClaim : List ℕ → Type 0
AcceptedWithClaim s = (rs : List Release) → releases_of s ≡ Releases rs → FileClaim s rs (opened (head_read (head_of s)).table (head_read (head_of s)).marked)

-- what comes of an input and a lent slice, and the claim for the run of the input where it is accepted
pub record WroteWithClaim (s before : List ℕ) (outcome : Outcome) (after : List ℕ) : Type 0 where
  pub answered : WroteInNumbers (file s before) outcome after
  pub claim : AcceptedWithClaim s
