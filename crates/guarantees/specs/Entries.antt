-- That the entries tell the truth: of each job done (kind 16) and of each interval closed (kind 17) that the calls answer with, what it
-- says is what the history has of it. What stands between quotation marks is document 01; below each quotation stands what it says of a
-- history.
use Rattle.guarantees.specs.Types.{Bool, true, false, cond, List, [], ℕ, Option, None, Some, State, Call, Instant, Ok, Occurred, Closing, Unclosed, BeforeReleases, AfterReleases, JobEntry, IntervalEntry}
use Rattle.std.specs.Prelude.{eqb, ltb, get_or, ◌≡◌, ◌&&◌, ◌∷◌, ◌++◌, ◌+◌, ◌<◌}
use Rattle.sets.specs.Sets.{member, bit}
use Rattle.rules.specs.Instant.{occurred}
use Rattle.rules.specs.Calls.{instant, row, serves, after_call}
use Rattle.guarantees.specs.History.{Event, Takes, by_call, history, after_calls}
use Rattle.guarantees.specs.Queries.{details, completes, each, NoneOpen, situation, waiting, original, intervals, taking, start, waited}
use Rattle.guarantees.specs.Releases.{Balance, Placed}
use Rattle.guarantees.specs.Intervals.{no_course, ended}

-- ---- What calls answer

-- what occurred, of an instant that is served
unfoldable pub answer_of : State → Call → List Occurred
answer_of d c = cond (serves d c) (occurred d (row c).time (row c).hands ∷ []) []

unfoldable pub all_occurred : State → List Call → List Occurred
all_occurred d [] = []
all_occurred d (c ∷ cs) = answer_of d c ++ all_occurred (after_call d c) cs

-- ---- The releases of task n

module _ (n : ℕ) where
  -- of the calls, how many of the served instants hand one in
  unfoldable pub handed_in : State → List Call → ℕ
  handed_in d [] = 0
  handed_in d (c ∷ cs) = cond (serves d c) (bit (member n (row c).hands)) 0 + handed_in (after_call d c) cs

  -- and of what they answer, how many are skipped
  unfoldable pub skips : List Occurred → ℕ
  skips [] = 0
  skips (o ∷ os) = bit (member n o.skipped) + skips os

-- whether it is marked after some calls, where it was or was not before them: by the last mark call on it that is served
unfoldable pub marked_by : ℕ → Bool → State → List Call → Bool
marked_by n b d [] = b
marked_by n b d (c ∷ cs) =
    marked_by n (cond (member n (row c).names && eqb ((row c).number d) 0) (eqb (row c).mark 1) b) (after_call d c) cs

-- ---- A job done

module _ (priority : List ℕ) (n : ℕ) where
  -- a job of lower priority than task n's
  abbrev pub is_lower : Option ℕ → Bool
  is_lower None = false
  is_lower (Some k) = ltb (get_or priority n 0) (get_or priority k 0)

  -- of some intervals, in how many the processor executes one
  unfoldable pub lower_in : List (Option ℕ) → ℕ
  lower_in [] = 0
  lower_in (r ∷ rs) = cond (is_lower r) 1 0 + lower_in rs

-- an entry of the instant at t, by what has occurred before it: "task (1), release, execution start,
-- completion (8 each), blocked intervals (1)"
pub record TellsJob (priority : List ℕ) (history : List Event) (t : ℕ) (e : JobEntry) : Type 0 where
  -- the job is the last that was taken of its task, "one release that was taken";
  pub before : List Event
  pub after : List Event
  pub taken : ℕ
  pub marked : Bool
  pub taking_is : history ≡ before ++ (Takes e.task taken marked ∷ after)
  pub last_taken : taking e.task after ≡ None
  -- 4/13: "The job entry shows the original time": the tick of the release that waited, else that of the taking;
  pub release : e.release ≡ original (waiting e.task None before) taken
  -- its execution start is the tick on which it started to execute;
  pub execution_start : start e.task after ≡ Some e.start
  -- its completion is this instant, since "a copy-out's end completes its job";
  pub completion : e.completion ≡ t
  -- "A job is blocked in an interval if that interval holds its release or comes later, comes before the one that executes it, and the
  -- processor executes a lower-priority job in it." 4/13: "intervals and blocking are counted from the taking."
  pub blocked : e.blocked ≡ lower_in priority e.task (waited e.task (situation NoneOpen before) (intervals after))

-- a job that completes: its task and the tick
pub record Completion : Type 0 where
  pub task : Option ℕ
  pub tick : ℕ

-- what the answers say of the jobs done
abbrev pub completed_in : Option JobEntry → List Completion
completed_in None = []
completed_in (Some e) = record { task = Some e.task; tick = e.completion } ∷ []

unfoldable pub done : List Occurred → List Completion
done [] = []
done (o ∷ os) = completed_in o.done ++ done os

-- and what the history has
abbrev pub completions : List Event → List Completion
completions = each (λ e. cond (completes e) (record { task = (details e).task; tick = (details e).tick } ∷ []) [])

-- ---- An interval closed

-- what the answers say of the intervals that closed
abbrev pub closed_in : Closing → List IntervalEntry
closed_in Unclosed = []
closed_in (BeforeReleases e) = e ∷ []
closed_in (AfterReleases e) = e ∷ []

unfoldable pub closed : List Occurred → List IntervalEntry
closed [] = []
closed (o ∷ os) = closed_in o.closed ++ closed os

-- ---- The claim

-- of a list of calls that starts from a state that opening returned
pub record EntriesTell (d : State) (calls : List Call) : Type 0 where
  pub each_job : (before after : List Call) (t set : ℕ) (o : Occurred) (e : JobEntry) → calls ≡ before ++ (Instant t set ∷ after)
      → (instant (after_calls d before) t set).answer ≡ Ok o → o.done ≡ Some e → TellsJob d.table.priority (history d before) t e
  -- "The record has kind 16 at step a": one entry for each job that completes, in their order
  pub each_done : done (all_occurred d calls) ≡ completions (history d calls)
  -- 4/13: at each point of the list, each release that was handed in was taken at once, set waiting or skipped, task by task
  pub each_release : (before after : List Call) (n : ℕ) → calls ≡ before ++ after → n < 32
      → Balance n (handed_in n d before) (skips n (all_occurred d before)) (history d before)
  -- and at each instant by its set, what waited and, 8/13, the last one
  pub each_instant : (before after : List Call) (n t set : ℕ) (o : Occurred) → calls ≡ before ++ (Instant t set ∷ after) → n < 32
      → (instant (after_calls d before) t set).answer ≡ Ok o
      → Placed n d.table t set o.skipped (history d before) (by_call (after_calls d before) (Instant t set))
  -- "A job is marked if its task was at the release": as opening read its mark, or as mark calls have changed it; a release that waited
  -- has the same mark as at its taking, since "a mark cannot change while a release waits"
  pub each_mark : (before after : List Call) (n t set u : ℕ) (m : Bool) (xs ys : List Event) → calls ≡ before ++ (Instant t set ∷ after)
      → by_call (after_calls d before) (Instant t set) ≡ xs ++ (Takes n u m ∷ ys) → m ≡ marked_by n (member n d.marked) d before
  -- 4/13: "A mark cannot change while a release waits", 10/13: of any task that the call names
  pub each_mark_call : (before after : List Call) (c : Call) (n : ℕ) → calls ≡ before ++ (c ∷ after) → n < 32
      → (row c).number (after_calls d before) ≡ 0 → member n (row c).names ≡ true → waiting n None (history d before) ≡ None
  -- "kind 17 at the interval's end": one for each interval that ended, in their order, with all that it says
  pub each_interval : closed (all_occurred d calls) ≡ ended d.table.priority no_course (history d calls)
