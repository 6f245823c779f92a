-- That the claim says something: it accepts the histories of document 01's plans A to F' and of one with a release that waits, and refuses
-- histories that are wrong in one point each. All are of the plans' tasks: 1 has the highest priority and is
-- marked, then come 2 and 3, which are not.
use Rattle.std.specs.Prelude.{◌≡◌, Bool, true, false, List, [], ◌∷◌, ◌++◌, ℕ, length, replicate, take, drop, Option, None, Some}
use Rattle.table.specs.declared.Table.{Table}
use Rattle.sets.specs.Sets.{member}
use Rattle.rules.specs.Calls.{opening, state_opened}
use Rattle.rules.specs.declared.Call.{Call}
use Rattle.rules.specs.declared.Call.TheVariants.{Instant, Mark}
use Rattle.guarantees.specs.History.{Event, Comes, Starts, Stops, Finishes, Completes, Ends, Takes, Defers, GivesWay, Begins, history}
use Rattle.entries.specs.declared.JobEntry.{JobEntry}
use Rattle.entries.specs.declared.IntervalEntry.{IntervalEntry}
use Rattle.guarantees.specs.Queries.{situation, NoneOpen, intervals, met, last_released}
use Rattle.guarantees.specs.Figure.{overtaking}
use Rattle.guarantees.specs.Releases.{Balance, Placed}
use Rattle.guarantees.specs.Intervals.{no_course, ended}
use Rattle.guarantees.specs.Entries.{handed_in, marked_by, TellsJob, completions}
use Rattle.guarantees.specs.Figure.{Figure}
use Rattle.guarantees.specs.Claim.{Holds, AllCompleted}

-- ---- The plans' tasks

-- number, priority, mark, L, C, U
unfoldable pub task : ℕ → ℕ → ℕ → ℕ → ℕ → ℕ → List ℕ
task n p m l c u = 1 ∷ n ∷ p ∷ m ∷ l ∷ 0 ∷ 0 ∷ 0 ∷ c ∷ 0 ∷ 0 ∷ 0 ∷ u ∷ 0 ∷ 0 ∷ 0 ∷ []

unfoldable pub tasks : List ℕ
tasks = task 1 1 1 2 3 1 ++ (task 2 2 0 2 4 1 ++ task 3 3 0 2 5 2)

unfoldable pub three : ℕ → ℕ → ℕ → List ℕ
three a b c = 0 ∷ a ∷ b ∷ c ∷ replicate 28 0

-- L, C and U of each
abbrev pub lengths : List ℕ
lengths = three 2 2 2 ++ (three 3 4 5 ++ three 1 1 2)

unfoldable pub plans_table : Table
plans_table = record { present = 14; spaced = 0; priority = three 1 2 3; columns = lengths ++ three 0 0 0 }

-- 8/13: the same tasks, where task 1 has a spacing of s ticks
unfoldable pub spaced_tasks : ℕ → List ℕ
spaced_tasks s = tasks ++ (3 ∷ 1 ∷ s ∷ 0 ∷ 0 ∷ 0 ∷ [])

unfoldable pub spaced_table : ℕ → Table
spaced_table s = record { present = 14; spaced = 2; priority = three 1 2 3; columns = lengths ++ three s 0 0 }

-- ---- The plans: the calls, the empty sets at the due times among them, and the history, an instant a line

unfoldable pub calls_a : List Call
calls_a =
    Instant 0 8 ∷ Instant 2 4 ∷ Instant 3 2 ∷ Instant 7 0 ∷ Instant 9 0 ∷
    Instant 11 0 ∷ Instant 12 0 ∷ Instant 13 0 ∷ Instant 16 0 ∷ Instant 17 0 ∷ []

-- what occurs from 7 on, in this plan and the next
abbrev pub from_7 : List Event
from_7 =
    Comes 7 ∷ Stops 3 7 ∷ Ends 7 ∷ Begins 7 (Some 1) (Some 3) ∷
    Comes 9 ∷ Starts 1 9 ∷ Completes 3 9 ∷
    Comes 11 ∷ Finishes 2 ∷
    Comes 12 ∷ Stops 1 12 ∷ Ends 12 ∷ Begins 12 (Some 2) (Some 1) ∷ Starts 2 12 ∷
    Comes 13 ∷ Completes 1 13 ∷
    Comes 16 ∷ Stops 2 16 ∷ Ends 16 ∷ Begins 16 None (Some 2) ∷
    Comes 17 ∷ Completes 2 17 ∷ Ends 17 ∷ []

unfoldable pub history_a : List Event
history_a =
    Comes 0 ∷ Takes 3 0 false ∷ Begins 0 None None ∷
    Comes 2 ∷ Finishes 3 ∷ Ends 2 ∷ Takes 2 2 false ∷ Begins 2 (Some 3) None ∷ Starts 3 2 ∷
    Comes 3 ∷ Takes 1 3 true ∷ GivesWay 2 ∷
    from_7

unfoldable pub calls_b : List Call
calls_b =
    Instant 0 8 ∷ Instant 2 4 ∷ Instant 4 2 ∷ Instant 7 0 ∷ Instant 9 0 ∷
    Instant 11 0 ∷ Instant 12 0 ∷ Instant 13 0 ∷ Instant 16 0 ∷ Instant 17 0 ∷ []

unfoldable pub history_b : List Event
history_b =
    Comes 0 ∷ Takes 3 0 false ∷ Begins 0 None None ∷
    Comes 2 ∷ Finishes 3 ∷ Ends 2 ∷ Takes 2 2 false ∷ Begins 2 (Some 3) None ∷ Starts 3 2 ∷
    Comes 4 ∷ Finishes 2 ∷ Takes 1 4 true ∷ GivesWay 2 ∷
    from_7

unfoldable pub calls_c : List Call
calls_c = Instant 0 2 ∷ Instant 2 0 ∷ Instant 5 0 ∷ Instant 6 0 ∷ []

unfoldable pub history_c : List Event
history_c =
    Comes 0 ∷ Takes 1 0 true ∷ Begins 0 None None ∷
    Comes 2 ∷ Finishes 1 ∷ Ends 2 ∷ Begins 2 (Some 1) None ∷ Starts 1 2 ∷
    Comes 5 ∷ Stops 1 5 ∷ Ends 5 ∷ Begins 5 None (Some 1) ∷
    Comes 6 ∷ Completes 1 6 ∷ Ends 6 ∷ []

unfoldable pub calls_d : List Call
calls_d = Instant 0 4 ∷ Instant 1 2 ∷ Instant 3 0 ∷ Instant 6 0 ∷ Instant 7 0 ∷ Instant 10 0 ∷ Instant 11 0 ∷ []

unfoldable pub history_d : List Event
history_d =
    Comes 0 ∷ Takes 2 0 false ∷ Begins 0 None None ∷
    Comes 1 ∷ Takes 1 1 true ∷ GivesWay 2 ∷ Ends 1 ∷ Begins 1 (Some 1) None ∷
    Comes 3 ∷ Starts 1 3 ∷ Finishes 2 ∷
    Comes 6 ∷ Stops 1 6 ∷ Ends 6 ∷ Begins 6 (Some 2) (Some 1) ∷ Starts 2 6 ∷
    Comes 7 ∷ Completes 1 7 ∷
    Comes 10 ∷ Stops 2 10 ∷ Ends 10 ∷ Begins 10 None (Some 2) ∷
    Comes 11 ∷ Completes 2 11 ∷ Ends 11 ∷ []

unfoldable pub calls_e : List Call
calls_e = Instant 0 4 ∷ Instant 2 2 ∷ Instant 4 0 ∷ Instant 6 0 ∷ Instant 7 0 ∷ Instant 9 0 ∷ Instant 10 0 ∷ []

unfoldable pub history_e : List Event
history_e =
    Comes 0 ∷ Takes 2 0 false ∷ Begins 0 None None ∷
    Comes 2 ∷ Finishes 2 ∷ Ends 2 ∷ Takes 1 2 true ∷ Begins 2 (Some 2) None ∷ Starts 2 2 ∷
    Comes 4 ∷ Finishes 1 ∷
    Comes 6 ∷ Stops 2 6 ∷ Ends 6 ∷ Begins 6 (Some 1) (Some 2) ∷ Starts 1 6 ∷
    Comes 7 ∷ Completes 2 7 ∷
    Comes 9 ∷ Stops 1 9 ∷ Ends 9 ∷ Begins 9 None (Some 1) ∷
    Comes 10 ∷ Completes 1 10 ∷ Ends 10 ∷ []

unfoldable pub calls_f : List Call
calls_f = Instant 0 2 ∷ Instant 2 0 ∷ Instant 5 2 ∷ Instant 6 0 ∷ Instant 8 0 ∷ Instant 11 0 ∷ Instant 12 0 ∷ []

-- 4/13: the release at 5 waits, and is taken at 6
unfoldable pub history_f : List Event
history_f =
    Comes 0 ∷ Takes 1 0 true ∷ Begins 0 None None ∷
    Comes 2 ∷ Finishes 1 ∷ Ends 2 ∷ Begins 2 (Some 1) None ∷ Starts 1 2 ∷
    Comes 5 ∷ Stops 1 5 ∷ Ends 5 ∷ Defers 1 5 ∷ Begins 5 None (Some 1) ∷
    Comes 6 ∷ Completes 1 6 ∷ Takes 1 6 true ∷
    Comes 8 ∷ Finishes 1 ∷ Ends 8 ∷ Begins 8 (Some 1) None ∷ Starts 1 8 ∷
    Comes 11 ∷ Stops 1 11 ∷ Ends 11 ∷ Begins 11 None (Some 1) ∷
    Comes 12 ∷ Completes 1 12 ∷ Ends 12 ∷ []

unfoldable pub calls_f' : List Call
calls_f' = Instant 0 2 ∷ Instant 2 0 ∷ Instant 5 0 ∷ Instant 6 2 ∷ Instant 8 0 ∷ Instant 11 0 ∷ Instant 12 0 ∷ []

unfoldable pub history_f' : List Event
history_f' =
    Comes 0 ∷ Takes 1 0 true ∷ Begins 0 None None ∷
    Comes 2 ∷ Finishes 1 ∷ Ends 2 ∷ Begins 2 (Some 1) None ∷ Starts 1 2 ∷
    Comes 5 ∷ Stops 1 5 ∷ Ends 5 ∷ Begins 5 None (Some 1) ∷
    Comes 6 ∷ Completes 1 6 ∷ Takes 1 6 true ∷
    Comes 8 ∷ Finishes 1 ∷ Ends 8 ∷ Begins 8 (Some 1) None ∷ Starts 1 8 ∷
    Comes 11 ∷ Stops 1 11 ∷ Ends 11 ∷ Begins 11 None (Some 1) ∷
    Comes 12 ∷ Completes 1 12 ∷ Ends 12 ∷ []

-- a release of 1 waits from 3 on, while job 3 executes, and is taken at 11, in an interval in which the processor idles
unfoldable pub calls_waiting : List Call
calls_waiting =
    Instant 0 8 ∷ Instant 2 2 ∷ Instant 3 2 ∷ Instant 4 0 ∷ Instant 7 0 ∷ Instant 9 0 ∷ Instant 10 0 ∷
    Instant 11 0 ∷ Instant 13 0 ∷ Instant 16 0 ∷ Instant 17 0 ∷ []

unfoldable pub history_waiting : List Event
history_waiting =
    Comes 0 ∷ Takes 3 0 false ∷ Begins 0 None None ∷
    Comes 2 ∷ Finishes 3 ∷ Ends 2 ∷ Takes 1 2 true ∷ Begins 2 (Some 3) None ∷ Starts 3 2 ∷
    Comes 3 ∷ Defers 1 3 ∷
    Comes 4 ∷ Finishes 1 ∷
    Comes 7 ∷ Stops 3 7 ∷ Ends 7 ∷ Begins 7 (Some 1) (Some 3) ∷ Starts 1 7 ∷
    Comes 9 ∷ Completes 3 9 ∷
    Comes 10 ∷ Stops 1 10 ∷ Ends 10 ∷ Begins 10 None (Some 1) ∷
    Comes 11 ∷ Completes 1 11 ∷ Takes 1 11 true ∷
    Comes 13 ∷ Finishes 1 ∷ Ends 13 ∷ Begins 13 (Some 1) None ∷ Starts 1 13 ∷
    Comes 16 ∷ Stops 1 16 ∷ Ends 16 ∷ Begins 16 None (Some 1) ∷
    Comes 17 ∷ Completes 1 17 ∷ Ends 17 ∷ []

-- of the table that these bytes are, the calls make the history, and the claim holds of it
pub record AcceptsOf (bytes : List ℕ) (table : Table) (calls : List Call) (h : List Event) : Type 0 where
  pub made : history (state_opened (opening bytes)) calls ≡ h
  pub holds : Holds table h
  pub completed : AllCompleted h

abbrev pub Accepts : List Call → List Event → Type 0
Accepts = AcceptsOf tasks plans_table

unfoldable pub PlansAccepted : Type 0
PlansAccepted =
    Accepts calls_a history_a
    × Accepts calls_b history_b
    × Accepts calls_c history_c
    × Accepts calls_d history_d
    × Accepts calls_e history_e
    × Accepts calls_f history_f
    × Accepts calls_f' history_f'
    × Accepts calls_waiting history_waiting

-- ---- Wrong histories

-- a marked job whose second interval runs a lower one: at 1 the copy-in of 3 is under way and is not cancelled
unfoldable pub second_lower : List Event
second_lower =
    Comes 0 ∷ Takes 3 0 false ∷ Begins 0 None None ∷
    Comes 1 ∷ Takes 1 1 true ∷
    Comes 2 ∷ Finishes 3 ∷ Ends 2 ∷ Begins 2 (Some 3) None ∷ Starts 3 2 ∷ []

-- and one whose second runs a lower one that was finished when it came: plan B where the copy-in of 2 is not thrown out
unfoldable pub second_finished : List Event
second_finished =
    Comes 0 ∷ Takes 3 0 false ∷ Begins 0 None None ∷
    Comes 2 ∷ Finishes 3 ∷ Ends 2 ∷ Takes 2 2 false ∷ Begins 2 (Some 3) None ∷ Starts 3 2 ∷
    Comes 4 ∷ Finishes 2 ∷ Takes 1 4 true ∷
    Comes 7 ∷ Stops 3 7 ∷ Ends 7 ∷ Begins 7 (Some 2) (Some 3) ∷ Starts 2 7 ∷ []

-- plan B with a job that was thrown out and executes without being copied in again
unfoldable pub thrown_out_runs : List Event
thrown_out_runs =
    Comes 0 ∷ Takes 3 0 false ∷ Begins 0 None None ∷
    Comes 2 ∷ Finishes 3 ∷ Ends 2 ∷ Takes 2 2 false ∷ Begins 2 (Some 3) None ∷ Starts 3 2 ∷
    Comes 4 ∷ Finishes 2 ∷ Takes 1 4 true ∷ GivesWay 2 ∷
    Comes 7 ∷ Stops 3 7 ∷ Ends 7 ∷ Begins 7 (Some 1) (Some 3) ∷
    Comes 9 ∷ Starts 1 9 ∷ Completes 3 9 ∷
    Comes 12 ∷ Stops 1 12 ∷ Ends 12 ∷ Begins 12 (Some 2) (Some 1) ∷ Starts 2 12 ∷ []

-- a third interval that is idle: plan D where the cancelled job 2 is not copied in again
unfoldable pub third_idle : List Event
third_idle =
    Comes 0 ∷ Takes 2 0 false ∷ Begins 0 None None ∷
    Comes 1 ∷ Takes 1 1 true ∷ GivesWay 2 ∷ Ends 1 ∷ Begins 1 (Some 1) None ∷
    Comes 3 ∷ Starts 1 3 ∷
    Comes 6 ∷ Stops 1 6 ∷ Ends 6 ∷ Begins 6 None (Some 1) ∷ []

-- a third interval with a lower job: plan D where job 3 comes too, and is copied in before job 2
unfoldable pub third_lower : List Event
third_lower =
    Comes 0 ∷ Takes 2 0 false ∷ Begins 0 None None ∷
    Comes 1 ∷ Takes 1 1 true ∷ Takes 3 1 false ∷ GivesWay 2 ∷ Ends 1 ∷ Begins 1 (Some 1) None ∷
    Comes 3 ∷ Starts 1 3 ∷ Finishes 3 ∷
    Comes 6 ∷ Stops 1 6 ∷ Ends 6 ∷ Begins 6 (Some 3) (Some 1) ∷ Starts 3 6 ∷ []

-- a copy-out one interval late: plan D where each job is copied out in the second interval after its own
unfoldable pub copyout_late : List Event
copyout_late =
    Comes 0 ∷ Takes 2 0 false ∷ Begins 0 None None ∷
    Comes 1 ∷ Takes 1 1 true ∷ GivesWay 2 ∷ Ends 1 ∷ Begins 1 (Some 1) None ∷
    Comes 3 ∷ Starts 1 3 ∷ Finishes 2 ∷
    Comes 6 ∷ Stops 1 6 ∷ Ends 6 ∷ Begins 6 (Some 2) None ∷ Starts 2 6 ∷
    Comes 10 ∷ Stops 2 10 ∷ Ends 10 ∷ Begins 10 None (Some 1) ∷
    Comes 11 ∷ Completes 1 11 ∷ Ends 11 ∷ Begins 11 None (Some 2) ∷
    Comes 12 ∷ Completes 2 12 ∷ Ends 12 ∷ []

-- four intervals for one job: plan C with an interval of nothing after it
unfoldable pub four_intervals : List Event
four_intervals =
    Comes 0 ∷ Takes 1 0 true ∷ Begins 0 None None ∷
    Comes 2 ∷ Finishes 1 ∷ Ends 2 ∷ Begins 2 (Some 1) None ∷ Starts 1 2 ∷
    Comes 5 ∷ Stops 1 5 ∷ Ends 5 ∷ Begins 5 None (Some 1) ∷
    Comes 6 ∷ Completes 1 6 ∷ Ends 6 ∷ Begins 6 None None ∷ []

-- the interval that copies out begins a tick after the execution's has ended
unfoldable pub copyout_not_at_once : List Event
copyout_not_at_once =
    Comes 0 ∷ Takes 1 0 true ∷ Begins 0 None None ∷
    Comes 2 ∷ Finishes 1 ∷ Ends 2 ∷ Begins 2 (Some 1) None ∷ Starts 1 2 ∷
    Comes 5 ∷ Stops 1 5 ∷ Ends 5 ∷
    Comes 6 ∷ Begins 6 None (Some 1) ∷
    Comes 7 ∷ Completes 1 7 ∷ Ends 7 ∷ []

-- the job completes a tick after its copy-out's end
unfoldable pub completion_late : List Event
completion_late =
    Comes 0 ∷ Takes 1 0 true ∷ Begins 0 None None ∷
    Comes 2 ∷ Finishes 1 ∷ Ends 2 ∷ Begins 2 (Some 1) None ∷ Starts 1 2 ∷
    Comes 5 ∷ Stops 1 5 ∷ Ends 5 ∷ Begins 5 None (Some 1) ∷
    Comes 7 ∷ Completes 1 7 ∷ Ends 7 ∷ []

-- the job has not completed though the list has reached the tick
unfoldable pub completion_missing : List Event
completion_missing =
    Comes 0 ∷ Takes 1 0 true ∷ Begins 0 None None ∷
    Comes 2 ∷ Finishes 1 ∷ Ends 2 ∷ Begins 2 (Some 1) None ∷ Starts 1 2 ∷
    Comes 5 ∷ Stops 1 5 ∷ Ends 5 ∷ Begins 5 None (Some 1) ∷
    Comes 6 ∷ []

-- a job completes that was never executed
unfoldable pub completion_unexecuted : List Event
completion_unexecuted =
    Comes 0 ∷ Takes 1 0 true ∷ Begins 0 None None ∷
    Comes 1 ∷ Completes 1 1 ∷ []

-- the first interval begins 50 ticks after a release that came while none was open
unfoldable pub begins_late : List Event
begins_late =
    Comes 0 ∷ Takes 1 0 true ∷
    Comes 50 ∷ Begins 50 None None ∷
    Comes 52 ∷ Finishes 1 ∷ Ends 52 ∷ Begins 52 (Some 1) None ∷ Starts 1 52 ∷ []

-- plan C with an execution of no ticks
unfoldable pub no_ticks : List Event
no_ticks =
    Comes 0 ∷ Takes 1 0 true ∷ Begins 0 None None ∷
    Comes 2 ∷ Finishes 1 ∷ Ends 2 ∷ Begins 2 (Some 1) None ∷ Starts 1 2 ∷ Stops 1 2 ∷ Ends 2 ∷ Begins 2 None (Some 1) ∷
    Comes 3 ∷ Completes 1 3 ∷ Ends 3 ∷ []

-- plan C with a job that is never executed in its interval
unfoldable pub not_executed : List Event
not_executed =
    Comes 0 ∷ Takes 1 0 true ∷ Begins 0 None None ∷
    Comes 2 ∷ Finishes 1 ∷ Ends 2 ∷ Begins 2 (Some 1) None ∷
    Comes 5 ∷ Ends 5 ∷ Begins 5 None (Some 1) ∷
    Comes 6 ∷ Completes 1 6 ∷ Ends 6 ∷ []

-- plan C with a loaded job that starts a tick after its interval
unfoldable pub loaded_late : List Event
loaded_late =
    Comes 0 ∷ Takes 1 0 true ∷ Begins 0 None None ∷
    Comes 2 ∷ Finishes 1 ∷ Ends 2 ∷ Begins 2 (Some 1) None ∷
    Comes 3 ∷ Starts 1 3 ∷
    Comes 6 ∷ Stops 1 6 ∷ Ends 6 ∷ Begins 6 None (Some 1) ∷
    Comes 7 ∷ Completes 1 7 ∷ Ends 7 ∷ []

-- plan D with a promoted job that starts with its interval, before its copy-in has ended
unfoldable pub promoted_early : List Event
promoted_early =
    Comes 0 ∷ Takes 2 0 false ∷ Begins 0 None None ∷
    Comes 1 ∷ Takes 1 1 true ∷ GivesWay 2 ∷ Ends 1 ∷ Begins 1 (Some 1) None ∷ Starts 1 1 ∷
    Comes 3 ∷ Finishes 2 ∷
    Comes 4 ∷ Stops 1 4 ∷ Ends 4 ∷ Begins 4 (Some 2) (Some 1) ∷ Starts 2 4 ∷ []

-- plan C with an execution that lasts a tick too long
unfoldable pub execution_long : List Event
execution_long =
    Comes 0 ∷ Takes 1 0 true ∷ Begins 0 None None ∷
    Comes 2 ∷ Finishes 1 ∷ Ends 2 ∷ Begins 2 (Some 1) None ∷ Starts 1 2 ∷
    Comes 6 ∷ Stops 1 6 ∷ Ends 6 ∷ Begins 6 None (Some 1) ∷
    Comes 7 ∷ Completes 1 7 ∷ Ends 7 ∷ []

-- plan C with a release of task 2 at 3, which is promoted though it is unmarked, because its interval chose nobody
unfoldable pub promoted_unmarked : List Event
promoted_unmarked =
    Comes 0 ∷ Takes 1 0 true ∷ Begins 0 None None ∷
    Comes 2 ∷ Finishes 1 ∷ Ends 2 ∷ Begins 2 (Some 1) None ∷ Starts 1 2 ∷
    Comes 3 ∷ Takes 2 3 false ∷
    Comes 5 ∷ Stops 1 5 ∷ Ends 5 ∷ Begins 5 (Some 2) (Some 1) ∷ []

-- a job starts to execute in an interval that executes none
unfoldable pub starts_unasked : List Event
starts_unasked =
    Comes 0 ∷ Takes 1 0 true ∷ Begins 0 None None ∷ Starts 1 0 ∷ []

-- a job starts to execute twice in its interval
unfoldable pub starts_twice : List Event
starts_twice =
    Comes 0 ∷ Takes 1 0 true ∷ Begins 0 None None ∷
    Comes 2 ∷ Finishes 1 ∷ Ends 2 ∷ Begins 2 (Some 1) None ∷ Starts 1 2 ∷
    Comes 4 ∷ Starts 1 4 ∷ []

-- an execution ends that never started: plan D where the promoted job is cut off in its copy-in
unfoldable pub stops_unstarted : List Event
stops_unstarted =
    Comes 0 ∷ Takes 2 0 false ∷ Begins 0 None None ∷
    Comes 1 ∷ Takes 1 1 true ∷ GivesWay 2 ∷ Ends 1 ∷ Begins 1 (Some 1) None ∷
    Comes 2 ∷ Stops 1 2 ∷ []

-- an interval ends while its job executes
unfoldable pub cut_short : List Event
cut_short =
    Comes 0 ∷ Takes 1 0 true ∷ Begins 0 None None ∷
    Comes 2 ∷ Finishes 1 ∷ Ends 2 ∷ Begins 2 (Some 1) None ∷ Starts 1 2 ∷
    Comes 4 ∷ Ends 4 ∷ Begins 4 None (Some 1) ∷ []

-- four intervals where one release was taken and one waits: N is the number of those taken
unfoldable pub one_waits : List Event
one_waits =
    Comes 0 ∷ Takes 1 0 true ∷ Begins 0 None None ∷
    Comes 2 ∷ Finishes 1 ∷ Ends 2 ∷ Begins 2 (Some 1) None ∷ Starts 1 2 ∷
    Comes 5 ∷ Stops 1 5 ∷ Ends 5 ∷ Defers 1 5 ∷ Begins 5 None (Some 1) ∷
    Comes 6 ∷ Completes 1 6 ∷ Ends 6 ∷ Begins 6 None None ∷ []

-- plan F where the release that waits is never taken: but for it this is plan C
unfoldable pub never_taken : List Event
never_taken =
    Comes 0 ∷ Takes 1 0 true ∷ Begins 0 None None ∷
    Comes 2 ∷ Finishes 1 ∷ Ends 2 ∷ Begins 2 (Some 1) None ∷ Starts 1 2 ∷
    Comes 5 ∷ Stops 1 5 ∷ Ends 5 ∷ Defers 1 5 ∷ Begins 5 None (Some 1) ∷
    Comes 6 ∷ Completes 1 6 ∷ Ends 6 ∷ []

-- plan F where a release waits from 3 on, and that at 5 is set waiting beside it
unfoldable pub two_wait : List Event
two_wait =
    Comes 0 ∷ Takes 1 0 true ∷ Begins 0 None None ∷
    Comes 2 ∷ Finishes 1 ∷ Ends 2 ∷ Begins 2 (Some 1) None ∷ Starts 1 2 ∷
    Comes 3 ∷ Defers 1 3 ∷
    Comes 5 ∷ Stops 1 5 ∷ Ends 5 ∷ Defers 1 5 ∷ Begins 5 None (Some 1) ∷
    Comes 6 ∷ Completes 1 6 ∷ Takes 1 6 true ∷
    Comes 8 ∷ Finishes 1 ∷ Ends 8 ∷ Begins 8 (Some 1) None ∷ Starts 1 8 ∷
    Comes 11 ∷ Stops 1 11 ∷ Ends 11 ∷ Begins 11 None (Some 1) ∷
    Comes 12 ∷ Completes 1 12 ∷ Ends 12 ∷ []

-- plan F where the job of the release that waited is copied out and never executed
unfoldable pub waited_unexecuted : List Event
waited_unexecuted =
    Comes 0 ∷ Takes 1 0 true ∷ Begins 0 None None ∷
    Comes 2 ∷ Finishes 1 ∷ Ends 2 ∷ Begins 2 (Some 1) None ∷ Starts 1 2 ∷
    Comes 5 ∷ Stops 1 5 ∷ Ends 5 ∷ Defers 1 5 ∷ Begins 5 None (Some 1) ∷
    Comes 6 ∷ Completes 1 6 ∷ Takes 1 6 true ∷
    Comes 8 ∷ Finishes 1 ∷ Ends 8 ∷ Begins 8 None (Some 1) ∷
    Comes 9 ∷ Completes 1 9 ∷ Ends 9 ∷ []

-- 4/13: what waits is taken only once nothing at all is pending: releases (0,1) (4,2) (4,3) (5,1), and that of 5 is taken at 19 in place
-- of 6, behind two lower jobs
unfoldable pub taken_late : List Event
taken_late =
    Comes 0 ∷ Takes 1 0 true ∷ Begins 0 None None ∷
    Comes 2 ∷ Finishes 1 ∷ Ends 2 ∷ Begins 2 (Some 1) None ∷ Starts 1 2 ∷
    Comes 4 ∷ Takes 2 4 false ∷ Takes 3 4 false ∷
    Comes 5 ∷ Stops 1 5 ∷ Ends 5 ∷
    Defers 1 5 ∷ Begins 5 None (Some 1) ∷
    Comes 6 ∷ Completes 1 6 ∷
    Comes 8 ∷ Finishes 2 ∷ Ends 8 ∷ Begins 8 (Some 2) None ∷ Starts 2 8 ∷
    Comes 10 ∷ Finishes 3 ∷
    Comes 12 ∷ Stops 2 12 ∷ Ends 12 ∷ Begins 12 (Some 3) (Some 2) ∷ Starts 3 12 ∷
    Comes 13 ∷ Completes 2 13 ∷
    Comes 17 ∷ Stops 3 17 ∷ Ends 17 ∷ Begins 17 None (Some 3) ∷
    Comes 19 ∷ Completes 3 19 ∷ Takes 1 19 true ∷
    Comes 21 ∷ Finishes 1 ∷ Ends 21 ∷ Begins 21 (Some 1) None ∷ Starts 1 21 ∷
    Comes 24 ∷ Stops 1 24 ∷ Ends 24 ∷ Begins 24 None (Some 1) ∷
    Comes 25 ∷ Completes 1 25 ∷ Ends 25 ∷ []

-- a release is set waiting where no job of its task is pending: plan C with one at 6, behind the completion
unfoldable pub waits_for_nothing : List Event
waits_for_nothing =
    Comes 0 ∷ Takes 1 0 true ∷ Begins 0 None None ∷
    Comes 2 ∷ Finishes 1 ∷ Ends 2 ∷ Begins 2 (Some 1) None ∷ Starts 1 2 ∷
    Comes 5 ∷ Stops 1 5 ∷ Ends 5 ∷ Begins 5 None (Some 1) ∷
    Comes 6 ∷ Completes 1 6 ∷ Defers 1 6 ∷ Ends 6 ∷ []

-- task 1 is taken at 0 and again at 1, while its job is pending: the third and the fourth interval of its second job run lower ones
unfoldable pub taken_twice : List Event
taken_twice =
    Comes 0 ∷ Takes 1 0 true ∷ Takes 2 0 false ∷ Takes 3 0 false ∷ Begins 0 None None ∷ Comes 1 ∷ Takes 1 1 true ∷
    Comes 2 ∷ Finishes 1 ∷ Ends 2 ∷ Begins 2 (Some 1) None ∷ Starts 1 2 ∷
    Comes 4 ∷ Finishes 2 ∷
    Comes 5 ∷ Stops 1 5 ∷ Ends 5 ∷ Begins 5 (Some 2) (Some 1) ∷ Starts 2 5 ∷
    Comes 6 ∷ Completes 1 6 ∷
    Comes 8 ∷ Finishes 3 ∷
    Comes 9 ∷ Stops 2 9 ∷ Ends 9 ∷ Begins 9 (Some 3) (Some 2) ∷ Starts 3 9 ∷ []

-- two jobs are taken, one is executed, and both complete
unfoldable pub completed_twice : List Event
completed_twice =
    Comes 0 ∷ Takes 1 0 true ∷ Begins 0 None None ∷
    Comes 2 ∷ Finishes 1 ∷ Ends 2 ∷ Begins 2 (Some 1) None ∷ Starts 1 2 ∷
    Comes 5 ∷ Stops 1 5 ∷ Ends 5 ∷ Begins 5 None (Some 1) ∷
    Comes 6 ∷ Completes 1 6 ∷ Takes 1 6 true ∷ Completes 1 6 ∷ []

-- a task is executed that nobody released
unfoldable pub runs_unreleased : List Event
runs_unreleased =
    Comes 0 ∷ Takes 2 0 false ∷ Begins 0 None None ∷
    Comes 2 ∷ Finishes 1 ∷ Ends 2 ∷ Begins 2 (Some 1) None ∷ Starts 1 2 ∷ []

-- plan C with a second execution and a second copy-out of its one job
unfoldable pub executed_again : List Event
executed_again =
    Comes 0 ∷ Takes 1 0 true ∷ Begins 0 None None ∷
    Comes 2 ∷ Finishes 1 ∷ Ends 2 ∷ Begins 2 (Some 1) None ∷ Starts 1 2 ∷
    Comes 4 ∷ Finishes 1 ∷
    Comes 5 ∷ Stops 1 5 ∷ Ends 5 ∷ Begins 5 (Some 1) (Some 1) ∷ Starts 1 5 ∷ []

-- a release is taken at an instant and says the tick of another
unfoldable pub another_tick : List Event
another_tick =
    Comes 3 ∷ Takes 1 0 true ∷ Begins 0 None None ∷ []

-- an instant comes before the one before it
unfoldable pub instants_fall : List Event
instants_fall =
    Comes 5 ∷ Takes 1 5 true ∷ Begins 5 None None ∷
    Comes 3 ∷ []

-- plan D where nobody is promoted: the release that cuts the interval short is given to the next one
unfoldable pub nobody_promoted : List Event
nobody_promoted =
    Comes 0 ∷ Takes 2 0 false ∷ Begins 0 None None ∷
    Comes 1 ∷ Takes 1 1 true ∷ GivesWay 2 ∷ Ends 1 ∷ Begins 1 None None ∷
    Comes 3 ∷ Finishes 1 ∷ Ends 3 ∷ Begins 3 (Some 1) None ∷ Starts 1 3 ∷ []

-- a marked job is promoted at the end of the interval after its own: 1 is unmarked here and 2 marked, and the engine copies in nobody
-- while 1 executes
unfoldable pub promoted_late : List Event
promoted_late =
    Comes 0 ∷ Takes 1 0 false ∷ Begins 0 None None ∷
    Comes 1 ∷ Takes 2 1 true ∷
    Comes 2 ∷ Finishes 1 ∷ Ends 2 ∷ Begins 2 (Some 1) None ∷ Starts 1 2 ∷
    Comes 5 ∷ Stops 1 5 ∷ Ends 5 ∷ Begins 5 (Some 2) (Some 1) ∷ []

-- a job is promoted though another one is loaded
unfoldable pub promoted_beside_the_loaded : List Event
promoted_beside_the_loaded =
    Comes 0 ∷ Takes 1 0 false ∷ Takes 2 0 true ∷ Begins 0 None None ∷
    Comes 2 ∷ Finishes 1 ∷ Ends 2 ∷ Begins 2 (Some 2) None ∷ []

-- an interval begins while one is open
unfoldable pub begins_twice : List Event
begins_twice =
    Comes 0 ∷ Takes 3 0 false ∷ Begins 0 None None ∷ Begins 0 None None ∷ []

-- an interval ends that has ended
unfoldable pub ends_twice : List Event
ends_twice =
    Comes 0 ∷ Takes 3 0 false ∷ Begins 0 None None ∷
    Comes 2 ∷ Finishes 3 ∷ Ends 2 ∷ Ends 2 ∷ []

-- the engine copies in two jobs in one interval
unfoldable pub finishes_twice : List Event
finishes_twice =
    Comes 0 ∷ Takes 2 0 false ∷ Takes 3 0 false ∷ Begins 0 None None ∷
    Comes 2 ∷ Finishes 3 ∷ Finishes 2 ∷ []

-- a copy-in gives way that has given way
unfoldable pub gives_way_twice : List Event
gives_way_twice =
    Comes 0 ∷ Takes 2 0 false ∷ Begins 0 None None ∷
    Comes 1 ∷ Takes 1 1 true ∷ GivesWay 2 ∷ GivesWay 2 ∷ []

-- 7/13: M is 7 here, L + C of task 3. The processor waits from 2 to 11 while a job is loaded: this completes a tick after two intervals of
-- 7 ticks and its copy-out
unfoldable pub waits_between : List Event
waits_between =
    Comes 0 ∷ Takes 2 0 false ∷ Begins 0 None None ∷
    Comes 2 ∷ Finishes 2 ∷ Ends 2 ∷
    Comes 11 ∷ Begins 11 (Some 2) None ∷ Starts 2 11 ∷
    Comes 15 ∷ Stops 2 15 ∷ Ends 15 ∷ Begins 15 None (Some 2) ∷
    Comes 16 ∷ Completes 2 16 ∷ Ends 16 ∷ []

-- plan C with a last interval that ends 8 ticks after its begin
unfoldable pub ends_late : List Event
ends_late =
    Comes 0 ∷ Takes 1 0 true ∷ Begins 0 None None ∷
    Comes 2 ∷ Finishes 1 ∷ Ends 2 ∷ Begins 2 (Some 1) None ∷ Starts 1 2 ∷
    Comes 5 ∷ Stops 1 5 ∷ Ends 5 ∷ Begins 5 None (Some 1) ∷
    Comes 6 ∷ Completes 1 6 ∷
    Comes 13 ∷ Ends 13 ∷ []

-- and with one that is still open then
unfoldable pub stays_open : List Event
stays_open =
    Comes 0 ∷ Takes 1 0 true ∷ Begins 0 None None ∷
    Comes 2 ∷ Finishes 1 ∷ Ends 2 ∷ Begins 2 (Some 1) None ∷ Starts 1 2 ∷
    Comes 5 ∷ Stops 1 5 ∷ Ends 5 ∷ Begins 5 None (Some 1) ∷
    Comes 6 ∷ Completes 1 6 ∷
    Comes 13 ∷ []

-- R6: plan C, where the first interval ends a tick after its copy-in
unfoldable pub ends_a_tick_late : List Event
ends_a_tick_late =
    Comes 0 ∷ Takes 1 0 true ∷ Begins 0 None None ∷
    Comes 2 ∷ Finishes 1 ∷
    Comes 3 ∷ Ends 3 ∷ Begins 3 (Some 1) None ∷ Starts 1 3 ∷ []

-- R2: the engine is free at 7, and chooses nobody though a job is taken then
unfoldable pub taken_unchosen : List Event
taken_unchosen =
    Comes 0 ∷ Takes 2 0 false ∷ Begins 0 None None ∷
    Comes 2 ∷ Finishes 2 ∷ Ends 2 ∷ Begins 2 (Some 2) None ∷ Starts 2 2 ∷
    Comes 6 ∷ Stops 2 6 ∷ Ends 6 ∷ Begins 6 None (Some 2) ∷
    Comes 7 ∷ Completes 2 7 ∷ Takes 2 7 false ∷ Ends 7 ∷ Begins 7 None None ∷ []

-- plan C with a release of 2 at 5 that is taken before the interval that ends then has
unfoldable pub ends_behind_a_taking : List Event
ends_behind_a_taking =
    Comes 0 ∷ Takes 1 0 true ∷ Begins 0 None None ∷
    Comes 2 ∷ Finishes 1 ∷ Ends 2 ∷ Begins 2 (Some 1) None ∷ Starts 1 2 ∷
    Comes 5 ∷ Stops 1 5 ∷ Takes 2 5 false ∷ Ends 5 ∷ Begins 5 None (Some 1) ∷ []

-- plan C, where the processor waits a tick though a job is loaded
unfoldable pub begins_a_tick_late : List Event
begins_a_tick_late =
    Comes 0 ∷ Takes 1 0 true ∷ Begins 0 None None ∷
    Comes 2 ∷ Finishes 1 ∷ Ends 2 ∷
    Comes 3 ∷ Begins 3 (Some 1) None ∷ Starts 1 3 ∷ []

-- R2: the engine copies in the lower of two ready jobs
unfoldable pub lower_chosen : List Event
lower_chosen =
    Comes 0 ∷ Takes 2 0 false ∷ Takes 3 0 false ∷ Begins 0 None None ∷
    Comes 2 ∷ Finishes 3 ∷ []

-- or nobody, though 3 is ready at 2
unfoldable pub nobody_chosen : List Event
nobody_chosen =
    Comes 0 ∷ Takes 2 0 false ∷ Begins 0 None None ∷
    Comes 2 ∷ Finishes 2 ∷ Ends 2 ∷ Takes 3 2 false ∷ Begins 2 (Some 2) None ∷ Starts 2 2 ∷
    Comes 6 ∷ Stops 2 6 ∷ Ends 6 ∷ Begins 6 None (Some 2) ∷ []

-- plan C with a copy-in of one tick
unfoldable pub copyin_short : List Event
copyin_short =
    Comes 0 ∷ Takes 1 0 true ∷ Begins 0 None None ∷
    Comes 1 ∷ Finishes 1 ∷ Ends 1 ∷ Begins 1 (Some 1) None ∷ Starts 1 1 ∷ []

-- and with one that is under way at 4
unfoldable pub copyin_overdue : List Event
copyin_overdue =
    Comes 0 ∷ Takes 1 0 true ∷ Begins 0 None None ∷
    Comes 4 ∷ []

-- 2/13: plan B, where the copy-in of 2, which ends at 4, gives way as one under way
unfoldable pub cancelled_at_its_end : List Event
cancelled_at_its_end =
    Comes 0 ∷ Takes 3 0 false ∷ Begins 0 None None ∷
    Comes 2 ∷ Finishes 3 ∷ Ends 2 ∷ Takes 2 2 false ∷ Begins 2 (Some 3) None ∷ Starts 3 2 ∷
    Comes 4 ∷ Takes 1 4 true ∷ GivesWay 2 ∷ []

-- a job gives way that the engine does not copy in
unfoldable pub gives_way_unchosen : List Event
gives_way_unchosen =
    Comes 0 ∷ Takes 3 0 false ∷ Begins 0 None None ∷
    Comes 1 ∷ Takes 1 1 true ∷ Takes 2 1 false ∷ GivesWay 2 ∷ Ends 1 ∷ Begins 1 (Some 1) None ∷ []

-- R6: the first interval is over at 2 and stays open; at 3 a marked job throws out the copy that was finished, and it ends
unfoldable pub over_and_open : List Event
over_and_open =
    Comes 0 ∷ Takes 2 0 false ∷ Begins 0 None None ∷
    Comes 2 ∷ Finishes 2 ∷
    Comes 3 ∷ Takes 1 3 true ∷ GivesWay 2 ∷ Ends 3 ∷ Begins 3 (Some 1) None ∷ []

-- or the list goes no further
unfoldable pub left_open : List Event
left_open =
    Comes 0 ∷ Takes 2 0 false ∷ Begins 0 None None ∷
    Comes 2 ∷ Finishes 2 ∷ []

-- a copy-in of two ticks that is under way at its end
unfoldable pub left_copying : List Event
left_copying =
    Comes 0 ∷ Takes 2 0 false ∷ Begins 0 None None ∷
    Comes 2 ∷ []

-- an interval begins though there is nothing to do: it is the fifth, and two jobs were taken
unfoldable pub begins_for_nobody : List Event
begins_for_nobody =
    Comes 0 ∷ Takes 1 0 true ∷ Takes 2 0 false ∷ Begins 0 None None ∷
    Comes 2 ∷ Finishes 1 ∷ Ends 2 ∷ Begins 2 (Some 1) None ∷ Starts 1 2 ∷
    Comes 4 ∷ Finishes 2 ∷
    Comes 5 ∷ Stops 1 5 ∷ Ends 5 ∷ Begins 5 (Some 2) (Some 1) ∷ Starts 2 5 ∷
    Comes 6 ∷ Completes 1 6 ∷
    Comes 9 ∷ Stops 2 9 ∷ Ends 9 ∷ Begins 9 None (Some 2) ∷
    Comes 10 ∷ Completes 2 10 ∷ Ends 10 ∷
    Comes 20 ∷ Begins 20 None None ∷ []

-- R2: the engine becomes free at 7, where it has to choose after the releases, and the interval ends before them; the next copies in 1
unfoldable pub ends_unchosen : List Event
ends_unchosen =
    Comes 0 ∷ Takes 2 0 false ∷ Begins 0 None None ∷
    Comes 2 ∷ Finishes 2 ∷ Ends 2 ∷ Begins 2 (Some 2) None ∷ Starts 2 2 ∷
    Comes 6 ∷ Stops 2 6 ∷ Ends 6 ∷ Begins 6 None (Some 2) ∷
    Comes 7 ∷ Completes 2 7 ∷ Ends 7 ∷ Takes 1 7 false ∷ Begins 7 None None ∷ []

-- R6: plan E, where the first interval is over at 2 and stays open for the release of then, to which the finished copy gives way
unfoldable pub open_for_a_release : List Event
open_for_a_release =
    Comes 0 ∷ Takes 2 0 false ∷ Begins 0 None None ∷
    Comes 2 ∷ Finishes 2 ∷ Takes 1 2 true ∷ GivesWay 2 ∷ Ends 2 ∷ Begins 2 (Some 1) None ∷ []

-- plan F, where the second is over at 5 and ends behind the release that waits from then on
unfoldable pub open_for_a_deferral : List Event
open_for_a_deferral =
    Comes 0 ∷ Takes 1 0 true ∷ Begins 0 None None ∷
    Comes 2 ∷ Finishes 1 ∷ Ends 2 ∷ Begins 2 (Some 1) None ∷ Starts 1 2 ∷
    Comes 5 ∷ Stops 1 5 ∷ Defers 1 5 ∷ Ends 5 ∷ Begins 5 None (Some 1) ∷ []

-- 4/13: plan F with a release at 6 that waits for the completion of then, which comes before it
unfoldable pub waits_before_the_completion : List Event
waits_before_the_completion =
    Comes 0 ∷ Takes 1 0 true ∷ Begins 0 None None ∷
    Comes 2 ∷ Finishes 1 ∷ Ends 2 ∷ Begins 2 (Some 1) None ∷ Starts 1 2 ∷
    Comes 5 ∷ Stops 1 5 ∷ Ends 5 ∷ Begins 5 None (Some 1) ∷
    Comes 6 ∷ Defers 1 6 ∷ Completes 1 6 ∷ Takes 1 6 true ∷ []

-- the steps of an instant: 2 is taken behind the begin of the interval, whose engine therefore copies in 3
unfoldable pub taken_behind_the_begin : List Event
taken_behind_the_begin =
    Comes 0 ∷ Takes 3 0 false ∷ Begins 0 None None ∷ Takes 2 0 false ∷
    Comes 2 ∷ Finishes 3 ∷ Ends 2 ∷ Begins 2 (Some 3) None ∷ Starts 3 2 ∷
    Comes 4 ∷ Finishes 2 ∷ []

-- R3: tasks of which 3 is copied in for 3 ticks
unfoldable pub late_table : Table
late_table =
    record { present = 14; spaced = 0; priority = three 1 2 3; columns = three 2 2 3 ++ (three 3 4 5 ++ (three 1 1 2 ++ three 0 0 0)) }

-- the marked job of 1 is taken at 1, and the copy-in of 3 is cancelled only at 2, for the one of 2
unfoldable pub cancelled_late : List Event
cancelled_late =
    Comes 0 ∷ Takes 3 0 false ∷ Begins 0 None None ∷
    Comes 1 ∷ Takes 1 1 true ∷
    Comes 2 ∷ Takes 2 2 true ∷ GivesWay 3 ∷ Ends 2 ∷ Begins 2 (Some 1) None ∷ []

-- 2/13: plan B up to 4, where the copy of 2 that has finished is not thrown out
unfoldable pub not_thrown_out : List Event
not_thrown_out =
    Comes 0 ∷ Takes 3 0 false ∷ Begins 0 None None ∷
    Comes 2 ∷ Finishes 3 ∷ Ends 2 ∷ Takes 2 2 false ∷ Begins 2 (Some 3) None ∷ Starts 3 2 ∷
    Comes 4 ∷ Finishes 2 ∷ Takes 1 4 true ∷ []

abbrev pub Refuses : List Event → Type 0
Refuses h = Holds plans_table h → ⊥

unfoldable pub WrongRefused : Type 0
WrongRefused =
    Refuses second_lower
    × Refuses second_finished
    × Refuses thrown_out_runs
    × Refuses third_idle
    × Refuses third_lower
    × Refuses copyout_late
    × Refuses four_intervals
    × Refuses copyout_not_at_once
    × Refuses completion_late
    × Refuses completion_missing
    × Refuses completion_unexecuted
    × Refuses begins_late
    × Refuses no_ticks
    × Refuses not_executed
    × Refuses loaded_late
    × Refuses promoted_early
    × Refuses execution_long
    × Refuses promoted_unmarked
    × Refuses starts_unasked
    × Refuses starts_twice
    × Refuses stops_unstarted
    × Refuses cut_short
    × Refuses one_waits
    × Refuses two_wait
    × Refuses taken_late
    × Refuses waits_for_nothing
    × Refuses taken_twice
    × Refuses completed_twice
    × Refuses runs_unreleased
    × Refuses executed_again
    × Refuses another_tick
    × Refuses instants_fall
    × Refuses nobody_promoted
    × Refuses promoted_late
    × Refuses promoted_beside_the_loaded
    × Refuses begins_twice
    × Refuses ends_twice
    × Refuses finishes_twice
    × Refuses gives_way_twice
    × Refuses waits_between
    × Refuses ends_late
    × Refuses stays_open
    × Refuses ends_a_tick_late
    × Refuses taken_unchosen
    × Refuses ends_behind_a_taking
    × Refuses begins_a_tick_late
    × Refuses lower_chosen
    × Refuses nobody_chosen
    × Refuses copyin_short
    × Refuses copyin_overdue
    × Refuses cancelled_at_its_end
    × Refuses gives_way_unchosen
    × Refuses over_and_open
    × Refuses left_open
    × Refuses left_copying
    × Refuses begins_for_nobody
    × Refuses ends_unchosen
    × Refuses open_for_a_release
    × Refuses open_for_a_deferral
    × Refuses waits_before_the_completion
    × Refuses taken_behind_the_begin
    × (Holds late_table cancelled_late → ⊥)
    × Refuses not_thrown_out
    × (AllCompleted third_idle → ⊥)
    × (AllCompleted never_taken → ⊥)
    × (AllCompleted taken_late → ⊥)
    × (AllCompleted waited_unexecuted → ⊥)

-- ---- R6: a copy-out that lasts longer than an execution

-- the same tasks, where the copy-out of 3 lasts 4 ticks
unfoldable pub slow_tasks : List ℕ
slow_tasks = task 1 1 1 2 3 1 ++ (task 2 2 0 2 4 1 ++ task 3 3 0 2 5 4)

unfoldable pub slow_table : Table
slow_table =
    record { present = 14; spaced = 0; priority = three 1 2 3; columns = three 2 2 2 ++ (three 3 4 5 ++ (three 1 1 4 ++ three 0 0 0)) }

unfoldable pub calls_slow : List Call
calls_slow = Instant 0 8 ∷ Instant 2 2 ∷ Instant 4 0 ∷ Instant 7 0 ∷ Instant 10 0 ∷ Instant 11 0 ∷ Instant 12 0 ∷ []

-- the interval that begins at 7 executes 1 until 10, copies 3 out until 11, and ends then
unfoldable pub history_slow : List Event
history_slow =
    Comes 0 ∷ Takes 3 0 false ∷ Begins 0 None None ∷
    Comes 2 ∷ Finishes 3 ∷ Ends 2 ∷ Takes 1 2 true ∷ Begins 2 (Some 3) None ∷ Starts 3 2 ∷
    Comes 4 ∷ Finishes 1 ∷
    Comes 7 ∷ Stops 3 7 ∷ Ends 7 ∷ Begins 7 (Some 1) (Some 3) ∷ Starts 1 7 ∷
    Comes 10 ∷ Stops 1 10 ∷
    Comes 11 ∷ Completes 3 11 ∷ Ends 11 ∷ Begins 11 None (Some 1) ∷
    Comes 12 ∷ Completes 1 12 ∷ Ends 12 ∷ []

-- it ends with the execution, while it copies 3 out; the list does not go on to where 3 should complete
unfoldable pub ends_copying_out : List Event
ends_copying_out =
    Comes 0 ∷ Takes 3 0 false ∷ Begins 0 None None ∷
    Comes 2 ∷ Finishes 3 ∷ Ends 2 ∷ Takes 1 2 true ∷ Begins 2 (Some 3) None ∷ Starts 3 2 ∷
    Comes 4 ∷ Finishes 1 ∷
    Comes 7 ∷ Stops 3 7 ∷ Ends 7 ∷ Begins 7 (Some 1) (Some 3) ∷ Starts 1 7 ∷
    Comes 10 ∷ Stops 1 10 ∷ Ends 10 ∷ Begins 10 None (Some 1) ∷ []

unfoldable pub LaterEnd : Type 0
LaterEnd = AcceptsOf slow_tasks slow_table calls_slow history_slow × (Holds slow_table ends_copying_out → ⊥)

-- ---- 7/13: the figure. M is 7 here: the L + C of task 3

-- an unmarked job with four intervals, none of which executes one that is not lower: 3 is copied in before 2, and the third is idle
unfoldable pub unmarked_in_four : List Event
unmarked_in_four =
    Comes 0 ∷ Takes 2 0 false ∷ Takes 3 0 false ∷ Begins 0 None None ∷
    Comes 2 ∷ Finishes 3 ∷ Ends 2 ∷ Begins 2 (Some 3) None ∷ Starts 3 2 ∷
    Comes 7 ∷ Stops 3 7 ∷ Ends 7 ∷ Begins 7 None (Some 3) ∷
    Comes 9 ∷ Completes 3 9 ∷
    Comes 11 ∷ Finishes 2 ∷ Ends 11 ∷ Begins 11 (Some 2) None ∷ Starts 2 11 ∷ []

-- a marked job with three intervals, of which the second executes a lower one: at 1 the copy-in of 3 is not cancelled
unfoldable pub marked_in_three : List Event
marked_in_three =
    Comes 0 ∷ Takes 3 0 false ∷ Begins 0 None None ∷
    Comes 1 ∷ Takes 1 1 true ∷
    Comes 2 ∷ Finishes 3 ∷ Ends 2 ∷ Begins 2 (Some 3) None ∷ Starts 3 2 ∷
    Comes 4 ∷ Finishes 1 ∷
    Comes 7 ∷ Stops 3 7 ∷ Ends 7 ∷ Begins 7 (Some 1) (Some 3) ∷ Starts 1 7 ∷ []

-- and one with three intervals, of which the second is idle: plan C with an interval in which nobody is copied in
unfoldable pub marked_behind_idle : List Event
marked_behind_idle =
    Comes 0 ∷ Takes 1 0 true ∷ Begins 0 None None ∷
    Comes 2 ∷ Ends 2 ∷ Begins 2 None None ∷
    Comes 4 ∷ Finishes 1 ∷ Ends 4 ∷ Begins 4 (Some 1) None ∷ Starts 1 4 ∷ []

-- this one's first two: they are no more than two, and yet in its second the processor idles
unfoldable pub marked_idles : List Event
marked_idles =
    Comes 0 ∷ Takes 1 0 true ∷ Begins 0 None None ∷
    Comes 2 ∷ Ends 2 ∷ Begins 2 None None ∷ []

-- plan C with an interval that ends a tick later than M after its begin
unfoldable pub lasts_long : List Event
lasts_long =
    Comes 0 ∷ Takes 1 0 true ∷ Begins 0 None None ∷
    Comes 8 ∷ Finishes 1 ∷ Ends 8 ∷ Begins 8 (Some 1) None ∷ Starts 1 8 ∷ []

-- and one that is open so long: the instant finds it so, and it does not end
unfoldable pub open_long : List Event
open_long =
    Comes 0 ∷ Takes 1 0 true ∷ Begins 0 None None ∷
    Comes 8 ∷ []

-- an unmarked job that executes in its second interval and completes 2 × M + U + 1 after its taking: no interval is open from 6 to 15
unfoldable pub completes_behind_two : List Event
completes_behind_two =
    Comes 0 ∷ Takes 2 0 false ∷ Begins 0 None None ∷
    Comes 2 ∷ Finishes 2 ∷ Ends 2 ∷ Begins 2 (Some 2) None ∷ Starts 2 2 ∷
    Comes 6 ∷ Stops 2 6 ∷ Ends 6 ∷
    Comes 15 ∷ Begins 15 None (Some 2) ∷
    Comes 16 ∷ Completes 2 16 ∷ Ends 16 ∷ []

-- one that executes in its third, and completes 3 × M + U + 1 after its taking: none is open from 11 to 23
unfoldable pub unmarked_late : List Event
unmarked_late =
    Comes 0 ∷ Takes 3 0 false ∷ Begins 0 None None ∷
    Comes 1 ∷ Takes 2 1 false ∷
    Comes 2 ∷ Finishes 3 ∷ Ends 2 ∷ Begins 2 (Some 3) None ∷ Starts 3 2 ∷
    Comes 4 ∷ Finishes 2 ∷
    Comes 7 ∷ Stops 3 7 ∷ Ends 7 ∷ Begins 7 (Some 2) (Some 3) ∷ Starts 2 7 ∷
    Comes 9 ∷ Completes 3 9 ∷
    Comes 11 ∷ Stops 2 11 ∷ Ends 11 ∷
    Comes 23 ∷ Begins 23 None (Some 2) ∷
    Comes 24 ∷ Completes 2 24 ∷ Ends 24 ∷ []

-- and a marked one that completes 2 × M + U + 1 after its taking: none is open from 5 to 15
unfoldable pub marked_late : List Event
marked_late =
    Comes 0 ∷ Takes 1 0 true ∷ Begins 0 None None ∷
    Comes 2 ∷ Finishes 1 ∷ Ends 2 ∷ Begins 2 (Some 1) None ∷ Starts 1 2 ∷
    Comes 5 ∷ Stops 1 5 ∷ Ends 5 ∷
    Comes 15 ∷ Begins 15 None (Some 1) ∷
    Comes 16 ∷ Completes 1 16 ∷ Ends 16 ∷ []

-- h of job 2 is 1, since 1 has an interval before its own: and yet no execution of 1 starts between, so that this reading of h is smaller
unfoldable pub between_unstarted : List Event
between_unstarted =
    Comes 0 ∷ Takes 1 0 true ∷ Takes 2 0 false ∷ Begins 0 None None ∷
    Comes 2 ∷ Finishes 1 ∷ Ends 2 ∷ Begins 2 (Some 1) None ∷
    Comes 4 ∷ Finishes 2 ∷
    Comes 5 ∷ Stops 1 5 ∷ Ends 5 ∷ Begins 5 (Some 2) (Some 1) ∷ Starts 2 5 ∷ []

-- and none ends between
unfoldable pub between_unstopped : List Event
between_unstopped =
    Comes 0 ∷ Takes 1 0 true ∷ Takes 2 0 false ∷ Begins 0 None None ∷
    Comes 2 ∷ Finishes 1 ∷ Ends 2 ∷ Begins 2 (Some 1) None ∷ Starts 1 2 ∷
    Comes 4 ∷ Finishes 2 ∷
    Comes 5 ∷ Ends 5 ∷ Begins 5 (Some 2) (Some 1) ∷ Starts 2 5 ∷ []

abbrev pub FigureRefuses : List Event → Type 0
FigureRefuses h = Figure plans_table h → ⊥

-- it holds of plan A, and of none of these
unfoldable pub FigureTells : Type 0
FigureTells =
    Figure plans_table history_a
    × FigureRefuses unmarked_in_four
    × FigureRefuses marked_in_three
    × FigureRefuses marked_behind_idle
    × FigureRefuses marked_idles
    × FigureRefuses lasts_long
    × FigureRefuses open_long
    × FigureRefuses completes_behind_two
    × FigureRefuses unmarked_late
    × FigureRefuses marked_late
    × FigureRefuses between_unstarted
    × FigureRefuses between_unstopped

-- ---- Entries

-- plan B before the instant at 13, at which job 1 completes
unfoldable pub before_13 : List Event
before_13 = take 27 history_b

abbrev pub job_1 : ℕ → ℕ → ℕ → ℕ → JobEntry
job_1 release start completion blocked = record { task = 1; release = release; start = start; completion = completion; blocked = blocked }

-- an entry of the instant at t, behind what has occurred before it
abbrev pub Tells : List Event → ℕ → JobEntry → Type 0
Tells before t e = TellsJob plans_table.priority before t e

-- job 1 is released at 4, starts at 9, completes at 13 and is blocked in one interval: this tells the truth, and with one number another it
-- does not
unfoldable pub OneEntry : Type 0
OneEntry =
    Tells before_13 13 (job_1 4 9 13 1)
    × (Tells before_13 13 (job_1 3 9 13 1) → ⊥)
    × (Tells before_13 13 (job_1 4 8 13 1) → ⊥)
    × (Tells before_13 13 (job_1 4 9 12 1) → ⊥)
    × (Tells before_13 13 (job_1 4 9 13 0) → ⊥)
    × (Tells before_13 13 (job_1 4 9 13 2) → ⊥)

-- the history with a release that waits, before the instant at 17, at which its job completes
unfoldable pub before_17 : List Event
before_17 = take 36 history_waiting

-- it came at 3 and was taken at 11, and from its taking on no interval blocks it. Refused: the tick of its taking; that of the release
-- before it; and a count from 3 on, which has the interval in which job 3 executes.
unfoldable pub WaitedEntry : Type 0
WaitedEntry =
    Tells before_17 17 (job_1 3 13 17 0)
    × (Tells before_17 17 (job_1 11 13 17 0) → ⊥)
    × (Tells before_17 17 (job_1 2 13 17 0) → ⊥)
    × (Tells before_17 17 (job_1 3 13 17 1) → ⊥)

-- ---- What becomes of the releases

-- the calls hand in {1} at 0, and 2 is taken: there is one of task 1 too many and one of task 2 too few
unfoldable pub calls_one : List Call
calls_one = Instant 0 2 ∷ []

unfoldable pub taken_another : List Event
taken_another =
    Comes 0 ∷ Takes 2 0 false ∷ Begins 0 None None ∷ []

-- plan F up to 5, where the release at 5 waits
unfoldable pub up_to_5 : List Event
up_to_5 = take 13 history_f

-- an instant at a tick that hands in a set, skips some of it and has these events, behind a history
abbrev pub At : ℕ → ℕ → ℕ → List Event → List Event → Type 0
At = Placed 1 plans_table

-- refused: a taking of a task that is neither in the set nor waits; a release that is skipped where none waits, one that is skipped at the
-- taking, and one that is skipped and was not handed in; and one that finds one waiting and is not skipped
unfoldable pub ReleasesRefused : Type 0
ReleasesRefused =
    (Balance 1 (handed_in 1 (state_opened (opening tasks)) calls_one) 0 taken_another → ⊥)
    × (Balance 2 (handed_in 2 (state_opened (opening tasks)) calls_one) 0 taken_another → ⊥)
    × (At 0 0 0 [] (Comes 0 ∷ Takes 1 0 true ∷ []) → ⊥)
    × (At 0 2 2 [] (Comes 0 ∷ []) → ⊥)
    × (At 6 2 2 up_to_5 (Comes 6 ∷ Completes 1 6 ∷ Takes 1 6 true ∷ []) → ⊥)
    × (At 6 0 2 up_to_5 (Comes 6 ∷ []) → ⊥)
    × (At 6 2 0 up_to_5 (Comes 6 ∷ []) → ⊥)

-- ---- 8/13: the spacings

-- plan F with a release of task 1 at 3 that comes too soon: the one at 5 comes sooner than a spacing of 5 after that one only
unfoldable pub calls_skipped : List Call
calls_skipped = Instant 0 2 ∷ Instant 2 0 ∷ Instant 3 2 ∷ Instant 5 2 ∷ Instant 6 0 ∷ Instant 8 0 ∷ Instant 11 0 ∷ Instant 12 0 ∷ []

unfoldable pub history_skipped : List Event
history_skipped = take 8 history_f ++ (Comes 3 ∷ drop 8 history_f)

-- plan F with a third release, at 10: a spacing of 5 after the original time of the second, which was taken at 6
unfoldable pub calls_third : List Call
calls_third =
    Instant 0 2 ∷ Instant 2 0 ∷ Instant 5 2 ∷ Instant 6 0 ∷ Instant 8 0 ∷ Instant 10 2 ∷ Instant 11 0 ∷ Instant 12 0 ∷
    Instant 14 0 ∷ Instant 17 0 ∷ Instant 18 0 ∷ []

unfoldable pub history_third : List Event
history_third =
    take 21 history_f ++ (
    Comes 10 ∷ Defers 1 10 ∷
    Comes 11 ∷ Stops 1 11 ∷ Ends 11 ∷ Begins 11 None (Some 1) ∷
    Comes 12 ∷ Completes 1 12 ∷ Takes 1 12 true ∷
    Comes 14 ∷ Finishes 1 ∷ Ends 14 ∷ Begins 14 (Some 1) None ∷ Starts 1 14 ∷
    Comes 17 ∷ Stops 1 17 ∷ Ends 17 ∷ Begins 17 None (Some 1) ∷
    Comes 18 ∷ Completes 1 18 ∷ Ends 18 ∷ [])

-- where task 1 has a spacing of s
abbrev pub AcceptsSpaced : ℕ → List Call → List Event → Type 0
AcceptsSpaced s = AcceptsOf (spaced_tasks s) (spaced_table s)

abbrev pub RefusesSpaced : ℕ → List Event → Type 0
RefusesSpaced s h = Holds (spaced_table s) h → ⊥

abbrev pub AtSpaced : ℕ → ℕ → ℕ → ℕ → List Event → List Event → Type 0
AtSpaced s = Placed 1 (spaced_table s)

-- plan F' up to 5, with one release of task 1, at 0
unfoldable pub taken_at_0 : List Event
taken_at_0 = take 12 history_f'

-- what occurs at 6, where its job completes: a release is taken, or none is
abbrev pub takes_at_6 : List Event
takes_at_6 = Comes 6 ∷ Completes 1 6 ∷ Takes 1 6 true ∷ []

abbrev pub none_at_6 : List Event
none_at_6 = Comes 6 ∷ Completes 1 6 ∷ Ends 6 ∷ []

-- accepted: a release that is set waiting, and one that is taken, exactly one spacing after the last; one that comes sooner than a skipped
-- one only; one that comes after one that waited, by its original time; and at an instant one exactly one spacing later that is taken, one
-- a tick sooner that is skipped
unfoldable pub SpacingsAccepted : Type 0
SpacingsAccepted =
    AcceptsSpaced 5 calls_f history_f
    × AcceptsSpaced 6 calls_f' history_f'
    × AcceptsSpaced 5 calls_skipped history_skipped
    × AcceptsSpaced 5 calls_third history_third
    × AtSpaced 6 6 2 0 taken_at_0 takes_at_6
    × AtSpaced 7 6 2 2 taken_at_0 none_at_6

-- refused, of histories that all other lines accept, since the plans' table has no spacing: two releases taken closer than the spacing; and
-- one that is set waiting too soon, though it is taken exactly one spacing after the last. And at an instant: one that is skipped although
-- it came exactly one spacing after the last and none waits; one that came a tick sooner and was taken; one that was set waiting too soon;
-- and one that is skipped since it is measured from the taking of the one that waited, at 6, and not from its original time
unfoldable pub SpacingsRefused : Type 0
SpacingsRefused =
    RefusesSpaced 7 history_f'
    × RefusesSpaced 6 history_f
    × (AtSpaced 6 6 2 2 taken_at_0 none_at_6 → ⊥)
    × (AtSpaced 7 6 2 0 taken_at_0 takes_at_6 → ⊥)
    × (AtSpaced 5 4 2 0 (take 8 history_f) (Comes 4 ∷ Defers 1 4 ∷ []) → ⊥)
    × (AtSpaced 5 10 2 2 (take 21 history_f) (Comes 10 ∷ []) → ⊥)

-- the last release by original time: of plan F the one that waited, while it waits and from its taking on
unfoldable pub LastReleases : Type 0
LastReleases =
    (last_released 1 [] ≡ None)
    × (last_released 1 (take 8 history_f) ≡ Some 0)
    × (last_released 1 up_to_5 ≡ Some 5)
    × (last_released 1 history_f ≡ Some 5)
    × (last_released 1 history_f' ≡ Some 6)
    × (last_released 2 history_f ≡ None)

-- ---- The marks

-- whether task 1 is marked behind some calls
abbrev pub marked_1 : List Call → Bool
marked_1 = marked_by 1 (member 1 (state_opened (opening tasks)).marked) (state_opened (opening tasks))

-- it is as opening reads it, and not behind a mark call on it; one on another task, and one that is refused, change nothing
unfoldable pub Marks : Type 0
Marks =
    (marked_1 [] ≡ true)
    × (marked_1 (Mark 1 0 ∷ []) ≡ false)
    × (marked_1 (Mark 2 0 ∷ []) ≡ true)
    × (marked_1 (Instant 0 2 ∷ Mark 1 0 ∷ []) ≡ true)

-- ---- The entries of intervals

abbrev pub interval : ℕ → ℕ → ℕ → Option ℕ → ℕ → Option ℕ → Option ℕ → ℕ → Option ℕ → IntervalEntry
interval begin end half task work copiedout chosen fate promoted = record {
  begin = begin;
  end = end;
  half = half;
  task = task;
  work = work;
  copiedout = copiedout;
  chosen = chosen;
  fate = fate;
  promoted = promoted;
}

-- ---- 7/13: the bounds on a job's intervals are met

-- plan B, where task 1 is no longer marked: job 1 meets a lower one in its first two intervals
unfoldable pub calls_unmarked : List Call
calls_unmarked =
    Mark 1 0 ∷ Instant 0 8 ∷ Instant 2 4 ∷ Instant 4 2 ∷ Instant 7 0 ∷ Instant 9 0 ∷
    Instant 11 0 ∷ Instant 12 0 ∷ Instant 14 0 ∷ Instant 15 0 ∷ []

unfoldable pub history_unmarked : List Event
history_unmarked =
    Comes 0 ∷ Takes 3 0 false ∷ Begins 0 None None ∷
    Comes 2 ∷ Finishes 3 ∷ Ends 2 ∷ Takes 2 2 false ∷ Begins 2 (Some 3) None ∷ Starts 3 2 ∷
    Comes 4 ∷ Finishes 2 ∷ Takes 1 4 false ∷
    Comes 7 ∷ Stops 3 7 ∷ Ends 7 ∷ Begins 7 (Some 2) (Some 3) ∷ Starts 2 7 ∷
    Comes 9 ∷ Completes 3 9 ∷
    Comes 11 ∷ Stops 2 11 ∷ Finishes 1 ∷ Ends 11 ∷ Begins 11 (Some 1) (Some 2) ∷ Starts 1 11 ∷
    Comes 12 ∷ Completes 2 12 ∷
    Comes 14 ∷ Stops 1 14 ∷ Ends 14 ∷ Begins 14 None (Some 1) ∷
    Comes 15 ∷ Completes 1 15 ∷ Ends 15 ∷ []

-- the job of task 1 that is taken behind k events has so many intervals, where h others that are not lower go before it
abbrev pub Has : List Event → ℕ → ℕ → ℕ → Type 0
Has history k intervals-met h =
    (length (met 1 (situation NoneOpen (take k history)) (intervals (drop k history))) ≡ intervals-met)
    × (overtaking plans_table.priority 1 (situation NoneOpen (take k history)) (intervals (drop k history)) ≡ h)

-- h + 3 of one that is not marked, and h + 2 of a marked one: nobody can ask for less
unfoldable pub BoundsMet : Type 0
BoundsMet = Accepts calls_unmarked history_unmarked × Has history_unmarked 12 3 0 × Has history_b 12 2 0

-- what plan B's history has for its I lines, in document 01's order, and plan C's for its J line
unfoldable pub PlanEntries : Type 0
PlanEntries =
    (ended plans_table.priority no_course history_b
    ≡ interval 0 2 0 None 0 None (Some 3) 1 None
    ∷ interval 2 7 1 (Some 3) 1 None (Some 2) 3 (Some 1)
    ∷ interval 7 12 0 (Some 1) 2 (Some 3) (Some 2) 1 None
    ∷ interval 12 16 1 (Some 2) 1 (Some 1) None 0 None
    ∷ interval 16 17 0 None 0 (Some 2) None 0 None ∷ [])
    × (completions history_c ≡ record { task = Some 1; tick = 6 } ∷ [])
