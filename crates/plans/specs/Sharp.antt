-- How sharp the figure of 7/13 is: runs that meet its bounds, or come as close as one can. Beside each stand the task, its release, h, its
-- intervals and what is left of the bound in ticks. Plan A meets h + 2: task 1, released at 3, has h 0 and two intervals.
use Rattle.std.specs.Prelude.{List, ◌++◌, [], ◌∷◌, ℕ}
use Rattle.plans.specs.Rows.{Row, recorded}
use Rattle.plans.specs.Plans.{task, release, tasks, none, interval, job}

-- three tasks of falling priority, the first marked, with one length of execution
unfoldable pub three_alike : ℕ → List ℕ
three_alike c = task 1 1 1 2 c 2 ++ (task 2 2 0 2 c 2 ++ task 3 3 0 2 c 2)

-- ---- The records

-- h + 3: an idle second interval. 2, released at 3: h 0, 3 intervals, 9 left: 174 bytes
unfoldable pub record_idle_second : List ℕ
record_idle_second =
    interval 0 2 0 none 0 none 3 1 none ++
    interval 2 7 1 3 1 none none 0 none ++
    job 3 0 2 9 0 ++
    interval 7 11 0 none 0 3 2 1 none ++
    interval 11 15 1 2 1 none none 0 none ++
    job 2 3 11 16 1 ++
    interval 15 16 0 none 0 2 none 0 none

-- h + 3 with a higher job ahead. 2, released at 3: h 1, 4 intervals, 13 left: 225 bytes
unfoldable pub record_higher_ahead : List ℕ
record_higher_ahead =
    interval 0 2 0 none 0 none 3 1 none ++
    interval 2 7 1 3 1 none none 0 none ++
    job 3 0 2 9 0 ++
    interval 7 11 0 none 0 3 1 1 none ++
    interval 11 14 1 1 1 none 2 1 none ++
    job 1 8 11 15 0 ++
    interval 14 18 0 2 1 1 none 0 none ++
    job 2 3 14 19 1 ++
    interval 18 19 1 none 0 2 none 0 none

-- h + 2 and the time to the tick. 1, released at 4: h 0, 2 intervals, none left: 252 bytes
unfoldable pub record_no_tick_left : List ℕ
record_no_tick_left =
    interval 0 2 0 none 0 none 3 1 none ++
    interval 2 4 1 3 1 none 2 1 none ++
    job 3 0 2 6 0 ++
    interval 4 8 0 2 1 3 1 1 none ++
    job 2 2 4 10 1 ++
    interval 8 12 1 1 1 2 3 1 none ++
    job 1 4 8 14 1 ++
    interval 12 14 0 3 1 1 none 0 none ++
    job 3 7 12 16 0 ++
    interval 14 16 1 none 0 3 none 0 none

-- h + 3 and the time but for a tick, which a job that is taken after a choice always leaves. 2, released at 2: h 0, 3 intervals, 1
-- left: 252 bytes
unfoldable pub record_one_tick_left : List ℕ
record_one_tick_left =
    interval 0 1 0 none 0 none 3 2 1 ++
    interval 1 5 1 1 2 none 3 1 none ++
    job 1 1 3 7 0 ++
    interval 5 9 0 3 1 1 2 1 none ++
    job 3 0 5 11 0 ++
    interval 9 13 1 2 1 3 1 1 none ++
    job 2 2 9 15 1 ++
    interval 13 15 0 1 1 2 none 0 none ++
    job 1 9 13 17 1 ++
    interval 15 17 1 none 0 1 none 0 none

-- an interval of M ticks by the L of one task and the U of another. 2, released at 2: h 0, 2 intervals, 31 left: 174 bytes
unfoldable pub record_longest_of_two : List ℕ
record_longest_of_two =
    interval 0 1 0 none 0 none 1 1 none ++
    interval 1 2 1 1 1 none none 0 none ++
    job 1 0 1 10 0 ++
    interval 2 18 0 none 0 1 2 1 none ++
    interval 18 19 1 2 1 none none 0 none ++
    job 2 2 18 20 0 ++
    interval 19 20 0 none 0 2 none 0 none

-- ---- The rows

unfoldable pub sharp : List Row
sharp =
    recorded (tasks ++ (release 0 3 ++ release 3 2)) record_idle_second 174 176 ∷
    recorded (tasks ++ (release 0 3 ++ (release 3 2 ++ release 8 1))) record_higher_ahead 225 227 ∷
    recorded (three_alike 1 ++ (release 0 3 ++ (release 2 2 ++ (release 4 1 ++ release 7 3)))) record_no_tick_left 252 254 ∷
    recorded (three_alike 2 ++ (release 0 3 ++ (release 1 1 ++ (release 2 2 ++ release 9 1)))) record_one_tick_left 252 254 ∷
    recorded (task 1 1 0 1 1 8 ++ (task 2 2 0 8 1 1 ++ (release 0 1 ++ release 2 2))) record_longest_of_two 174 176 ∷
    []
