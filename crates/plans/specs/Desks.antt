-- Desks of equal standing (6/13): tasks 1 and 2 have one priority, and task 3 a lower one.
use Rattle.std.specs.Prelude.{List, ◌++◌, [], ◌∷◌, ℕ}
use Rattle.plans.specs.Rows.{Row, recorded}
use Rattle.plans.specs.Plans.{task, release, none, interval, job, loaded_stays}

-- marked or not, tasks 1 and 2
unfoldable pub desks : ℕ → ℕ → List ℕ
desks first second = task 1 5 first 2 3 1 ++ (task 2 5 second 2 4 1 ++ task 3 9 0 2 5 2)

-- ---- The records

-- at one tick the lower number goes first; in 2 to 5 the processor runs 1, an equal, so that 2 is not blocked: 150 bytes
unfoldable pub record_at_one_tick : List ℕ
record_at_one_tick =
    interval 0 2 0 none 0 none 1 1 none ++
    interval 2 5 1 1 1 none 2 1 none ++
    job 1 0 2 6 0 ++
    interval 5 9 0 2 1 1 none 0 none ++
    job 2 0 5 10 0 ++
    interval 9 10 1 none 0 2 none 0 none

-- 2 comes at 3 and 1 at 4, while 3 executes: the earlier one goes first, and both are blocked by 3 alone: 225 bytes
unfoldable pub record_in_turn : List ℕ
record_in_turn =
    interval 0 2 0 none 0 none 3 1 none ++
    interval 2 7 1 3 1 none none 0 none ++
    job 3 0 2 9 0 ++
    interval 7 11 0 none 0 3 2 1 none ++
    interval 11 15 1 2 1 none 1 1 none ++
    job 2 3 11 16 1 ++
    interval 15 18 0 1 1 2 none 0 none ++
    job 1 4 15 19 1 ++
    interval 18 19 1 none 0 1 none 0 none

-- the second release of 2 waits from 1 on and is taken at 7: it goes before 1, which was taken at 3: 225 bytes
unfoldable pub record_original_time : List ℕ
record_original_time =
    interval 0 2 0 none 0 none 2 1 none ++
    interval 2 6 1 2 1 none none 0 none ++
    job 2 0 2 7 0 ++
    interval 6 9 0 none 0 2 2 1 none ++
    interval 9 13 1 2 1 none 1 1 none ++
    job 2 1 9 14 0 ++
    interval 13 16 0 1 1 2 none 0 none ++
    job 1 3 13 17 0 ++
    interval 16 17 1 none 0 1 none 0 none

-- as plan D, but for the priorities: the marked release of 1 comes while 2, which is not lower, is copied in: 150 bytes
unfoldable pub record_cancels_nothing : List ℕ
record_cancels_nothing =
    interval 0 2 0 none 0 none 2 1 none ++
    interval 2 6 1 2 1 none 1 1 none ++
    job 2 0 2 7 0 ++
    interval 6 9 0 1 1 2 none 0 none ++
    job 1 1 6 10 0 ++
    interval 9 10 1 none 0 1 none 0 none

-- as plan B: the copy of 2 has ended when the marked release of 1 comes, and stays: 201 bytes
unfoldable pub record_throws_out_nothing : List ℕ
record_throws_out_nothing = loaded_stays 5

-- none was chosen in 2 to 7, and both marked ones come in it: the earlier one is promoted: 201 bytes
unfoldable pub record_earlier_promoted : List ℕ
record_earlier_promoted =
    interval 0 2 0 none 0 none 3 1 none ++
    interval 2 7 1 3 1 none none 0 2 ++
    job 3 0 2 9 0 ++
    interval 7 13 0 2 2 3 1 1 none ++
    job 2 3 9 14 1 ++
    interval 13 16 1 1 1 2 none 0 none ++
    job 1 4 13 17 1 ++
    interval 16 17 0 none 0 1 none 0 none

-- the same at one tick: the lower number: 201 bytes
unfoldable pub record_lower_number_promoted : List ℕ
record_lower_number_promoted =
    interval 0 2 0 none 0 none 3 1 none ++
    interval 2 7 1 3 1 none none 0 1 ++
    job 3 0 2 9 0 ++
    interval 7 12 0 1 2 3 2 1 none ++
    job 1 3 9 13 1 ++
    interval 12 16 1 2 1 1 none 0 none ++
    job 2 3 12 17 1 ++
    interval 16 17 0 none 0 2 none 0 none

-- 2, which is not marked, came earlier, and 1 is promoted: R4 promotes marked ones: 201 bytes
unfoldable pub record_passes_an_equal : List ℕ
record_passes_an_equal =
    interval 0 2 0 none 0 none 3 1 none ++
    interval 2 7 1 3 1 none none 0 1 ++
    job 3 0 2 9 0 ++
    interval 7 12 0 1 2 3 2 1 none ++
    job 1 4 9 13 1 ++
    interval 12 16 1 2 1 1 none 0 none ++
    job 2 3 12 17 1 ++
    interval 16 17 0 none 0 2 none 0 none

-- ---- The rows

unfoldable pub equals : List Row
equals =
    recorded (desks 0 0 ++ (release 0 1 ++ (release 0 2))) record_at_one_tick 150 152 ∷
    recorded (desks 0 0 ++ (release 0 3 ++ (release 3 2 ++ (release 4 1)))) record_in_turn 225 227 ∷
    recorded (desks 0 0 ++ (release 0 2 ++ (release 1 2 ++ (release 3 1)))) record_original_time 225 227 ∷
    recorded (desks 1 0 ++ (release 0 2 ++ (release 1 1))) record_cancels_nothing 150 152 ∷
    recorded (desks 1 0 ++ (release 0 3 ++ (release 2 2 ++ (release 5 1)))) record_throws_out_nothing 201 203 ∷
    recorded (desks 1 1 ++ (release 0 3 ++ (release 3 2 ++ (release 4 1)))) record_earlier_promoted 201 203 ∷
    recorded (desks 1 1 ++ (release 0 3 ++ (release 3 1 ++ (release 3 2)))) record_lower_number_promoted 201 203 ∷
    recorded (desks 1 0 ++ (release 0 3 ++ (release 3 2 ++ (release 4 1)))) record_passes_an_equal 201 203 ∷
    []
