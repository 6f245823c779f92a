-- Releases that wait (4/13), of the plans' tasks. Plan F stands with the plans.
use Rattle.std.specs.Prelude.{List, [], ◌∷◌, ◌++◌, ℕ}
use Rattle.rules.specs.declared.Call.TheVariants.{Instant, Mark}
use Rattle.plans.specs.Rows.{Row, recorded, answered, answered_behind}
use Rattle.plans.specs.Plans.{release, tasks, none, interval, job, skipped, two_jobs}

-- ---- The records

-- at 6 the release that came at 5 is taken, and that of this instant waits in its turn: 249 bytes
unfoldable pub record_in_its_turn : List ℕ
record_in_its_turn =
    two_jobs 5 ++
    interval 11 14 0 none 0 1 1 1 none ++
    interval 14 17 1 1 1 none none 0 none ++
    job 1 6 14 18 0 ++
    interval 17 18 0 none 0 1 none 0 none

-- the release at 3 waits, so that those at 4 and 5 are skipped: 194 bytes
unfoldable pub record_third_skipped : List ℕ
record_third_skipped =
    interval 0 2 0 none 0 none 1 1 none ++
    skipped 1 4 ++
    interval 2 5 1 1 1 none none 0 none ++
    skipped 1 5 ++
    job 1 0 2 6 0 ++
    interval 5 8 0 none 0 1 1 1 none ++
    interval 8 11 1 1 1 none none 0 none ++
    job 1 3 8 12 0 ++
    interval 11 12 0 none 0 1 none 0 none

-- job 2 is ready from 5 on; at 6 the marked release is taken, and the engine, free then, chooses it: 225 bytes
unfoldable pub record_chosen_at_once : List ℕ
record_chosen_at_once =
    interval 0 2 0 none 0 none 1 1 none ++
    interval 2 5 1 1 1 none none 0 none ++
    job 1 0 2 6 0 ++
    interval 5 8 0 none 0 1 1 1 none ++
    interval 8 11 1 1 1 none 2 1 none ++
    job 1 5 8 12 0 ++
    interval 11 15 0 2 1 1 none 0 none ++
    job 2 5 11 16 0 ++
    interval 15 16 1 none 0 2 none 0 none

-- the release of 1 at 3 is taken at 12, while job 2 executes. Its job is blocked in that interval, 11 to 15, and not in 2 to 7, where
-- job 3 executes and it waits: 252 bytes
unfoldable pub record_from_the_taking : List ℕ
record_from_the_taking =
    interval 0 2 0 none 0 none 3 1 none ++
    interval 2 7 1 3 1 none 1 1 none ++
    job 3 0 2 9 0 ++
    interval 7 11 0 1 1 3 2 1 none ++
    job 1 2 7 12 1 ++
    interval 11 15 1 2 1 1 1 1 none ++
    job 2 9 11 16 0 ++
    interval 15 18 0 1 1 2 none 0 none ++
    job 1 3 15 19 1 ++
    interval 18 19 1 none 0 1 none 0 none

-- the calls of the row for 17: as plan F, with the release at 3
unfoldable pub record_marks : List ℕ
record_marks = two_jobs 3 ++ interval 11 12 0 none 0 1 none 0 none

-- ---- States that no calls make
--
-- Where a job completes, the engine has just ended its copy-out and has not chosen yet. So in a run a release that waited finds no copy-in
-- that could give way, no interval ends at its taking, and a mark call finds the pending job before it. The definitions take a release that
-- waits as one of the instant of its taking all the same, and these rows say so: task 1 has no pending job, and a release of it that came
-- at 1 is put in.

-- plan A from its second interval on, with job 1 released at 1: at 3 the release cancels the copy-in of 2, and is promoted
unfoldable pub record_cancels : List ℕ
record_cancels =
    interval 2 7 1 3 1 none 2 2 1 ++
    job 3 0 2 9 0 ++
    interval 7 12 0 1 2 3 2 1 none ++
    job 1 1 9 13 1

-- the same with a copy of 2 that is finished when the release is taken, at 5: it is thrown out
unfoldable pub record_throws_out : List ℕ
record_throws_out =
    interval 2 7 1 3 1 none 2 3 1 ++
    job 3 0 2 9 0 ++
    interval 7 12 0 1 2 3 2 1 none ++
    job 1 1 9 13 1

-- the interval ends at step b of the instant of the taking, 7: the copy of 2 stays, and the release belongs to the
-- next, the only one in which it is blocked
unfoldable pub record_belongs_to_next : List ℕ
record_belongs_to_next =
    interval 2 7 1 3 1 none 2 1 none ++
    job 3 0 2 9 0 ++
    interval 7 11 0 2 1 3 1 1 none ++
    job 2 2 7 12 1 ++
    interval 11 14 1 1 1 2 none 0 none ++
    job 1 1 11 15 1 ++
    interval 14 15 0 none 0 1 none 0 none

-- ---- The rows

unfoldable pub waiting : List Row
waiting =
    recorded (tasks ++ (release 0 1 ++ (release 5 1 ++ (release 6 1)))) record_in_its_turn 249 251 ∷
    recorded (tasks ++ (release 0 1 ++ (release 3 1 ++ (release 4 1 ++ (release 5 1))))) record_third_skipped 194 196 ∷
    recorded (tasks ++ (release 0 1 ++ (release 5 1 ++ (release 5 2)))) record_chosen_at_once 225 227 ∷
    recorded (tasks ++ (release 0 3 ++ (release 2 1 ++ (release 3 1 ++ (release 9 2))))) record_from_the_taking 252 254 ∷
    -- 17 while a release waits and while its job is pending; not behind that
    answered tasks
    (Instant 0 2 ∷ Instant 2 0 ∷ Instant 3 2 ∷ Mark 1 0 ∷ Mark 1 1 ∷ Instant 5 0 ∷ Mark 1 0 ∷ Instant 6 0 ∷ Mark 1 0 ∷
    Instant 8 0 ∷ Instant 11 0 ∷ Instant 12 0 ∷ Mark 1 0 ∷ [])
    (0 ∷ 0 ∷ 0 ∷ 0 ∷ 2 ∷ 0 ∷ 0 ∷ 5 ∷ 0 ∷ 0 ∷ 5 ∷ 17 ∷ 17 ∷ 0 ∷ 0 ∷ 6 ∷ 17 ∷ 0 ∷ 0 ∷ 8 ∷ 17 ∷ 0 ∷ 0 ∷ 11 ∷ 0 ∷ 0 ∷ 12 ∷ 0 ∷ 0 ∷ 0 ∷ [])
    record_marks ∷
    -- a release that is put in
    answered_behind tasks (Instant 0 8 ∷ Instant 2 4 ∷ []) 1 1 (Instant 3 0 ∷ []) (0 ∷ 0 ∷ 7 ∷ 2 ∷ []) [] ∷
    answered_behind tasks (Instant 0 8 ∷ Instant 2 4 ∷ []) 1 1
    (Instant 3 0 ∷ Instant 7 0 ∷ Instant 9 0 ∷ Instant 11 0 ∷ Instant 12 0 ∷ Instant 13 0 ∷ [])
    (0 ∷ 0 ∷ 7 ∷ 0 ∷ 0 ∷ 9 ∷ 0 ∷ 0 ∷ 11 ∷ 0 ∷ 0 ∷ 12 ∷ 0 ∷ 0 ∷ 13 ∷ 0 ∷ 0 ∷ 16 ∷ 0 ∷ [])
    record_cancels ∷
    answered_behind tasks (Instant 0 8 ∷ Instant 2 4 ∷ Instant 4 0 ∷ []) 1 1
    (Instant 5 0 ∷ Instant 7 0 ∷ Instant 9 0 ∷ Instant 11 0 ∷ Instant 12 0 ∷ Instant 13 0 ∷ [])
    (0 ∷ 0 ∷ 7 ∷ 0 ∷ 0 ∷ 9 ∷ 0 ∷ 0 ∷ 11 ∷ 0 ∷ 0 ∷ 12 ∷ 0 ∷ 0 ∷ 13 ∷ 0 ∷ 0 ∷ 16 ∷ 0 ∷ [])
    record_throws_out ∷
    answered_behind tasks (Instant 0 8 ∷ Instant 2 4 ∷ Instant 4 0 ∷ []) 1 1 (Instant 7 0 ∷ [])
    (0 ∷ 0 ∷ 9 ∷ 2 ∷ []) (interval 2 7 1 3 1 none 2 1 none) ∷
    answered_behind tasks (Instant 0 8 ∷ Instant 2 4 ∷ Instant 4 0 ∷ []) 1 1
    (Instant 7 0 ∷ Instant 9 0 ∷ Instant 11 0 ∷ Instant 12 0 ∷ Instant 14 0 ∷ Instant 15 0 ∷ [])
    (0 ∷ 0 ∷ 9 ∷ 0 ∷ 0 ∷ 11 ∷ 0 ∷ 0 ∷ 12 ∷ 0 ∷ 0 ∷ 14 ∷ 0 ∷ 0 ∷ 15 ∷ 0 ∷ 0 ∷ 0 ∷ [])
    record_belongs_to_next ∷
    -- 17 of a task of which only a release waits
    answered_behind tasks [] 1 1 (Mark 1 0 ∷ Mark 1 1 ∷ Mark 2 1 ∷ []) (17 ∷ 17 ∷ 0 ∷ 0 ∷ []) [] ∷ []
