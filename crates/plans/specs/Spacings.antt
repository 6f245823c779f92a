-- The spacing that desks promised (8/13), over the plans' tasks.
use Rattle.std.specs.Prelude.{List, ◌++◌, [], ◌∷◌, ℕ}
use Rattle.rules.specs.declared.Call.TheVariants.{Instant}
use Rattle.plans.specs.Rows.{Row, recorded, refused, answered}
use Rattle.plans.specs.Plans.{task, spacing, release, tasks, none, interval, job, skipped}
use Rattle.plans.specs.Refusals.{unopened}

-- ---- The records

-- task 1 alone: its first job up to its execution's end; its second, shown as released at r, up to its completion, and a third
unfoldable pub executed : List ℕ
executed = interval 0 2 0 none 0 none 1 1 none ++ interval 2 5 1 1 1 none none 0 none

unfoldable pub second_job : ℕ → List ℕ
second_job r = interval 5 8 0 none 0 1 1 1 none ++ (interval 8 11 1 1 1 none none 0 none ++ job 1 r 8 12 0)

unfoldable pub third_job : ℕ → List ℕ
third_job r =
    interval 11 14 0 none 0 1 1 1 none ++
    interval 14 17 1 1 1 none none 0 none ++
    job 1 r 14 18 0 ++
    interval 17 18 0 none 0 1 none 0 none

-- and the end after the second
unfoldable pub end_at_12 : List ℕ
end_at_12 = interval 11 12 0 none 0 1 none 0 none

-- as plan F': 6 is one spacing after 0: 174 bytes
unfoldable pub record_one_spacing_later : List ℕ
record_one_spacing_later = executed ++ job 1 0 2 6 0 ++ second_job 6 ++ end_at_12

-- the same release under a spacing of 7 is skipped, though no job of the task is pending then: 109 bytes
unfoldable pub record_one_tick_sooner : List ℕ
record_one_tick_sooner = executed ++ job 1 0 2 6 0 ++ skipped 1 6 ++ interval 5 6 0 none 0 1 none 0 none

-- 5 is skipped and does not count as the last: 6 is one spacing after 0: 184 bytes
unfoldable pub record_after_a_skipped_one : List ℕ
record_after_a_skipped_one = executed ++ skipped 1 5 ++ job 1 0 2 6 0 ++ second_job 6 ++ end_at_12

-- 2 waits, so that 5 is skipped, though not too soon; 6 is measured from 2: 259 bytes
unfoldable pub record_after_one_behind_a_waiting : List ℕ
record_after_one_behind_a_waiting = executed ++ skipped 1 5 ++ job 1 0 2 6 0 ++ second_job 2 ++ third_job 6

-- 5 waits and is taken at 6: 10 is one spacing after 5: 249 bytes
unfoldable pub record_from_the_original_time : List ℕ
record_from_the_original_time = executed ++ job 1 0 2 6 0 ++ second_job 5 ++ third_job 10

-- 5 waits and is taken at 6; one that comes then is too soon after 5: 184 bytes
unfoldable pub record_soon_at_a_taking : List ℕ
record_soon_at_a_taking = executed ++ job 1 0 2 6 0 ++ skipped 1 6 ++ second_job 5 ++ end_at_12

-- 3 would wait, and is skipped: 109 bytes
unfoldable pub record_soon_while_pending : List ℕ
record_soon_while_pending =
    interval 0 2 0 none 0 none 1 1 none ++
    skipped 1 3 ++
    interval 2 5 1 1 1 none none 0 none ++
    job 1 0 2 6 0 ++
    interval 5 6 0 none 0 1 none 0 none

-- nothing is pending at 10: 109 bytes
unfoldable pub record_soon_in_idle_time : List ℕ
record_soon_in_idle_time = executed ++ job 1 0 2 6 0 ++ interval 5 6 0 none 0 1 none 0 none ++ skipped 1 10

-- a first release is never too soon: 99 bytes
unfoldable pub record_first : List ℕ
record_first =
    interval 3 5 0 none 0 none 1 1 none ++
    interval 5 8 1 1 1 none none 0 none ++
    job 1 3 5 9 0 ++
    interval 8 9 0 none 0 1 none 0 none

-- task 1 alone has a spacing: 174 bytes
unfoldable pub record_untested : List ℕ
record_untested =
    interval 0 2 0 none 0 none 2 1 none ++
    interval 2 6 1 2 1 none none 0 none ++
    job 2 0 2 7 0 ++
    interval 6 9 0 none 0 2 2 1 none ++
    interval 9 13 1 2 1 none none 0 none ++
    job 2 7 9 14 0 ++
    interval 13 14 0 none 0 2 none 0 none

-- the marked release at 8 is skipped before it is asked whether it cancels the copy-in of 2: 208 bytes
unfoldable pub record_soon_cancels_nothing : List ℕ
record_soon_cancels_nothing =
    executed ++
    job 1 0 2 6 0 ++
    interval 5 6 0 none 0 1 none 0 none ++
    skipped 1 8 ++
    interval 7 9 1 none 0 none 2 1 none ++
    interval 9 13 0 2 1 none none 0 none ++
    job 2 7 9 14 0 ++
    interval 13 14 1 none 0 2 none 0 none

-- the longest spacing, one tick sooner and exactly: 208 bytes
unfoldable pub record_longest : List ℕ
record_longest =
    executed ++
    job 1 0 2 6 0 ++
    interval 5 6 0 none 0 1 none 0 none ++
    skipped 1 999999999 ++
    interval 1000000000 1000000002 1 none 0 none 1 1 none ++
    interval 1000000002 1000000005 0 1 1 none none 0 none ++
    job 1 1000000000 1000000002 1000000006 0 ++
    interval 1000000005 1000000006 1 none 0 1 none 0 none

-- ---- The rows

unfoldable pub spacings : List Row
spacings =
    recorded (tasks ++ (spacing 1 6 ++ (release 0 1 ++ release 6 1))) record_one_spacing_later 174 176 ∷
    recorded (tasks ++ (spacing 1 7 ++ (release 0 1 ++ release 6 1))) record_one_tick_sooner 109 111 ∷
    recorded (tasks ++ (spacing 1 6 ++ (release 0 1 ++ (release 5 1 ++ release 6 1)))) record_after_a_skipped_one 184 186 ∷
    recorded (tasks ++ (spacing 1 2 ++ (release 0 1 ++ (release 2 1 ++ (release 5 1 ++ release 6 1)))))
    record_after_one_behind_a_waiting 259 261 ∷
    recorded (tasks ++ (spacing 1 5 ++ (release 0 1 ++ (release 5 1 ++ release 10 1)))) record_from_the_original_time 249 251 ∷
    recorded (tasks ++ (spacing 1 5 ++ (release 0 1 ++ (release 5 1 ++ release 6 1)))) record_soon_at_a_taking 184 186 ∷
    recorded (tasks ++ (spacing 1 6 ++ (release 0 1 ++ release 3 1))) record_soon_while_pending 109 111 ∷
    recorded (tasks ++ (spacing 1 20 ++ (release 0 1 ++ release 10 1))) record_soon_in_idle_time 109 111 ∷
    recorded (tasks ++ (spacing 1 1000000000 ++ release 3 1)) record_first 99 101 ∷
    recorded (tasks ++ (spacing 1 100 ++ (release 0 2 ++ release 7 2))) record_untested 174 176 ∷
    recorded (tasks ++ (spacing 1 10 ++ (release 0 1 ++ (release 7 2 ++ release 8 1)))) record_soon_cancels_nothing 208 210 ∷
    recorded (tasks ++ (spacing 1 1000000000 ++ (release 0 1 ++ (release 999999999 1 ++ release 1000000000 1)))) record_longest 208 210 ∷
    -- by instants, with the set that is skipped: 1 and 2 too soon at 1, 1 again at 2, 2 exactly one spacing after its first
    answered (tasks ++ (spacing 1 3 ++ spacing 2 2)) (Instant 0 6 ∷ Instant 1 6 ∷ Instant 2 6 ∷ [])
    (0 ∷ 0 ∷ 0 ∷ 0 ∷ 2 ∷ 0 ∷ 6 ∷ 2 ∷ 0 ∷ 2 ∷ 4 ∷ [])
    (skipped 1 1 ++ (skipped 2 1 ++ (interval 0 2 0 none 0 none 1 1 none ++ skipped 1 2))) ∷
    []

-- ---- The refusals: 19 for its three causes, 8 and 3 at kind 3, a task behind it, and two at once

unfoldable pub spacing_refusals : List Row
spacing_refusals =
    refused (tasks ++ spacing 1 0) 1 19 48 ∷
    refused (tasks ++ spacing 1 1000000001) 1 19 48 ∷
    refused (tasks ++ (spacing 1 5 ++ spacing 1 5)) 1 19 54 ∷
    refused (tasks ++ spacing 4 5) 1 8 48 ∷
    refused (tasks ++ spacing 32 5) 1 8 48 ∷
    refused (tasks ++ (release 0 1 ++ spacing 1 5)) 1 3 58 ∷
    refused (tasks ++ (spacing 1 5 ++ task 4 4 0 1 1 1)) 1 3 54 ∷
    refused (tasks ++ (3 ∷ 1 ∷ 5 ∷ [])) 1 1 48 ∷
    recorded (tasks ++ spacing 1 1000000000) [] 0 2 ∷
    -- two at once: 3 before 4, 8 before 19, 3 before 8 and 19, 1 before 3
    refused (tasks ++ (spacing 1 5 ++ task 1 1 2 0 1 1)) 1 3 54 ∷
    refused (tasks ++ spacing 4 0) 1 8 48 ∷
    refused (tasks ++ (release 0 1 ++ spacing 4 0)) 1 3 58 ∷
    refused (tasks ++ (release 0 1 ++ (3 ∷ 1 ∷ []))) 1 1 58 ∷
    refused (spacing 1 5) 1 8 0 ∷
    -- openings: as in files, and a release behind a spacing is 2
    unopened (tasks ++ spacing 1 0) 19 48 ∷
    unopened (tasks ++ (spacing 1 5 ++ spacing 1 6)) 19 54 ∷
    unopened (tasks ++ spacing 4 0) 8 48 ∷
    unopened (tasks ++ (spacing 1 5 ++ task 4 4 0 1 1 1)) 3 54 ∷
    unopened (tasks ++ (spacing 1 5 ++ release 0 1)) 2 54 ∷
    []
