-- The plans of document 01, plans for what finished copies do when a release comes (2/13), and an input
-- for each of refusals 8, 9, 13 and 17.
use Rattle.std.specs.Prelude.{List, [], ◌∷◌, ◌++◌, ℕ}
use Rattle.words.specs.Words.{bytes_of}
use Rattle.rules.specs.declared.Call.TheVariants.{Instant, Mark}
use Rattle.plans.specs.Rows.{Row, recorded, refused, answered}

-- ---- The inputs

-- number, priority, mark, L, C, U
unfoldable pub task : ℕ → ℕ → ℕ → ℕ → ℕ → ℕ → List ℕ
task n p m l c u = 1 ∷ n ∷ p ∷ m ∷ (bytes_of 4 l ++ (bytes_of 4 c ++ bytes_of 4 u))

-- task, ticks (8/13)
unfoldable pub spacing : ℕ → ℕ → List ℕ
spacing n ticks = 3 ∷ n ∷ bytes_of 4 ticks

-- time, task
unfoldable pub release : ℕ → ℕ → List ℕ
release t n = 2 ∷ n ∷ bytes_of 8 t

unfoldable pub tasks : List ℕ
tasks = task 1 1 1 2 3 1 ++ (task 2 2 0 2 4 1 ++ task 3 3 0 2 5 2)

-- the same with task 2 marked too, and a lower task 4
unfoldable pub two_marked : List ℕ
two_marked = task 1 1 1 2 3 1 ++ (task 2 2 1 2 4 1 ++ (task 3 3 0 2 5 2 ++ task 4 4 0 2 5 2))

-- ---- The records, an entry a line: the fields as document 01 prints them, from the bytes that it names
-- and not by the definitions of the code

-- no task, which is printed as a dash
unfoldable pub none : ℕ
none = 255

-- begin, end, half, processor's task, work, task copied out, task chosen, its fate, task promoted
unfoldable pub interval : ℕ → ℕ → ℕ → ℕ → ℕ → ℕ → ℕ → ℕ → ℕ → List ℕ
interval begin end half n work out chosen fate promoted =
    17 ∷ (bytes_of 8 begin ++ (bytes_of 8 end ++ (half ∷ n ∷ work ∷ out ∷ chosen ∷ fate ∷ promoted ∷ [])))

-- task, release, execution start, completion, blocked intervals
unfoldable pub job : ℕ → ℕ → ℕ → ℕ → ℕ → List ℕ
job n release start completion blocked = 16 ∷ n ∷ (bytes_of 8 release ++ (bytes_of 8 start ++ (bytes_of 8 completion ++ (blocked ∷ []))))

-- task, time
unfoldable pub skipped : ℕ → ℕ → List ℕ
skipped n t = 18 ∷ n ∷ bytes_of 8 t

-- plan A: 201 bytes
unfoldable pub record_A : List ℕ
record_A =
    interval 0 2 0 none 0 none 3 1 none ++
    interval 2 7 1 3 1 none 2 2 1 ++
    job 3 0 2 9 0 ++
    interval 7 12 0 1 2 3 2 1 none ++
    job 1 3 9 13 1 ++
    interval 12 16 1 2 1 1 none 0 none ++
    job 2 2 12 17 1 ++
    interval 16 17 0 none 0 2 none 0 none

-- plan B: 201 bytes
unfoldable pub record_B : List ℕ
record_B =
    interval 0 2 0 none 0 none 3 1 none ++
    interval 2 7 1 3 1 none 2 3 1 ++
    job 3 0 2 9 0 ++
    interval 7 12 0 1 2 3 2 1 none ++
    job 1 4 9 13 1 ++
    interval 12 16 1 2 1 1 none 0 none ++
    job 2 2 12 17 1 ++
    interval 16 17 0 none 0 2 none 0 none

-- plan C: 99 bytes
unfoldable pub record_C : List ℕ
record_C =
    interval 0 2 0 none 0 none 1 1 none ++
    interval 2 5 1 1 1 none none 0 none ++
    job 1 0 2 6 0 ++
    interval 5 6 0 none 0 1 none 0 none

-- plan D: 150 bytes
unfoldable pub record_D : List ℕ
record_D =
    interval 0 1 0 none 0 none 2 2 1 ++
    interval 1 6 1 1 2 none 2 1 none ++
    job 1 1 3 7 0 ++
    interval 6 10 0 2 1 1 none 0 none ++
    job 2 0 6 11 0 ++
    interval 10 11 1 none 0 2 none 0 none

-- plan E: 150 bytes
unfoldable pub record_E : List ℕ
record_E =
    interval 0 2 0 none 0 none 2 1 none ++
    interval 2 6 1 2 1 none 1 1 none ++
    job 2 0 2 7 0 ++
    interval 6 9 0 1 1 2 none 0 none ++
    job 1 2 6 10 1 ++
    interval 9 10 1 none 0 1 none 0 none

-- task 1 alone, its first job released at 0 and its second shown as released at r, up to the second one's completion
unfoldable pub two_jobs : ℕ → List ℕ
two_jobs r =
    interval 0 2 0 none 0 none 1 1 none ++
    interval 2 5 1 1 1 none none 0 none ++
    job 1 0 2 6 0 ++
    interval 5 8 0 none 0 1 1 1 none ++
    interval 8 11 1 1 1 none none 0 none ++
    job 1 r 8 12 0

-- 4/13: "Plan F then runs as F' does, with its second job shown as released at 5": 174 bytes
unfoldable pub record_F : List ℕ
record_F = two_jobs 5 ++ interval 11 12 0 none 0 1 none 0 none

-- plan F': 174 bytes
unfoldable pub record_F' : List ℕ
record_F' = two_jobs 6 ++ interval 11 12 0 none 0 1 none 0 none

-- ---- The records of 2/13

-- a copy that ended two ticks before the marked release is thrown out, and the release is promoted: 201 bytes
unfoldable pub record_thrown_out : List ℕ
record_thrown_out =
    interval 0 2 0 none 0 none 3 1 none ++
    interval 2 7 1 3 1 none 2 3 1 ++
    job 3 0 2 9 0 ++
    interval 7 12 0 1 2 3 2 1 none ++
    job 1 6 9 13 1 ++
    interval 12 16 1 2 1 1 none 0 none ++
    job 2 2 12 17 1 ++
    interval 16 17 0 none 0 2 none 0 none

-- the release of 2 throws out the copy of 3, and that of 1, which comes later and is higher, is promoted: 252 bytes
unfoldable pub record_higher_promoted : List ℕ
record_higher_promoted =
    interval 0 2 0 none 0 none 4 1 none ++
    interval 2 7 1 4 1 none 3 3 1 ++
    job 4 0 2 9 0 ++
    interval 7 12 0 1 2 4 2 1 none ++
    job 1 5 9 13 1 ++
    interval 12 16 1 2 1 1 3 1 none ++
    job 2 4 12 17 1 ++
    interval 16 21 0 3 1 2 none 0 none ++
    job 3 2 16 23 1 ++
    interval 21 23 1 none 0 3 none 0 none

-- a copy of a higher-priority task stays: 201 bytes
unfoldable pub record_higher_stays : List ℕ
record_higher_stays =
    interval 0 2 0 none 0 none 4 1 none ++
    interval 2 7 1 4 1 none 1 1 none ++
    job 4 0 2 9 0 ++
    interval 7 11 0 1 1 4 2 1 none ++
    job 1 2 7 12 1 ++
    interval 11 15 1 2 1 1 none 0 none ++
    job 2 4 11 16 1 ++
    interval 15 16 0 none 0 2 none 0 none

-- an unmarked release throws out nothing: 201 bytes
unfoldable pub record_unmarked : List ℕ
record_unmarked =
    interval 0 2 0 none 0 none 1 1 none ++
    interval 2 5 1 1 1 none 3 1 none ++
    job 1 0 2 6 0 ++
    interval 5 10 0 3 1 1 2 1 none ++
    job 3 2 5 12 0 ++
    interval 10 14 1 2 1 3 none 0 none ++
    job 2 4 10 15 1 ++
    interval 14 15 0 none 0 2 none 0 none

-- the copy of 2 stays where task 1 is released so late, or is not higher: 201 bytes
unfoldable pub loaded_stays : ℕ → List ℕ
loaded_stays r =
    interval 0 2 0 none 0 none 3 1 none ++
    interval 2 7 1 3 1 none 2 1 none ++
    job 3 0 2 9 0 ++
    interval 7 11 0 2 1 3 1 1 none ++
    job 2 2 7 12 1 ++
    interval 11 14 1 1 1 2 none 0 none ++
    job 1 r 11 15 1 ++
    interval 14 15 0 none 0 1 none 0 none

-- the copy's interval ends at step b of the release's instant
unfoldable pub record_interval_over : List ℕ
record_interval_over = loaded_stays 7

-- ---- The rows

unfoldable pub plans : List Row
plans =
    recorded (tasks ++ (release 0 3 ++ (release 2 2 ++ (release 3 1)))) record_A 201 203 ∷
    recorded (tasks ++ (release 0 3 ++ (release 2 2 ++ (release 4 1)))) record_B 201 203 ∷
    recorded (tasks ++ (release 0 1)) record_C 99 101 ∷
    recorded (tasks ++ (release 0 2 ++ (release 1 1))) record_D 150 152 ∷
    recorded (tasks ++ (release 0 2 ++ (release 2 1))) record_E 150 152 ∷
    recorded (tasks ++ (release 0 1 ++ (release 5 1))) record_F 174 176 ∷
    recorded (tasks ++ (release 0 1 ++ (release 6 1))) record_F' 174 176 ∷
    recorded (tasks) [] 0 2 ∷
    -- finished copies
    recorded (tasks ++ (release 0 3 ++ (release 2 2 ++ (release 6 1)))) record_thrown_out 201 203 ∷
    recorded (two_marked ++ (release 0 4 ++ (release 2 3 ++ (release 4 2 ++ (release 5 1))))) record_higher_promoted 252 254 ∷
    recorded (two_marked ++ (release 0 4 ++ (release 2 1 ++ (release 4 2)))) record_higher_stays 201 203 ∷
    recorded (tasks ++ (release 0 1 ++ (release 2 3 ++ (release 4 2)))) record_unmarked 201 203 ∷
    recorded (tasks ++ (release 0 3 ++ (release 2 2 ++ (release 7 1)))) record_interval_over 201 203 ∷
    -- 8: the first entry is a release
    refused (release 0 1) 3 8 0 ∷
    -- 9: time 5 task 2, then time 5 task 2
    refused (tasks ++ (release 5 2 ++ (release 5 2))) 3 9 58 ∷
    -- 13: 200 bytes for plan A
    refused (tasks ++ (release 0 3 ++ (release 2 2 ++ (release 3 1)))) 200 13 201 ∷
    -- 17: task 1 at time 1 of plan C
    answered tasks (Instant 0 2 ∷ Instant 1 0 ∷ Mark 1 0 ∷ []) (0 ∷ 0 ∷ 0 ∷ 0 ∷ 2 ∷ 0 ∷ 0 ∷ 2 ∷ 17 ∷ []) [] ∷ []
