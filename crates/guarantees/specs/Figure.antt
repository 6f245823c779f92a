-- 7/13: a figure members can plan on. What stands between quotation marks is the request; below each quotation stands what it says of a
-- history. "A release that waited is measured from its taking": so is every one here.
use Rattle.guarantees.specs.Types.{Bool, true, false, cond, List, [], ℕ, zero, suc, min, Table, Option, None, Some}
use Rattle.std.specs.Prelude.{max, leb, get_or, length, ◌≡◌, ◌&&◌, ◌∷◌, ◌++◌, ◌+◌, ◌-◌, ◌*◌, ◌^◌, ◌≤◌, ◌<◌}
use Rattle.sets.specs.Sets.{member, bit}
use Rattle.table.specs.Table.{copyin_length, execution_length, copyout_length}
use Rattle.guarantees.specs.History.{Event, Comes, Ends, Takes}
use Rattle.guarantees.specs.Queries.{details, is_task, starts, stops, Situation, NoneOpen, Open, situation, none_yet, latest, intervals, completion, met, waited, total}

-- ---- M

-- the greatest of what the tasks below k of a set have; 0 if there is none
unfoldable pub greatest : ℕ → ℕ → (ℕ → ℕ) → ℕ
greatest zero tasks has = 0
greatest (suc k) tasks has = max (greatest k tasks has) (cond (member k tasks) (has k) 0)

-- of a table's tasks, by its columns
module _ (present : ℕ) (columns : List ℕ) where
  abbrev pub greatest_copyin : ℕ
  greatest_copyin = greatest 32 present (λ n. copyin_length columns n)

  abbrev pub greatest_copyout : ℕ
  greatest_copyout = greatest 32 present (λ n. copyout_length columns n)

  -- L + C, of one task
  abbrev pub greatest_work : ℕ
  greatest_work = greatest 32 present (λ n. copyin_length columns n + execution_length columns n)

  -- "Let M be the larger of the table's greatest L + C and the sum of its greatest L and greatest U."
  unfoldable pub longest_interval : ℕ
  longest_interval = max greatest_work (greatest_copyin + greatest_copyout)

-- ---- h

-- some intervals without the first of them
abbrev pub past_first : List (Option ℕ) → List (Option ℕ)
past_first [] = []
past_first (r ∷ rs) = rs

-- what occurs before task n's job starts to execute
unfoldable pub before_start : ℕ → List Event → List Event
before_start n [] = []
before_start n (e ∷ es) = cond (starts e && is_task n (details e).task) [] (e ∷ before_start n es)

module _ (priority : List ℕ) (n : ℕ) where
  -- whether a job that is executed is not lower in priority than task n's; none is where the processor idles
  abbrev pub is_not_lower : Option ℕ → Bool
  is_not_lower None = false
  is_not_lower (Some k) = leb (get_or priority k 0) (get_or priority n 0)

  -- in how many of some intervals one is executed
  unfoldable pub not_lower_in : List (Option ℕ) → ℕ
  not_lower_in [] = 0
  not_lower_in (r ∷ rs) = bit (is_not_lower r) + not_lower_in rs

  -- "Let h be the number of jobs not lower in priority that execute between a job's release and its execution": of the job's intervals,
  -- those strictly between the first, which holds the taking, and the one that executes it. Each executes one job, and none of them this
  -- one. This is the smallest reading of "between": the others are held against it below.
  abbrev pub overtaking : Situation → List (Option ℕ) → ℕ
  overtaking at rs = not_lower_in (past_first (waited n at rs))

  -- the executions of jobs not lower that start, and those that end, after the taking and before the job's own start
  abbrev pub started_between : List Event → ℕ
  started_between after = total (λ e. bit (starts e && is_not_lower (details e).task)) (before_start n after)

  abbrev pub stopped_between : List Event → ℕ
  stopped_between after = total (λ e. bit (stops e && is_not_lower (details e).task)) (before_start n after)

  -- every other reading of h is not smaller, so that each bound below holds with it too
  pub record SmallestReading (at : Situation) (after : List Event) : Type 0 where
    -- with the job of the first interval, however much of it came before the taking
    pub with_first : overtaking at (intervals after) ≤ not_lower_in (waited n at (intervals after))
    -- by the executions that start between the taking and the job's own start, or that end between the two: these are all that are under
    -- way at some time between. Said once the job's own interval has begun; a count from the original release on has all of these too
    pub by_starts : length (waited n at (intervals after)) < length (met n at (intervals after))
        → overtaking at (intervals after) ≤ started_between after
    pub by_stops : length (waited n at (intervals after)) < length (met n at (intervals after))
        → overtaking at (intervals after) ≤ stopped_between after

-- ---- The bounds for a job

-- of task n, marked or not, that is taken at t: its intervals, h, and what occurs from the taking on; M is as above, and U its copy-out's
-- length. Where its interval has not begun, "that is as far as it goes".
pub record Planned (M U n t : ℕ) (marked : Bool) (met : List (Option ℕ)) (h : ℕ) (after : List Event) : Type 0 where
  -- "The intervals from the one holding the release to the executing one, both counted, are at most h + 3, and h + 2 for a marked task."
  pub intervals_at_most : length met ≤ h + 3
  pub marked_at_most : marked ≡ true → length met ≤ h + 2
  -- "Completion comes at most that many times M, plus the job's own U, after the release."
  pub completes_within : (c : ℕ) → completion n after ≡ Some c → c ≤ t + length met * M + U
  pub completes_by : (c : ℕ) → completion n after ≡ Some c → c ≤ t + (h + 3) * M + U
  pub marked_completes_by : marked ≡ true → (c : ℕ) → completion n after ≡ Some c → c ≤ t + (h + 2) * M + U

-- ---- The bounds by h, as they are computed

abbrev pub intervals_by : Bool → ℕ → ℕ
intervals_by marked h = cond marked (h + 2) (h + 3)

-- how many ticks after its taking a job of task n completes at the latest; held at the last number of 64 bits, so that every table has one
abbrev pub completes_after : ℕ → List ℕ → ℕ → Bool → ℕ → ℕ
completes_after present columns n marked h =
    min (intervals_by marked h * longest_interval present columns + copyout_length columns n) (2 ^ 64 - 1)

-- of a table that opening serves: M is small, and for no h of 32 bits is the bound held
pub record PlainFigure (table : Table) : Type 0 where
  pub short : longest_interval table.present table.columns ≤ 2000000
  pub exact : (n h : ℕ) (marked : Bool) → member n table.present ≡ true → h < 2 ^ 32 →
      completes_after table.present table.columns n marked h
      ≡ intervals_by marked h * longest_interval table.present table.columns + copyout_length table.columns n

-- ---- The claim of a history, for the tasks of a table

pub record Figure (table : Table) (history : List Event) : Type 0 where
  pub each_job : (before after : List Event) (n t : ℕ) (marked : Bool) → history ≡ before ++ (Takes n t marked ∷ after) →
      let at : Situation = situation NoneOpen before in
      Planned (longest_interval table.present table.columns) (copyout_length table.columns n) n t marked
      (met n at (intervals after)) (overtaking table.priority n at (intervals after)) after
  pub each_reading : (before after : List Event) (n t : ℕ) (marked : Bool) → history ≡ before ++ (Takes n t marked ∷ after) →
      SmallestReading table.priority n (situation NoneOpen before) after
  -- why a marked task has one interval less: from its second interval on the processor runs this job or one that is not lower, and does
  -- not idle
  pub marked_second_on : (before after : List Event) (n t : ℕ) → history ≡ before ++ (Takes n t true ∷ after) →
      let at : Situation = situation NoneOpen before in
      (i : ℕ) → 1 ≤ i → i < length (met n at (intervals after)) →
      is_not_lower table.priority n (get_or (met n at (intervals after)) i None) ≡ true
  -- every interval lasts at most M, from its begin to its end,
  pub each_end : (before after : List Event) (b e : ℕ) → history ≡ before ++ (Ends e ∷ after) → (latest none_yet before).begun ≡ Some b →
      e ≤ b + longest_interval table.present table.columns
  -- and of the open one: no instant that finds it open comes later
  pub each_instant : (before after : List Event) (b t : ℕ) (r : Option ℕ) → history ≡ before ++ (Comes t ∷ after) →
      situation NoneOpen before ≡ Open r → (latest none_yet before).begun ≡ Some b →
      t ≤ b + longest_interval table.present table.columns
