-- The dispatcher where it is kept: arrays that are lent and changed where they are. Read back they are the state that the rules speak of.
-- Any numbers whatever are read as some state, so that memory that no call made gets an answer too.
use Rattle.rules.specs.Types.{Bool, false, List, ℕ, cond, Clock, Unset, At, State, Registers}
use Rattle.std.specs.Prelude.{eqb, length, get_or, ◌≡◌}
use Rattle.rules.specs.Registers.{arrays, waits, Memory, state_in}

-- ---- What is lent

-- three arrays of numbers: the times, the sets of tasks and the codes
pub record Kept : Type 0 where
  pub times : List ℕ
  pub sets : List ℕ
  pub codes : List ℕ

abbrev pub kept : List ℕ → List ℕ → List ℕ → Kept
kept times sets codes = record { times = times; sets = sets; codes = codes }

-- as many numbers as each array has
pub record Whole (k : Kept) : Type 0 where
  pub times_whole : length k.times ≡ 7
  pub sets_whole : length k.sets ≡ 8
  pub codes_whole : length k.codes ≡ 9

-- the arrays by task that an instant changes: of each task's job the release time and the count of blocked intervals, and the time of its
-- waiting release
pub record ByTask : Type 0 where
  pub release : List ℕ
  pub blocked : List ℕ
  pub waits : List ℕ

abbrev pub by_task : List ℕ → List ℕ → List ℕ → ByTask
by_task release blocked waits = record { release = release; blocked = blocked; waits = waits }

-- beside the numbers: of each task the priority and the lengths, which nothing changes, and those arrays
pub record Beside : Type 0 where
  pub priority : List ℕ
  pub columns : List ℕ
  pub by_task : ByTask

abbrev pub beside : List ℕ → List ℕ → ByTask → Beside
beside priority columns o = record { priority = priority; columns = columns; by_task = o }

-- ---- Read back

-- the numbers by name, as the constants of src/at have their places
abbrev pub registers_in : Kept → Registers
registers_in k = record {
  marked = get_or k.sets 0 0;
  pending = get_or k.sets 1 0;
  ready = get_or k.sets 2 0;
  candidates = get_or k.sets 3 0;
  begin = get_or k.times 0 0;
  start = get_or k.times 1 0;
  until = get_or k.times 2 0;
  outstart = get_or k.times 3 0;
  outuntil = get_or k.times 4 0;
  inuntil = get_or k.times 5 0;
  half = get_or k.codes 0 0;
  work = get_or k.codes 1 0;
  processor = get_or k.codes 2 0;
  task = get_or k.codes 3 0;
  copyout = get_or k.codes 4 0;
  outtask = get_or k.codes 5 0;
  copyin = get_or k.codes 6 0;
  intask = get_or k.codes 7 0;
}

-- the last code is 0 before the first instant
abbrev pub clock_in : List ℕ → List ℕ → Clock
clock_in times codes = cond (eqb (get_or codes 8 0) 0) Unset (At (get_or times 6 0))

abbrev pub memory_in : Kept → Beside → Memory
memory_in k b = record {
  table = record { present = get_or k.sets 4 0; spaced = get_or k.sets 6 0; priority = b.priority; columns = b.columns };
  clock = clock_in k.times k.codes;
  arrays = arrays b.by_task.release b.by_task.blocked;
  waiting = waits (get_or k.sets 5 0) b.by_task.waits (get_or k.sets 7 0);
}

abbrev pub read : Kept → Beside → State
read k b = state_in (memory_in k b) (registers_in k)

-- ---- What a step leaves, read back: a change of the state that was read before

pub record Becomes (change : State → State) (k : Kept) (b : Beside) (k' : Kept) (b' : Beside) : Type 0 where
  pub whole : Whole k'
  pub state : read k' b' ≡ change (read k b)

-- where the arrays by task stay
abbrev pub Step : (State → State) → List ℕ → List ℕ → Kept → Kept → Type 0
Step change priority columns k k' =
    (o : ByTask) → Whole k → Becomes change k (beside priority columns o) k' (beside priority columns o)

-- and where the step goes by the order of jobs, so that it reads the release times
abbrev pub StepInOrder : (State → State) → List ℕ → List ℕ → List ℕ → Kept → Kept → Type 0
StepInOrder change priority release columns k k' =
    (blocked waits : List ℕ) → Whole k
    → Becomes change k (beside priority columns (by_task release blocked waits))
    k' (beside priority columns (by_task release blocked waits))

-- and where the step reads none of what stands beside
abbrev pub StepAlone : (State → State) → Kept → Kept → Type 0
StepAlone change k k' = (b : Beside) → Whole k → Becomes change k b k' b

-- ---- A copy-out ends now

abbrev pub copyout_ends : ℕ → List ℕ → List ℕ → Bool
copyout_ends t times codes =
    cond (eqb (get_or codes 6 0) 6) false (cond (eqb (get_or codes 4 0) 1) (eqb (get_or times 4 0) t) false)
