-- The dispatcher by instants, over its state: opening from the head, an instant and a mark call, each with its refusals in their
-- order. A refused call hands the state back as it was.
use Rattle.rules.specs.Types.{Bool, true, false, cond, not, List, ℕ, Table, Clock, Unset, At, NoneNext, NoneOutgoing, Between, State, Call, Instant, Mark, Marks, Option, None, Some, Answer, Err, Ok, MarkAnswer, Refusal, Head}
use Rattle.std.specs.Prelude.{ltb, leb, eqb, replicate, ◌&&◌, Result, Ok, Err}
use Rattle.sets.specs.Sets.{member, union, intersection, difference, insert}
use Rattle.entries.specs.Limits as limits
use Rattle.table.specs.Head.{no_table, head_alone}
use Rattle.rules.specs.Instant.{at_g, occurred, due}

-- ---- What a call hands back: the next state, and what it says

pub record Step : Type 0 where
  pub state : State
  pub answer : Answer

pub record MarkStep : Type 0 where
  pub state : State
  pub answer : MarkAnswer

-- ---- Opening, from a head alone: its refusals are those of the head

-- no task has a job, no release waits, and the first interval gives the processor half 0
unfoldable pub opened : Table → ℕ → State
opened table marked = record {
  table = table;
  marked = marked;
  clock = Unset;
  half = 2;
  jobs = record { pending = 0; ready = 0; release = replicate limits.tasks 0; blocked = replicate limits.tasks 0 };
  waiting = record { tasks = 0; times = replicate limits.tasks 0; before = 0 };
  phase = Between NoneNext NoneOutgoing;
}

abbrev pub opened_from : Result Head Refusal → Result State Refusal
opened_from (Ok k) = Ok (opened k.table k.marked)
opened_from (Err r) = Err r

unfoldable pub opening : List ℕ → Result State Refusal
opening s = opened_from (head_alone s)

-- a head that is refused has no task: so has what stands for the state where no dispatcher opens
abbrev pub state_opened : Result State Refusal → State
state_opened (Ok d) = d
state_opened (Err r) = opened no_table 0

-- ---- An instant: 16, 10, 14, 15; 0 is none.

unfoldable pub unknown : State → ℕ → Bool
unknown d set = not (eqb (difference set d.table.present) 0)

-- 0 is allowed first
abbrev pub not_after : Clock → ℕ → Bool
not_after Unset t = false
not_after (At last) t = leb t last

abbrev pub before_now : Option ℕ → ℕ → Bool
before_now None t = false
before_now (Some u) t = ltb u t

unfoldable pub refusal : State → ℕ → ℕ → ℕ
refusal d t set =
    cond (unknown d set) 16
    (cond (not (eqb set 0) && ltb limits.last_release t) 10
    (cond (not_after d.clock t) 14
    (cond (before_now (due d.phase) t) 15 0)))

-- a call that meets no row is served
unfoldable pub served : State → ℕ → ℕ → Step
served d t set = record { state = at_g d t set; answer = Ok (occurred d t set) }

unfoldable pub instant : State → ℕ → ℕ → Step
instant d t set =
    let r : ℕ = refusal d t set in
    cond (eqb r 0) (served d t set) (record { state = d; answer = Err r })

-- ---- A mark call: 16, 6, 17; 0 is none. "A mark cannot change while a release waits, under refusal 17."

unfoldable pub mark_refusal : State → ℕ → ℕ → ℕ
mark_refusal d n m =
    cond (not (member n d.table.present)) 16
    (cond (ltb 1 m) 6
    (cond (member n (union d.jobs.pending d.waiting.tasks)) 17 0))

-- the marks of some tasks set or taken away
abbrev pub remarked : ℕ → ℕ → ℕ → ℕ
remarked marked set m = cond (eqb set 0) marked (cond (eqb m 1) (union marked set) (difference marked set))

abbrev pub with_marks : State → ℕ → ℕ → State
with_marks d set m = record {
  table = d.table;
  marked = remarked d.marked set m;
  clock = d.clock;
  half = d.half;
  jobs = d.jobs;
  waiting = d.waiting;
  phase = d.phase;
}

-- and of one
abbrev pub with_mark : State → ℕ → ℕ → State
with_mark d n m = with_marks d (insert n 0) m

unfoldable pub mark : State → ℕ → ℕ → MarkStep
mark d n m =
    let r : ℕ = mark_refusal d n m in
    cond (eqb r 0) (record { state = with_mark d n m; answer = Ok tt }) (record { state = d; answer = Err r })

-- ---- 10/13, "Marks for a whole desk": "If any named task is unknown, the mark is bad, or any has a job pending or a release waiting,
-- nothing changes, under 16, 6 and 17 in that order."

unfoldable pub marks_refusal : State → ℕ → ℕ → ℕ
marks_refusal d set m =
    cond (unknown d set) 16
    (cond (ltb 1 m) 6
    (cond (not (eqb (intersection set (union d.jobs.pending d.waiting.tasks)) 0)) 17 0))

unfoldable pub marks : State → ℕ → ℕ → MarkStep
marks d set m =
    let r : ℕ = marks_refusal d set m in
    cond (eqb r 0) (record { state = with_marks d set m; answer = Ok tt }) (record { state = d; answer = Err r })

-- ---- A call of any kind

-- what is asked of a call, as one row for each kind
pub record Row : Type 0 where
  -- the number of its refusal, 0 is none, and the state that it leaves where it is served
  pub number : State → ℕ
  pub leaves : State → State
  -- whether it is an instant, its time, and the releases that it hands in
  pub is_instant : Bool
  pub time : ℕ
  pub hands : ℕ
  -- the tasks that it names for a mark, and the mark
  pub names : ℕ
  pub mark : ℕ

abbrev pub row : Call → Row
row (Instant t set) = record {
  number = λ d. refusal d t set;
  leaves = λ d. at_g d t set;
  is_instant = true;
  time = t;
  hands = set;
  names = 0;
  mark = 0;
}
row (Mark n m) = record {
  number = λ d. mark_refusal d n m;
  leaves = λ d. with_mark d n m;
  is_instant = false;
  time = 0;
  hands = 0;
  names = insert n 0;
  mark = m;
}
row (Marks set m) = record {
  number = λ d. marks_refusal d set m;
  leaves = λ d. with_marks d set m;
  is_instant = false;
  time = 0;
  hands = 0;
  names = set;
  mark = m;
}

-- an instant that is served
abbrev pub serves : State → Call → Bool
serves d c = (row c).is_instant && eqb ((row c).number d) 0

-- the state that a call, served or refused, hands back
unfoldable pub after_call : State → Call → State
after_call d c = cond (eqb ((row c).number d) 0) ((row c).leaves d) d
