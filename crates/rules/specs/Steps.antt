-- What each step over lent arrays promises: the rules' step of the state that was read before, whatever stands in the arrays that it is
-- not lent.
use Rattle.rules.specs.Types.{Bool, true, false, cond, List, ℕ, Option, Table, TasksAbove, Cancelled, Interval, Within, Next, Outgoing, State, Stage, Closed, Some, None, JobEntry, IntervalEntry}
use Rattle.std.specs.Prelude.{◌↔◌, eqb, ltb, get_or, set, ◌&&◌, ◌-◌, ◌^◌, ◌<◌, ◌≤◌, ◌≡◌, ◌⊎◌}
use Rattle.sets.specs.Sets.{member, collect}
use Rattle.table.specs.Table.{spacing}
use Rattle.rules.specs.With.{at_clock}
use Rattle.rules.specs.Order.{highest, outranks}
use Rattle.rules.specs.Blocking.{blockable, CanBlock}
use Rattle.rules.specs.Instant.{copyin_at, settled, processor_task, copyout_task, copyin_task, copyin_fate, is_over, promoted, resting, awaiting_execution, over, blocks, counted, without_promoted, next_of, awaiting_copyout, processor_at, step_a, step_d, steps_c_d, step_e, begin, step_g, closed_with, entry_with, begin_processor, work_of, wanted, previous_release, comes_sooner, too_soon, held_over, sooner, copyout_due, copyin_due, due}
use Rattle.rules.specs.Registers.{as_task, as_next, as_outgoing, as_processor, as_copyout, as_copyin, processor_in, copyin_in, interval_in, phase_in}
use Rattle.rules.specs.Kept.{Kept, kept, Whole, ByTask, by_task, Beside, beside, registers_in, read, Becomes, Step, StepInOrder, StepAlone, copyout_ends}

-- ---- Order

abbrev pub Outranks : List ℕ → ℕ → ℕ → Bool → Type 0
Outranks priority by n x = (d : State) → d.table.priority ≡ priority → x ≡ outranks d n (as_task by)

-- of each task a mark, 1 where its priority is higher than that of task n
abbrev pub Above : List ℕ → ℕ → List ℕ → Type 0
Above priority n x = (k : ℕ) → k < 32 → get_or x k 0 ≡ cond (ltb (get_or priority k 0) (get_or priority n 0)) 1 0

-- the tasks that are both in a set and marked by 1; those of them that are gathered
abbrev pub marked_in : ℕ → List ℕ → ℕ
marked_in s marks = collect (λ k. member k s && eqb (get_or marks k 0) 1)

abbrev pub tasks_above : TasksAbove → ℕ
tasks_above x = marked_in x.tasks x.higher

-- ---- The instant's time

abbrev pub TimedAt : ℕ → List ℕ → List ℕ → List ℕ → List ℕ → List ℕ → Type 0
TimedAt t sets times codes times' codes' =
    (b : Beside) → Becomes (λ d. at_clock d t) (kept times sets codes) b (kept times' sets codes') b

-- ---- a

-- the job whose copy-out ends now
abbrev pub CompletedJob : ℕ → List ℕ → List ℕ → List ℕ → List ℕ → JobEntry → Type 0
CompletedJob t times codes release blocked x =
    (sets priority columns waits : List ℕ) → copyout_ends t times codes ≡ true
    → let d : State = read (kept times sets codes) (beside priority columns (by_task release blocked waits)) in
    Some x ≡ (step_a d t d.phase).done

-- step a of what is left once its job is no longer pending is that of what was there
pub record CopiesOut (t : ℕ) (k k' : Kept) (b : Beside) : Type 0 where
  pub whole : Whole k'
  pub no_more : copyout_ends t k'.times k'.codes ≡ false
  pub state : (step_a (read k' b) t (read k' b).phase).state ≡ (step_a (read k b) t (read k b).phase).state

abbrev pub CopiedOutAt : List ℕ → List ℕ → List ℕ → List ℕ → Type 0
CopiedOutAt sets codes sets' codes' =
    (t : ℕ) (times : List ℕ) (b : Beside) → Whole (kept times sets codes) → copyout_ends t times codes ≡ true
    → CopiesOut t (kept times sets codes) (kept times sets' codes') b

-- the copy-in after its end, if it ends now; an open interval stays open
pub record CopyInAt (kind until t x : ℕ) : Type 0 where
  pub is : (n : ℕ) → as_copyin x n until ≡ copyin_at t (as_copyin kind n until)
  pub stays : eqb x 6 ≡ eqb kind 6

-- the copy-in is set to another kind
pub record CopyInSet (t : ℕ) (times codes codes' : List ℕ) : Type 0 where
  pub choice : ℕ
  pub codes_are : codes' ≡ set codes 6 choice
  pub is : CopyInAt (get_or codes 6 0) (get_or times 5 0) t choice

-- and the processor
pub record ProcessorTo (t : ℕ) (columns times codes times' codes' : List ℕ) : Type 0 where
  pub kind : ℕ
  pub start : ℕ
  pub until : ℕ
  pub times_are : times' ≡ set (set times 1 start) 2 until
  pub codes_are : codes' ≡ set codes 2 kind
  pub is : (table : Table) → table.columns ≡ columns
      → as_processor kind (get_or codes 3 0) start until
      ≡ processor_at table t (as_processor (get_or codes 2 0) (get_or codes 3 0) (get_or times 1 0) (get_or times 2 0))

-- where no copy-out ends now
abbrev pub OthersEndAt : ℕ → List ℕ → List ℕ → List ℕ → List ℕ → List ℕ → Type 0
OthersEndAt t columns times codes times' codes' =
    (priority sets : List ℕ) → copyout_ends t times codes ≡ false
    → Step (λ d. (step_a d t d.phase).state) priority columns (kept times sets codes) (kept times' sets codes')

-- ---- b and f: whether the interval is at its end; and at its end, the job that is promoted and what is recorded

abbrev pub Resting : ℕ → Bool → Type 0
Resting kind x = (n start until : ℕ) → x ≡ resting (as_processor kind n start until)

abbrev pub Settled : ℕ → Bool → Type 0
Settled kind x = (n until : ℕ) → x ≡ settled (as_copyin kind n until)

abbrev pub OverAt : List ℕ → Bool → Type 0
OverAt codes x = (times sets : List ℕ) → x ≡ is_over (phase_in (registers_in (kept times sets codes)))

abbrev pub PromotedAt : List ℕ → List ℕ → List ℕ → List ℕ → ℕ → Type 0
PromotedAt priority release sets codes x =
    (times columns blocked waits : List ℕ)
    → let k : Kept = kept times sets codes in
    is_over (phase_in (registers_in k)) ≡ true
    → as_task x ≡ promoted (read k (beside priority columns (by_task release blocked waits)))
    (interval_in (registers_in k)) (copyin_in (registers_in k))

abbrev pub ProcessorTask : ℕ → ℕ → Option ℕ → Type 0
ProcessorTask kind n x = (start until : ℕ) → x ≡ processor_task (as_processor kind n start until)

abbrev pub CopyOutTask : ℕ → ℕ → Option ℕ → Type 0
CopyOutTask kind n x = (start until : ℕ) → x ≡ copyout_task (as_copyout kind n start until)

abbrev pub CopyInTask : ℕ → ℕ → Option ℕ → Type 0
CopyInTask kind n x = (until : ℕ) → x ≡ copyin_task (as_copyin kind n until)

abbrev pub CopyInFate : ℕ → ℕ → Type 0
CopyInFate kind x = (n until : ℕ) → x ≡ copyin_fate (as_copyin kind n until)

abbrev pub EntryAt : ℕ → ℕ → List ℕ → List ℕ → IntervalEntry → Type 0
EntryAt t p times codes x =
    (sets : List ℕ) → x ≡ entry_with (get_or codes 0 0) t (interval_in (registers_in (kept times sets codes))) (as_task p)

-- the copy-out of the next interval, where the processor is at its end
abbrev pub NextCopyOut : ℕ → ℕ → Type 0
NextCopyOut kind x =
    (n start until : ℕ) → resting (as_processor kind n start until) ≡ true
    → as_outgoing x n start ≡ awaiting_copyout (as_processor kind n start until)

-- its work and its task, and the jobs that are ready
pub record NextSet (p : ℕ) (sets codes sets' codes' : List ℕ) : Type 0 where
  pub ready : ℕ
  pub work : ℕ
  pub task : ℕ
  pub sets_are : sets' ≡ set sets 2 ready
  pub codes_are : codes' ≡ set (set codes 1 work) 3 task
  pub ready_is : ready ≡ without_promoted (get_or sets 2 0) (as_task p)
  pub is : (until : ℕ) → as_next work task ≡ next_of (as_copyin (get_or codes 6 0) (get_or codes 7 0) until) (as_task p)

abbrev pub ClosedAt : ℕ → Kept → Kept → Type 0
ClosedAt p k k' =
    resting (processor_in (registers_in k)) ≡ true
    → StepAlone (λ d. closed_with d (interval_in (registers_in k)) (as_task p)) k k'

-- with other counts
abbrev pub with_counts : Beside → List ℕ → Beside
with_counts b blocked = beside b.priority b.columns (by_task b.by_task.release blocked b.by_task.waits)

-- the test of steps b and f: what is left, and the interval that ended
pub record TestedAt (after : Stage) (k' : Kept) (b' : Beside) (x : Closed) : Type 0 where
  pub whole : Whole k'
  pub state : read k' b' ≡ after.state
  pub closed_is : x ≡ after.closed

-- ---- Blocked, at an interval's end

-- the set of tasks that the interval can block: as it is defined, and in words
pub record BlockableIn (d : State) (x : ℕ) : Type 0 where
  pub is : x ≡ blockable d
  pub exactly : (k : ℕ) → (member k x ≡ true) ↔ CanBlock d k

-- by what its processor did, and with which task
abbrev pub Blockable : ℕ → ℕ → ℕ → List ℕ → ℕ → Type 0
Blockable kind n present priority x =
    (d : State) (i : Interval) (start until : ℕ)
    → d.phase ≡ Within i → over i ≡ true → i.processor ≡ as_processor kind n start until
    → d.table.present ≡ present → d.table.priority ≡ priority → BlockableIn d x

-- one more for each task of a set that is marked
abbrev pub CountsMarked : ℕ → List ℕ → List ℕ → List ℕ → Type 0
CountsMarked s marks before after = after ≡ counted (marked_in s marks) 0 before

-- one more for each job that it blocks; the same, where the jobs that wait are known
abbrev pub CountsAt : List ℕ → List ℕ → List ℕ → List ℕ → List ℕ → Type 0
CountsAt priority sets codes before after =
    (times columns : List ℕ) (o : ByTask)
    → let k : Kept = kept times sets codes in
    is_over (phase_in (registers_in k)) ≡ true
    → after ≡ counted (blocks (read k (beside priority columns o)) (interval_in (registers_in k))) 0 before

abbrev pub CountsWaiting : ℕ → List ℕ → List ℕ → List ℕ → List ℕ → List ℕ → Type 0
CountsWaiting waiting priority sets codes before after =
    ((times : List ℕ) → waiting ≡ awaiting_execution (copyin_in (registers_in (kept times sets codes))) (get_or sets 2 0))
    → CountsAt priority sets codes before after

-- ---- c and d

-- 8/13: whether a release of task n comes too soon, by the task's last one
abbrev pub SoonAt : ℕ → ℕ → List ℕ → List ℕ → List ℕ → List ℕ → Bool → Type 0
SoonAt t n sets columns release waits x =
    (times codes priority blocked : List ℕ)
    → x ≡ comes_sooner t (spacing columns n)
    (previous_release (read (kept times sets codes) (beside priority columns (by_task release blocked waits))) n)

-- and of a set those that do
abbrev pub TooSoonAt : ℕ → ℕ → List ℕ → List ℕ → List ℕ → List ℕ → ℕ → Type 0
TooSoonAt t set sets columns release waits x =
    (times codes priority blocked : List ℕ)
    → x ≡ too_soon (read (kept times sets codes) (beside priority columns (by_task release blocked waits))) t set

abbrev pub HeldOverAt : List ℕ → ℕ → ℕ → Type 0
HeldOverAt codes taken x = (times sets : List ℕ) → x ≡ held_over (phase_in (registers_in (kept times sets codes))) taken

-- a copy-in that has given way was under way, or finished
pub record GivenWay (kind x : ℕ) : Type 0 where
  pub is : (n until : ℕ) → as_copyin x n until ≡ Cancelled n (cond (eqb kind 3) 3 2)
  pub stays : eqb x 6 ≡ false

abbrev pub GivesWayAt : ℕ → List ℕ → List ℕ → List ℕ → List ℕ → List ℕ → List ℕ → Type 0
GivesWayAt taken priority release sets codes sets' codes' =
    (times columns : List ℕ)
    → StepInOrder (λ d. step_d d taken d.phase) priority release columns (kept times sets codes) (kept times sets' codes')

abbrev pub TakesAt : ℕ → ℕ → ℕ → List ℕ → List ℕ → List ℕ → ByTask → List ℕ → List ℕ → ByTask → Type 0
TakesAt t taken deferred priority sets codes o sets' codes' o' =
    (times columns : List ℕ) → Whole (kept times sets codes)
    → Becomes (λ d. steps_c_d d t taken deferred)
    (kept times sets codes) (beside priority columns o) (kept times sets' codes') (beside priority columns o')

-- ---- e

abbrev pub ChosenAt : ℕ → List ℕ → List ℕ → List ℕ → Kept → Kept → Type 0
ChosenAt t priority release columns k k' = StepInOrder (λ d. step_e d t d.phase) priority release columns k k'

-- where n is the highest of the ready, the choice has not been made and the engine is free
abbrev pub MadeChoice : ℕ → ℕ → List ℕ → Kept → Kept → Type 0
MadeChoice n t columns k k' =
    (priority release : List ℕ) → as_task n ≡ highest priority (λ j. get_or release j 0) (get_or k.sets 2 0)
    → get_or k.codes 6 0 ≡ 0 → (get_or k.codes 4 0 ≡ 1 → ⊥) → ChosenAt t priority release columns k k'

-- ---- g

abbrev pub WantedAt : List ℕ → List ℕ → Bool → Type 0
WantedAt sets codes x =
    (start : ℕ)
    → x ≡ wanted (as_next (get_or codes 1 0) (get_or codes 3 0)) (as_outgoing (get_or codes 4 0) (get_or codes 5 0) start) (get_or sets 2 0)

-- what the processor is set to: its kind, until when, and the interval's work
pub record ProcessorSet (work n t : ℕ) (columns times codes times' codes' : List ℕ) : Type 0 where
  pub kind : ℕ
  pub until : ℕ
  pub works : ℕ
  pub times_are : times' ≡ set times 2 until
  pub codes_are : codes' ≡ set (set codes 1 works) 2 kind
  pub is : (table : Table) → table.columns ≡ columns → as_processor kind n t until ≡ begin_processor table t (as_next work n)
  pub works_is : works ≡ work_of (as_next work n)

abbrev pub SetTo : ℕ → ℕ → ℕ → List ℕ → List ℕ → List ℕ → List ℕ → List ℕ → Type 0
SetTo work n t columns times codes times' codes' = work ≡ get_or codes 1 0 → ProcessorSet work n t columns times codes times' codes'

abbrev pub next_in : Kept → Next
next_in k = as_next (get_or k.codes 1 0) (get_or k.codes 3 0)

abbrev pub outgoing_in : Kept → Outgoing
outgoing_in k = as_outgoing (get_or k.codes 4 0) (get_or k.codes 5 0) (get_or k.times 3 0)

-- an interval begins, whether or not one is wanted, and its choice is not made yet; and whether the engine is free
pub record Opened (t taken : ℕ) (b : Beside) (k k' : Kept) (free : Bool) : Type 0 where
  pub becomes : Becomes (λ d. begin d t taken (next_in k) (outgoing_in k)) k b k' b
  pub unchosen : get_or k'.codes 6 0 ≡ 0
  pub is_free : free ≡ true → get_or k'.codes 4 0 ≡ 1 → ⊥
  pub is_busy : free ≡ false → get_or k'.codes 4 0 ≡ 1

abbrev pub OpenedAt : ℕ → ℕ → List ℕ → Kept → Kept → Bool → Type 0
OpenedAt t taken columns k k' x = (priority : List ℕ) (o : ByTask) → Whole k → Opened t taken (beside priority columns o) k k' x

abbrev pub BegunAt : ℕ → ℕ → List ℕ → List ℕ → List ℕ → Kept → Kept → Type 0
BegunAt t taken priority release columns k k' = StepInOrder (λ d. step_g d t taken d.phase) priority release columns k k'

-- ---- The next due time: as a plain number, and whether there is one

-- a number stands for a due time: it is that tick, or it is the last tick and nothing is due
pub record Stands (x : ℕ) (p : Option ℕ) : Type 0 where
  pub is : (p ≡ Some x) ⊎ ((x ≡ 2 ^ 64 - 1) × (p ≡ None))
  pub small : x ≤ 2 ^ 64 - 1

abbrev pub copyout_at_due : List ℕ → List ℕ → Option ℕ
copyout_at_due times codes = copyout_due (as_copyout (get_or codes 4 0) (get_or codes 5 0) (get_or times 3 0) (get_or times 4 0))

abbrev pub copyin_at_due : List ℕ → List ℕ → Option ℕ
copyin_at_due times codes = copyin_due (as_copyin (get_or codes 6 0) (get_or codes 7 0) (get_or times 5 0))

abbrev pub CopyOutTick : List ℕ → List ℕ → ℕ → Type 0
CopyOutTick times codes x = Stands x (copyout_at_due times codes)

abbrev pub EngineTick : List ℕ → List ℕ → ℕ → Type 0
EngineTick times codes x = Stands x (sooner (copyout_at_due times codes) (copyin_at_due times codes))

abbrev pub DueTick : List ℕ → List ℕ → ℕ → Type 0
DueTick times codes x = (sets : List ℕ) → Stands x (due (phase_in (registers_in (kept times sets codes))))

pub record IsDue (x : Bool) (d : Option ℕ) : Type 0 where
  pub some : x ≡ true → d ≡ None → ⊥
  pub none : x ≡ false → d ≡ None

abbrev pub SomeDue : List ℕ → Bool → Type 0
SomeDue codes x = (times sets : List ℕ) → IsDue x (due (phase_in (registers_in (kept times sets codes))))
