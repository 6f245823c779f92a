-- What the parts of a call promise, over the arrays that a dispatcher is kept as: the rules' outcome of the state that was read before,
-- whatever stands in the arrays that they are not lent.
use Rattle.dispatcher.specs.Types.{List, ℕ, State, Stage, Option, None, Some, JobEntry, IntervalEntry, Closed, NoInterval, Span}
use Rattle.std.specs.Prelude.{◌^◌, ◌<◌, Bool, false, cond, set, slice_index, slice_set, ◌≡◌}
use Rattle.rules.specs.Instant.{processor_task, copyout_task, copyin_task, copyin_fate, entry_with, step_a, step_e, step_f, due, at_g, occurred}
use Rattle.rules.specs.Calls.{refusal, not_after, before_now, mark_refusal, marks_refusal, with_marks}
use Rattle.rules.specs.Registers.{as_task, processor_in, copyout_in, copyin_in, interval_in, phase_in}
use Rattle.rules.specs.Kept.{Kept, kept, Whole, by_task, Beside, beside, registers_in, clock_in, read, copyout_ends}
use Rattle.dispatcher.specs.Telling as telling

-- ---- Refusals

abbrev pub NotAfter : ℕ → List ℕ → List ℕ → Bool → Type 0
NotAfter t times codes x = x ≡ not_after (clock_in times codes) t

-- what a time alone is refused by
abbrev pub TimeRefuses : ℕ → List ℕ → List ℕ → ℕ → Type 0
TimeRefuses t times codes x =
    (sets : List ℕ) → x ≡ cond (not_after (clock_in times codes) t) 14
    (cond (before_now (due (phase_in (registers_in (kept times sets codes)))) t) 15 0)

abbrev pub Refuses : ℕ → ℕ → List ℕ → List ℕ → List ℕ → ℕ → Type 0
Refuses t set times sets codes x = (b : Beside) → x ≡ refusal (read (kept times sets codes) b) t set

abbrev pub MarkRefuses : ℕ → ℕ → List ℕ → ℕ → Type 0
MarkRefuses n m sets x = (times codes : List ℕ) (b : Beside) → x ≡ mark_refusal (read (kept times sets codes) b) n m

abbrev pub MarksRefuses : ℕ → ℕ → List ℕ → ℕ → Type 0
MarksRefuses set m sets x = (times codes : List ℕ) (b : Beside) → x ≡ marks_refusal (read (kept times sets codes) b) set m

-- the marks of some tasks set or taken away
abbrev pub MarksAt : ℕ → ℕ → List ℕ → List ℕ → Type 0
MarksAt set m sets sets' =
    (times codes : List ℕ) (b : Beside) → read (kept times sets' codes) b ≡ with_marks (read (kept times sets codes) b) set m

-- ---- Telling a job

pub record TellsJob (e : JobEntry) (told told' : List ℕ) : Type 0 where
  pub told_is : told' ≡ slice_set (telling.job_told e told) 2 1
  pub task_fits : e.task < 256
  pub blocked_fits : e.blocked < 256

-- ---- Telling an interval

-- a task's word, of a task that is a byte
abbrev pub TaskFits : Option ℕ → Type 0
TaskFits None = Unit {0}
TaskFits (Some n) = n < 256

pub record TaskWord (t : Option ℕ) (x : ℕ) : Type 0 where
  pub is : x ≡ telling.task_word t
  pub fits : TaskFits t

-- an interval's words, of the units' numbers
abbrev pub ProcessorWord : List ℕ → ℕ → Type 0
ProcessorWord codes x = (times sets : List ℕ) → TaskWord (processor_task (processor_in (registers_in (kept times sets codes)))) x

abbrev pub CopyOutWord : List ℕ → ℕ → Type 0
CopyOutWord codes x = (times sets : List ℕ) → TaskWord (copyout_task (copyout_in (registers_in (kept times sets codes)))) x

abbrev pub CopyInWord : List ℕ → ℕ → Type 0
CopyInWord codes x = (times sets : List ℕ) → TaskWord (copyin_task (copyin_in (registers_in (kept times sets codes)))) x

abbrev pub FateWord : List ℕ → ℕ → Type 0
FateWord codes x = (times sets : List ℕ) → (x ≡ copyin_fate (copyin_in (registers_in (kept times sets codes)))) × (x < 256)

-- an interval whose numbers are bytes, so that it is read back from its words
pub record Readable (e : IntervalEntry) : Type 0 where
  pub half_fits : e.half < 256
  pub task_fits : TaskFits e.task
  pub work_fits : e.work < 256
  pub copiedout_fits : TaskFits e.copiedout
  pub chosen_fits : TaskFits e.chosen
  pub fate_fits : e.fate < 256
  pub promoted_fits : TaskFits e.promoted

pub record ToldInterval (e : IntervalEntry) (told told' : List ℕ) : Type 0 where
  pub told_is : told' ≡ telling.interval_told e told
  pub readable : Readable e

abbrev pub TellsInterval : ℕ → ℕ → List ℕ → List ℕ → List ℕ → List ℕ → Type 0
TellsInterval t p times codes told told' =
    (sets : List ℕ)
    → ToldInterval (entry_with (slice_index codes 0) t (interval_in (registers_in (kept times sets codes))) (as_task p)) told told'

-- ---- Telling what is skipped, and the next due time

pub record TellsSkipped (skipped : ℕ) (told told' : List ℕ) : Type 0 where
  pub told_is : told' ≡ slice_set told 1 skipped
  pub skipped_fits : skipped < 2 ^ 32

-- the due time, and whether there is one
abbrev pub DueTold : Option ℕ → List ℕ → List ℕ → Type 0
DueTold p told told' = told' ≡ slice_set (telling.due_told p told) 4 (telling.due_number p)

abbrev pub TellsDue : List ℕ → List ℕ → List ℕ → List ℕ → Type 0
TellsDue times codes told told' = (sets : List ℕ) → DueTold (due (phase_in (registers_in (kept times sets codes)))) told told'

-- ---- Steps that tell

abbrev pub DoneFits : Option JobEntry → Type 0
DoneFits None = Unit {0}
DoneFits (Some e) = (e.task < 256) × (e.blocked < 256)

-- a copy-out's end: step a of what is left is that of what was there
pub record EndedAt (t : ℕ) (k : Kept) (b : Beside) (k' : Kept) (told told' : List ℕ) : Type 0 where
  pub whole : Whole k'
  pub no_more : copyout_ends t k'.times k'.codes ≡ false
  pub state : (step_a (read k' b) t (read k' b).phase).state ≡ (step_a (read k b) t (read k b).phase).state
  pub told_is : told' ≡ telling.job_and_whether (step_a (read k b) t (read k b).phase).done told
  pub fits : DoneFits (step_a (read k b) t (read k b).phase).done

abbrev pub EndsCopyOut : ℕ → List ℕ → List ℕ → List ℕ → List ℕ → List ℕ → List ℕ → List ℕ → List ℕ → List ℕ → Type 0
EndsCopyOut t release blocked times sets codes told sets' codes' told' =
    (priority columns waits : List ℕ) → Whole (kept times sets codes)
    → EndedAt t (kept times sets codes) (beside priority columns (by_task release blocked waits)) (kept times sets' codes') told told'

-- the test of an interval's end: what is left, and what is told of the interval that ended
abbrev pub ClosedReads : Closed → Type 0
ClosedReads NoInterval = Unit {0}
ClosedReads (Span e) = Readable e

pub record TestedTold (tell : Closed → List ℕ → List ℕ) (after : Stage) (k' : Kept) (b' : Beside) (told told' : List ℕ) : Type 0 where
  pub whole : Whole k'
  pub state : read k' b' ≡ after.state
  pub told_is : told' ≡ tell after.closed told
  pub reads : ClosedReads after.closed

-- before the releases
abbrev pub EndsBefore : ℕ → List ℕ → List ℕ → Kept → List ℕ → List ℕ → Kept → List ℕ → List ℕ → Type 0
EndsBefore t priority release k blocked told k' blocked' told' =
    (columns waits : List ℕ) → Whole k
    → TestedTold telling.before_told (step_f (read k (beside priority columns (by_task release blocked waits))) t)
    k' (beside priority columns (by_task release blocked' waits)) told told'

-- and after them, behind the choice
abbrev pub step_e_f : State → ℕ → Stage
step_e_f d t = step_f (step_e d t d.phase) t

abbrev pub EndsAfter : ℕ → List ℕ → List ℕ → List ℕ → Kept → List ℕ → List ℕ → Kept → List ℕ → List ℕ → Type 0
EndsAfter t priority release columns k blocked told k' blocked' told' =
    (waits : List ℕ) → Whole k
    → TestedTold telling.after_told (step_e_f (read k (beside priority columns (by_task release blocked waits))) t)
    k' (beside priority columns (by_task release blocked' waits)) told told'

-- ---- Steps a to g

-- what is left, what is told, and that what occurred is read back from it
pub record Instant (d : State) (t set : ℕ) (k' : Kept) (b' : Beside) (told told' : List ℕ) : Type 0 where
  pub whole : Whole k'
  pub state : read k' b' ≡ at_g d t set
  pub told_is : told' ≡ telling.told_of (occurred d t set) told
  pub reads : telling.occurred_in told' ≡ occurred d t set

abbrev pub StepsTo : ℕ → ℕ → Kept → Beside → List ℕ → Kept → Beside → List ℕ → Type 0
StepsTo t set k b told k' b' told' = Instant (read k b) t set k' b' told told'
