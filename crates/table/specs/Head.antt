-- The head of an input: the part before its releases, which a file, opening and the reader of records have alike. Its entries are checked
-- one by one, 2, 1, then 3, 4, 6, 7 of a task and 8, 19 of a spacing (8/13); 5 is kept free (6/13). It ends at the input's end or at the
-- first release entry, be that whole or cut short: what comes there is for whoever reads on.
use Rattle.std.specs.Prelude.{Bool, true, false, cond, not, ◌||◌, List, ℕ, zero, suc, ◌+◌, ◌*◌, eqb, ltb, leb, length, set, replicate, Result, Ok, Err}
use Rattle.sets.specs.Sets.{member, insert}
use Rattle.entries.specs.Entries.{is_release, entry_at, entry_size}
use Rattle.entries.specs.Unreadable.{unreadable_number}
use Rattle.entries.specs.Limits as limits
use Rattle.table.specs.Table.{with_lengths}
use Rattle.table.specs.Types.{TaskParameters, Spacing, Entry, TaskEntry, ReleaseEntry, SpacingEntry, Table, Refusal, Alone, AtEntry, Head}
use Rattle.entries.specs.declared.Unreadable.{Unreadable}

-- the table with no task
abbrev pub no_table : Table
no_table = record { present = 0; spaced = 0; priority = replicate limits.tasks 0; columns = replicate (4 * limits.tasks) 0 }

-- ---- A task

-- no length of a phase: outside 1 to the longest
unfoldable pub outside : ℕ → Bool
outside x = eqb x 0 || ltb limits.longest_phase x

-- 4: no task number, or given before
unfoldable pub number_refused : ℕ → ℕ → Bool
number_refused present n = leb limits.tasks n || member n present

-- 6, then 7; 0 is none
unfoldable pub mark_or_length_refusal : TaskParameters → ℕ
mark_or_length_refusal p =
    cond (ltb 1 p.mark) 6
    (cond (outside p.copyin || (outside p.execution || outside p.copyout)) 7 0)

-- 8/13: "a task entry after a kind 3 entry, is 3": some task has a spacing then
abbrev pub after_spacings : ℕ → Bool
after_spacings spaced = not (eqb spaced 0)

-- 3, 4, 6, 7, in this order; 0 is none
unfoldable pub task_refusal : ℕ → ℕ → TaskParameters → ℕ
task_refusal present spaced p =
    cond (after_spacings spaced) 3
    (cond (number_refused present p.number) 4 (mark_or_length_refusal p))

unfoldable pub with_task : Table → TaskParameters → Table
unfolding with_lengths
with_task t p = record {
  present = insert p.number t.present;
  spaced = t.spaced;
  priority = set t.priority p.number p.priority;
  columns = with_lengths t.columns p;
}

unfoldable pub with_marked : ℕ → TaskParameters → ℕ
with_marked marked p = cond (eqb p.mark 1) (insert p.number marked) marked

-- ---- A spacing (8/13)

-- 19: "a spacing of 0, over 1,000,000,000, or a second one for a task"
unfoldable pub ticks_refused : ℕ → Spacing → Bool
ticks_refused spaced x = eqb x.ticks 0 || (ltb limits.longest_spacing x.ticks || member x.task spaced)

-- "an unknown task is 8", then 19; 0 is none
unfoldable pub spacing_refusal : ℕ → ℕ → Spacing → ℕ
spacing_refusal present spaced x = cond (not (member x.task present)) 8 (cond (ticks_refused spaced x) 19 0)

unfoldable pub with_spacing : Table → Spacing → Table
with_spacing t x = record {
  present = t.present;
  spaced = insert x.task t.spaced;
  priority = t.priority;
  columns = set t.columns (3 * limits.tasks + x.task) x.ticks;
}

-- ---- An entry of the head

-- by its kind; 2 of what is none. 0 is none
unfoldable pub entry_refusal : Table → Result Entry Unreadable → ℕ
entry_refusal t (Err e) = unreadable_number e
entry_refusal t (Ok (TaskEntry p)) = task_refusal t.present t.spaced p
entry_refusal t (Ok (ReleaseEntry r)) = 2
entry_refusal t (Ok (SpacingEntry x)) = spacing_refusal t.present t.spaced x

-- the table with it, and the marked tasks
unfoldable pub with_entry : Table → Result Entry Unreadable → Table
with_entry t (Err e) = t
with_entry t (Ok (TaskEntry p)) = with_task t p
with_entry t (Ok (ReleaseEntry r)) = t
with_entry t (Ok (SpacingEntry x)) = with_spacing t x

unfoldable pub marked_with : ℕ → Result Entry Unreadable → ℕ
marked_with marked (Err e) = marked
marked_with marked (Ok (TaskEntry p)) = with_marked marked p
marked_with marked (Ok (ReleaseEntry r)) = marked
marked_with marked (Ok (SpacingEntry x)) = marked

-- ---- The head

abbrev pub refused_at : ℕ → ℕ → Result Head Refusal
refused_at n at = Err (AtEntry n at)

abbrev pub read_to : Table → ℕ → ℕ → Result Head Refusal
read_to t marked at = Ok (record { table = t; marked = marked; end = at })

-- a head that is refused tells nothing but why
abbrev pub head_read : Result Head Refusal → Head
head_read (Ok k) = k
head_read (Err r) = record { table = no_table; marked = 0; end = 0 }

-- the end of the input, or a release
unfoldable pub behind_head : List ℕ → ℕ → Bool
behind_head s at = leb (length s) at || is_release s at

-- the entries from a place on, at most k of them
unfoldable pub head_from : ℕ → List ℕ → ℕ → Table → ℕ → Result Head Refusal
head_from zero s at t marked = read_to t marked at
head_from (suc k) s at t marked =
    elim (behind_head s at) [
      | true ↦ read_to t marked at
      | false ↦ elim (entry_refusal t (entry_at s at)) [
        | zero ↦ head_from k s (at + entry_size (entry_at s at)) (with_entry t (entry_at s at)) (marked_with marked (entry_at s at))
        | suc n ↦ refused_at (suc n) at
      ]
    ]

-- an input of some length has no more entries than bytes
unfoldable pub head_of : List ℕ → Result Head Refusal
head_of s = head_from (length s) s 0 no_table 0

-- ---- A head alone, as at opening: 12 where there is no byte, then the head's refusals, then 2 for what stands behind it, a release

abbrev pub with_nothing_behind : ℕ → Result Head Refusal → Result Head Refusal
with_nothing_behind size (Ok k) = cond (eqb k.end size) (Ok k) (refused_at 2 k.end)
with_nothing_behind size (Err r) = Err r

unfoldable pub head_alone : List ℕ → Result Head Refusal
head_alone s = cond (eqb (length s) 0) (Err (Alone 12)) (with_nothing_behind (length s) (head_of s))
