-- The printed lines, as bytes: a letter, the fields of document 01's entries in decimal and in body order, one space between, `-` for
-- no task, a newline.
use Rattle.std.specs.Prelude.{cond, List, [], ◌∷◌, ◌++◌, ℕ, zero, suc, ◌+◌, ◌/◌, ◌%◌, ltb, Option, None, Some}
use Rattle.entries.specs.Entries.{each}
use Rattle.rules.specs.Answers.{mark_number}
use Rattle.rules.specs.Entries.{done_entries, closed_entries}
use Rattle.lines.specs.Types.{Option, None, Some, JobEntry, IntervalEntry, RecordEntry, JobDone, IntervalEnded, ReleaseSkipped, Refusal, Occurred, Answer, Err, Ok, MarkAnswer}
use Rattle.table.specs.Refusals.{refusal_number, refusal_place}

-- ---- Fields

-- the decimal digits of a number, highest first, as far as a count of them goes: byte 48 is `0`
unfoldable pub digits : ℕ → ℕ → List ℕ
digits zero n = []
digits (suc most) n =
    let higher : List ℕ = digits most (n / 10) in
    cond (ltb n 10) ((48 + n) ∷ []) (higher ++ ((48 + n % 10) ∷ []))

-- and all of them: a number n has no more than n + 1
unfoldable pub decimal : ℕ → List ℕ
decimal n = digits (suc n) n

-- a space, and the number
abbrev pub field : ℕ → List ℕ
field n = 32 ∷ decimal n

-- a space, and `-`
abbrev pub no_field : List ℕ
no_field = 32 ∷ 45 ∷ []

abbrev pub task_field : Option ℕ → List ℕ
task_field None = no_field
task_field (Some n) = field n

abbrev pub due_field : Option ℕ → List ℕ
due_field None = no_field
due_field (Some t) = field t

abbrev pub newline : List ℕ
newline = 10 ∷ []

-- ---- Entries of the record

-- J, kind 16: task, release, execution start, completion, blocked intervals
unfoldable pub job_line : JobEntry → List ℕ
job_line e =
    74 ∷ (field e.task ++ (field e.release ++ (field e.start ++ (field e.completion ++ (field e.blocked ++ newline)))))

-- I, kind 17: begin, end, processor's half, processor's task, work, task copied out, task chosen for copy-in, its fate, task promoted
-- at the end
unfoldable pub interval_line : IntervalEntry → List ℕ
interval_line e =
    73 ∷ (field e.begin ++ (field e.end ++ (field e.half ++ (task_field e.task ++ (field e.work
    ++ (task_field e.copiedout ++ (task_field e.chosen ++ (field e.fate ++ (task_field e.promoted ++ newline)))))))))

-- a letter, and the task and the time of a release
unfoldable pub timed_line : ℕ → ℕ → ℕ → List ℕ
timed_line letter task time = letter ∷ (field task ++ (field time ++ newline))

-- S, kind 18: a release skipped
abbrev pub skipped_line : ℕ → ℕ → List ℕ
skipped_line task time = timed_line 83 task time

-- of an entry of a record
abbrev pub line_of : RecordEntry → List ℕ
line_of (JobDone e) = job_line e
line_of (IntervalEnded e) = interval_line e
line_of (ReleaseSkipped r) = skipped_line r.task r.time

-- L: a release of the list that made a record
abbrev pub listed_line : ℕ → ℕ → List ℕ
listed_line task time = timed_line 76 task time

-- ---- Refusals

-- R: the number and the place of a refused input, 0 where there is no place
unfoldable pub refused_input_line : Option Refusal → List ℕ
refused_input_line r = 82 ∷ (field (refusal_number r) ++ (field (refusal_place r) ++ newline))

-- R: the number alone of a refused call
unfoldable pub refused_call_line : ℕ → List ℕ
refused_call_line n = 82 ∷ (field n ++ newline)

-- ---- Answers

-- O: a dispatcher has opened
abbrev pub opened_line : List ℕ
opened_line = 79 ∷ newline

-- M: a mark call was served
abbrev pub marked_line : List ℕ
marked_line = 77 ∷ newline

-- X: a call is cut short, or is none
abbrev pub cut_short_line : List ℕ
cut_short_line = 88 ∷ newline

-- A: the set skipped and the next due time, `-` where nothing is due
unfoldable pub answer_line : Occurred → List ℕ
answer_line o = 65 ∷ (field o.skipped ++ (due_field o.due ++ newline))

-- 9/13, E: the same of what an enquiry shows, and the ticket
unfoldable pub enquiry_line : Occurred → ℕ → List ℕ
enquiry_line o ticket = 69 ∷ (field o.skipped ++ (due_field o.due ++ (field ticket ++ newline)))

-- what occurred at a served instant: its entries, where the answer has the skipped ones, and then the answer
unfoldable pub served_lines : Occurred → List ℕ
served_lines o = each line_of (done_entries o.done ++ closed_entries o.closed []) ++ answer_line o

-- 9/13, what would occur, and then the enquiry's line
unfoldable pub shown_lines : Occurred → ℕ → List ℕ
shown_lines o ticket = each line_of (done_entries o.done ++ closed_entries o.closed []) ++ enquiry_line o ticket

abbrev pub instant_lines : Answer → List ℕ
instant_lines (Err n) = refused_call_line n
instant_lines (Ok o) = served_lines o

abbrev pub enquiry_lines : Answer → ℕ → List ℕ
enquiry_lines (Err n) ticket = refused_call_line n
enquiry_lines (Ok o) ticket = shown_lines o ticket

abbrev pub mark_lines : MarkAnswer → List ℕ
mark_lines (Ok x) = marked_line
mark_lines (Err n) = refused_call_line (mark_number (Err n))

abbrev pub opening_lines : Option Refusal → List ℕ
opening_lines None = opened_line
opening_lines (Some r) = refused_input_line (Some r)
