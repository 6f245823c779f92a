-- Document 01's number and values for each case of an answer. A call that is served has number 0; a refused one returns its number alone.
use Rattle.std.specs.Prelude.{◌∷◌}
use Rattle.rules.specs.Types.{List, [], ℕ, Option, JobEntry, None, Some, Closing, Unclosed, BeforeReleases, AfterReleases, IntervalEntry, Answer, Err, Ok, MarkAnswer}
use Rattle.entries.specs.Entries.{choice_bytes}

-- ---- An instant: 16, 10, 14 and 15

abbrev pub answer_number : Answer → ℕ
answer_number (Err n) = n
answer_number (Ok o) = 0

-- "at most one job done,": what kind 16 has of it
abbrev pub done_values : Option JobEntry → List ℕ
done_values None = []
done_values (Some e) = e.task ∷ e.release ∷ e.start ∷ e.completion ∷ e.blocked ∷ []

-- "at most one interval closed,": what kind 17 has of it
abbrev pub interval_values : IntervalEntry → List ℕ
interval_values e = e.begin ∷ e.end ∷ choice_bytes e

abbrev pub closed_values : Closing → List ℕ
closed_values Unclosed = []
closed_values (BeforeReleases e) = interval_values e
closed_values (AfterReleases e) = interval_values e

-- "the next due time if any"
abbrev pub due_values : Option ℕ → List ℕ
due_values None = []
due_values (Some t) = t ∷ []

-- each of the four, "the set skipped" third
abbrev pub answer_values : Answer → List (List ℕ)
answer_values (Err n) = []
answer_values (Ok o) = done_values o.done ∷ closed_values o.closed ∷ (o.skipped ∷ []) ∷ due_values o.due ∷ []

-- ---- A mark call: 16, 6 and 17; served, it has no value

abbrev pub mark_number : MarkAnswer → ℕ
mark_number (Err n) = n
mark_number (Ok x) = 0
