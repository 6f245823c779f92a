-- What is handed in and what must come of it: the rows of a table of examples, and what the definitions make of each.
use Rattle.std.specs.Prelude.{cond, List, [], ◌∷◌, ◌++◌, ℕ, replicate}
use Rattle.std.specs.Result.{result_err}
use Rattle.sets.specs.Sets.{insert}
use Rattle.rules.specs.Types.{Phase, Between, Within, State}
use Rattle.rules.specs.With.{with_waiting}
use Rattle.rules.specs.declared.Call.{Call}
use Rattle.rules.specs.declared.Occurred.{Occurred}
use Rattle.rules.specs.Instant.{occurred}
use Rattle.rules.specs.Calls.{opening, state_opened, row, serves, after_call}
use Rattle.rules.specs.Answers.{due_values}
use Rattle.guarantees.specs.History.{after_calls}
use Rattle.run.specs.Run.{record_bytes}
use Rattle.record.specs.FileClaim.{answers}
use Rattle.record.specs.Writing.{Written, file, outcome_number, outcome_value}
use Rattle.table.specs.Refusals.{refusal_number, refusal_place}
use Rattle.waves.specs.Writing.{dumped}

-- ---- What is handed in

-- an input whose record is wanted, or its waveform, with the length of the lent slice, each of whose bytes is 170; or opening bytes and
-- calls; or these, and then a release of a task, at a time, that is put into the state as one that waits, and further calls
pub data Given : Type 0 where
  OfFile : List ℕ → ℕ → Given
  OfDump : List ℕ → ℕ → Given
  OfCalls : List ℕ → List Call → Given
  OfPut : List ℕ → List Call → ℕ → ℕ → List Call → Given

-- ---- What must come of it

-- of a file its number (0 where there is no refusal), its value (the place, the length needed or the length of record or dump) and what
-- the slice holds; of calls the opening's number and place and each call's answer, and the record's bytes of what they made happen; of
-- those behind a release that was put in, each answer, then the candidates for promotion of the interval that is open at the end, and
-- these bytes
pub record Result : Type 0 where
  pub numbers : List ℕ
  pub memory : List ℕ

pub record Row : Type 0 where
  pub given : Given
  pub expected : Result

-- ---- The definitions' answer

-- of a call its number, and of an instant that is served the set skipped and the next due time; its job and its interval stand in the
-- record's bytes
abbrev pub in_short : State → Call → List ℕ
in_short d c =
    let o : Occurred = occurred d (row c).time (row c).hands in (row c).number d ∷ cond (serves d c) (o.skipped ∷ due_values o.due) []

unfoldable pub called : State → List Call → List ℕ
called d [] = []
called d (c ∷ cs) = in_short d c ++ called (after_call d c) cs

-- a release of task n, at t, as the only one that waits
unfoldable pub with_put : State → ℕ → ℕ → State
with_put d n t = with_waiting d (record { tasks = insert n 0; times = replicate 32 t; before = d.waiting.before })

abbrev pub candidates_in : Phase → ℕ
candidates_in (Between next outgoing) = 0
candidates_in (Within i) = i.candidates

unfoldable pub found : Given → Result
found (OfFile s size) =
    let w : Written = file s (replicate size 170) in
    record { numbers = outcome_number w.outcome ∷ outcome_value w.outcome ∷ []; memory = w.memory }
found (OfDump s size) =
    let w : Written = dumped s (replicate size 170) in
    record { numbers = outcome_number w.outcome ∷ outcome_value w.outcome ∷ []; memory = w.memory }
found (OfCalls s cs) =
    let d : State = state_opened (opening s) in
    record {
      numbers = refusal_number (result_err (opening s)) ∷ refusal_place (result_err (opening s)) ∷ called d cs;
      memory = record_bytes (answers d cs);
    }
found (OfPut s before n t cs) =
    let d : State = with_put (after_calls (state_opened (opening s)) before) n t in
    record { numbers = called d cs ++ (candidates_in (after_calls d cs).phase ∷ []); memory = record_bytes (answers d cs) }

unfoldable pub all_found : List Row → List Result
all_found [] = []
all_found (r ∷ rs) = found r.given ∷ all_found rs

unfoldable pub all_expected : List Row → List Result
all_expected [] = []
all_expected (r ∷ rs) = r.expected ∷ all_expected rs

-- ---- Rows

-- a file that runs: its input and its record's bytes and length, in a slice of two bytes more
unfoldable pub recorded : List ℕ → List ℕ → ℕ → ℕ → Row
recorded input bytes size lent =
    record { given = OfFile input lent; expected = record { numbers = 0 ∷ size ∷ []; memory = bytes ++ (170 ∷ 170 ∷ []) } }

-- one that is refused: the slice's length, the number and the value; the slice is left as it was
unfoldable pub refused : List ℕ → ℕ → ℕ → ℕ → Row
refused input lent n value =
    record { given = OfFile input lent; expected = record { numbers = n ∷ value ∷ []; memory = replicate lent 170 } }

-- the same of an input's waveform
unfoldable pub drawn : List ℕ → List ℕ → ℕ → ℕ → Row
drawn input bytes size lent =
    record { given = OfDump input lent; expected = record { numbers = 0 ∷ size ∷ []; memory = bytes ++ (170 ∷ 170 ∷ []) } }

unfoldable pub not_drawn : List ℕ → ℕ → ℕ → ℕ → Row
not_drawn input lent n value =
    record { given = OfDump input lent; expected = record { numbers = n ∷ value ∷ []; memory = replicate lent 170 } }

-- opening bytes and calls, with the numbers of the opening and the answers, and the record's bytes of what the calls made happen
unfoldable pub answered : List ℕ → List Call → List ℕ → List ℕ → Row
answered input calls numbers bytes = record { given = OfCalls input calls; expected = record { numbers = numbers; memory = bytes } }

-- opening bytes, calls, a task and the time of its release that is put in, and further calls, with their
-- answers, the candidates and the bytes
unfoldable pub answered_behind : List ℕ → List Call → ℕ → ℕ → List Call → List ℕ → List ℕ → Row
answered_behind input before n t calls numbers bytes =
    record { given = OfPut input before n t calls; expected = record { numbers = numbers; memory = bytes } }
