-- The record of a file in a lent slice: its run's entries in the order in which things occur.
use Rattle.std.specs.Prelude.{◌≡◌, leb, length, drop, ◌++◌, Some}
use Rattle.table.specs.Refusals.{refusal_number, refusal_place}
use Rattle.run.specs.Files.{Checked, Rejected, Releases, releases_of}
use Rattle.run.specs.Run.{record_bytes, moments_of}
use Rattle.record.specs.Types.{cond, List, ℕ, Ok, Err, Outcome, RefusedInput, TooShort}

-- ---- The outcome of an input and a lent slice, and what the slice holds at the end

-- document 01's number and value for each case: the record's length where there is no refusal, the length needed with 13
abbrev pub outcome_number : Outcome → ℕ
outcome_number (Err (RefusedInput r)) = refusal_number (Some r)
outcome_number (Err (TooShort n)) = 13
outcome_number (Ok n) = 0

abbrev pub outcome_value : Outcome → ℕ
outcome_value (Err (RefusedInput r)) = refusal_place (Some r)
outcome_value (Err (TooShort n)) = n
outcome_value (Ok n) = n

pub record Written : Type 0 where
  pub outcome : Outcome
  pub memory : List ℕ

-- 13 comes last: the slice is shorter than the result
unfoldable pub written : List ℕ → List ℕ → Written
written bytes lent =
    cond (leb (length bytes) (length lent))
    (record { outcome = Ok (length bytes); memory = bytes ++ drop (length bytes) lent })
    (record { outcome = Err (TooShort (length bytes)); memory = lent })

abbrev pub written_of : List ℕ → List ℕ → Checked → Written
written_of s lent (Rejected r) = record { outcome = Err (RefusedInput r); memory = lent }
written_of s lent (Releases rs) = written (record_bytes (moments_of s rs)) lent

unfoldable pub file : List ℕ → List ℕ → Written
file s lent = written_of s lent (releases_of s)

-- what a writer answers and what the slice holds then are those of a definition
pub record Wrote (w : Written) (outcome : Outcome) (memory : List ℕ) : Type 0 where
  pub outcome_is : outcome ≡ w.outcome
  pub holds : memory ≡ w.memory

-- and in document 01's numbers: the refusal's, and the place, the length needed or the length of what was written
pub record WroteInNumbers (w : Written) (outcome : Outcome) (memory : List ℕ) : Type 0 where
  pub wrote : Wrote w outcome memory
  pub number : outcome_number outcome ≡ outcome_number w.outcome
  pub value : outcome_value outcome ≡ outcome_value w.outcome
