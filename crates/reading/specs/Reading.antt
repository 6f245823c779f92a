-- "From the task entries and a record, give back the release entries": the outcome, and what the lent slice holds at the end.
use Rattle.std.specs.Prelude.{eqb, ◌∷◌, ◌++◌}
use Rattle.entries.specs.Entries.{release_bytes}
use Rattle.rules.specs.State.{State}
use Rattle.rules.specs.Calls.{opening}
use Rattle.run.specs.Files.{Checked, Rejected, Releases, releases_of}
use Rattle.run.specs.Run.{record_bytes, moments_of}
use Rattle.record.specs.Writing.{Written, written}
use Rattle.reading.specs.Types.{Bool, true, false, cond, List, [], ℕ, Release, Refusal, Alone, Result, Ok, Err, RefusedInput}
use Rattle.reading.specs.Attested.{attested, sorted}

-- the release entries of a list
unfoldable pub list_bytes : List Release → List ℕ
list_bytes [] = []
list_bytes (r ∷ rs) = release_bytes r ++ list_bytes rs

-- the input made of the task entries and a list
abbrev pub input_of : List ℕ → List Release → List ℕ
input_of tasks rs = tasks ++ list_bytes rs

unfoldable pub same_bytes : List ℕ → List ℕ → Bool
same_bytes [] [] = true
same_bytes [] (y ∷ ys) = false
same_bytes (x ∷ xs) [] = false
same_bytes (x ∷ xs) (y ∷ ys) = cond (eqb x y) (same_bytes xs ys) false

-- an input is accepted, and its run's record is these bytes
unfoldable pub yielded_by : List ℕ → List ℕ → Checked → Bool
yielded_by s bytes (Rejected r) = false
yielded_by s bytes (Releases rs) = same_bytes (record_bytes (moments_of s rs)) bytes

abbrev pub yields : List ℕ → List ℕ → Bool
yields s bytes = yielded_by s bytes (releases_of s)

-- ---- The outcome. "The task entries are checked first, as at opening"; then 2 and 1 of the record's entries; 18; 13.

abbrev pub turned_away : Refusal → List ℕ → Written
turned_away r lent = record { outcome = Err (RefusedInput r); memory = lent }

-- each release leaves one entry: the list can be no other than that of the releases attested, in their order
unfoldable pub listed_if : List ℕ → List ℕ → List ℕ → List Release → Written
listed_if tasks bytes lent rs = cond (yields (input_of tasks rs) bytes) (written (list_bytes rs) lent) (turned_away (Alone 18) lent)

abbrev pub read_attested : List ℕ → List ℕ → List ℕ → Checked → Written
read_attested tasks bytes lent (Rejected r) = turned_away r lent
read_attested tasks bytes lent (Releases rs) = listed_if tasks bytes lent (sorted rs)

abbrev pub read_opened : List ℕ → List ℕ → List ℕ → Result State Refusal → Written
read_opened tasks bytes lent (Ok d) = read_attested tasks bytes lent (attested bytes)
read_opened tasks bytes lent (Err r) = turned_away r lent

unfoldable pub reading : List ℕ → List ℕ → List ℕ → Written
reading tasks bytes lent = read_opened tasks bytes lent (opening tasks)
