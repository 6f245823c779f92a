-- Acceptance, said for itself. What stands between quotation marks is request 1/13 of document 02.
use Rattle.std.specs.Prelude.{◌≡◌, ◌⊎◌, ◌<◌, take, drop, get_or, IsOk}
use Rattle.table.specs.Head.{head_read, head_of}
use Rattle.rules.specs.Calls.{opening}
use Rattle.run.specs.Files.{Releases, releases_of}
use Rattle.run.specs.Run.{record_bytes, moments_of}
use Rattle.record.specs.Writing.{Wrote, written, file, outcome_number, outcome_value}
use Rattle.reading.specs.Types.{List, ℕ, Release, Outcome, Ok}
use Rattle.reading.specs.Attested.{attested}
use Rattle.reading.specs.Reading.{list_bytes, input_of, reading}

-- a list yields a record: the task entries open a dispatcher; with the list's release entries behind them they are an input that is
-- accepted, with just these releases; and the record of its run is these bytes
pub record Yields (tasks : List ℕ) (rs : List Release) (bytes : List ℕ) : Type 0 where
  pub opens : IsOk (opening tasks)
  pub admissible : releases_of (input_of tasks rs) ≡ Releases rs
  pub its_record : record_bytes (moments_of (input_of tasks rs) rs) ≡ bytes

-- "the bytes are whole entries of kinds 16 to 18 but no list yields them", where the task entries open a dispatcher
pub record NoList (tasks bytes : List ℕ) : Type 0 where
  pub opens : IsOk (opening tasks)
  pub whole : (ps : List Release) × (attested bytes ≡ Releases ps)
  pub none : (rs : List Release) → Yields tasks rs bytes → ⊥

-- what comes of the task entries, a record and a lent slice
pub record Accepts (tasks bytes before : List ℕ) (outcome : Outcome) (after : List ℕ) : Type 0 where
  -- "accepted if and only if some admissible release list yields it; that list .. is what comes back, in a
  -- lent slice"; 13 where that is too short
  pub if_yielded : (rs : List Release) → Yields tasks rs bytes → Wrote (written (list_bytes rs) before) outcome after
  pub only_if : (outcome_number outcome ≡ 0) ⊎ (outcome_number outcome ≡ 13)
      → (rs : List Release) × Yields tasks rs bytes × Wrote (written (list_bytes rs) before) outcome after
  -- "that list is the only one"
  pub the_only : (rs qs : List Release) → Yields tasks rs bytes → Yields tasks qs bytes → rs ≡ qs
  -- "18, the bytes are whole entries of kinds 16 to 18 but no list yields them"
  pub if_none : NoList tasks bytes → outcome_number outcome ≡ 18
  pub none_if : outcome_number outcome ≡ 18 → NoList tasks bytes

pub record ReadWithClaim (tasks bytes before : List ℕ) (outcome : Outcome) (after : List ℕ) : Type 0 where
  pub read : Wrote (reading tasks bytes before) outcome after
  -- and in document 01's numbers: the refusal's, and the place, the length needed or the list's length
  pub number : outcome_number outcome ≡ outcome_number (reading tasks bytes before).outcome
  pub value : outcome_value outcome ≡ outcome_value (reading tasks bytes before).outcome
  pub accepts : Accepts tasks bytes before outcome after

-- ---- The round trip

-- each number of a list is a byte
abbrev pub AllBytes : List ℕ → Type 0
AllBytes s = (i : ℕ) → get_or s i 0 < 256

-- what `record::write` wrote for an input that is accepted is read back as exactly its release entries
unfoldable pub RoundTrip : Type 0
RoundTrip = (s out lent : List ℕ) (n : ℕ) → AllBytes s → (file s out).outcome ≡ Ok n →
    reading (take (head_read (head_of s)).end s) (take n (file s out).memory) lent ≡ written (drop (head_read (head_of s)).end s) lent
