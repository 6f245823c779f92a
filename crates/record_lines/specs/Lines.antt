-- The lines of a record's bytes: a J, I or S line for each entry of kind 16, 17 or 18, in order.
use Rattle.std.specs.Prelude.{◌≡◌, List, [], ◌++◌, ℕ, zero, suc, ◌+◌, ◌-◌, ◌≤◌, ◌<◌, length, drop, Result, Ok, Err}
use Rattle.entries.specs.Entries.{record_entry_at, record_entry_size}
use Rattle.lines.specs.Lines.{line_of}
use Rattle.lines.specs.Text.{Prints}
use Rattle.record_lines.specs.Types.{Text, RecordEntry, Unreadable}

-- the line of the entry at a place: no bytes where no whole entry stands
abbrev pub read_line : Result RecordEntry Unreadable → List ℕ
read_line (Ok e) = line_of e
read_line (Err e) = []

unfoldable pub entry_line : List ℕ → ℕ → List ℕ
entry_line s at = read_line (record_entry_at s at)

-- its length: 0 where no whole entry stands
unfoldable pub entry_size : List ℕ → ℕ → ℕ
entry_size s at = record_entry_size (record_entry_at s at)

-- of all entries from a place on, at most k of them; bytes that are no entry end them
unfoldable pub lines_from : ℕ → List ℕ → ℕ → List ℕ
lines_from zero s at = []
lines_from (suc k) s at = elim (entry_size s at) [ zero ↦ [] | suc n ↦ entry_line s at ++ lines_from k s (at + suc n) ]

-- of all of them: no entry has fewer bytes than one
abbrev pub lines_behind : List ℕ → ℕ → List ℕ
lines_behind s at = lines_from (length s - at) s at

-- of a whole record
abbrev pub record_lines : List ℕ → List ℕ
record_lines s = lines_behind s 0

-- ---- What the functions promise

-- a text is the line of the entry at a place, and the next entry's place stands behind it
pub record LineAt (s : List ℕ) (at : ℕ) (text : Text) (next : ℕ) : Type 0 where
  pub prints : Prints text (entry_line s at)
  pub next_is : next ≡ at + entry_size s at

-- a slice holds the lines of the entries from a place up to the next at its start, and the rest of it is as it was
pub record HoldsLines (s : List ℕ) (at : ℕ) (before : List ℕ) (len next : ℕ) (after : List ℕ) : Type 0 where
  pub lines : List ℕ
  pub len_is : len ≡ length lines
  pub fits : len ≤ length before
  pub holds : after ≡ lines ++ drop (length lines) before
  pub in_order : lines ++ lines_behind s next ≡ lines_behind s at
  pub ahead : at ≤ next
  pub within : (len ≡ 0 → ⊥) → (at < next) × (next ≤ length s)

-- and those are as many as fit whole: no entry stands at the next place, or its line does not fit behind them
pub record FilledWith (s : List ℕ) (at : ℕ) (before : List ℕ) (len next : ℕ) (after : List ℕ) : Type 0 where
  pub held : HoldsLines s at before len next after
  pub stops : length (entry_line s next) ≤ length before - len → entry_line s next ≡ []
