-- How far a file's run has come, and what is known of the run of a file that was checked.
use Rattle.std.specs.Prelude.{◌≡◌, length, ◌-◌, ◌*◌, ◌/◌, ◌≤◌, ◌∷◌, ◌+◌}
use Rattle.entries.specs.Entries.{size, laid}
use Rattle.entries.specs.Limits as limits
use Rattle.table.specs.Head.{head_of}
use Rattle.rules.specs.Calls.{opened, row}
use Rattle.rules.specs.declared.Call.{Call}
use Rattle.record.specs.Types.{Bool, true, false, List, [], ℕ, Head, Ok, State, Piece}
use Rattle.run.specs.Listed.{releases_at}
use Rattle.run.specs.Run.{record_bytes, run}
use Rattle.dispatcher.specs.Dispatcher.{state_of}
use Rattle.record.specs.FileClaim.{Feeds, AllServed}

-- how far a run has come: the state, and the place of the next release
pub record Cursor : Type 0 where
  pub state : State
  pub at : ℕ

-- ---- a whole run

abbrev pub run_bytes : List ℕ → Cursor → ℕ → List ℕ
run_bytes s c budget = record_bytes (run budget c.state (releases_at s c.at))

-- where a file's run begins, its head read
abbrev pub start : Head → Cursor
start k = record { state = opened k.table k.marked; at = k.end }

-- no instant is late: none is at the last tick that a clock has
unfoldable pub AllEarly : List Call → Type 0
AllEarly [] = Unit {0}
AllEarly (c ∷ cs) = ((row c).time ≤ limits.last_instant) × AllEarly cs

-- no instant of a run is refused, and none is late
pub record Served (s : List ℕ) (c : Cursor) : Type 0 where
  pub within : c.at ≤ length s
  pub calls : List Call
  pub feeds : Feeds c.state (releases_at s c.at) calls
  pub all_served : AllServed c.state calls
  pub early : AllEarly calls

-- there is room for the record, where it is kept
pub record Room (s : List ℕ) (c : Cursor) (budget : ℕ) (out : List ℕ) (keep : Bool) : Type 0 where
  pub kept : keep ≡ true → length (run_bytes s c budget) ≤ length out
  pub few : budget ≤ limits.budget_most
  pub served : Served s c

-- the record's length; the slice holds the record, or is as it was where only the length counts
pub record Ran (s : List ℕ) (c : Cursor) (budget : ℕ) (before : List ℕ) (keep : Bool) (size : ℕ) (after : List ℕ) : Type 0 where
  pub size_is : size ≡ length (run_bytes s c budget)
  pub holds : keep ≡ true → after ≡ laid 0 (run_bytes s c budget) before
  pub unchanged : keep ≡ false → after ≡ before

-- ---- the rest of a run, behind a piece that was made of it, whose `read` is a place of the input

abbrev pub cursor_of : Piece → Cursor
cursor_of x = record { state = state_of x.state; at = x.read }

abbrev pub rest_bytes : List ℕ → Piece → List ℕ
rest_bytes s x = run_bytes s (cursor_of x) x.left

pub record RestRoom (s : List ℕ) (x : Piece) (out : List ℕ) (keep : Bool) : Type 0 where
  pub kept : keep ≡ true → x.size + length (rest_bytes s x) ≤ length out
  pub few : x.size + limits.instant_most * x.left ≤ limits.instant_most * limits.budget_most
  pub served : Served s (cursor_of x)

pub record RestRan (s : List ℕ) (x : Piece) (before : List ℕ) (keep : Bool) (size : ℕ) (after : List ℕ) : Type 0 where
  pub size_is : size ≡ x.size + length (rest_bytes s x)
  pub holds : keep ≡ true → after ≡ laid x.size (rest_bytes s x) before
  pub unchanged : keep ≡ false → after ≡ before

-- the bytes of a piece are put at their place, where they are kept
abbrev pub RoomAt : List ℕ → List ℕ → ℕ → Bool → Type 0
RoomAt piece out place keep = keep ≡ true → place + length piece ≤ length out

pub record KeptAt (piece before : List ℕ) (place : ℕ) (keep : Bool) (after : List ℕ) : Type 0 where
  pub holds : keep ≡ true → after ≡ laid place piece before
  pub unchanged : keep ≡ false → after ≡ before

-- ---- a file

-- how many releases there are from a cursor on
abbrev pub releases_left : List ℕ → Cursor → ℕ
releases_left s c = (length s - c.at) / size 2

-- as many instants as no run of them needs
abbrev pub budget_at : List ℕ → Cursor → ℕ
budget_at s c = limits.budget (releases_left s c)

-- a file that was checked runs from a cursor on: its releases are no more than a file may have, and its record is no longer than they allow
pub record Runs (s : List ℕ) (c : Cursor) : Type 0 where
  pub few : releases_left s c ≤ limits.releases
  pub short : length (run_bytes s c (budget_at s c)) ≤ limits.record_each * releases_left s c
  pub served : Served s c

-- an input's head was read and not refused
pub record ReadWhole (s : List ℕ) (k : Head) : Type 0 where
  pub some : length s ≡ 0 → ⊥
  pub tasks : head_of s ≡ Ok k
