-- How far a dump has come: what each instant adds to it, and what is left.
use Rattle.std.specs.Prelude.{◌≡◌, ◌≤◌, ◌<◌, eqb, length, ◌∷◌, ◌++◌, ◌+◌}
use Rattle.entries.specs.Entries.{laid}
use Rattle.rules.specs.Kept.{Beside, kept, read}
use Rattle.rules.specs.declared.View.{View}
use Rattle.rules.specs.View.{shown_half}
use Rattle.run.specs.Listed.{releases_at}
use Rattle.run.specs.Run.{run}
use Rattle.record.specs.Cursor.{Cursor, Served, budget_at, start as run_start}
use Rattle.waves.specs.Types.{Bool, true, false, cond, List, [], ℕ, State, Head, Shown, Drawn}
use Rattle.waves.specs.Dump.{Sample, mark, all, change, dump}
use Rattle.waves.specs.Samples.{seen, samples, from_zero}
use Rattle.waves.specs.Printing.{Lays}

-- what shows of the numbers that keep a dispatcher, whatever stands beside them
abbrev pub SeenIn : List ℕ → List ℕ → List ℕ → Shown → Type 0
SeenIn times sets codes x = (b : Beside) → x ≡ seen (read (kept times sets codes) b)

-- ---- Instant by instant

-- all four at time 0
abbrev pub start : Shown → List ℕ
start w = mark 0 ++ all w

-- what a sample adds: before the first one is begun, what shows at time 0
unfoldable pub turn : Bool → Shown → Sample → List ℕ
turn begun v s = cond begun (change v s) (cond (eqb s.time 0) (start s.shown) (start v ++ change v s))

-- the same by the views before and after an instant, in the front of a slice; nothing where there is no room for any
abbrev pub shown_by : View → Shown
shown_by v = record { processor = v.processor; copyin = v.copyin; copyout = v.copyout; half = shown_half v.half }

pub record PutsInstant (begun : Bool) (t : ℕ) (before after : View) (lent : List ℕ) (place : ℕ) (lent' : List ℕ) : Type 0 where
  pub none : length lent < 256 → (place ≡ 0) × (lent' ≡ lent)
  pub put : 256 ≤ length lent → Lays 0 (turn begun (shown_by before) (record { time = t; shown = shown_by after })) lent place lent'

unfoldable pub rest_of : Bool → Shown → List Sample → List ℕ
rest_of begun v [] = cond begun [] (start v)
rest_of begun v (s ∷ ss) = turn begun v s ++ rest_of true s.shown ss

-- ---- What is made of a run, from a cursor on

abbrev pub run_rest : List ℕ → Cursor → ℕ → List ℕ
run_rest s c budget = rest_of false (seen c.state) (samples (run budget c.state (releases_at s c.at)))

abbrev pub run_dump : List ℕ → Cursor → ℕ → List ℕ
run_dump s c budget = dump (from_zero (seen c.state) (samples (run budget c.state (releases_at s c.at))))

-- of a file whose task entries were read
abbrev pub whole_dump : List ℕ → Head → List ℕ
whole_dump s k = run_dump s (run_start k) (budget_at s (run_start k))

-- there is room for the bytes from a place on, where they are kept
pub record Space (s : List ℕ) (c : Cursor) (budget : ℕ) (bytes out : List ℕ) (place : ℕ) (keep : Bool) : Type 0 where
  pub kept : keep ≡ true → place + length bytes ≤ length out
  pub few : budget ≤ 131104
  pub near : place ≤ 1000
  pub served : Served s c

-- the instants: the start is left to be put where there was none
pub record Drew (s : List ℕ) (c : Cursor) (budget : ℕ) (before : List ℕ) (place : ℕ) (keep : Bool) (x : Drawn) (after : List ℕ) :
    Type 0 where
  pub done : List ℕ
  pub whole : done ++ cond x.begun [] (start (seen c.state)) ≡ run_rest s c budget
  pub size_is : x.size ≡ place + length done
  pub small : x.size ≤ 20000000
  pub holds : keep ≡ true → after ≡ laid place done before
  pub unchanged : keep ≡ false → after ≡ before

abbrev pub SpaceFrom : List ℕ → ℕ → State → ℕ → List ℕ → ℕ → Bool → Type 0
SpaceFrom s from d budget out place keep =
    let c : Cursor = record { state = d; at = from } in Space s c budget (run_rest s c budget) out place keep

abbrev pub DrewFrom : List ℕ → ℕ → State → ℕ → List ℕ → ℕ → Bool → Drawn → List ℕ → Type 0
DrewFrom s from d budget before place keep x after = Drew s (record { state = d; at = from }) budget before place keep x after

-- the whole: its length; the slice holds it, or is as it was where only the length counts
pub record Draws (bytes before : List ℕ) (keep : Bool) (size : ℕ) (after : List ℕ) : Type 0 where
  pub size_is : size ≡ length bytes
  pub holds : keep ≡ true → after ≡ laid 0 bytes before
  pub unchanged : keep ≡ false → after ≡ before
