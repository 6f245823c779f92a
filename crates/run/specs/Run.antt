-- The run of a file: its releases and all due times, instant by instant, with no mark call, until nothing is pending; and its record, in
-- the order in which things occur. No instant of a file's run is refused, so that nothing is said of refusals here: the moments are what
-- the calls answer that feed the file to a dispatcher (record/specs/FileClaim `gives_record`).
use Rattle.run.specs.Types.{true, false, List, [], ℕ, zero, suc, Release, Head, State, RecordEntry, Option, None, Some, Occurred}
use Rattle.std.specs.Prelude.{eqb, length, ◌∷◌, ◌++◌}
use Rattle.sets.specs.Sets.{insert}
use Rattle.entries.specs.Entries.{entry_bytes, each}
use Rattle.entries.specs.Limits.{budget}
use Rattle.table.specs.Head.{head_read, head_of}
use Rattle.rules.specs.Instant.{due, sooner, at_g, occurred}
use Rattle.rules.specs.Entries.{entries}
use Rattle.rules.specs.Calls.{opened}

-- ---- The run: a list of instants, with what occurred and the state after it

pub record Moment : Type 0 where
  pub time : ℕ
  pub occurred : Occurred
  pub state : State

abbrev pub first_time : List Release → Option ℕ
first_time [] = None
first_time (r ∷ rs) = Some r.time

-- the set released at a time, of releases that none precedes
unfoldable pub released_from : ℕ → ℕ → List Release → ℕ
released_from t set [] = set
released_from t set (r ∷ rs) = elim (eqb r.time t) [ true ↦ released_from t (insert r.task set) rs | false ↦ set ]

abbrev pub released_at : ℕ → List Release → ℕ
released_at t rs = released_from t 0 rs

-- and the releases after it
unfoldable pub released_after : ℕ → List Release → List Release
released_after t [] = []
released_after t (r ∷ rs) = elim (eqb r.time t) [ true ↦ released_after t rs | false ↦ r ∷ rs ]

-- when the next instant of a run is
abbrev pub next_time : State → List Release → Option ℕ
next_time d rs = sooner (first_time rs) (due d.phase)

-- an instant, as the rules say
abbrev pub moment : State → ℕ → ℕ → Moment
moment d t set = record { time = t; occurred = occurred d t set; state = at_g d t set }

-- at most k instants
unfoldable pub run : ℕ → State → List Release → List Moment
run zero d rs = []
run (suc k) d rs =
    elim (next_time d rs) [
      | None ↦ []
      | Some t ↦ let m : Moment = moment d t (released_at t rs) in m ∷ run k m.state (released_after t rs)
    ]

-- the run of an input with its releases
unfoldable pub moments_of : List ℕ → List Release → List Moment
moments_of s rs = let k : Head = head_read (head_of s) in run (budget (length rs)) (opened k.table k.marked) rs

-- ---- The record

-- a run's entries, in the order in which things occur
unfoldable pub record_entries : List Moment → List RecordEntry
record_entries [] = []
record_entries (m ∷ ms) = entries m.time m.occurred ++ record_entries ms

unfoldable pub record_bytes : List Moment → List ℕ
record_bytes ms = each entry_bytes (record_entries ms)
