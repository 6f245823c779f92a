-- A run in pieces: the moments that are made one after the other from a state on, and where they lead.
use Rattle.std.specs.Prelude.{◌≡◌, ◌⊎◌, ◌<◌, length, ◌∷◌, ◌++◌, ◌+◌, ◌-◌, ◌^◌, ◌≤◌, Result, Ok, Err, ⊤}
use Rattle.std.specs.List.{FoldsTo, concat}
use Rattle.entries.specs.Entries.{laid}
use Rattle.entries.specs.Limits.{instant_most}
use Rattle.rules.specs.Steps.{Stands}
use Rattle.dispatcher.specs.Dispatcher.{state_of}
use Rattle.run.specs.Types.{true, false, List, [], ℕ, Release, State, Some}
use Rattle.dispatcher.specs.declared.Dispatcher.{Dispatcher}
use Rattle.pieces.specs.declared.Piece.{Piece}
use Rattle.run.specs.Listed.{releases_at}
use Rattle.run.specs.Run.{Moment, released_at, released_after, next_time, moment, run, record_bytes}

-- Each moment is the next instant as the rules say, from a state with the releases that are left; after the last one there are this state
-- and these releases.
unfoldable pub Leads : State → List Release → List Moment → State → List Release → Type 0
Leads d rs [] d' rs' = (d ≡ d') × (rs ≡ rs')
Leads d rs (m ∷ ms) d' rs' =
    (next_time d rs ≡ Some m.time) × (m ≡ moment d m.time (released_at m.time rs))
    × Leads m.state (released_after m.time rs) ms d' rs'

-- What a piece of a run is: the moments that were made lead from the dispatcher handed in, with the releases from the slice's start on, to
-- the one handed back, with the releases behind what was read; their entries are laid over the front of the slice that is lent.
pub record Makes (rest : List ℕ) (d : Dispatcher) (budget : ℕ) (out : List ℕ) (x : Piece) (out' : List ℕ) : Type 0 where
  pub moments : List Moment
  pub leads : Leads (state_of d) (releases_at rest 0) moments (state_of x.state) (releases_at rest x.read)
  -- the moments made, and then the run from the state left, are the run
  pub goes_on : (k : ℕ) → run (k + length moments) (state_of d) (releases_at rest 0)
      ≡ moments ++ run k (state_of x.state) (releases_at rest x.read)
  pub within : x.read ≤ length rest
  pub size_is : x.size ≡ length (record_bytes moments)
  pub fits : x.size ≤ length out
  pub holds : out' ≡ laid 0 (record_bytes moments) out
  -- the run has come to its end: no instant is left before the last tick
  pub ended_is : x.ended ≡ true → (x.left ≡ 0) × Stands (2 ^ 64 - 1) (next_time (state_of x.state) (releases_at rest x.read))
  -- or the budget is spent, or there may be no room for another instant
  pub stopped : x.ended ≡ false → (x.left ≡ 0) ⊎ (length out < x.size + instant_most)
  pub left_is : x.ended ≡ false → x.left + length moments ≡ budget
  pub few : x.left + length moments ≤ budget

-- A run is handed on in pieces: a closure was called on one after the other. One behind the other they are the bytes of moments that lead from a state on,
-- with the releases that are left, until the budget is spent or no instant is left before the last tick.
pub record HandsOn {F : Type 0} (Calls : F → List ℕ → F → Type 0) (d : State) (rs : List Release) (budget : ℕ) (first : F) : Type 0 where
  pub last : F
  pub pieces : List (List ℕ)
  pub called : FoldsTo Calls first pieces last
  pub moments : List Moment
  pub bytes : concat pieces ≡ record_bytes moments
  pub state : State
  pub releases : List Release
  pub leads : Leads d rs moments state releases
  pub few : length moments ≤ budget
  pub all : (length moments ≡ budget) ⊎ Stands (2 ^ 64 - 1) (next_time state releases)

-- pieces laid over the front of a slice, one after the other
unfoldable pub pieces_laid : List (List ℕ) → List ℕ → List ℕ
pieces_laid [] out = out
pieces_laid (p ∷ ps) out = pieces_laid ps (laid 0 p out)

-- what pieces leave in the slice by way of which they are made; one that may have no room for an instant stays as it was
abbrev pub Leaves : List (List ℕ) → List ℕ → List ℕ → Type 0
Leaves ps out out' = (instant_most ≤ length out → out' ≡ pieces_laid ps out) × (length out < instant_most → out' ≡ out)

-- A run is handed on in pieces, by calls one after the other, none of which stops it. One behind the other they are the bytes of moments that lead from a
-- state on, with the releases that are left, until the budget is spent or no instant is left before the last tick.
pub record HandsOver {F E : Type 0} (Calls : F → List ℕ → Result ⊤ E → F → Type 0) (d : State) (rs : List Release) (budget : ℕ)
    (first : F) (out : List ℕ) (last : F) (out' : List ℕ) : Type 0 where
  pub pieces : List (List ℕ)
  pub called : FoldsTo (λ (f : F) (piece : List ℕ) (g : F). Calls f piece (Ok tt) g) first pieces last
  pub moments : List Moment
  pub bytes : concat pieces ≡ record_bytes moments
  pub state : State
  pub releases : List Release
  pub leads : Leads d rs moments state releases
  pub few : length moments ≤ budget
  pub all : (length moments ≡ budget) ⊎ Stands (2 ^ 64 - 1) (next_time state releases)
  pub leaves : Leaves pieces out out'

-- Or a call stops it, with an error: its piece comes behind those that were handed on before.
pub record StopsAt {F E : Type 0} (Calls : F → List ℕ → Result ⊤ E → F → Type 0) (d : State) (rs : List Release) (budget : ℕ)
    (first : F) (out : List ℕ) (e : E) (last : F) (out' : List ℕ) : Type 0 where
  pub pieces : List (List ℕ)
  pub before : F
  pub called : FoldsTo (λ (f : F) (piece : List ℕ) (g : F). Calls f piece (Ok tt) g) first pieces before
  pub piece : List ℕ
  pub stopped : Calls before piece (Err e) last
  pub moments : List Moment
  pub bytes : concat pieces ++ piece ≡ record_bytes moments
  pub state : State
  pub releases : List Release
  pub leads : Leads d rs moments state releases
  pub few : length moments ≤ budget
  pub leaves : Leaves (pieces ++ (piece ∷ [])) out out'
