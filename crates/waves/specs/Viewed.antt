-- What a viewer shows of a dump.
use Rattle.std.specs.Prelude.{◌≡◌, ◌∷◌}
use Rattle.run.specs.Files.{Releases, releases_of}
use Rattle.record.specs.Writing.{WroteInNumbers}
use Rattle.waves.specs.Types.{true, false, List, [], ℕ, Release, Outcome, Shown}
use Rattle.waves.specs.Dump.{Sample, ascii, dump}
use Rattle.waves.specs.Samples.{shown_of, samples_of, values_at}
use Rattle.waves.specs.Readable.{Readable, shown_at}
use Rattle.waves.specs.Writing.{dumped}
use Rattle.waves.specs.Viewer.{NoNumber, Is, Variable, Event, Dump, read, shows, rise, valued, fresh}

-- the four variables of 5/13, "8 wires" and "one single wire"
abbrev pub variables : List Variable
variables =
    record { width = Is 8; code = 97 ∷ []; name = ascii "processor" }
    ∷ record { width = Is 8; code = 98 ∷ []; name = ascii "copy_in" }
    ∷ record { width = Is 8; code = 99 ∷ []; name = ascii "copy_out" }
    ∷ record { width = Is 1; code = 100 ∷ []; name = ascii "half" }
    ∷ []

-- these bytes show, tick by tick, these values
pub record Views (bytes : List ℕ) (at : ℕ → Shown) : Type 0 where
  pub events : List Event
  pub reads : read bytes ≡ Dump variables events
  -- "time marks rise strictly, none without a value"; "a value stands only where it changes"
  pub rising : rise NoNumber events ≡ true
  pub each_valued : valued false events ≡ true
  pub each_new : fresh [] events ≡ true
  -- "The value a viewer shows at any tick must be the one the run has after that instant's steps"
  pub processor : (t : ℕ) → shows (read bytes) (ascii "processor") t ≡ Is (at t).processor
  pub copy_in : (t : ℕ) → shows (read bytes) (ascii "copy_in") t ≡ Is (at t).copyin
  pub copy_out : (t : ℕ) → shows (read bytes) (ascii "copy_out") t ≡ Is (at t).copyout
  pub half : (t : ℕ) → shows (read bytes) (ascii "half") t ≡ Is (at t).half

-- for every list of samples that begins at 0, rises and fits its wires
unfoldable pub DumpViews : Type 0
DumpViews = (v : Shown) (ss : List Sample) → Readable ss → Views (dump ss) (shown_at v ss)

-- and of every input that is accepted: at every tick its dump shows what the run has then
abbrev pub AcceptedViews : List ℕ → Type 0
AcceptedViews s =
    (rs : List Release) → releases_of s ≡ Releases rs → Views (dump (samples_of s rs)) (λ t. shown_of (values_at s rs t))

-- ---- On a promise: what comes of an input and a lent slice, in document 01's numbers too, and what a viewer shows of an input's dump

pub record WroteWithViews (s before : List ℕ) (outcome : Outcome) (after : List ℕ) : Type 0 where
  pub answered : WroteInNumbers (dumped s before) outcome after
  pub views : AcceptedViews s
