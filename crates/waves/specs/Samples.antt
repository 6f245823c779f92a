-- What a run shows: the values of 5/13 after each instant's steps.
use Rattle.std.specs.Prelude.{eqb, leb, ◌∷◌}
use Rattle.entries.specs.Entries.{task_byte}
use Rattle.table.specs.Head.{head_read, head_of}
use Rattle.rules.specs.View.{values}
use Rattle.rules.specs.Calls.{opened}
use Rattle.run.specs.Run.{Moment, moments_of}
use Rattle.waves.specs.Types.{cond, List, [], ℕ, State, Release, Head, Values, Shown}
use Rattle.waves.specs.Dump.{Sample}

-- "255 means nobody"
abbrev pub shown_of : Values → Shown
shown_of v = record {
  processor = task_byte v.processor;
  copyin = task_byte v.copyin;
  copyout = task_byte v.copyout;
  half = v.half;
}

abbrev pub seen : State → Shown
seen d = shown_of (values d)

-- a sample for each instant
unfoldable pub samples : List Moment → List Sample
samples [] = []
samples (m ∷ ms) = record { time = m.time; shown = seen m.state } ∷ samples ms

-- the first is at 0: an instant's, or what shows before any
abbrev pub from_zero : Shown → List Sample → List Sample
from_zero v [] = record { time = 0; shown = v } ∷ []
from_zero v (s ∷ ss) = cond (eqb s.time 0) (s ∷ ss) (record { time = 0; shown = v } ∷ s ∷ ss)

-- of the run of an input with its releases
unfoldable pub samples_of : List ℕ → List Release → List Sample
samples_of s rs = let k : Head = head_read (head_of s) in from_zero (seen (opened k.table k.marked)) (samples (moments_of s rs))

-- ---- The run's values at every tick, for whoever reads a dump

-- those after the steps of the last instant at or before it; before the first instant those given
unfoldable pub values_from : Values → List Moment → ℕ → Values
values_from v [] t = v
values_from v (m ∷ ms) t = cond (leb m.time t) (values_from (values m.state) ms t) v

unfoldable pub values_at : List ℕ → List Release → ℕ → Values
values_at s rs t = let k : Head = head_read (head_of s) in values_from (values (opened k.table k.marked)) (moments_of s rs) t
