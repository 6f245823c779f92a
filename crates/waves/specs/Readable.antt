-- What whoever reads a dump may rely on: of a run's samples the first is at time 0, their times rise strictly, and each value fits its
-- wires; and what they show at a tick are the run's values.
use Rattle.std.specs.Prelude.{◌≡◌, ◌≤◌, ◌<◌, leb, ◌∷◌}
use Rattle.run.specs.Files.{Releases, releases_of}
use Rattle.waves.specs.Types.{cond, List, [], ℕ, Release, Shown}
use Rattle.waves.specs.Dump.{Sample}
use Rattle.waves.specs.Samples.{shown_of, samples_of, values_at}

pub record Fits (w : Shown) : Type 0 where
  pub processor_fits : w.processor < 256
  pub copyin_fits : w.copyin < 256
  pub copyout_fits : w.copyout < 256
  pub half_fits : w.half ≤ 1

-- samples after a time, each after the one before it
unfoldable pub Later : ℕ → List Sample → Type 0
Later t [] = Unit {0}
Later t (s ∷ ss) = (t < s.time) × Fits s.shown × Later s.time ss

abbrev pub Readable : List Sample → Type 0
Readable [] = ⊥
Readable (s ∷ ss) = (s.time ≡ 0) × Fits s.shown × Later 0 ss

-- what samples show at a tick: the last one at or before it; what is given before the first
unfoldable pub shown_at : Shown → List Sample → ℕ → Shown
shown_at v [] t = v
shown_at v (s ∷ ss) t = cond (leb s.time t) (shown_at s.shown ss t) v

pub record SamplesTell : Type 0 where
  -- of every input that is accepted
  pub readable : (s : List ℕ) (rs : List Release) → releases_of s ≡ Releases rs → Readable (samples_of s rs)
  -- time 0 stands in them, so that nothing need be given
  pub tell : (s : List ℕ) (rs : List Release) (v : Shown) (t : ℕ) → shown_at v (samples_of s rs) t ≡ shown_of (values_at s rs t)
