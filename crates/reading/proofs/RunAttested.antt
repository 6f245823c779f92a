-- The releases that the moments of a run tell, as its record does, and how many of some releases pass a test.
use mathlib.Core.Bool.{Bool, cond}
use mathlib.Core.List.{List, [], ◌∷◌, ◌++◌}
use Prim.Native.Nat.{ℕ, zero, suc, ◌+◌}
use Rattle.sets.specs.Sets.{member}
use Rattle.run.specs.Run.{Moment}
use Rattle.reading.specs.Types.{Release, Option, JobEntry, None, Some}
use Rattle.reading.specs.Attested.{release_of}

abbrev pub done_attested : Option JobEntry → List Release
done_attested None = []
done_attested (Some e) = release_of e ∷ []

unfoldable pub skips_attested : ℕ → ℕ → ℕ → List Release
skips_attested zero set t = []
skips_attested (suc k) set t = skips_attested k set t ++ cond (member k set) (record { task = k; time = t } ∷ []) []

unfoldable pub moment_attested : Moment → List Release
moment_attested m = done_attested m.occurred.done ++ skips_attested 32 m.occurred.skipped m.time

unfoldable pub run_attested : List Moment → List Release
run_attested [] = []
run_attested (m ∷ ms) = moment_attested m ++ run_attested ms

-- how many of some releases pass a test
unfoldable pub tally : (Release → Bool) → List Release → ℕ
tally f [] = 0
tally f (r ∷ rs) = cond (f r) 1 0 + tally f rs
