-- The releases of an input that was checked, read from its bytes: whole entries from a place to the end.
use Rattle.run.specs.Types.{List, [], ℕ, zero, suc, Release}
use Rattle.std.specs.Prelude.{◌-◌, ◌/◌, length, ◌∷◌, ◌+◌}
use Rattle.entries.specs.Entries.{size, release_at}

unfoldable pub listed : ℕ → List ℕ → ℕ → List Release
listed zero s at = []
listed (suc k) s at = release_at s at ∷ listed k s (at + size 2)

unfoldable pub releases_at : List ℕ → ℕ → List Release
releases_at s at = listed ((length s - at) / size 2) s at
