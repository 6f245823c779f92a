-- How many of the opening bytes are enough.
use Rattle.std.specs.Prelude.{◌≡◌, List, ℕ, take}
use Rattle.entries.specs.Limits.{head_most}
use Rattle.rules.specs.Calls.{opening}

-- Opening from no more than are enough to read a head gives what opening from all of them gives: they are more than any head that is
-- accepted has, by one whole entry, and that one is refused.
unfoldable pub OpensFromFront : Type 0
OpensFromFront = (s : List ℕ) → opening (take head_most s) ≡ opening s
