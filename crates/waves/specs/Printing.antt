-- Bytes put into a slice from a place on.
use Rattle.std.specs.Prelude.{◌≡◌, length, ◌≤◌, ◌+◌}
use Rattle.entries.specs.Entries.{laid}
use Rattle.waves.specs.Types.{List, ℕ}

-- there is room for them, to the byte
pub record Room (at : ℕ) (bytes s : List ℕ) : Type 0 where
  pub fits : at + length bytes ≤ length s

-- the place behind them, and what the slice holds then
pub record Lays (at : ℕ) (bytes before : List ℕ) (place : ℕ) (after : List ℕ) : Type 0 where
  pub within : at ≤ length before
  pub place_is : place ≡ at + length bytes
  pub holds : after ≡ laid at bytes before
