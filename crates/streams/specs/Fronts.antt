-- What stands at the front of a slice: bytes that are read behind it, and bytes that are kept.
use Rattle.std.specs.Prelude.{◌≡◌, List, ◌++◌, ℕ, ◌≤◌, min, length, take, drop}
use Rattle.std.proofs.Math.Seq.{slice}

-- so many bytes stand at the front of a slice
abbrev pub IsPrefixLen : ℕ → List ℕ → Type 0
IsPrefixLen n xs = (n ≤ length xs) × (n ≡ length (take n xs))

-- bytes are read behind the first ones, which stay, and counted with them
abbrev pub ReadsBehind : ℕ → List ℕ → ℕ → List ℕ → Type 0
ReadsBehind done before count after =
    (min done (length before) ≤ count) × IsPrefixLen count after
    × (take (min done (length before)) after ≡ take (min done (length before)) before)

-- bytes from one place up to another are moved to the front: how many they are, and what the slice holds then
pub record Keeps (from end : ℕ) (before : List ℕ) (count : ℕ) (after : List ℕ) : Type 0 where
  pub counts : count ≡ length (slice from end before)
  pub within : (count ≤ end) × (count ≤ length before)
  pub holds : after ≡ slice from end before ++ drop count before
