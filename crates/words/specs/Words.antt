-- Numbers of a width in bytes, lowest byte first: as bytes, read at a place, written into the front of a slice.
use Rattle.std.specs.Prelude.{cond, List, [], ◌∷◌, ◌++◌, ℕ, zero, suc, ◌+◌, ◌*◌, ◌/◌, ◌%◌, ◌^◌, leb, length, get_or, drop}

-- the bytes of a number, by the width
unfoldable pub bytes_of : ℕ → ℕ → List ℕ
bytes_of zero v = []
bytes_of (suc w) v = v % 256 ∷ bytes_of w (v / 256)

-- the number at a place, by the width; a byte past the end counts as 0
unfoldable pub number_at : ℕ → List ℕ → ℕ → ℕ
number_at zero s at = 0
number_at (suc w) s at = number_at w s at + 256 ^ w * get_or s (at + w) 0

-- how many bytes a writer of a width writes into a slice: all of them or none
unfoldable pub room : ℕ → List ℕ → ℕ
room w s = cond (leb w (length s)) w 0

-- what the slice holds then
unfoldable pub written : ℕ → ℕ → List ℕ → List ℕ
written w v s = cond (leb w (length s)) (bytes_of w v ++ drop w s) s
