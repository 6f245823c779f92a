-- A text by value, and what was appended to one.
use Rattle.std.specs.Prelude.{◌≡◌, cond, List, ◌++◌, ℕ, ◌+◌, ◌-◌, ◌≤◌, leb, length, take, drop, replicate}
use Rattle.lines.specs.Types.{Text}

-- the text of a list of bytes: they stand at its start, and zeros behind them
abbrev pub text_of : List ℕ → Text
text_of l = record { bytes = l ++ replicate (224 - length l) 0; len = length l }

-- the bytes of a text
abbrev pub shown : Text → List ℕ
shown t = take t.len t.bytes

-- how many of them are written into a slice: all or none
unfoldable pub room : Text → List ℕ → ℕ
room t s = cond (leb (length (shown t)) (length s)) (length (shown t)) 0

-- what the slice holds then
unfoldable pub written : Text → List ℕ → List ℕ
written t s = cond (leb (length (shown t)) (length s)) (shown t ++ drop (length (shown t)) s) s

-- a text prints a list of bytes, and none of them was cut off
pub record Prints (t : Text) (l : List ℕ) : Type 0 where
  pub whole : t ≡ text_of l
  pub fits : t.len ≤ 224

-- bytes were appended to a text, at most so many
pub record Appended (t r : Text) (more : List ℕ) (most : ℕ) : Type 0 where
  pub grows : (l : List ℕ) → t ≡ text_of l → r ≡ text_of (l ++ more)
  pub fits : r.len ≤ t.len + most
