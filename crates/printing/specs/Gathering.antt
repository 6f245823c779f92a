-- A text gathered behind others in a lent slice.
use Rattle.std.specs.Prelude.{◌≡◌, cond, List, ◌++◌, ℕ, ◌+◌, ◌-◌, ◌≤◌, leb, length, take, drop}
use Rattle.lines.specs.declared.Text.{Text}
use Rattle.lines.specs.Text.{room, written}

-- behind the first bytes where there is room for every text, else at the front
abbrev pub place : List ℕ → ℕ → ℕ
place s len = cond (leb 224 (length s - len)) len 0

-- what the slice holds then
abbrev pub gathered : List ℕ → ℕ → Text → List ℕ
gathered before len t = take (place before len) before ++ written t (drop (place before len) before)

-- how many bytes are kept to be printed
pub record Gathers (before : List ℕ) (len : ℕ) (t : Text) (kept : ℕ) : Type 0 where
  pub keeps : kept ≡ place before len + room t (drop (place before len) before)
  pub within : kept ≤ length before
