-- How many bytes of an input are enough.
use Rattle.std.specs.Prelude.{◌≡◌, ◌≤◌, length, take, Ok}
use Rattle.entries.specs.Limits.{longest_file}
use Rattle.run.specs.Types.{List, ℕ, Head}
use Rattle.run.specs.Files.{file_head}
-- as many as a file that is accepted has at most, and one whole entry more
pub use Rattle.entries.specs.Limits.{file_most}

pub record ReadFromFront : Type 0 where
  -- No more than these, checked, give what the whole input gives: a task entry too many is refused, and so is a release too many.
  pub same_head : (s : List ℕ) → file_head (take file_most s) ≡ file_head s
  -- An input that is accepted is no longer than the longest, so that none of it is cut off.
  pub none_cut : (s : List ℕ) (k : Head) → file_head s ≡ Ok k → length s ≤ longest_file
