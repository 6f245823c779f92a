-- The columns of the table: what it has for each task in 32 bits, a column behind the other.
use Rattle.std.specs.Prelude.{List, ℕ, ◌+◌, ◌*◌, get_or, set}
use Rattle.entries.specs.Limits as limits
use Rattle.table.specs.Types.{TaskParameters}

-- L, the length of a task's copy-in
abbrev pub copyin_length : List ℕ → ℕ → ℕ
copyin_length columns n = get_or columns n 0

-- C, the length of its execution
abbrev pub execution_length : List ℕ → ℕ → ℕ
execution_length columns n = get_or columns (limits.tasks + n) 0

-- U, the length of its copy-out
abbrev pub copyout_length : List ℕ → ℕ → ℕ
copyout_length columns n = get_or columns (2 * limits.tasks + n) 0

-- 8/13: the spacing of its releases, where it has one
abbrev pub spacing : List ℕ → ℕ → ℕ
spacing columns n = get_or columns (3 * limits.tasks + n) 0

-- the columns with one task more
unfoldable pub with_lengths : List ℕ → TaskParameters → List ℕ
with_lengths columns p =
    set (set (set columns p.number p.copyin) (limits.tasks + p.number) p.execution) (2 * limits.tasks + p.number) p.copyout
