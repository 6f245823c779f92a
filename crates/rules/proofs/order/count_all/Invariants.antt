use Rattle.std.proofs.Common.{◌&&◌, ◌+◌, ◌≤◌, ◌<◌, ◌≡◌}
use Rattle.rules.specs.Types.{Bool, cond, List, ℕ, min}
use lib.Dec.{eqb}
use lib.ListN.{length, get_or}
use Rattle.sets.specs.Sets.{member}
use Rattle.rules.proofs.order.count_all.Given as goal

abbrev pub counts_at : ℕ → List ℕ → ℕ → Bool
counts_at s marks j = member j s && eqb (get_or marks j 0) 1

pub record Made (s : ℕ) (marks counts next : List ℕ) (k : ℕ) : Type 0 where
  pub long : length next ≡ 32
  pub passed : k ≤ 32
  pub at : (j : ℕ) → j < k → get_or next j 0 ≡ cond (counts_at s marks j) (min (get_or counts j 0 + 1) 255) (get_or counts j 0)

abbrev pub invariant-loop-k : goal.invariant-loop-k
invariant-loop-k l = Made l.set l.marks l.counts l.next l.k
