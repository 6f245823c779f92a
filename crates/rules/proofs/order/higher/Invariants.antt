use Rattle.std.proofs.Common.{◌<◌, ◌≡◌}
use Rattle.rules.specs.Types.{cond, ℕ}
use lib.Dec.{ltb}
use lib.ListN.{length, get_or}
use Rattle.rules.proofs.order.higher.Given as goal

abbrev pub invariant-loop-k : goal.invariant-loop-k
invariant-loop-k l = record {
  long : length l.found ≡ 32;
  marks : (j : ℕ) → j < l.k → get_or l.found j 0 ≡ cond (ltb (get_or l.priority j 0) l.limit) 1 0;
}
