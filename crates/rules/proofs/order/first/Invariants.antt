use Rattle.std.proofs.Common.{◌<◌, ◌≡◌}
use Rattle.rules.specs.Types.{Some}
use lib.ListN.{get_or}
use Rattle.sets.specs.Sets.{lowest}
use Rattle.rules.specs.Order.{highest_below}
use Rattle.rules.proofs.Members.{Left}
use Rattle.rules.proofs.order.first.Given as goal

abbrev pub invariant-loop-n : goal.invariant-loop-n
invariant-loop-n l =
    Left l.set l.n-iterator.left × (l.best < 32) × (l.least ≡ get_or l.priority l.best 0) × (highest_below (lowest l.n-iterator.left) l.priority (λ k. get_or l.release k 0) l.set ≡ Some l.best)
