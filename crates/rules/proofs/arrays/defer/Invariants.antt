use Rattle.rules.proofs.ByTask.{Stored}
use Rattle.rules.proofs.arrays.defer.Given as goal

abbrev pub invariant-loop-n : goal.invariant-loop-n
invariant-loop-n l = Stored (λ k x. l.t) l.set l.n-iterator.left l.initial.waits l.waits
