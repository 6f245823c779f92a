use Rattle.rules.specs.Instant.{original}
use Rattle.rules.specs.Registers.{waits as waiting-releases}
use Rattle.rules.proofs.ByTask.{Stored}
use Rattle.rules.proofs.arrays.take.Given as goal

abbrev pub invariant-loop-n : goal.invariant-loop-n
invariant-loop-n l =
    Stored (λ k x. original (waiting-releases l.waiting l.waits 0) l.t k) l.set l.n-iterator.left l.initial.times l.times × Stored (λ k x. 0) l.set l.n-iterator.left l.initial.counts l.counts
