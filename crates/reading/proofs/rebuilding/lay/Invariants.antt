use Rattle.reading.proofs.Laying.{Laying}
use Rattle.reading.proofs.rebuilding.lay.Given as goal

abbrev pub invariant-loop-k : goal.invariant-loop-k
invariant-loop-k l = Laying l.keys l.initial.out l.k-index l.at l.out
