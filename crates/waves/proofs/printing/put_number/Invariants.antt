use Rattle.waves.proofs.Numbers.{Behind}
use Rattle.waves.proofs.printing.put_number.Given as goal

abbrev pub invariant-loop-left : goal.invariant-loop-left
invariant-loop-left l = Behind l.initial.out l.at l.n l.i l.left l.out

abbrev pub decreases-loop-left : goal.decreases-loop-left
decreases-loop-left l = l.left
