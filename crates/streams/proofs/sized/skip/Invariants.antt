-- The measure is how many bytes are left to drop.
use Rattle.streams.proofs.sized.skip.Given as goal

abbrev pub decreases-loop-left : goal.decreases-loop-left
decreases-loop-left l = l.left
