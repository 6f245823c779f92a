-- The measure is how many bytes are left.
use Rattle.std.proofs.Common.{◌-◌, ◌≤◌, length}
use Rattle.session.proofs.serve.Given as goal

abbrev pub invariant-loop-entry : goal.invariant-loop-entry
invariant-loop-entry l = l.at ≤ length l.s

abbrev pub decreases-loop-entry : goal.decreases-loop-entry
decreases-loop-entry l = length l.s - l.at
