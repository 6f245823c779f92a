-- What is kept lies within the slice.
use Rattle.std.proofs.Common.{◌≤◌, length}
use Rattle.session.proofs.run.Given as goal

abbrev pub invariant-loop : goal.invariant-loop
invariant-loop l = l.kept ≤ length l.input
