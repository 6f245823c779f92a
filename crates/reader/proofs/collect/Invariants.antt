-- What is noted lies within the slice.
use Rattle.std.proofs.Common.{◌≤◌, length}
use Rattle.reader.proofs.collect.Given as goal

abbrev pub invariant-loop : goal.invariant-loop
invariant-loop l = (l.kept ≤ length l.input) × (l.noted.count ≤ length l.keys)
