-- The releases stand within the input.
use Rattle.std.proofs.Common.{◌≡◌, ◌≤◌, length}
use Rattle.waveform.proofs.write_run.Given as goal

abbrev pub invariant-loop : goal.invariant-loop
invariant-loop l = (l.from ≤ length l.input) × (length l.entries ≡ 371)
