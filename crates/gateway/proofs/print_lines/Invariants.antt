-- Each turn comes to a further entry.
use Rattle.std.proofs.Common.{◌-◌, length}
use Rattle.gateway.proofs.print_lines.Given as goal

abbrev pub decreases-loop-rt : goal.decreases-loop-rt
decreases-loop-rt l = length l.entries - l.at
