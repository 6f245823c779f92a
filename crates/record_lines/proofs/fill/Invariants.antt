use mathlib.Core.Path.{◌≡◌}
use Prim.Native.Nat.{◌-◌}
use lib.ListN.{length}
use Rattle.record_lines.specs.Lines.{HoldsLines}
use Rattle.record_lines.proofs.fill.Given as goal

abbrev pub invariant-loop-line : goal.invariant-loop-line
invariant-loop-line l = HoldsLines l.s l.at l.initial.out l.len l.next l.out × (length l.out ≡ length l.initial.out)

abbrev pub decreases-loop-line : goal.decreases-loop-line
decreases-loop-line l = length l.s - l.next
