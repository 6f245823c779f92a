use mathlib.Core.Path.{◌≡◌}
use Prim.Native.Nat.{◌≤◌}
use lib.ListN.{length, take}
use Rattle.reading.specs.Parts.{Tells}
use Rattle.reading.proofs.replay.same.Given as goal

abbrev pub invariant-loop-i : goal.invariant-loop-i
invariant-loop-i l = Tells l.alike (take l.i l.a) (take l.i l.b) × (l.i ≤ length l.a) × (length l.a ≡ length l.b)
