use Prim.Native.Nat.{◌≤◌, ◌<◌, ◌-◌, ◌^◌}
use mathlib.Core.Path.{◌≡◌}
use lib.ListN.{length}
use Rattle.table.proofs.Laws.{Rest}
use Rattle.heads.proofs.head_of.Given as goal

abbrev pub invariant-entries : goal.invariant-entries
invariant-entries l = (l.at ≤ length l.s) × (length l.t.priority ≡ 32) × (l.t.present < 2 ^ 32) × Rest l.s l.at l.t l.marked
    × (length l.t.columns ≡ 128)

abbrev pub decreases-entries : goal.decreases-entries
decreases-entries l = length l.s - l.at
