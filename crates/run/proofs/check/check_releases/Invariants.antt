use Prim.Native.Nat.{◌≤◌, ◌-◌}
use lib.ListN.{length}
use Rattle.run.specs.Types.{None}
use Rattle.run.specs.Files.{refusal_of, releases_from}
use Rattle.run.proofs.Checking.{Rest}
use Rattle.run.proofs.check.check_releases.Given as goal

abbrev pub invariant-entries : goal.invariant-entries
invariant-entries l =
    (l.count ≤ 4096) × Rest l.s l.at l.present l.last l.count (refusal_of (releases_from (length l.s) l.s l.start l.present None 0))

abbrev pub decreases-entries : goal.decreases-entries
decreases-entries l = length l.s - l.at
