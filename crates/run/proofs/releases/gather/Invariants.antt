use mathlib.Core.Path.{◌≡◌}
use mathlib.Core.List.{List}
use Prim.Native.Nat.{ℕ, ◌-◌, ◌*◌, ◌≤◌}
use lib.ListN.{length}
use Rattle.entries.specs.Entries.{size}
use Rattle.run.specs.Listed.{releases_at}
use Rattle.run.specs.Run.{released_from, released_at, released_after}
use Rattle.run.proofs.releases.gather.Given as goal

pub record Read (s : List ℕ) (t at : ℕ) : Type 0 where
  pub entries : ℕ
  pub at_is : at ≡ size 2 * entries
  pub within : at ≤ length s
  pub after : released_after t (releases_at s at) ≡ released_after t (releases_at s 0)

abbrev pub invariant-loop-next : goal.invariant-loop-next
invariant-loop-next l = (released_from l.t l.set (releases_at l.rest l.at) ≡ released_at l.t (releases_at l.rest 0)) × Read l.rest l.t l.at

abbrev pub decreases-loop-next : goal.decreases-loop-next
decreases-loop-next l = length l.rest - l.at
