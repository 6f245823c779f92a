-- The measure is the room that is left.
use Rattle.std.proofs.Common.{◌≡◌, ◌-◌, ◌≤◌, min, length, take}
use Rattle.streams.proofs.source.fill.Given as goal

abbrev pub invariant-loop-count : goal.invariant-loop-count
invariant-loop-count g l =
    (min l.done (length l.initial.to) ≤ l.count) × (l.count ≤ length l.to)
    × (take (min l.done (length l.initial.to)) l.to ≡ take (min l.done (length l.initial.to)) l.initial.to)

abbrev pub decreases-loop-count : goal.decreases-loop-count
decreases-loop-count g l = length l.initial.to - l.count
