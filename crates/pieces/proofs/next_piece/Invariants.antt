use mathlib.Core.Path.{◌≡◌}
use mathlib.Core.Bool.{false}
use Rattle.rules.specs.Kept.{kept, by_task, beside}
use Rattle.dispatcher.specs.Dispatcher.{state_of}
use Rattle.pieces.proofs.Reaching.{Reached}
use Rattle.pieces.proofs.next_piece.Given as goal

abbrev pub invariant-loop-left : goal.invariant-loop-left
invariant-loop-left l =
    Reached l.rest (state_of l.d) l.budget l.initial.out (kept l.times l.sets l.codes) (beside l.d.priority l.d.columns (by_task l.release l.blocked l.waits)) l.read l.size l.left l.out × (l.ended ≡ false)

abbrev pub decreases-loop-left : goal.decreases-loop-left
decreases-loop-left l = l.left
