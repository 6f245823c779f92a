-- What is handed on from here makes, with what was handed on before, the whole.
use Rattle.std.proofs.Common.{◌≤◌, List, ℕ, length}
use Rattle.entries.specs.Limits.{instant_most}
use Rattle.dispatcher.specs.Dispatcher.{state_of}
use Rattle.run.specs.Listed.{releases_at}
use Rattle.pieces.specs.Pieces.{HandsOver, StopsAt}
use Rattle.pieces.proofs.hand_on.Given as goal

abbrev pub invariant-loop-left : goal.invariant-loop-left
invariant-loop-left g l =
    (l.at ≤ length l.rest) × (instant_most ≤ length l.out)
    × ((last : _) (end : List ℕ)
    → HandsOver g.T.Takes.taken (state_of l.state) (releases_at l.rest l.at) l.left l.by l.out last end
    → HandsOver g.T.Takes.taken (state_of l.fn.d) (releases_at l.rest 0) l.fn.budget l.fn.by l.fn.out last end)
    × ((e : _) (last : _) (end : List ℕ)
    → StopsAt g.T.Takes.taken (state_of l.state) (releases_at l.rest l.at) l.left l.by l.out e last end
    → StopsAt g.T.Takes.taken (state_of l.fn.d) (releases_at l.rest 0) l.fn.budget l.fn.by l.fn.out e last end)

abbrev pub decreases-loop-left : goal.decreases-loop-left
decreases-loop-left g l = l.left
