use mathlib.Core.Path.{◌≡◌}
use lib.ListN.{length}
use Rattle.dispatcher.specs.Dispatcher.{state_of}
use Rattle.record.specs.Cursor.{run_bytes}
use Rattle.reading.proofs.Holding.{Holding}
use Rattle.reading.proofs.replay.replays.Given as goal

abbrev pub invariant-loop-left : goal.invariant-loop-left
invariant-loop-left l =
    Holding l.s (run_bytes l.s (record { state = state_of l.initial.d; at = l.initial.at }) l.budget) l.stored (record { state = state_of l.d; at = l.at }) l.size l.left × (length l.made ≡ 4096)

abbrev pub decreases-loop-left : goal.decreases-loop-left
decreases-loop-left l = l.left
