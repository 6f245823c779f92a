use mathlib.Core.Path.{◌≡◌}
use lib.ListN.{length}
use Rattle.dispatcher.specs.Dispatcher.{state_of}
use Rattle.record.specs.Cursor.{run_bytes}
use Rattle.record.proofs.Running.{Progress}
use Rattle.record.proofs.writing.go_on.Given as goal

abbrev pub invariant-loop-left : goal.invariant-loop-left
invariant-loop-left l =
    Progress l.s (run_bytes l.s (record { state = state_of l.initial.d; at = l.initial.at }) l.initial.left) l.initial.out l.initial.size l.keep (record { state = state_of l.d; at = l.at }) l.size l.left l.out × (length l.scratch ≡ 1024)

abbrev pub decreases-loop-left : goal.decreases-loop-left
decreases-loop-left l = l.left
