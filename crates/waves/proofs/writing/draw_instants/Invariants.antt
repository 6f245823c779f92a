use Rattle.rules.specs.Kept.{kept, by_task, beside, read}
use Rattle.dispatcher.specs.Dispatcher.{state_of}
use Rattle.waves.specs.Samples.{seen}
use Rattle.waves.specs.Drawing.{run_rest}
use Rattle.waves.proofs.Drawing.{Drawing}
use Rattle.waves.proofs.writing.draw_instants.Given as goal

abbrev pub invariant-loop-left : goal.invariant-loop-left
invariant-loop-left l =
    Drawing l.s (run_rest l.s (record { state = state_of l.d; at = l.from }) l.budget) l.initial.out (seen (state_of l.d)) l.place l.keep
    (read (kept l.times l.sets l.codes) (beside l.d.priority l.d.columns (by_task l.release l.blocked l.waits))) l.at l.v l.begun l.size l.left l.out

abbrev pub decreases-loop-left : goal.decreases-loop-left
decreases-loop-left l =
    l.left
