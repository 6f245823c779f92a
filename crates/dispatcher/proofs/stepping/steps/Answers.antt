-- `dispatcher::stepping::steps` meets its contract: the steps, one behind the other. Assumes nothing.
use Rattle.rules.specs.Kept.{kept, beside, by_task}
use Rattle.dispatcher.proofs.Composing.{composed}
use Rattle.dispatcher.proofs.stepping.steps.Goals as goal

pub returns : goal.returns
returns c =
    let a = c.args in
    let b = beside a.priority.now a.columns.now (by_task a.release.now a.blocked.now a.waits.now) in
    let at = c.stamp.ensures b in
    let o = c.end_copyout.ensures a.priority.now a.columns.now a.waits.now at.whole in
    let e = c.others_end.ensures a.priority.now _ o.no_more _ o.whole in
    let s = c.end_before.ensures a.columns.now a.waits.now e.whole in
    let x = c.take_releases.ensures _ a.columns.now s.whole in
    let f = c.end_after.ensures _ x.whole in
    let g = c.begin_interval.ensures _ _ f.whole in
    composed (kept a.times.now a.sets.now a.codes.now) b a.t a.set a.told.now c.told-told
    c.too_soon-soon.ensures at o e s c.difference-passing.ensures c.released-r.ensures
    c.union.ensures c.tell_skipped.ensures c.held_over-held.ensures x f g c.tell_due.ensures
