-- `dispatcher::stepping::end_before` meets its contract: the interval closes where it is at its end. Assumes nothing.
use Rattle.std.proofs.Common.{refl}
use Rattle.rules.specs.Kept.{kept, beside, by_task}
use Rattle.rules.proofs.Instants.{stays, closes_with}
use Rattle.dispatcher.proofs.Composing.{closes_before, stays_before}
use Rattle.dispatcher.proofs.stepping.end_before.Goals as goal

pub returns-then-is_over : goal.returns-then-is_over
returns-then-is_over c columns waits w =
    let a = c.args in
    closes_before (closes_with a.t (kept a.times.now a.sets.now a.codes.now) (beside a.priority.now columns (by_task a.release.now a.blocked.now waits))
    c.is_over.ensures c.promoted-p.result w c.if-is_over.true
    c.promoted-p.ensures c.count_blocked.ensures refl c.close.ensures) (c.tell_interval.ensures a.sets.now)

pub returns : goal.returns
returns c columns waits w =
    let a = c.args in
    stays_before (stays a.t (kept a.times.now a.sets.now a.codes.now) (beside a.priority.now columns (by_task a.release.now a.blocked.now waits)) c.is_over.ensures w c.if-is_over.false)
