-- `dispatcher::stepping::end_after` meets its contract: the choice is made, and the interval closes where it is at its end. Assumes nothing.
use Rattle.std.proofs.Common.{refl}
use Rattle.rules.specs.Kept.{kept, beside, by_task}
use Rattle.rules.proofs.Instants.{stays, closes_with, none_ends, behind}
use Rattle.dispatcher.proofs.Composing.{closes_after, stays_after}
use Rattle.dispatcher.proofs.stepping.end_after.Goals as goal

pub returns-then-codes-eq-NO_INTERVAL : goal.returns-then-codes-eq-NO_INTERVAL
returns-then-codes-eq-NO_INTERVAL c waits w =
    let a = c.args in
    stays_after (none_ends a.t (kept a.times.now a.sets.now a.codes.now) (beside a.priority.now a.columns.now (by_task a.release.now a.blocked.now waits)) w c.if-codes-eq-NO_INTERVAL.true)

pub returns-then-is_over : goal.returns-then-is_over
returns-then-is_over c waits w =
    let a = c.args in
    let b = beside a.priority.now a.columns.now (by_task a.release.now a.blocked.now waits) in
    let x = c.choose.ensures a.blocked.now waits w in
    closes_after (behind a.t x.state
    (closes_with a.t _ b c.is_over.ensures c.promoted-p.result x.whole c.if-is_over.true
    c.promoted-p.ensures c.count_blocked.ensures refl c.close.ensures)) (c.tell_interval.ensures c.choose.new.sets)

pub returns-else-is_over : goal.returns-else-is_over
returns-else-is_over c waits w =
    let a = c.args in
    let b = beside a.priority.now a.columns.now (by_task a.release.now a.blocked.now waits) in
    let x = c.choose.ensures a.blocked.now waits w in
    stays_after (behind a.t x.state (stays a.t _ b c.is_over.ensures x.whole c.if-is_over.false))
