-- `exports_instants::gateway_enquire_v5` meets its contract: the instant of a copy, and what goes on then. Assumes nothing.
use Rattle.rules.specs.Kept.{kept, beside, by_task}
use Rattle.exports_instants.proofs.Keeping.{not_shown, looked}
use Rattle.exports_instants.proofs.gateway_enquire_v5.Goals as goal

pub returns-then-number-ne0 : goal.returns-then-number-ne0
returns-then-number-ne0 c =
    let a = c.args in
    not_shown (kept a.times.now a.sets.now a.codes.now) (beside a.priority.now a.columns.now (by_task a.release.now a.blocked.now a.waits.now))
    a.ticket.now a.time a.set c.gateway_instant_v5-number.ensures a.given.now a.ticks.now a.tasks.now a.units.now c.if-number-ne0.true

pub returns : goal.returns
returns c =
    let a = c.args in
    looked (kept a.times.now a.sets.now a.codes.now) (beside a.priority.now a.columns.now (by_task a.release.now a.blocked.now a.waits.now))
    a.ticket.now a.time a.set c.gateway_instant_v5-number.ensures a.given.now a.ticks.now a.tasks.now a.units.now c.if-number-ne0.false
    (c.gateway_now_v5.ensures _)
