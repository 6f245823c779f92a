-- `exports_instants::gateway_commit_v5` meets its contract: by the ticket. Assumes nothing.
use Rattle.rules.specs.Kept.{kept, beside, by_task}
use Rattle.exports_instants.proofs.Keeping.{not_present, present}
use Rattle.exports_instants.proofs.gateway_commit_v5.Goals as goal

pub returns-then-given-present : goal.returns-then-given-present
returns-then-given-present c =
    let a = c.args in
    not_present a.given (kept a.times.now a.sets.now a.codes.now) (beside a.priority.now a.columns.now (by_task a.release.now a.blocked.now a.waits.now))
    a.ticket.now a.time a.set a.told.now c.if-given-present.true

pub returns : goal.returns
returns c =
    let a = c.args in
    present a.given (kept a.times.now a.sets.now a.codes.now) (beside a.priority.now a.columns.now (by_task a.release.now a.blocked.now a.waits.now))
    a.ticket.now a.time a.set c.if-given-present.false c.gateway_instant_v5.ensures
