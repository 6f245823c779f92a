-- `exports_instants::gateway_instant_v5` meets its contract: the refusals in their order, then the steps. Assumes nothing.
use Rattle.std.proofs.Common.{sym, ap, refl, ◌∙◌}
use Rattle.rules.specs.Refusals.{number_in}
use Rattle.rules.specs.Kept.{kept, beside, by_task}
use Rattle.dispatcher.proofs.Numbered.{some_refusal}
use Rattle.exports_instants.proofs.Keeping.{refused_at, served_at}
use Rattle.exports_instants.proofs.gateway_instant_v5.Goals as goal

pub returns-in-Err : goal.returns-in-Err
returns-in-Err c =
    let a = c.args in
    refused_at (kept a.times.now a.sets.now a.codes.now) (beside a.priority.now a.columns.now (by_task a.release.now a.blocked.now a.waits.now))
    a.ticket.now a.time a.set (c.number.ensures ∙ sym (ap number_in c.in-Err.is) ∙ c.refusal.ensures _) a.told.now (λ z. some_refusal c.in-Err.refusal (sym c.number.ensures ∙ z))

pub returns : goal.returns
returns c =
    let a = c.args in
    served_at (kept a.times.now a.sets.now a.codes.now) (beside a.priority.now a.columns.now (by_task a.release.now a.blocked.now a.waits.now))
    a.ticket.now a.time a.set (sym (ap number_in c.in_default.is) ∙ c.refusal.ensures _) refl c.steps.ensures c.raised-next.ensures
