-- `exports_instants::gateway_mark_v5` meets its contract: the refusals in their order, then the mark. Assumes nothing.
use Rattle.std.proofs.Common.{sym, ap, refl, ◌∙◌}
use Rattle.guarantees.specs.Types.{Mark}
use Rattle.rules.specs.Refusals.{number_in}
use Rattle.rules.specs.Kept.{kept}
use Rattle.dispatcher.proofs.Numbered.{some_refusal}
use Rattle.exports_instants.proofs.Keeping.{mark_refused_at, marked_at}
use Rattle.exports_instants.proofs.gateway_mark_v5.Goals as goal

pub returns-in-Err : goal.returns-in-Err
returns-in-Err c times codes b =
    let a = c.args in
    mark_refused_at (Mark a.task a.mark) (kept times a.sets.now codes) b a.ticket.now (c.number.ensures ∙ sym (ap number_in c.in-Err.is) ∙ c.mark_refusal.ensures times codes b)
    (λ z. some_refusal c.in-Err.refusal (sym c.number.ensures ∙ z))

pub returns : goal.returns
returns c times codes b =
    let a = c.args in
    marked_at (Mark a.task a.mark) (kept times a.sets.now codes) b a.ticket.now (sym (ap number_in c.in_default.is) ∙ c.mark_refusal.ensures times codes b) refl
    (simp (← c.insert.ensures) (c.marked_all.ensures times codes b)) c.raised-behind_mark.ensures
