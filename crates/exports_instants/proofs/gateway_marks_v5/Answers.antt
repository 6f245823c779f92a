-- `exports_instants::gateway_marks_v5` meets its contract: the refusals in their order, then the marks. Assumes nothing.
use Rattle.std.proofs.Common.{sym, ap, refl, ◌∙◌}
use Rattle.guarantees.specs.Types.{Marks}
use Rattle.rules.specs.Refusals.{number_in}
use Rattle.rules.specs.Kept.{kept}
use Rattle.dispatcher.proofs.Numbered.{some_refusal}
use Rattle.exports_instants.proofs.Keeping.{mark_refused_at, marked_at}
use Rattle.exports_instants.proofs.gateway_marks_v5.Goals as goal

pub returns-in-Err : goal.returns-in-Err
returns-in-Err c times codes b =
    let a = c.args in
    mark_refused_at (Marks a.set a.mark) (kept times a.sets.now codes) b a.ticket.now (c.number.ensures ∙ sym (ap number_in c.in-Err.is) ∙ c.marks_refusal.ensures times codes b)
    (λ z. some_refusal c.in-Err.refusal (sym c.number.ensures ∙ z))

pub returns : goal.returns
returns c times codes b =
    let a = c.args in
    marked_at (Marks a.set a.mark) (kept times a.sets.now codes) b a.ticket.now (sym (ap number_in c.in_default.is) ∙ c.marks_refusal.ensures times codes b) refl
    (c.marked_all.ensures times codes b) c.raised-behind_marks.ensures
