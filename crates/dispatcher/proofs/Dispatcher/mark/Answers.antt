-- `dispatcher::Dispatcher::mark` meets its contract: a call that meets no row sets the mark, and one that meets one is refused with the state as it was. Assumes nothing.
use Rattle.std.proofs.Common.{sym, ap, refl, ◌∙◌}
use Rattle.rules.specs.Calls.{mark}
use Rattle.rules.specs.Refusals.{number_in}
use Rattle.dispatcher.specs.Dispatcher.{beside_of}
use Rattle.dispatcher.proofs.Numbered.{mark_answered, some_number}
use Rattle.dispatcher.proofs.Dispatcher.mark.Goals as goal

pub returns : goal.returns
unfolding mark
returns c =
    let s = c.args in
    let n = sym (ap number_in c.in_default.is) ∙ c.mark_refusal.ensures s.self.times s.self.codes (beside_of s.self) in
    mark_answered _ _ _ _ (simp (← n, ← c.insert.ensures, c.with_marks.ensures.0)) (simp (← n, c.with_marks.ensures.1)) (λ f. absurd (f (sym n)))

pub returns-in-Err : goal.returns-in-Err
unfolding mark
returns-in-Err c =
    let s = c.args in
    let n = sym (ap number_in c.in-Err.is) ∙ c.mark_refusal.ensures s.self.times s.self.codes (beside_of s.self) in
    mark_answered _ _ _ _ (simp (← n, some_number c.in-Err.refusal)) (simp (← n, some_number c.in-Err.refusal)) (λ f. refl)
