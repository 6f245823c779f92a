-- `dispatcher::Dispatcher::instant` meets its contract: a call that meets no row is served, and one that meets one is refused with the state as it was. Assumes nothing.
use Rattle.std.proofs.Common.{sym, ap, refl, ◌∙◌}
use Rattle.rules.specs.Calls.{instant}
use Rattle.rules.specs.Refusals.{number_in}
use Rattle.dispatcher.specs.Dispatcher.{beside_of}
use Rattle.dispatcher.proofs.Numbered.{answered, some_number}
use Rattle.dispatcher.proofs.Dispatcher.instant.Goals as goal

pub returns : goal.returns
unfolding instant
returns c =
    let s = c.args in
    let n = sym (ap number_in c.in_default.is) ∙ c.refusal.ensures (beside_of s.self) in
    answered _ _ _ _ (simp (← n, c.served.ensures.0)) (simp (← n, c.served.ensures.1)) (λ f. absurd (f (sym n)))

pub returns-in-Err : goal.returns-in-Err
unfolding instant
returns-in-Err c =
    let s = c.args in
    let n = sym (ap number_in c.in-Err.is) ∙ c.refusal.ensures (beside_of s.self) in
    answered _ _ _ _ (simp (← n, some_number c.in-Err.refusal)) (simp (← n, some_number c.in-Err.refusal)) (λ f. refl)
