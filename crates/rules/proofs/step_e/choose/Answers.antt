-- `rules::step_e::choose` meets its contract: the choice is made where it has not been made and the engine is free. Assumes nothing.
use Rattle.rules.specs.Kept.{kept, by_task, beside}
use Rattle.rules.proofs.Kept.{chosen_before, chosen_later}
use Rattle.rules.proofs.step_e.choose.Goals as goal

pub returns-then-codes-ne-UNCHOSEN : goal.returns-then-codes-ne-UNCHOSEN
returns-then-codes-ne-UNCHOSEN c blocked waits w =
    let a = c.args in
    chosen_before (beside a.priority.now a.columns.now (by_task a.release.now blocked waits)) a.t (kept a.times.now a.sets.now a.codes.now) w c.if-codes-ne-UNCHOSEN.true

pub returns-then-codes-eq-COPYING_OUT : goal.returns-then-codes-eq-COPYING_OUT
returns-then-codes-eq-COPYING_OUT c blocked waits w =
    let a = c.args in
    chosen_later (beside a.priority.now a.columns.now (by_task a.release.now blocked waits)) a.t (kept a.times.now a.sets.now a.codes.now) w c.if-codes-ne-UNCHOSEN.false c.if-codes-eq-COPYING_OUT.true
