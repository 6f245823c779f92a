-- `rules::step_e::make_choice` meets its contract: by whether a job is ready. Assumes nothing.
use Rattle.rules.specs.Kept.{kept, by_task, beside}
use Rattle.rules.proofs.Kept.{chosen_now, none_chosen}
use Rattle.rules.proofs.step_e.make_choice.Goals as goal

pub returns-then-n-lt-NO_TASK : goal.returns-then-n-lt-NO_TASK
returns-then-n-lt-NO_TASK c priority release h e f blocked waits w =
    let a = c.args in
    chosen_now (beside priority a.columns.now (by_task release blocked waits)) a.t a.n c.remove.result c.later-inuntil.result c.copyin_length.result
    (kept a.times.now a.sets.now a.codes.now) w e f h c.if-n-lt-NO_TASK.true c.copyin_length.ensures c.later-inuntil.ensures c.remove.ensures

pub returns : goal.returns
returns c priority release h e f blocked waits w =
    let a = c.args in
    none_chosen (beside priority a.columns.now (by_task release blocked waits)) a.t a.n (kept a.times.now a.sets.now a.codes.now) w e f h c.if-n-lt-NO_TASK.false
