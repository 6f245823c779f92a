-- `rules::blocking::count_waiting` meets its contract: one more for each of the jobs that wait whose task is in the set. Assumes nothing.
use Rattle.rules.specs.Types.{refl, ap, ◌∙◌}
use borrow.Author.Tests.{ne_eqb}
use Rattle.rules.specs.Order.{higher_than}
use Rattle.rules.specs.Instant.{counted}
use Rattle.rules.specs.Registers.{interval_in, state_in}
use Rattle.rules.specs.Kept.{kept, beside, registers_in, memory_in}
use Rattle.rules.proofs.ClosingTest.{open_in, over_in}
use Rattle.rules.proofs.Blocked.{some_blocks, set_is, with_tasks, of_the_set}
use lib.ListN.{get_or}
use Rattle.rules.proofs.blocking.count_waiting.Goals as goal

-- the set is gathered of the table's tasks and those of the jobs that wait: that of a state with these in its table

pub returns : goal.returns
unfolding state_in interval_in
returns c waits times columns o h =
    let a = c.args in
    let k = kept times a.sets.now a.codes.now in
    let m = memory_in k (beside a.priority.now columns o) in
    let r = registers_in k in
    let f = ne_eqb r.processor 0 c.requires in
    let n = with_tasks m c.union-tasks.result in
    let set = (c.blockable-set.ensures (state_in n r) _ _ _ (open_in r h) (over_in r h) refl refl refl).is ∙ set_is n r h f in
    c.count_all.ensures
    ∙ ap (λ x. counted x 0 a.blocked.now)
    (some_blocks m r f (waits times)
    (of_the_set a.priority.now r.task (get_or a.sets.now 4 0) a.waiting c.blockable-set.result (set ∙ ap (higher_than a.priority.now r.task) c.union-tasks.ensures) c.intersection.ensures))
