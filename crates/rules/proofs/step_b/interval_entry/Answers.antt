-- `rules::step_b::interval_entry` meets its contract: field by field. Assumes nothing.
use Rattle.rules.specs.Kept.{kept, registers_in}
use Rattle.rules.proofs.Fields.{entry_by}
use Rattle.rules.proofs.step_b.interval_entry.Goals as goal

pub returns : goal.returns
returns c sets =
    let a = c.args in
    let r = registers_in (kept a.times.now sets a.codes.now) in
    entry_by r a.t a.promoted c.copyin_fate.result c.processor_task.result c.copyout_task.result c.copyin_task.result c.task_of.result
    (c.processor_task.ensures r.start r.until)
    (c.copyout_task.ensures r.outstart r.outuntil)
    (c.copyin_task.ensures r.inuntil)
    (c.copyin_fate.ensures r.intask r.inuntil)
    c.task_of.ensures
