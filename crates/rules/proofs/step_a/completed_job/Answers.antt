-- `rules::step_a::completed_job` meets its contract: field by field. Assumes nothing.
use Rattle.rules.proofs.Kept.{job_done}
use Rattle.rules.specs.Kept.{kept, beside, by_task}
use Rattle.rules.proofs.step_a.completed_job.Goals as goal

pub returns : goal.returns
returns c sets priority columns waits h =
    let a = c.args in
    job_done (kept a.times.now sets a.codes.now) (beside priority columns (by_task a.release.now a.blocked.now waits)) a.t h c.value_of.ensures c.value_of-2.ensures
