-- `dispatcher::stepping::end_copyout` meets its contract: the job is told and completed, or none is. Assumes nothing.
use Rattle.std.proofs.Common.{sym, ◌∙◌}
use Rattle.rules.specs.Kept.{kept, beside, by_task}
use Rattle.rules.proofs.Kept.{no_job_done}
use Rattle.dispatcher.proofs.Composing.{job_ends, no_job_ends}
use Rattle.dispatcher.proofs.stepping.end_copyout.Goals as goal

pub returns-then-copyout_ends : goal.returns-then-copyout_ends
returns-then-copyout_ends c priority columns waits w =
    let a = c.args in
    let o = c.copyout_ends in
    let e = sym o.ensures ∙ c.if-copyout_ends.true in
    job_ends (c.completed_job.ensures a.sets.now priority columns waits e) c.tell_job.ensures (c.copied_out.ensures a.t a.times.now (beside priority columns (by_task a.release.now a.blocked.now waits)) w e)

pub returns : goal.returns
returns c priority columns waits w =
    let a = c.args in
    let e = sym c.copyout_ends.ensures ∙ c.if-copyout_ends.false in
    no_job_ends w e (no_job_done (kept a.times.now a.sets.now a.codes.now) (beside priority columns (by_task a.release.now a.blocked.now waits)) a.t e)
