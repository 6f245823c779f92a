-- `run::end_copyout` meets its contract: the job is put where its copy-out ends. Assumes nothing.
use mathlib.Core.Path.{refl, sym, ◌∙◌}
use Rattle.rules.specs.Kept.{kept, by_task, beside}
use Rattle.rules.proofs.Kept.{no_job_done}
use Rattle.run.proofs.InOrder.{put_job, put_no_job}
use Rattle.run.proofs.instant.end_copyout.Goals as goal

pub returns-then-copyout_ends : goal.returns-then-copyout_ends
returns-then-copyout_ends c =
    let s = c.args in
    let ends = sym c.copyout_ends.ensures ∙ c.if-copyout_ends.true in
    λ priority columns waits w. record {
      copies = c.copied_out.ensures s.t s.times.now _ w ends;
      puts = put_job (c.completed_job.ensures s.sets.now priority columns waits ends) c.job_at-end.ensures;
    }

pub returns : goal.returns
returns c =
    let s = c.args in
    let ends = sym c.copyout_ends.ensures ∙ c.if-copyout_ends.false in
    λ priority columns waits w. record {
      copies = record { whole = w; no_more = ends; state = refl };
      puts = put_no_job s.out.now
          (no_job_done (kept s.times.now s.sets.now s.codes.now) (beside priority columns (by_task s.release.now s.blocked.now waits)) s.t ends);
    }
