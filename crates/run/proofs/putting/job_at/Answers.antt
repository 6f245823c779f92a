-- `run::job_at` meets its contract: the entry is written into the rest of the slice, where there is one. Assumes nothing.
use mathlib.Core.Path.{ap, ◌∙◌}
use lib.ListN.{length}
use Rattle.entries.specs.Entries.{job_bytes}
use Rattle.run.specs.Types.{JobDone}
use Rattle.run.proofs.Slices.{one, put_rest, rest_put_length, put_past}
use Rattle.run.proofs.putting.job_at.Goals as goal
use Rattle.run.proofs.putting.job_at.Goals.{then-at-out, else-at-out}

pub shape_of-out : goal.shape_of-out
shape_of-out c =
    let a = c.args in
    let e = job_bytes a.e in
    elim c.if-at-out.branch [
      | then-at-out w ↦ rest_put_length e a.at a.out.now _ w.put_job.new.out w.if-at-out.true w.put_job.ensures w.out-is
      | else-at-out w ↦ ap length w.out-is
    ]

pub returns : goal.returns
returns c =
    let a = c.args in
    let e = job_bytes a.e in
    elim c.if-at-out.branch [
      | then-at-out w ↦ one a.at (JobDone a.e) a.out.now (w.out-is ∙ put_rest e a.at a.out.now _ w.put_job.new.out w.if-at-out.true w.put_job.ensures)
      | else-at-out w ↦ one a.at (JobDone a.e) a.out.now (w.out-is ∙ put_past e a.at a.out.now w.if-at-out.false)
    ]
