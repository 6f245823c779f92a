-- `lines::Text::job` meets its contract: the fields one after the other. Assumes nothing.
use Rattle.lines.specs.Lines.{job_line}
use Rattle.lines.proofs.Laws.{◌then◌}
use Rattle.lines.proofs.Text.job.Goals as goal

pub returns : goal.returns
unfolding job_line
returns c =
    c.byte.ensures then c.byte_field-head.ensures then c.field.ensures
    then c.field-2.ensures then c.field-times.ensures then c.byte_field.ensures
    then c.byte-2.ensures
