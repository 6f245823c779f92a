-- `lines::Text::interval` meets its contract: the fields one after the other. Assumes nothing.
use native.Mathlib.Omega.{arith}
use Rattle.lines.specs.Lines.{interval_line}
use Rattle.lines.proofs.Laws.{◌then◌}
use Rattle.lines.proofs.Text.interval.Goals as goal

pub byte-requires-2 : goal.byte-requires-2
byte-requires-2 c =
    omega (
      arith,
      c.requires,
      c.byte.ensures.fits,
      c.field.ensures.fits,
      c.field-head.ensures.fits,
      c.byte_field.ensures.fits,
      c.task_field.ensures.fits,
      c.byte_field-processor.ensures.fits,
      c.task_field-2.ensures.fits,
      c.task_field-3.ensures.fits,
      c.byte_field-engine.ensures.fits,
      c.task_field-4.ensures.fits,
    )

pub returns : goal.returns
unfolding interval_line
returns c =
    c.byte.ensures then c.field.ensures then c.field-head.ensures then c.byte_field.ensures
    then c.task_field.ensures then c.byte_field-processor.ensures then c.task_field-2.ensures
    then c.task_field-3.ensures then c.byte_field-engine.ensures then c.task_field-4.ensures
    then c.byte-2.ensures
