-- `lines::timed_line` meets its contract. Assumes nothing.
use native.Mathlib.Omega.{arith}
use Rattle.lines.specs.Lines.{timed_line}
use Rattle.lines.proofs.Laws.{printed, ◌then◌}
use Rattle.lines.proofs.timed_line.Goals as goal

pub returns : goal.returns
unfolding timed_line
returns c =
    printed c.empty.ensures (omega arith)
    (c.byte.ensures then c.byte_field.ensures then c.field.ensures then c.byte-2.ensures)
