-- `lines::refused_call_line` meets its contract. Assumes nothing.
use native.Mathlib.Omega.{arith}
use Rattle.lines.specs.Lines.{refused_call_line}
use Rattle.lines.proofs.Laws.{printed, ◌then◌}
use Rattle.lines.proofs.refused_call_line.Goals as goal

pub returns : goal.returns
unfolding refused_call_line
returns c =
    printed c.empty.ensures (omega arith)
    (c.byte.ensures then c.byte_field.ensures then c.byte-2.ensures)
