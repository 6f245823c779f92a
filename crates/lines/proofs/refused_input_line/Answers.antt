-- `lines::refused_input_line` meets its contract. Assumes nothing.
use native.Mathlib.Omega.{arith}
use Rattle.lines.specs.Lines.{refused_input_line}
use Rattle.lines.proofs.Laws.{printed, ◌then◌}
use Rattle.lines.proofs.refused_input_line.Goals as goal

pub returns : goal.returns
unfolding refused_input_line
returns c =
    rw (← c.number_of-number.ensures, ← c.place_of-place.ensures)
    (printed c.empty.ensures (omega arith)
    (c.byte.ensures then c.byte_field.ensures then c.field.ensures then c.byte-2.ensures))
