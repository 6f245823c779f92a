-- `lines::letter_line` meets its contract. Assumes nothing.
use Rattle.lines.proofs.Laws.{printed, ◌then◌}
use native.Mathlib.Omega.{arith}
use Rattle.lines.proofs.letter_line.Goals as goal

pub returns : goal.returns
returns c = printed c.empty.ensures (omega arith) (c.byte.ensures then c.byte-2.ensures)
