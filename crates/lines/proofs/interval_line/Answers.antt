-- `lines::interval_line` meets its contract. Assumes nothing.
use native.Mathlib.Omega.{arith}
use Rattle.lines.proofs.Laws.{printed}
use Rattle.lines.proofs.interval_line.Goals as goal

pub returns : goal.returns
returns c = printed c.empty.ensures (omega arith) c.interval.ensures
