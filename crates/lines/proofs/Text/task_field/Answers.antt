-- `lines::Text::task_field` meets its contract: by cases. Assumes nothing.
use native.Mathlib.Omega.{arith}
use Rattle.lines.proofs.Laws.{at_most}
use Rattle.lines.proofs.Text.task_field.Goals as goal

pub returns-in-None : goal.returns-in-None
returns-in-None c = rw c.in-None.is (at_most 4 (omega arith) c.no_field.ensures)

pub returns-in-Some : goal.returns-in-Some
returns-in-Some c = rw c.in-Some.is c.byte_field.ensures
