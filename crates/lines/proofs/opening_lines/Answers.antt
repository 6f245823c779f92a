-- `lines::opening_lines` meets its contract: by cases. Assumes nothing.
use Rattle.lines.proofs.opening_lines.Goals as goal

pub returns-in-None : goal.returns-in-None
returns-in-None c = rw c.in-None.is c.letter_line.ensures

pub returns-in-Some : goal.returns-in-Some
returns-in-Some c = let e = c.in-Some.is in rw e (rw e at c.refused_input_line.ensures)
