-- `lines::enquiry_lines` meets its contract: by cases. Assumes nothing.
use Rattle.lines.proofs.enquiry_lines.Goals as goal

pub returns-in-Err : goal.returns-in-Err
returns-in-Err c = rw c.in-Err.is c.refused_call_line.ensures

pub returns-in-Ok : goal.returns-in-Ok
returns-in-Ok c = rw c.in-Ok.is c.shown_lines.ensures
