-- `waves::writing::shown_by` meets its contract: field by field. Assumes nothing.
use Rattle.waves.proofs.writing.shown_by.Goals as goal

pub returns : goal.returns
returns c = (rw c.half_shown.ensures.value, c.half_shown.ensures.a_bit)
