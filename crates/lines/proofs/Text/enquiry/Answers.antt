-- `lines::Text::enquiry` meets its contract: the fields one after the other. Assumes nothing.
use Rattle.lines.specs.Lines.{enquiry_line}
use Rattle.lines.proofs.Laws.{◌then◌}
use Rattle.lines.proofs.Text.enquiry.Goals as goal

pub returns : goal.returns
unfolding enquiry_line
returns c =
    c.byte.ensures then c.word_field.ensures then c.due_field.ensures
    then c.field.ensures then c.byte-2.ensures
