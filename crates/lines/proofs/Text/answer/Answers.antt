-- `lines::Text::answer` meets its contract: the fields one after the other. Assumes nothing.
use Rattle.lines.specs.Lines.{answer_line}
use Rattle.lines.proofs.Laws.{◌then◌}
use Rattle.lines.proofs.Text.answer.Goals as goal

pub returns : goal.returns
unfolding answer_line
returns c = c.byte.ensures then c.word_field.ensures then c.due_field.ensures then c.byte-2.ensures
