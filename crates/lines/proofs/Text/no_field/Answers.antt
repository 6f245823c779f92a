-- `lines::Text::no_field` meets its contract. Assumes nothing.
use Rattle.lines.proofs.Laws.{◌then◌}
use Rattle.lines.proofs.Text.no_field.Goals as goal

pub returns : goal.returns
returns c = c.byte.ensures then c.byte-2.ensures
