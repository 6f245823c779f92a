-- `lines::Text::byte` meets its contract: the byte is stored behind those that are there. Assumes nothing.
use Rattle.lines.proofs.Laws.{one_byte}
use Rattle.lines.proofs.Text.byte.Goals as goal

pub returns : goal.returns
returns c = one_byte c.args.self c.args.b c.requires
