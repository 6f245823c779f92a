-- `words::get_u32` meets its contract: the bytes that stand there, as the library reads them. Assumes nothing.
use mathlib.Core.Path.{◌∙◌}
use Rattle.words.proofs.Laws.{number_made}
use Rattle.words.proofs.get_u32.Goals as goal

pub returns : goal.returns
returns c = c.from_le_bytes.ensures ∙ number_made 3 c.bytes_at.result c.args.s.now c.args.at c.bytes_at.ensures
