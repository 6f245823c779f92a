-- `words::put_u32` meets its contract: the library's bytes are those of the number. Assumes nothing.
use mathlib.Core.Path.{refl, ◌∙◌}
use Rattle.words.specs.Words.{room, written}
use Rattle.words.proofs.Laws.{bytes_made, length_bytes}
use Rattle.words.proofs.put_u32.Goals as goal

pub returns : goal.returns
unfolding room written
returns c = rw (c.put.ensures.count, c.put.ensures.after, c.to_le_bytes.ensures ∙ bytes_made 4 c.args.v, length_bytes 4 c.args.v) (refl, refl)
