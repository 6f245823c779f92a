-- `waves::header` meets its contract: the bytes of the lines. Assumes nothing.
use mathlib.Core.Path.{refl}
use Rattle.waves.specs.Dump.{ascii, line, header}
use Rattle.waves.proofs.writing.header.Goals as goal

pub returns : goal.returns
unfolding header line ascii
returns c = refl
