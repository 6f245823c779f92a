-- `waves::put_wire` meets its contract: byte by byte. Assumes nothing.
use Rattle.waves.specs.Dump.{wire}
use Rattle.waves.proofs.Laying.{◌then◌}
use Rattle.waves.proofs.printing.put_wire.Goals as goal

pub returns : goal.returns
unfolding wire
returns c = c.put_byte-code.ensures then c.put_byte-end.ensures then c.put_byte.ensures
