-- `waves::put_mark` meets its contract: the sign, the number, the newline. Assumes nothing.
use native.Mathlib.Omega.{arith}
use mathlib.Core.List.{◌++◌}
use Rattle.lines.specs.Lines.{decimal, newline}
use Rattle.waves.specs.Dump.{mark}
use Rattle.waves.proofs.Laying.{◌then◌, first_room, next_room, mark_size}
use Rattle.waves.proofs.printing.put_mark.Goals as goal

pub put_byte-number-requires : goal.put_byte-number-requires
put_byte-number-requires c = omega (arith, c.requires.fits, mark_size c.args.t)

pub put_number-end-requires : goal.put_number-end-requires
unfolding mark
put_number-end-requires c = first_room (decimal c.args.t) newline (next_room (decimal c.args.t ++ newline) c.put_byte-number.ensures c.requires)

pub put_byte-requires : goal.put_byte-requires
unfolding mark
put_byte-requires c =
    let r = next_room (decimal c.args.t ++ newline) c.put_byte-number.ensures c.requires in
    omega (arith, (next_room newline c.put_number-end.ensures r).fits)

pub returns : goal.returns
unfolding mark
returns c = c.put_byte-number.ensures then c.put_number-end.ensures then c.put_byte.ensures
