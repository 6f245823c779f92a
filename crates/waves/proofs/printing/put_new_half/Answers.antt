-- `waves::put_new_half` meets its contract: by whether the value is the old one. Assumes nothing.
use mathlib.Core.Path.{ap}
use lib.ListN.{length}
use native.Mathlib.Omega.{arith}
use borrow.Author.Tests.{eq-eqb, ne_eqb}
use Rattle.waves.specs.Dump.{wire}
use Rattle.waves.proofs.Laying.{nothing, new_is, wire_size}
use Rattle.waves.proofs.printing.put_new_half.Goals as goal

pub returns-then-old-new : goal.returns-then-old-new
returns-then-old-new c = let a = c.args in rw (eq-eqb a.old a.new c.if-old-new.true) (nothing a.at a.out.now (omega (arith, c.requires.room.fits)))

pub put_wire-requires : goal.put_wire-requires
put_wire-requires c =
    let a = c.args in
    record { n_bound = c.requires.bound; at_in_bounds = omega (arith, c.requires.room.fits, ap length (new_is a.old a.new (wire 100 a.new) c.if-old-new.false), wire_size 100 a.new) }

pub returns : goal.returns
returns c = let a = c.args in rw (ne_eqb a.old a.new c.if-old-new.false) c.put_wire.ensures
