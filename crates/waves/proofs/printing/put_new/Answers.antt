-- `waves::put_new` meets its contract: by whether the value is the old one. Assumes nothing.
use mathlib.Core.Path.{ap}
use lib.ListN.{length}
use native.Mathlib.Omega.{arith}
use borrow.Author.Tests.{eq-eqb, ne_eqb}
use Rattle.waves.specs.Dump.{wires}
use Rattle.waves.proofs.Laying.{nothing, new_is, wires_size}
use Rattle.waves.proofs.printing.put_new.Goals as goal

pub returns-then-old-new : goal.returns-then-old-new
returns-then-old-new c = let a = c.args in rw (eq-eqb a.old a.new c.if-old-new.true) (nothing a.at a.out.now (omega (arith, c.requires.fits)))

pub put_wires-requires : goal.put_wires-requires
put_wires-requires c =
    let a = c.args in
    omega (arith, c.requires.fits, ap length (new_is a.old a.new (wires a.code a.new) c.if-old-new.false), wires_size a.code a.new)

pub returns : goal.returns
returns c = let a = c.args in rw (ne_eqb a.old a.new c.if-old-new.false) c.put_wires.ensures
