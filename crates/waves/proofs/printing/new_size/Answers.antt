-- `waves::new_size` meets its contract: by whether the value is the old one. Assumes nothing.
use native.Mathlib.Omega.{arith}
use borrow.Author.Tests.{eq-eqb, ne_eqb}
use Rattle.waves.proofs.printing.new_size.Goals as goal

pub returns-then-old-new : goal.returns-then-old-new
returns-then-old-new c = (rw (eq-eqb c.args.old c.args.new c.if-old-new.true), omega arith)

pub returns : goal.returns
returns c = (rw (ne_eqb c.args.old c.args.new c.if-old-new.false), omega arith)
