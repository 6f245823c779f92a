-- `waves::number_size` meets its contract: each tenth has one digit less. Assumes nothing.
use mathlib.Core.Path.{refl, ap}
use native.Mathlib.Omega.{arith}
use lib.ListN.{length}
use Rattle.lines.proofs.Laws.{one_digit, more_digits, short}
use Rattle.waves.proofs.printing.number_size.Goals as goal

pub loop-left-init : goal.loop-left-init
loop-left-init c = (refl, short 19 c.args.n (omega arith))

pub overflow_add-size : goal.overflow_add-size
overflow_add-size c = omega (arith, c.loop-left.invariant.0, c.loop-left.invariant.1)

pub loop-left-smaller : goal.loop-left-smaller
loop-left-smaller c = omega (arith, c.loop-left-test.true)

pub loop-left-preserved : goal.loop-left-preserved
loop-left-preserved c = (omega (arith, c.loop-left.invariant.0, more_digits c.loop-left.left c.loop-left-test.true), c.loop-left.invariant.1)

pub returns : goal.returns
returns c = omega (arith, c.loop-left.invariant.0, ap length (one_digit c.loop-left.left c.loop-left-test.false))
