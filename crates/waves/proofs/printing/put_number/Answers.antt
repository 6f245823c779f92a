-- `waves::put_number` meets its contract: those digits are put that stand behind the ones left. Assumes nothing.
use mathlib.Core.Path.{ap, ◌∙◌}
use Prim.Native.Nat.{◌+◌, ◌-◌}
use native.Mathlib.Omega.{arith}
use lib.ListN.{length-set}
use Rattle.waves.proofs.Numbers.{some_digits, begins, inside, ahead, step, ends}
use Rattle.waves.proofs.printing.put_number.Goals as goal

pub overflow_add-i : goal.overflow_add-i
overflow_add-i c = omega (arith, c.requires.fits, c.number_size-size.ensures)

pub overflow_sub-i : goal.overflow_sub-i
overflow_sub-i c = omega (arith, c.number_size-size.ensures, some_digits c.args.n)

pub loop-left-init : goal.loop-left-init
loop-left-init c = let a = c.args in begins a.out.now a.at a.n _ (ap (λ k. a.at + k - 1) c.number_size-size.ensures) c.requires.fits

pub bounds-out-i : goal.bounds-out-i
bounds-out-i c = let x = c.loop-left.invariant in omega (arith, inside x, x.same)

pub overflow_sub-i-in-loop-left : goal.overflow_sub-i-in-loop-left
overflow_sub-i-in-loop-left c = ahead c.loop-left.invariant c.loop-left-test.true

pub loop-left-smaller : goal.loop-left-smaller
loop-left-smaller c = omega (arith, c.loop-left-test.true)

pub loop-left-preserved : goal.loop-left-preserved
loop-left-preserved c = step c.loop-left.invariant c.loop-left-test.true

pub bounds-out-i-2 : goal.bounds-out-i-2
bounds-out-i-2 c = let x = c.loop-left.invariant in omega (arith, inside x, x.same)

pub overflow_add-result : goal.overflow_add-result
overflow_add-result c = omega (arith, c.requires.fits, c.number_size-size.ensures)

pub shape_of-out : goal.shape_of-out
shape_of-out c = let v = c.loop-left in length-set v.out v.i (48 + v.left) ∙ v.invariant.same

pub returns : goal.returns
returns c = ends c.loop-left.invariant _ c.number_size-size.ensures c.loop-left-test.false
