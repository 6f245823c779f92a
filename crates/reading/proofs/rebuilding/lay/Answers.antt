-- `reading::rebuilding::lay` meets its contract: one entry behind the other. Assumes nothing.
use native.Mathlib.Omega.{arith}
use Rattle.reading.proofs.Laying.{begins, size_is, goes_on, ends}
use Rattle.reading.proofs.rebuilding.lay.Goals as goal

pub loop-k-init : goal.loop-k-init
loop-k-init c = begins _ _

pub slice_bounds-put_release-count : goal.slice_bounds-put_release-count
slice_bounds-put_release-count c = omega (arith, c.loop-k.invariant.place, c.loop-k.invariant.same, c.requires, c.loop-k-test.true)

pub slice_bounds-put_release-start : goal.slice_bounds-put_release-start
slice_bounds-put_release-start c = omega (arith, c.loop-k.invariant.place, c.loop-k.invariant.same, c.requires, c.loop-k-test.true)

pub overflow_add-at : goal.overflow_add-at
overflow_add-at c =
    let put = c.put_release-at in
    let v = c.loop-k.invariant in
    let test = c.loop-k-test.true in
    omega (arith, size_is v c.requires test _ _ put.ensures, v.place, v.same, c.requires, test)

pub loop-k-preserved : goal.loop-k-preserved
loop-k-preserved c = goes_on c.loop-k.invariant c.requires c.loop-k-test.true _ _ c.put_release-at.ensures

pub shape_of-out : goal.shape_of-out
shape_of-out c = c.loop-k.invariant.same

pub returns : goal.returns
returns c = ends c.loop-k.invariant c.requires (omega arith)
