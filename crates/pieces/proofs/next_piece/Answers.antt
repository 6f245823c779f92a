-- `pieces::next_piece` meets its contract: each instant goes on with the piece, until the run's end, the budget's or that of the room. Assumes nothing.
use mathlib.Core.Path.{refl, ap, ◌∙◌}
use mathlib.Core.Logic.{inl, inr}
use native.Mathlib.Omega.{arith}
use Rattle.rules.specs.Kept.{beside}
use Rattle.run.proofs.Slices.{rest_same}
use Rattle.pieces.proofs.Reaching.{begins, at_last, reads, puts, moves, same_kept, same_by_task, ends, stops}
use Rattle.pieces.proofs.next_piece.Goals as goal
use Rattle.pieces.proofs.next_piece.Goals.{else-loop-left-test, then-loop-left-test+then-out-size-lt-INSTANT_MOST, then-loop-left-test+else-out-size-lt-INSTANT_MOST+then-x}

pub loop-left-init : goal.loop-left-init
loop-left-init c = (begins _ _ _ _ _, refl)

pub overflow_sub-out : goal.overflow_sub-out
overflow_sub-out c = let v = c.loop-left in omega (arith, v.invariant.0.fits, v.invariant.0.same)

pub slice_bounds-advance-count : goal.slice_bounds-advance-count
slice_bounds-advance-count c = omega (arith, c.loop-left.invariant.0.within)

pub slice_bounds-advance-start : goal.slice_bounds-advance-start
slice_bounds-advance-start c = omega (arith, c.loop-left.invariant.0.within)

pub slice_bounds-advance-count-in-loop-left : goal.slice_bounds-advance-count-in-loop-left
slice_bounds-advance-count-in-loop-left c = let v = c.loop-left in omega (arith, v.invariant.0.fits, v.invariant.0.same)

pub slice_bounds-advance-start-in-loop-left : goal.slice_bounds-advance-start-in-loop-left
slice_bounds-advance-start-in-loop-left c = let v = c.loop-left in omega (arith, v.invariant.0.fits, v.invariant.0.same)

pub overflow_add-read : goal.overflow_add-read
overflow_add-read c = omega (arith, reads c.loop-left.invariant.0 c.advance-x.ensures c.if-x.false)

pub overflow_add-size : goal.overflow_add-size
overflow_add-size c = omega (arith, puts c.loop-left.invariant.0 c.advance-x.ensures c.if-x.false c.if-out-size-lt-INSTANT_MOST.false, c.loop-left.invariant.0.same)

pub overflow_sub-left : goal.overflow_sub-left
overflow_sub-left c = omega (arith, c.loop-left-test.true)

pub loop-left-smaller : goal.loop-left-smaller
loop-left-smaller c = omega (arith, c.loop-left-test.true)

pub loop-left-preserved : goal.loop-left-preserved
loop-left-preserved c = let v = c.loop-left in (moves v.invariant.0 c.advance-x.ensures c.if-x.false c.loop-left-test.true c.if-out-size-lt-INSTANT_MOST.false refl, v.invariant.1)

pub shape_of-out : goal.shape_of-out
shape_of-out c = c.loop-left-test.auto.out ∙ c.loop-left.invariant.0.same

pub returns : goal.returns
returns c =
    let v = c.loop-left in
    let d = c.args.d in
    let others = beside d.priority d.columns in
    elim c.loop-left-test.branch [
      | else-loop-left-test w ↦
          stops d v.invariant.0 (same_kept w.times-is w.sets-is w.codes-is) (ap others (same_by_task w.release-is w.blocked-is w.waits-is)) w.out-is
          (w.ended-is ∙ v.invariant.1) w.left-is (inl (w.left-is ∙ w.loop-left-test.false))
      | then-loop-left-test+then-out-size-lt-INSTANT_MOST w ↦
          stops d v.invariant.0 (same_kept w.times-is w.sets-is w.codes-is) (ap others (same_by_task w.release-is w.blocked-is w.waits-is)) w.out-is
          (w.ended-is ∙ v.invariant.1) w.left-is (inr (omega (arith, w.if-out-size-lt-INSTANT_MOST.true, v.invariant.0.same, v.invariant.0.fits)))
      | then-loop-left-test+else-out-size-lt-INSTANT_MOST+then-x w ↦
          let made = w.advance-x.ensures in
          let stop = made.ended w.if-x.true in
          ends d v.invariant.0 (same_kept w.times-is w.sets-is w.codes-is ∙ stop.numbers_are) (ap others (same_by_task w.release-is w.blocked-is w.waits-is) ∙ stop.beside_is)
          (w.out-is ∙ rest_same v.size v.out _ stop.slice_is)
          w.ended-is w.left-is (at_last v.invariant.0 made w.if-x.true)
    ]
