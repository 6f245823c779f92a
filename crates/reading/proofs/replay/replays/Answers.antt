-- `reading::replay::replays` meets its contract: what the record has so far and what is to come make the whole. Assumes nothing.
use mathlib.Core.Path.{refl, sym, ap, ◌∙◌}
use native.Mathlib.Omega.{arith}
use borrow.Author.Tests.{not-true, not-false}
use Rattle.sets.proofs.Laws.{clash}
use Rattle.pieces.proofs.Reaching.{moves_on, same_slice}
use Rattle.record.proofs.Running.{within}
use Rattle.reading.proofs.Holding.{begins, as_started, ended, whole_piece, differs, reaches, goes_on}
use Rattle.std.proofs.Common.{not}
use Rattle.reading.proofs.replay.replays.Goals as goal

pub loop-left-init : goal.loop-left-init
loop-left-init c = let d = c.opened-d in (begins c.args.s.now c.args.stored.now c.args.head c.args.budget d.result d.ensures.0 c.requires, refl)

pub slice_bounds-next_piece-count : goal.slice_bounds-next_piece-count
slice_bounds-next_piece-count c = omega (arith, c.loop-left.invariant.0.served.within)

pub slice_bounds-next_piece-start : goal.slice_bounds-next_piece-start
slice_bounds-next_piece-start c = omega (arith, c.loop-left.invariant.0.served.within)

pub slice_bounds-next_piece-end-in-loop-left : goal.slice_bounds-next_piece-end-in-loop-left
slice_bounds-next_piece-end-in-loop-left c = sym c.loop-left.invariant.1

pub slice_bounds-goes_on_with-end : goal.slice_bounds-goes_on_with-end
slice_bounds-goes_on_with-end c = sym (same_slice c.next_piece-x.ensures ∙ c.loop-left.invariant.1)

pub goes_on_with-requires : goal.goes_on_with-requires
goes_on_with-requires c = let v = c.loop-left in record { at_in_bounds = v.invariant.0.within; n_in_bounds = whole_piece v.d v.invariant.0 c.next_piece-x.ensures }

pub returns-then-not-goes_on_with : goal.returns-then-not-goes_on_with
returns-then-not-goes_on_with c =
    let v = c.loop-left in let d = c.opened-d in
    let x = c.goes_on_with in
    as_started c.args.s.now c.args.stored.now c.args.head c.args.budget d.result d.ensures.0
    (differs v.d v.invariant.0 c.next_piece-x.ensures (λ e. clash x.result (x.ensures.shows e) (not-true _ (ap not c.if-not-goes_on_with.true))))

pub overflow_add-size : goal.overflow_add-size
overflow_add-size c =
    let v = c.loop-left in
    let same = c.goes_on_with.ensures.same (not-false _ (ap not c.if-not-goes_on_with.false)) in
    omega (arith, reaches v.d v.invariant.0 c.next_piece-x.ensures same)

pub overflow_add-at : goal.overflow_add-at
overflow_add-at c =
    let v = c.loop-left in
    omega (arith, within c.args.s.now v.at v.d c.next_piece-x.ensures v.invariant.0.served)

pub loop-left-smaller : goal.loop-left-smaller
loop-left-smaller c =
    let m = c.next_piece-x.ensures in
    omega (arith, moves_on m c.loop-left-test.true (omega (arith, c.loop-left.invariant.1)))

pub loop-left-preserved : goal.loop-left-preserved
loop-left-preserved c =
    let v = c.loop-left in
    let m = c.next_piece-x.ensures in
    (goes_on v.d v.invariant.0 m (c.goes_on_with.ensures.same (not-false _ (ap not c.if-not-goes_on_with.false))), same_slice m ∙ v.invariant.1)

pub returns : goal.returns
returns c =
    let v = c.loop-left in let d = c.opened-d in
    as_started c.args.s.now c.args.stored.now c.args.head c.args.budget d.result d.ensures.0 (ended v.d v.invariant.0 c.loop-left-test.false)
