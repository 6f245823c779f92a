-- `record::go_on` meets its contract: what is put so far and what is to come make the rest of the record. Assumes nothing.
use mathlib.Core.Path.{refl, sym, ap, ◌∙◌}
use native.Mathlib.Omega.{arith}
use lib.ListN.{length}
use lib.Seq.{length-take-le}
use Rattle.entries.specs.Entries.{laid}
use Rattle.pieces.proofs.Reaching.{moves_on, grows, same_slice, front}
use Rattle.record.proofs.Running.{begins, spent, room, more, within}
use Rattle.record.proofs.writing.go_on.Goals as goal

pub loop-left-init : goal.loop-left-init
loop-left-init c = (begins c.args.s.now c.args.out.now c.args.keep c.args.from c.requires, refl)

pub slice_bounds-next_piece-count : goal.slice_bounds-next_piece-count
slice_bounds-next_piece-count c = omega (arith, c.loop-left.invariant.0.served.within)

pub slice_bounds-next_piece-start : goal.slice_bounds-next_piece-start
slice_bounds-next_piece-start c = omega (arith, c.loop-left.invariant.0.served.within)

pub slice_bounds-next_piece-end-in-loop-left : goal.slice_bounds-next_piece-end-in-loop-left
slice_bounds-next_piece-end-in-loop-left c = sym c.loop-left.invariant.1

pub slice_bounds-scratch-end : goal.slice_bounds-scratch-end
slice_bounds-scratch-end c = let m = c.next_piece-x.ensures in omega (arith, m.fits, c.loop-left.invariant.1)

pub slice_bounds-keep_piece-end : goal.slice_bounds-keep_piece-end
slice_bounds-keep_piece-end c = let m = c.next_piece-x.ensures in sym (length-take-le _ _ (omega (arith, m.fits, same_slice m)))

pub keep_piece-requires : goal.keep_piece-requires
keep_piece-requires c =
    let v = c.loop-left in
    let m = c.next_piece-x.ensures in
    λ k. omega (arith, room v.d v.invariant.0 m (λ e. c.requires.kept e) k, ap length (front m))

pub overflow_add-size : goal.overflow_add-size
overflow_add-size c = let m = c.next_piece-x.ensures in omega (arith, c.loop-left.invariant.0.few, grows m)

pub overflow_add-at : goal.overflow_add-at
overflow_add-at c = let v = c.loop-left in omega (arith, within c.args.s.now v.at v.d c.next_piece-x.ensures v.invariant.0.served)

pub loop-left-smaller : goal.loop-left-smaller
loop-left-smaller c = let m = c.next_piece-x.ensures in omega (arith, moves_on m c.loop-left-test.true (omega (arith, c.loop-left.invariant.1)))

pub loop-left-preserved : goal.loop-left-preserved
loop-left-preserved c =
    let v = c.loop-left in
    let m = c.next_piece-x.ensures in
    let x = c.keep_piece.ensures in
    (more v.d v.invariant.0 m (λ e. c.requires.kept e) (λ e. x.holds e ∙ ap (λ l. laid v.size l v.out) (front m)) (λ e. x.unchanged e) c.out-1.given, same_slice m ∙ v.invariant.1)

pub shape_of-out : goal.shape_of-out
shape_of-out c = c.loop-left.invariant.0.same

pub returns : goal.returns
returns c = let x = spent c.loop-left.d c.loop-left.invariant.0 c.loop-left-test.false in record { size_is = x.0; holds = x.1; unchanged = x.2 }
