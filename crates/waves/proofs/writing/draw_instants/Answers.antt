-- `waves::draw_instants` meets its contract: what is put so far and what is to come make the rest of the dump. Assumes nothing.
use native.Mathlib.Omega.{arith}
use Rattle.dispatcher.specs.Dispatcher.{state_of}
use Rattle.waves.proofs.Drawing.{begins, ends, spent, at_the_end, half_before, half_now, reads_on, room, moves}
use Rattle.waves.proofs.writing.draw_instants.Goals as goal

pub loop-left-init : goal.loop-left-init
loop-left-init c =
    let a = c.args in
    begins a.s.now a.out.now a.place a.keep (state_of a.d) a.from _ a.budget c.requires (c.shown-v.ensures _)

pub slice_bounds-advance-count : goal.slice_bounds-advance-count
slice_bounds-advance-count c = omega (arith, c.loop-left.invariant.served.within)

pub slice_bounds-advance-start : goal.slice_bounds-advance-start
slice_bounds-advance-start c = omega (arith, c.loop-left.invariant.served.within)

pub add_turn-size-requires : goal.add_turn-size-requires
add_turn-size-requires c =
    let v = c.loop-left in
    let on = c.if-x.false in record {
      half_before = half_before v.invariant c.advance-x.ensures;
      half_after = half_now v.invariant c.advance-x.ensures c.shown-w.result c.shown-w.ensures;
      at_bound = omega (arith, v.invariant.few);
      room_at = room v.invariant c.advance-x.ensures on c.shown-w.result c.shown-w.ensures c.loop-left-test.true (λ e. c.requires.kept e);
    }

pub overflow_add-at : goal.overflow_add-at
overflow_add-at c = omega (arith, reads_on c.loop-left.invariant c.advance-x.ensures c.if-x.false)

pub overflow_sub-left : goal.overflow_sub-left
overflow_sub-left c = omega (arith, c.loop-left-test.true)

pub loop-left-smaller : goal.loop-left-smaller
loop-left-smaller c = omega (arith, c.loop-left-test.true)

pub loop-left-preserved : goal.loop-left-preserved
loop-left-preserved c =
    let v = c.loop-left in
    let made = c.advance-x.ensures in
    let now = c.shown-w in
    let on = c.if-x.false in
    let put = c.add_turn-size in
    moves v.invariant made on now.result now.ensures c.loop-left-test.true put.result put.ensures.value (λ e. c.requires.kept e) put.ensures.kept_at c.out-1.given

pub shape_of-out-after-loop-left : goal.shape_of-out-after-loop-left
shape_of-out-after-loop-left c = c.loop-left.invariant.same_out

pub returns-after-loop-left : goal.returns-after-loop-left
returns-after-loop-left c = spent c.loop-left.invariant c.loop-left-test.false

pub shape_of-out-then-x : goal.shape_of-out-then-x
shape_of-out-then-x c = c.loop-left.invariant.same_out

pub returns-then-x : goal.returns-then-x
returns-then-x c = let v = c.loop-left in ends v.invariant (at_the_end v.invariant c.advance-x.ensures c.if-x.true)
