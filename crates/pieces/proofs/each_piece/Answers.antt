-- A piece moves on, and the closure is called on its bytes.
use Rattle.std.proofs.Common.{take, arith, of_calls}
use Rattle.std.specs.Fn.{CalledAt}
use Rattle.pieces.proofs.Reaching.{moves_on, same_slice, reads_on}
use Rattle.pieces.proofs.Handing.{handed_on, spent_over, one_more_over, stops_later, stops_here, if_err}
use Rattle.pieces.proofs.each_piece.Goals as goal

pub loop-left-smaller : goal.loop-left-smaller
loop-left-smaller g c = omega (arith, moves_on c.next_piece-made.ensures c.loop-left-test.true c.loop-left.invariant.2)

pub loop-left-preserved : goal.loop-left-preserved
loop-left-preserved g c =
    let v = c.loop-left in
    let m = c.next_piece-made.ensures in (
      search of_calls,
      omega (arith, reads_on c.args.rest.now v.at m v.invariant.1),
      omega (arith, same_slice m, v.invariant.2),
      λ last end later. v.invariant.3 last end (one_more_over c.args.rest.now v.at m (CalledAt g.F.FnMut) v.take c.take.new.self v.invariant.2 (search of_calls) later),
      λ e last end later. v.invariant.4 e last end (stops_later c.args.rest.now v.at m (CalledAt g.F.FnMut) v.take c.take.new.self v.invariant.2 (search of_calls) later),
    )

pub returns-clause-handed_over : goal.returns-clause-handed_over
returns-clause-handed_over g c = λ room. (c.loop-left.take, c.loop-left.invariant.3 _ _ (spent_over _ _ _ _ _ _ c.loop-left-test.false))

pub returns-clause-handed : goal.returns-clause-handed
returns-clause-handed g c = λ room. handed_on (c.loop-left.invariant.3 _ _ (spent_over _ _ _ _ _ _ c.loop-left-test.false))

pub returns-in_err-take-clause-failed : goal.returns-in_err-take-clause-failed
returns-in_err-take-clause-failed g c =
    if_err c.from_residual.result c.from_residual.ensures.1
    (λ e q. (c.loop-left.take, take c.next_piece-made.result.size c.next_piece-made.new.out, c.take.new.self, search of_calls))

pub returns-in_err-take-clause-stopped : goal.returns-in_err-take-clause-stopped
returns-in_err-take-clause-stopped g c =
    let v = c.loop-left in
    if_err c.from_residual.result c.from_residual.ensures.1
    (λ e q. (
      c.take.new.self,
      v.invariant.4 e _ _ (stops_here c.args.rest.now v.at c.next_piece-made.ensures (CalledAt g.F.FnMut) v.take c.take.new.self v.invariant.2 (search of_calls)),
    ))
