-- A piece moves on, and is handed to whoever takes it.
use Rattle.std.proofs.Common.{arith, rules}
use Rattle.pieces.proofs.Reaching.{moves_on, same_slice, reads_on}
use Rattle.pieces.proofs.Handing.{spent_over, one_more_over, stops_later, stops_here, if_err}
use Rattle.pieces.proofs.hand_on.Goals as goal

pub loop-left-smaller : goal.loop-left-smaller
loop-left-smaller g c = omega (arith, moves_on c.next_piece-x.ensures c.loop-left-test.true c.loop-left.invariant.1)

pub loop-left-preserved : goal.loop-left-preserved
loop-left-preserved g c =
    let v = c.loop-left in
    let m = c.next_piece-x.ensures in (
      omega (arith, reads_on c.args.rest.now v.at m v.invariant.0),
      omega (arith, same_slice m, v.invariant.1),
      λ last end later. v.invariant.2 last end (one_more_over c.args.rest.now v.at m g.T.Takes.taken v.by c.take.new.self v.invariant.1 (search rules) later),
      λ e last end later. v.invariant.3 e last end (stops_later c.args.rest.now v.at m g.T.Takes.taken v.by c.take.new.self v.invariant.1 (search rules) later),
    )

pub returns-clause-handed : goal.returns-clause-handed
returns-clause-handed g c = c.loop-left.invariant.2 _ _ (spent_over _ _ _ _ _ _ c.loop-left-test.false)

pub returns-in_err-take-clause-stopped : goal.returns-in_err-take-clause-stopped
returns-in_err-take-clause-stopped g c =
    let v = c.loop-left in
    if_err c.from_residual.result c.from_residual.ensures.1
    (λ e q. v.invariant.3 e _ _ (stops_here c.args.rest.now v.at c.next_piece-x.ensures g.T.Takes.taken v.by c.take.new.self v.invariant.1 (search rules)))
