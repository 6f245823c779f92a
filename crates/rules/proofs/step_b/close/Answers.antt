-- `rules::step_b::close` meets its contract: number by number. Assumes nothing.
use Rattle.rules.specs.Kept.{kept}
use Rattle.rules.proofs.Kept.{closed_to}
use Rattle.rules.proofs.step_b.close.Goals as goal

pub returns : goal.returns
returns c h b w =
    let a = c.args in
    closed_to b a.promoted c.next_copyout.result (kept a.times.now a.sets.now a.codes.now) w (c.next_copyout.ensures _ _ _ h) c.set_next.ensures
