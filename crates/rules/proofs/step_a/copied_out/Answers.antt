-- `rules::step_a::copied_out` meets its contract: number by number. Assumes nothing.
use Rattle.rules.specs.Kept.{kept}
use Rattle.rules.proofs.Kept.{copied_at}
use Rattle.rules.proofs.step_a.copied_out.Goals as goal

pub returns : goal.returns
returns c t times b w h =
    let a = c.args in
    copied_at b t c.remove.result (kept times a.sets.now a.codes.now) w h c.remove.ensures
