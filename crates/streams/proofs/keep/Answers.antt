-- What is moved is the part between the two places.
use Rattle.streams.proofs.Fronts.{kept}
use Rattle.streams.proofs.keep.Goals as goal

pub returns : goal.returns
returns c = let a = c.args in kept a.from a.end _ _ a.input.now _ c.min-stop.ensures c.min-start.ensures c.copy_within.ensures.after
