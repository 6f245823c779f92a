-- `views::viewed` meets its contract: what the arrays show, and the sets. Assumes nothing.
use mathlib.Core.Path.{ap, ◌∙◌}
use Rattle.rules.specs.Kept.{kept}
use Rattle.views.specs.Showing.{ticks_of, units_of}
use Rattle.views.proofs.Views.{of_arrays}
use Rattle.views.proofs.viewed.Goals as goal

pub returns : goal.returns
returns c b =
    let a = c.args in
    let x = c.show.ensures a.sets.now in
    of_arrays (kept a.times.now a.sets.now a.codes.now) b (x.ticks_are ∙ ap ticks_of (x.is_so b)) (x.units_are ∙ ap units_of (x.is_so b))
