-- `waves::shown` meets its contract: it is of the view. Assumes nothing.
use mathlib.Core.Path.{ap, ◌∙◌}
use Rattle.rules.specs.Kept.{kept, read}
use Rattle.waves.proofs.Seeing.{of_view, as_viewed}
use Rattle.waves.proofs.writing.shown.Goals as goal

pub returns : goal.returns
returns c = λ b. let a = c.args in ap of_view (c.viewed-v.ensures b) ∙ as_viewed (read (kept a.times.now a.sets.now a.codes.now) b)
