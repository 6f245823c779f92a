-- `exports_instants::gateway_completes_after_v5` meets its contract: the figure of the task, by the mark that it has. Assumes nothing.
use mathlib.Core.Path.{◌∙◌, ap}
use mathlib.Core.Bool.{Bool}
use lib.ListN.{get_or}
use Rattle.guarantees.specs.Figure.{completes_after}
use Rattle.exports_instants.proofs.gateway_completes_after_v5.Goals as goal

pub returns : goal.returns
returns c =
    let s = c.args in
    c.completes_after.ensures
    ∙ ap (λ (b : Bool). completes_after (get_or s.sets.now 4 0) s.columns.now s.task b s.h) c.contains-marked.ensures
