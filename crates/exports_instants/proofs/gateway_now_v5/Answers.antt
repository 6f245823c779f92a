-- `exports_instants::gateway_now_v5` meets its contract: number by number. Assumes nothing.
use mathlib.Core.Path.{ap, ◌∙◌}
use mathlib.Core.List.{[], ◌∷◌}
use Rattle.rules.specs.declared.View.{View}
use Rattle.views.specs.Showing.{ticks_of, units_of}
use Rattle.exports_instants.proofs.gateway_now_v5.Goals as goal

pub returns : goal.returns
returns c b =
    let x = c.show.ensures c.args.sets.now in
    record {
      ticks_are = x.ticks_are ∙ ap ticks_of (x.is_so b);
      tasks_are = ap (λ (v : View). v.pending ∷ v.waiting ∷ v.marked ∷ []) (c.viewed-sets_of.ensures b);
      units_are = x.units_are ∙ ap units_of (x.is_so b);
    }
