-- `rules::step_a::others_end` meets its contract: unit by unit, where an interval is open. Assumes nothing.
use Rattle.rules.specs.Kept.{kept, beside}
use Rattle.rules.proofs.Kept.{no_interval_ends, others_ended}
use Rattle.rules.proofs.step_a.others_end.Goals as goal

pub returns-then-kind-eq-NO_INTERVAL : goal.returns-then-kind-eq-NO_INTERVAL
returns-then-kind-eq-NO_INTERVAL c priority sets h o w =
    let a = c.args in
    no_interval_ends (beside priority a.columns.now o) a.t (kept a.times.now sets a.codes.now) w c.if-kind-eq-NO_INTERVAL.true

pub returns : goal.returns
returns c priority sets h o w =
    let a = c.args in
    others_ended priority a.columns.now o a.t (kept a.times.now sets a.codes.now) w c.if-kind-eq-NO_INTERVAL.false h c.copyin_ends.ensures c.processor_ends.ensures
