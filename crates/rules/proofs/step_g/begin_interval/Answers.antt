-- `rules::step_g::begin_interval` meets its contract: an interval begins where none is open and one is wanted, and the choice is made where the
-- engine is free. Assumes nothing.
use Rattle.rules.specs.Types.{sym, ◌∙◌}
use lib.ListN.{get_or}
use borrow.Author.Tests.{not-true, not-false}
use Rattle.rules.specs.Kept.{kept, by_task, beside}
use Rattle.rules.proofs.Kept.{both, chosen_later, in_interval, not_begun, begun_now}
use Rattle.std.proofs.Common.{ap, not}
use Rattle.rules.proofs.step_g.begin_interval.Goals as goal

pub returns-then-codes-ne-NO_INTERVAL : goal.returns-then-codes-ne-NO_INTERVAL
returns-then-codes-ne-NO_INTERVAL c blocked waits w =
    let a = c.args in
    in_interval (beside a.priority.now a.columns.now (by_task a.release.now blocked waits)) a.t a.taken (kept a.times.now a.sets.now a.codes.now) w c.if-codes-ne-NO_INTERVAL.true

pub returns-then-not-is_wanted : goal.returns-then-not-is_wanted
returns-then-not-is_wanted c blocked waits w =
    let a = c.args in
    not_begun (beside a.priority.now a.columns.now (by_task a.release.now blocked waits)) a.t a.taken (kept a.times.now a.sets.now a.codes.now) w c.if-codes-ne-NO_INTERVAL.false
    (sym (not-true c.is_wanted.result (ap not c.if-not-is_wanted.true)) ∙ c.is_wanted.ensures (get_or a.times.now 3 0))

pub returns-then-open_interval : goal.returns-then-open_interval
returns-then-open_interval c blocked waits w =
    let a = c.args in
    let o = by_task a.release.now blocked waits in
    let m = c.open_interval.ensures a.priority.now o w in
    begun_now (beside a.priority.now a.columns.now o) a.t a.taken (kept a.times.now a.sets.now a.codes.now) _ c.if-codes-ne-NO_INTERVAL.false
    (sym (not-false c.is_wanted.result (ap not c.if-not-is_wanted.false)) ∙ c.is_wanted.ensures (get_or a.times.now 3 0))
    (both m.becomes (c.make_choice.ensures a.priority.now a.release.now c.first-n.ensures m.unchosen (m.is_free c.if-open_interval.true) blocked waits m.becomes.whole))

pub returns-else-open_interval : goal.returns-else-open_interval
returns-else-open_interval c blocked waits w =
    let a = c.args in
    let b = beside a.priority.now a.columns.now (by_task a.release.now blocked waits) in
    let m = c.open_interval.ensures a.priority.now (by_task a.release.now blocked waits) w in
    begun_now b a.t a.taken (kept a.times.now a.sets.now a.codes.now) _ c.if-codes-ne-NO_INTERVAL.false
    (sym (not-false c.is_wanted.result (ap not c.if-not-is_wanted.false)) ∙ c.is_wanted.ensures (get_or a.times.now 3 0))
    (both m.becomes (chosen_later b a.t _ m.becomes.whole m.unchosen (m.is_busy c.if-open_interval.false)))
