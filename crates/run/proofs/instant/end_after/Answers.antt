-- `run::end_after` meets its contract: the choice is made, and the interval closes, and is put, where it is at its end. Assumes nothing.
use Rattle.rules.specs.Kept.{kept, by_task, beside}
use Rattle.rules.proofs.Instants.{stays, closes, none_ends, behind}
use Rattle.run.proofs.InOrder.{put_none, put_span}
use Rattle.run.proofs.instant.end_after.Goals as goal

-- little is put before

pub returns-then-codes-eq-NO_INTERVAL : goal.returns-then-codes-eq-NO_INTERVAL
returns-then-codes-eq-NO_INTERVAL c =
    let s = c.args in
    λ waits w. put_none s.place s.out.now
    (none_ends s.t (kept s.times.now s.sets.now s.codes.now) _ w c.if-codes-eq-NO_INTERVAL.true)

pub interval_at-end-requires : goal.interval_at-end-requires
interval_at-end-requires c = c.requires

pub returns-then-is_over : goal.returns-then-is_over
returns-then-is_over c =
    let s = c.args in
    λ waits w. let o = by_task s.release.now s.blocked.now waits in
    let x = c.choose.ensures s.blocked.now waits w in
    put_span
    (behind s.t x.state (closes s.t _ (beside s.priority.now s.columns.now o)
    c.is_over.ensures c.promoted-p.result x.whole c.if-is_over.true
    c.promoted-p.ensures c.count_blocked.ensures c.interval_entry.ensures c.close.ensures))
    c.interval_at-end.ensures

pub returns : goal.returns
returns c =
    let s = c.args in
    λ waits w. let o = by_task s.release.now s.blocked.now waits in
    let x = c.choose.ensures s.blocked.now waits w in
    put_none s.place s.out.now
    (behind s.t x.state (stays s.t _ (beside s.priority.now s.columns.now o) c.is_over.ensures x.whole c.if-is_over.false))
