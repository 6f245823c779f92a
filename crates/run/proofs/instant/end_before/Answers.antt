-- `run::end_before` meets its contract: the interval closes, and is put, where it is at its end. Assumes nothing.
use Rattle.rules.specs.Kept.{kept, by_task, beside}
use Rattle.rules.proofs.Instants.{stays, closes}
use Rattle.run.proofs.InOrder.{put_none, put_span}
use Rattle.run.proofs.instant.end_before.Goals as goal

pub returns-then-is_over : goal.returns-then-is_over
returns-then-is_over c =
    let s = c.args in
    λ columns waits w. put_span
    (closes s.t (kept s.times.now s.sets.now s.codes.now) (beside s.priority.now columns (by_task s.release.now s.blocked.now waits))
    c.is_over.ensures c.promoted-p.result w c.if-is_over.true
    c.promoted-p.ensures c.count_blocked.ensures c.interval_entry.ensures c.close.ensures)
    c.interval_at-end.ensures

pub returns : goal.returns
returns c =
    let s = c.args in
    λ columns waits w. put_none s.place s.out.now
    (stays s.t (kept s.times.now s.sets.now s.codes.now) (beside s.priority.now columns (by_task s.release.now s.blocked.now waits))
    c.is_over.ensures w c.if-is_over.false)
