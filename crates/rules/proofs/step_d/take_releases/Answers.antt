-- `rules::step_d::take_releases` meets its contract: steps c and d, one behind the other, and with no release they change nothing. Assumes nothing.
use Rattle.rules.specs.Types.{sym, ◌∙◌}
use borrow.Author.Rules.{rules}
use Rattle.rules.specs.Instant.{steps_c_d}
use Rattle.rules.specs.Kept.{kept, beside, by_task, registers_in, memory_in}
use Rattle.rules.proofs.Releases.{union_empty, none_released}
use Rattle.rules.proofs.Kept.{both, releases_taken}
use Rattle.rules.proofs.step_d.take_releases.Goals as goal

pub returns-then-union-eq0 : goal.returns-then-union-eq0
returns-then-union-eq0 c times columns w =
    let a = c.args in
    let z = union_empty a.r.taken a.r.deferred (search rules) (search rules) (sym c.union.ensures ∙ c.if-union-eq0.true) in
    let k = kept times a.sets.now a.codes.now in
    let fits = c.fits-sets in
    record {
      whole = w;
      state = none_released (memory_in k (beside a.priority.now columns (by_task a.release.now a.blocked.now a.waits.now))) (registers_in k) a.t a.r.taken a.r.deferred
          (fits 1) (fits 2) (fits 3) (fits 5) (fits 7) z.0 z.1;
    }

pub returns : goal.returns
unfolding steps_c_d
returns c times columns w =
    let a = c.args in
    let m = releases_taken a.priority.now columns (by_task a.release.now a.blocked.now a.waits.now) _ a.t a.r.taken a.r.deferred
    c.difference.result c.union-2.result c.union-3.result c.union-4.result c.union-5.result c.intersection.result c.union-6.result
    (kept times a.sets.now a.codes.now) w c.difference.ensures c.union-2.ensures c.union-3.ensures c.union-4.ensures c.union-5.ensures c.intersection.ensures c.union-6.ensures
    c.take.ensures.times_after c.take.ensures.counts_after c.defer.ensures in
    both m (c.give_way.ensures times columns _ _ m.whole)
