-- `rules::lent::stamp` meets its contract: the time of the last instant, and that there was one. Assumes nothing.
use Rattle.rules.proofs.Kept.{timed_at}
use Rattle.rules.specs.Kept.{kept}
use Rattle.rules.proofs.lent.stamp.Goals as goal

pub returns : goal.returns
returns c b =
    let a = c.args in
    timed_at b a.t (kept a.times.now a.sets.now a.codes.now) record { times_whole = c.told-times; sets_whole = c.told-sets; codes_whole = c.told-codes }
