-- `rules::step_g::open_interval` meets its contract: number by number, with a copy-out or without. Assumes nothing.
use mathlib.Core.Bool.{true≢false, false≢true}
use native.Mathlib.Omega.{arith}
use Rattle.rules.specs.Kept.{kept, beside}
use Rattle.rules.proofs.Kept.{work_stays, opened_free, opened_copying}
use Rattle.rules.proofs.step_g.open_interval.Goals as goal

pub returns-then-copyout-eq-NO_COPYOUT : goal.returns-then-copyout-eq-NO_COPYOUT
returns-then-copyout-eq-NO_COPYOUT c priority o w =
    let a = c.args in
    let k = kept a.times.now a.sets.now a.codes.now in
    let m = opened_free (beside priority a.columns.now o) a.t a.taken c.swapped.result c.intersection-candidates.result k w
    (c.set_processor.ensures (work_stays c.swapped.result k w)) c.swapped.ensures c.intersection-candidates.ensures c.if-copyout-eq-NO_COPYOUT.true in
    record {
      becomes = m.becomes;
      unchosen = m.unchosen;
      is_free = λ x z. omega (arith, z, c.if-copyout-eq-NO_COPYOUT.true, m.copies);
      is_busy = λ x. absurd (true≢false x);
    }

pub returns : goal.returns
returns c priority o w =
    let a = c.args in
    let k = kept a.times.now a.sets.now a.codes.now in
    let m = opened_copying (beside priority a.columns.now o) a.t a.taken c.swapped.result c.intersection-candidates.result k w
    (c.set_processor.ensures (work_stays c.swapped.result k w)) c.swapped.ensures c.intersection-candidates.ensures
    c.later-outuntil.result c.copyout_length.result c.if-copyout-eq-NO_COPYOUT.false c.copyout_length.ensures c.later-outuntil.ensures in
    record { becomes = m.becomes; unchosen = m.unchosen; is_free = λ x. absurd (false≢true x); is_busy = λ x. m.copies }
