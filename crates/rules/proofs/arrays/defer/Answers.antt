-- `rules::arrays::defer` meets its contract: the tasks passed have the time. Assumes nothing.
use mathlib.Core.Path.{refl, ◌∙◌}
use native.Mathlib.Omega.{arith}
use Rattle.rules.proofs.Members.{onward, ended}
use Rattle.rules.proofs.ByTask.{store, store_end, is_stamped}
use Rattle.rules.proofs.arrays.defer.Goals as goal

pub bounds-waits-from : goal.bounds-waits-from
bounds-waits-from c =
    let t = onward c.loop-n.n-iterator.left c.in-Some.n c.next.new.self.left c.loop-n.invariant.members c.in-Some.ensures.steps in
    omega (arith, t.task, c.from.ensures)

pub loop-n-preserved : goal.loop-n-preserved
loop-n-preserved c =
    let t = onward c.loop-n.n-iterator.left c.in-Some.n c.next.new.self.left c.loop-n.invariant.members c.in-Some.ensures.steps in
    rw c.from.ensures (store t c.loop-n.invariant refl)

pub returns : goal.returns
returns c =
    let s = c.args in
    store_end c.loop-n.invariant (ended c.loop-n.n-iterator.left c.loop-n.invariant.members c.in-None.ensures.steps.0.0) ∙ is_stamped s.set (λ k. s.t) 0 s.waits.now
