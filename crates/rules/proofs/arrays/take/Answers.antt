-- `rules::arrays::take` meets its contract: the tasks passed have their original times, and 0 as their count. Assumes nothing.
use mathlib.Core.Path.{refl, ◌∙◌}
use native.Mathlib.Omega.{arith}
use Rattle.rules.specs.Instant.{original}
use Rattle.rules.specs.Registers.{waits as waiting-releases}
use Rattle.rules.proofs.Members.{onward, ended}
use Rattle.rules.proofs.ByTask.{store_start, store, store_end, is_stamped}
use Rattle.rules.proofs.arrays.take.Goals as goal

pub loop-n-init : goal.loop-n-init
loop-n-init c =
    rw (c.into_iter-n-iterator.ensures.into_iter_gives, c.members-n-items.ensures) (store_start c.ranges.set.fits, store_start c.ranges.set.fits)

pub offset_bounds-times-i : goal.offset_bounds-times-i
offset_bounds-times-i c =
    let t = onward c.loop-n.n-iterator.left c.in-Some.n c.next.new.self.left c.loop-n.invariant.0.members c.in-Some.ensures.steps in
    omega (arith, t.task, c.from-i.ensures)

pub bounds-times-i : goal.bounds-times-i
bounds-times-i c =
    let t = onward c.loop-n.n-iterator.left c.in-Some.n c.next.new.self.left c.loop-n.invariant.0.members c.in-Some.ensures.steps in
    omega (arith, t.task, c.from-i.ensures)

pub bounds-counts-i : goal.bounds-counts-i
bounds-counts-i c =
    let t = onward c.loop-n.n-iterator.left c.in-Some.n c.next.new.self.left c.loop-n.invariant.0.members c.in-Some.ensures.steps in
    omega (arith, t.task, c.from-i.ensures)

pub loop-n-preserved : goal.loop-n-preserved
loop-n-preserved c =
    let w = c.loop-n.invariant in
    let t = onward c.loop-n.n-iterator.left c.in-Some.n c.next.new.self.left w.0.members c.in-Some.ensures.steps in
    rw c.from-i.ensures (store t w.0 c.original.ensures, store t w.1 refl)

pub returns : goal.returns
returns c =
    let s = c.args in
    let w = c.loop-n.invariant in
    let z = ended c.loop-n.n-iterator.left w.0.members c.in-None.ensures.steps.0.0 in
    record {
      times_after = store_end w.0 z ∙ is_stamped s.set (original (waiting-releases s.waiting s.waits.now 0) s.t) 0 s.times.now;
      counts_after = store_end w.1 z ∙ is_stamped s.set (λ k. 0) 0 s.counts.now;
    }
