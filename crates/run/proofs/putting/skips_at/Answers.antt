-- `run::skips_at` meets its contract: the skipped releases of the tasks passed are put. Assumes nothing.
use mathlib.Core.Path.{refl}
use native.Mathlib.Omega.{arith}
use Rattle.sets.specs.Sets.{lowest}
use Rattle.sets.proofs.Laws.{lowest_none, lowest_most}
use Rattle.rules.proofs.Members.{start, onward, ended}
use Rattle.run.proofs.Slices.{none, both, skips_none, skips_turn, skips_most}
use borrow.Author.Rules.{rules}
use Rattle.run.proofs.putting.skips_at.Goals as goal

-- there are 32 tasks, so that the place stays small

pub loop-n-init : goal.loop-n-init
loop-n-init c =
    let a = c.args in
    rw (c.into_iter-n-iterator.ensures.into_iter_gives, c.members-n-items.ensures)
    (start c.ranges.set.fits, rw (skips_none a.set a.time) (none a.start a.out.now), refl)

pub skipped_at-at-requires : goal.skipped_at-at-requires
skipped_at-at-requires c =
    let v = c.loop-n in
    omega (arith, c.requires, v.invariant.1.place_is, skips_most (lowest v.n-iterator.left) c.args.set c.args.time, lowest_most v.n-iterator.left)

pub loop-n-preserved : goal.loop-n-preserved
loop-n-preserved c =
    let a = c.args in let v = c.loop-n in
    let x = onward v.n-iterator.left c.in-Some.n c.next.new.self.left v.invariant.0 c.in-Some.ensures.steps in
    let y = c.skipped_at-at.ensures in (
      x.next,
      rw (skips_turn a.set v.n-iterator.left _ _ a.time x) (both a.start _ _ a.out.now v.at v.out _ _ v.invariant.1 y),
      search rules,
    )

pub shape_of-out : goal.shape_of-out
shape_of-out c = c.loop-n.invariant.2

pub returns : goal.returns
returns c =
    let v = c.loop-n in
    rw (ended v.n-iterator.left v.invariant.0 c.in-None.ensures.steps.0.0, lowest_none) at v.invariant.1
