-- `run::release_refusal` meets its contract: by the tests on the way to each answer. Assumes nothing.
use borrow.Author.Tests.{lt-ltb, le-ltb, le-leb, lt-leb}
use Rattle.run.specs.Files.{release_refusal}
use Rattle.std.proofs.Common.{ap, not}
use Rattle.run.proofs.check.release_refusal.Goals as goal

pub returns-then-not-contains : goal.returns-then-not-contains
unfolding release_refusal
returns-then-not-contains c = simp (← c.contains.ensures, (ap not c.if-not-contains.true))

pub returns-then-r-gt-LAST_RELEASE : goal.returns-then-r-gt-LAST_RELEASE
unfolding release_refusal
returns-then-r-gt-LAST_RELEASE c = simp (← c.contains.ensures, (ap not c.if-not-contains.false), lt-ltb _ _ c.if-r-gt-LAST_RELEASE.true)

pub returns-then-not-rises : goal.returns-then-not-rises
unfolding release_refusal
returns-then-not-rises c = simp (← c.contains.ensures, (ap not c.if-not-contains.false), le-ltb _ _ c.if-r-gt-LAST_RELEASE.false, ← c.rises.ensures, (ap not c.if-not-rises.true))

pub returns-then-count-ge-RELEASES : goal.returns-then-count-ge-RELEASES
unfolding release_refusal
returns-then-count-ge-RELEASES c = simp (← c.contains.ensures, (ap not c.if-not-contains.false), le-ltb _ _ c.if-r-gt-LAST_RELEASE.false, ← c.rises.ensures, (ap not c.if-not-rises.false), le-leb _ _ c.if-count-ge-RELEASES.true)

pub returns : goal.returns
unfolding release_refusal
returns c = simp (← c.contains.ensures, (ap not c.if-not-contains.false), le-ltb _ _ c.if-r-gt-LAST_RELEASE.false, ← c.rises.ensures, (ap not c.if-not-rises.false), lt-leb _ _ c.if-count-ge-RELEASES.false)
