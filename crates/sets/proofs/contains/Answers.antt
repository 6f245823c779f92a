-- `sets::contains` meets its contract: `& 1` is the remainder by 2, and a mask has no bit past its 32. Assumes nothing.
use mathlib.Core.Path.{sym}
use Rattle.sets.proofs.Laws.{none_past}
use Rattle.sets.proofs.Masks.{is_member}
use Rattle.sets.proofs.contains.Goals as goal

pub returns-then-n-lt32 : goal.returns-then-n-lt32
returns-then-n-lt32 c = is_member c.args.n c.args.set

pub returns-else-n-lt32 : goal.returns-else-n-lt32
returns-else-n-lt32 c = sym (none_past 32 c.args.n c.args.set c.if-n-lt32.false c.ranges.set.fits)
