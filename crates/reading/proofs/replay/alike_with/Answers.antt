-- `reading::replay::alike_with` meets its contract. Assumes nothing.
use mathlib.Core.Path.{◌≡◌, refl}
use mathlib.Core.Bool.{Bool, true, false, ◌&&◌}
use borrow.Author.Tests.{eq-eqb, ne_eqb}
use Rattle.reading.proofs.replay.alike_with.Goals as goal

none : (x : Bool) → false ≡ (x && false)
none true = refl
none false = refl

all : (x : Bool) → x ≡ (x && true)
all true = refl
all false = refl

pub returns-then-x-y : goal.returns-then-x-y
returns-then-x-y c = rw (ne_eqb c.args.x c.args.y c.if-x-y.true) (none c.args.alike)

pub returns : goal.returns
returns c = rw (eq-eqb c.args.x c.args.y c.if-x-y.false) (all c.args.alike)
