-- `waves::put_byte` meets its contract. Assumes nothing.
use mathlib.Core.Path.{refl}
use native.Mathlib.Omega.{arith}
use Rattle.waves.proofs.Laying.{stored}
use Rattle.waves.proofs.printing.put_byte.Goals as goal

pub returns : goal.returns
returns c = let a = c.args in record { within = omega (arith, c.requires); place_is = refl; holds = stored a.at a.b a.out.now c.requires }
