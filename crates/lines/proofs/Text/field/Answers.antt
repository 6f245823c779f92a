-- `lines::Text::field` meets its contract: the number has at most 20 digits. Assumes nothing.
use native.Mathlib.Omega.{arith}
use Rattle.lines.proofs.Laws.{short, at_most, ◌then◌}
use Rattle.lines.proofs.Text.field.Goals as goal

pub number-requires : goal.number-requires
number-requires c = omega (arith, short 19 c.args.n (omega arith))

pub returns : goal.returns
returns c =
    let digits = short 19 c.args.n (omega arith) in
    at_most 21 (omega arith) (c.byte.ensures then c.number.ensures)
