-- `lines::Text::byte_field` meets its contract: the number has at most 3 digits. Assumes nothing.
use native.Mathlib.Omega.{arith}
use Rattle.lines.proofs.Laws.{short, at_most, ◌then◌}
use Rattle.lines.proofs.Text.byte_field.Goals as goal

pub number-requires : goal.number-requires
number-requires c = omega (arith, short 2 c.args.n (omega arith))

pub returns : goal.returns
returns c =
    let digits = short 2 c.args.n (omega arith) in
    at_most 4 (omega arith) (c.byte.ensures then c.number.ensures)
