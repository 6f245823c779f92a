-- `lines::Text::number` meets its contract: a number below ten is one digit, and any other is its tenth's digits and one more. The
-- measure is the number. Assumes nothing.
use Rattle.std.proofs.Common.{ap, length, length-append, arith}
use Rattle.lines.proofs.Laws.{one_digit, last_digit, more_digits, ◌then◌}
use Rattle.lines.proofs.Text.+number.Goals as goal

pub byte-requires : goal.byte-requires
byte-requires t c =
    let one = one_digit c.args.n c.if-n-lt10.true in omega (arith, c.requires, ap length one)

pub number-requires : goal.number-requires
number-requires t c =
    let more = more_digits c.args.n c.if-n-lt10.false in (omega arith, omega (arith, c.requires))

pub byte-requires-2 : goal.byte-requires-2
byte-requires-2 t c =
    let more = more_digits c.args.n c.if-n-lt10.false in omega (arith, c.requires, c.number.ensures.fits)

pub returns-then-n-lt10 : goal.returns-then-n-lt10
returns-then-n-lt10 t c = rw (one_digit c.args.n c.if-n-lt10.true) c.byte.ensures

pub returns : goal.returns
returns t c =
    let n = c.args.n in rw (last_digit n c.if-n-lt10.false, length-append) (c.number.ensures then c.byte-2.ensures)
