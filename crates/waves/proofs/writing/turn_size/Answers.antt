-- `waves::turn_size` meets its contract: by whether an instant came before, and by the time. Assumes nothing.
use mathlib.Core.Path.{sym, ap, ◌∙◌}
use native.Mathlib.Omega.{arith}
use lib.ListN.{length, length-append}
use Rattle.waves.specs.Dump.{change}
use Rattle.waves.specs.Drawing.{start}
use Rattle.waves.proofs.Laying.{start_size}
use Rattle.waves.proofs.Drawing.{adds_change, adds_start, adds_both, change_most}
use Rattle.waves.proofs.writing.turn_size.Goals as goal

pub returns-then-begun : goal.returns-then-begun
returns-then-begun c = let a = c.args in c.change_size.ensures ∙ sym (ap length (adds_change a.begun a.v (record { time = a.t; shown = a.w }) c.if-begun.true))

pub returns-then-t-eq0 : goal.returns-then-t-eq0
returns-then-t-eq0 c =
    let a = c.args in
    sym (ap length (adds_start a.begun a.v (record { time = a.t; shown = a.w }) c.if-begun.false c.if-t-eq0.true) ∙ start_size a.w)

pub overflow_add-result : goal.overflow_add-result
overflow_add-result c = let a = c.args in omega (arith, c.change_size-2.ensures, change_most a.v a.t a.w (omega arith))

pub returns : goal.returns
returns c =
    let a = c.args in
    let both = adds_both a.begun a.v (record { time = a.t; shown = a.w }) c.if-begun.false c.if-t-eq0.false in
    omega (arith, c.change_size-2.ensures, ap length both, length-append (start a.v) (change a.v (record { time = a.t; shown = a.w })), start_size a.v)
