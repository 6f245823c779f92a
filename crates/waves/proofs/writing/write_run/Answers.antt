-- `waves::write_run` meets its contract: the dump fits, by its length, or it does not. Assumes nothing.
use mathlib.Core.Path.{refl, sym, ap}
use mathlib.Core.Bool.{false≢true}
use native.Mathlib.Omega.{arith}
use lib.ListN.{length}
use Rattle.record.proofs.Outcomes.{fits, too_short}
use Rattle.waves.proofs.writing.write_run.Goals as goal

pub draw-needed-requires : goal.draw-needed-requires
draw-needed-requires c = let r = c.requires in record { kept = λ e. absurd (false≢true e); few = omega (arith, r.few); near = omega arith; served = r.served }

pub returns-then-out-needed : goal.returns-then-out-needed
returns-then-out-needed c =
    let m = c.draw-needed.ensures in
    rw (m.unchanged refl) (too_short _ c.args.out.now _ m.size_is (omega (arith, sym m.size_is, c.if-out-needed.true, ap length (m.unchanged refl))))

pub draw-size-requires : goal.draw-size-requires
draw-size-requires c =
    let m = c.draw-needed.ensures in
    record { kept = λ e. omega (arith, sym m.size_is, c.if-out-needed.false, ap length (m.unchanged refl)); few = omega (arith, c.requires.few); near = omega arith; served = c.requires.served }

pub returns : goal.returns
returns c =
    let m = c.draw-needed.ensures in
    let e = c.draw-size.ensures in
    fits _ c.args.out.now _ _ e.size_is (omega (arith, sym m.size_is, c.if-out-needed.false, ap length (m.unchanged refl))) (rw (m.unchanged refl) at (e.holds refl))
