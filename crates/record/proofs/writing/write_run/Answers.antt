-- `record::write_run` meets its contract: the record fits, by its bound or by its length, or it does not. Assumes nothing.
use mathlib.Core.Path.{refl, sym, ap}
use mathlib.Core.Bool.{false≢true}
use native.Mathlib.Omega.{arith}
use lib.ListN.{length}
use Rattle.record.proofs.Outcomes.{fits, too_short}
use Rattle.record.proofs.writing.write_run.Goals as goal

-- the slice is as it was when only the length was counted

pub run_over-size-requires : goal.run_over-size-requires
run_over-size-requires c = let r = c.requires in record { kept = λ e. omega (arith, r.short); few = omega (arith, r.few); served = r.served }

pub returns-then-n-out : goal.returns-then-n-out
returns-then-n-out c = let e = c.run_over-size.ensures in fits _ c.args.out.now _ _ e.size_is (omega (arith, c.requires.short)) (e.holds refl)

pub run_over-needed-requires : goal.run_over-needed-requires
run_over-needed-requires c = let r = c.requires in record { kept = λ e. absurd (false≢true e); few = omega (arith, r.few); served = r.served }

pub run_over-size-requires-then-needed-out : goal.run_over-size-requires-then-needed-out
run_over-size-requires-then-needed-out c =
    let m = c.run_over-needed.ensures in
    record { kept = λ e. omega (arith, sym m.size_is, c.if-needed-out.true, ap length (m.unchanged refl)); few = omega (arith, c.requires.few); served = c.requires.served }

pub returns-then-needed-out : goal.returns-then-needed-out
returns-then-needed-out c =
    let m = c.run_over-needed.ensures in
    let e = c.run_over-size-then-needed-out.ensures in
    fits _ c.args.out.now _ _ e.size_is (omega (arith, sym m.size_is, c.if-needed-out.true, ap length (m.unchanged refl))) (rw (m.unchanged refl) at (e.holds refl))

pub returns : goal.returns
returns c =
    let m = c.run_over-needed.ensures in
    rw (m.unchanged refl) (too_short _ c.args.out.now _ m.size_is (omega (arith, sym m.size_is, c.if-needed-out.false, ap length (m.unchanged refl))))
