-- `reading::replay::same` meets its contract: as many bytes, and one after the other the same. Assumes nothing.
use mathlib.Core.Path.{◌≡◌, ap, subst}
use mathlib.Core.Bool.{Bool, false≢true}
use mathlib.Core.List.{List}
use Prim.Native.Nat.{ℕ, ◌≤◌}
use native.Mathlib.Omega.{arith}
use lib.ListN.{length, take}
use lib.Seq.{take_all}
use Rattle.reading.specs.Parts.{Tells}
use Rattle.reading.proofs.Holding.{alike_none, alike_more}
use Rattle.reading.proofs.replay.same.Goals as goal

-- all are passed
all_alike : (a b : List ℕ) (i : ℕ) {x : Bool} → length a ≡ length b → length a ≤ i → Tells x (take i a) (take i b) → Tells x a b
all_alike a b i {x} n l h = subst (λ (s : List ℕ). Tells x s b) (take_all i a l) (subst (λ (s : List ℕ). Tells x (take i a) s) (take_all i b (omega arith)) h)

pub returns-then-a-b : goal.returns-then-a-b
returns-then-a-b c = record { same = λ e. absurd (false≢true e); shows = λ e. absurd (c.if-a-b.true (ap length e)) }

pub loop-i-init : goal.loop-i-init
loop-i-init c = (alike_none c.args.a.now c.args.b.now, omega arith, omega arith)

pub loop-i-preserved : goal.loop-i-preserved
loop-i-preserved c =
    let v = c.loop-i in
    (alike_more c.args.a.now c.args.b.now v.i v.alike _ c.loop-i-test.true v.invariant.2 v.invariant.0 c.alike_with-alike.ensures, omega (arith, c.loop-i-test.true), v.invariant.2)

pub returns : goal.returns
returns c =
    let v = c.loop-i in
    all_alike c.args.a.now c.args.b.now v.i v.invariant.2 (omega arith) v.invariant.0
