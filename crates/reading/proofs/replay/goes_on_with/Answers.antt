-- `reading::replay::goes_on_with` meets its contract. Assumes nothing.
use mathlib.Core.Path.{◌≡◌, sym, subst}
use mathlib.Core.Bool.{Bool}
use mathlib.Core.List.{List}
use Prim.Native.Nat.{ℕ, ◌+◌, ◌-◌}
use native.Mathlib.Omega.{arith}
use lib.ListN.{take, drop}
use lib.Seq.{length-take-le}
use Rattle.reading.specs.Parts.{Tells}
use Rattle.reading.proofs.Holding.{too_few}
use Rattle.reading.proofs.replay.goes_on_with.Goals as goal

back : (at n : ℕ) → at + n - at ≡ n
back at n = omega arith

-- the next n bytes, written as the part up to their end
held : (s : List ℕ) (at n : ℕ) (made : List ℕ) {x : Bool} → Tells x (take (at + n - at) (drop at s)) (take n made) → Tells x (take n (drop at s)) (take n made)
held s at n made {x} h = subst (λ (k : ℕ). Tells x (take k (drop at s)) (take n made)) (back at n) h

pub returns-then-stored-at : goal.returns-then-stored-at
returns-then-stored-at c = too_few c.args.stored.now c.args.at c.args.made.now c.args.n c.requires.n_in_bounds c.if-stored-at.true

pub slice_bounds-same-end-2 : goal.slice_bounds-same-end-2
slice_bounds-same-end-2 c = sym (length-take-le c.args.n c.args.made.now c.requires.n_in_bounds)

pub returns : goal.returns
returns c =
    let a = c.args in
    held a.stored.now a.at a.n a.made.now c.same.ensures
