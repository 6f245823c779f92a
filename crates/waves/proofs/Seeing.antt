-- What a driver's view has, a dump shows. Assumes nothing.
use mathlib.Core.Path.{◌≡◌, refl, ap}
use Prim.Native.Nat.{ℕ, ◌≤◌}
use native.Mathlib.Omega.{arith}
use lib.Dec.{eqb}
use Rattle.sets.proofs.Laws.{by-test}
use Rattle.table.specs.declared.Table.{Table}
use Rattle.rules.specs.Types.{Phase, Between, Within, State}
use Rattle.rules.specs.declared.View.{View}
use Rattle.rules.specs.View.{shown_half, values_in, viewed_in, viewed}
use Rattle.rules.specs.Calls.{opened}
use Rattle.waves.specs.Types.{Shown}
use Rattle.waves.specs.Samples.{shown_of, seen}

abbrev pub of_view : View → Shown
of_view v = record { processor = v.processor; copyin = v.copyin; copyout = v.copyout; half = v.half }

half_so : (p : Phase) (half : ℕ) → (values_in p half).half ≡ shown_half half
half_so (Between next outgoing) half = refl
half_so (Within i) half = refl

in_phase : (d : State) (p : Phase) → of_view (viewed_in d p) ≡ shown_of (values_in p d.half)
in_phase d (Between next outgoing) = ap (λ (h : ℕ). record { processor = 255; copyin = 255; copyout = 255; half = h }) (half_so d.phase d.half)
in_phase d (Within i) = refl

pub as_viewed : (d : State) → of_view (viewed d) ≡ seen d
unfolding viewed
as_viewed d = in_phase d d.phase

-- the half is 0 or 1
pub small_half : (d : State) → (seen d).half ≤ 1
small_half d = rw (half_so d.phase d.half) (by-test (eqb d.half 1) (λ e. rw e (omega arith)) (λ e. rw e (omega arith)))

-- before the first instant nobody shows
pub at_opening : (table : Table) (marked : ℕ) → record { processor = 255; copyin = 255; copyout = 255; half = 0 } ≡ seen (opened table marked)
unfolding opened
at_opening table marked = refl
