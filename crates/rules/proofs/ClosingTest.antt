-- An interval that is at its end is open, over the numbers. Assumes nothing.
use Rattle.std.proofs.Common.{◌≡◌}
use Rattle.rules.specs.Types.{true, Phase, Within, Registers, subst}
use mathlib.Core.Bool.{false≢true}
use lib.Dec.{eqb}
use Rattle.sets.proofs.Laws.{by-test}
use Rattle.rules.specs.Instant.{over, is_over}
use Rattle.rules.specs.Registers.{interval_in, phase_in}

pub open_in : (r : Registers) → is_over (phase_in r) ≡ true → phase_in r ≡ Within (interval_in r)
unfolding phase_in is_over
open_in r h = by-test (eqb r.copyin 6) (λ e. absurd (false≢true (rw e at h))) (λ e. rw e)

pub over_in : (r : Registers) → is_over (phase_in r) ≡ true → over (interval_in r) ≡ true
unfolding is_over
over_in r h = subst (λ (q : Phase). is_over q ≡ true) (open_in r h) h
