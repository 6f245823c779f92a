-- `rules::next_due::engine_tick` meets its contract: by whether a copy-in is under way. Assumes nothing.
use native.Mathlib.Omega.{arith}
use borrow.Author.Tests.{ne_eqb}
use Rattle.rules.proofs.Ticks.{stands, no_copyin_due, both, never_sooner}
use Rattle.rules.proofs.next_due.engine_tick.Goals as goal

pub returns-then-codes-eq-COPYING : goal.returns-then-codes-eq-COPYING
returns-then-codes-eq-COPYING c = rw (c.if-codes-eq-COPYING.true, c.least.ensures) (both _ _ _ _ c.copyout_tick-due.ensures (stands _ (omega (arith, c.fits-times 5))))

pub returns : goal.returns
returns c = never_sooner _ (simp (ne_eqb _ _ c.if-codes-eq-COPYING.false, no_copyin_due)) c.copyout_tick-due.ensures
