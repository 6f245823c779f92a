-- `rules::next_due::due_tick` meets its contract: by whether an interval is open, and by the processor. Assumes nothing.
use mathlib.Core.Path.{◌∙◌}
use native.Mathlib.Nat.{min_comm}
use native.Mathlib.Omega.{arith}
use borrow.Author.Tests.{eq-eqb, ne_eqb}
use Rattle.rules.specs.Instant.{due}
use Rattle.rules.specs.Registers.{interval_in, phase_in}
use Rattle.rules.proofs.Ticks.{stands, resting_due, never_stands, both, sooner_never}
use Rattle.rules.proofs.next_due.due_tick.Goals as goal
use Rattle.rules.proofs.next_due.due_tick.Goals.{then-kind-eq-EXECUTING-via-then-kind-eq-EXECUTING, then-kind-eq-EXECUTING-via-else-kind-eq-EXECUTING+then-kind-eq-COPYING_IN}

pub returns-then-codes-eq-NO_INTERVAL : goal.returns-then-codes-eq-NO_INTERVAL
unfolding due phase_in
returns-then-codes-eq-NO_INTERVAL c sets = never_stands _ (simp (eq-eqb _ _ c.if-codes-eq-NO_INTERVAL.true))

pub returns-then-kind-eq-EXECUTING : goal.returns-then-kind-eq-EXECUTING
unfolding due phase_in interval_in
returns-then-kind-eq-EXECUTING c sets =
    let until = both _ _ _ _ (stands _ (omega (arith, c.fits-times 2))) c.engine_tick-due.ensures in
    elim c.then-kind-eq-EXECUTING.branch [
      | then-kind-eq-EXECUTING-via-then-kind-eq-EXECUTING w ↦
          rw (ne_eqb _ _ c.if-codes-eq-NO_INTERVAL.false, w.if-kind-eq-EXECUTING.true, c.least.ensures ∙ min_comm _ _) until
      | then-kind-eq-EXECUTING-via-else-kind-eq-EXECUTING+then-kind-eq-COPYING_IN w ↦
          rw (ne_eqb _ _ c.if-codes-eq-NO_INTERVAL.false, w.if-kind-eq-COPYING_IN.true, c.least.ensures ∙ min_comm _ _) until
    ]

pub returns : goal.returns
unfolding due phase_in interval_in
returns c sets = rw (ne_eqb _ _ c.if-codes-eq-NO_INTERVAL.false) (sooner_never _ (simp (ne_eqb _ _ c.if-kind-eq-COPYING_IN.false, ne_eqb _ _ c.if-kind-eq-EXECUTING.false, resting_due)) c.engine_tick-due.ensures)
