-- `rules::next_due::some_due` meets its contract: by whether an interval is open, and by its units. Assumes nothing.
use borrow.Author.Tests.{eq-eqb}
use Rattle.rules.specs.Kept.{kept, registers_in}
use Rattle.rules.proofs.Ticks.{none_is_due, copyin_is_due, copyout_is_due, executing_is_due, the_processor_is_due}
use Rattle.rules.proofs.next_due.some_due.Goals as goal
use Rattle.rules.proofs.next_due.some_due.Goals.{then-copyin-eq-COPYING-via-then-copyin-eq-COPYING, then-copyin-eq-COPYING-via-else-copyin-eq-COPYING+then-codes-eq-COPYING_OUT}

pub returns-then-copyin-eq-NO_INTERVAL : goal.returns-then-copyin-eq-NO_INTERVAL
returns-then-copyin-eq-NO_INTERVAL c times sets = none_is_due (registers_in (kept times sets c.args.codes.now)) c.if-copyin-eq-NO_INTERVAL.true

pub returns-then-copyin-eq-COPYING : goal.returns-then-copyin-eq-COPYING
returns-then-copyin-eq-COPYING c times sets =
    let r = registers_in (kept times sets c.args.codes.now) in
    elim c.then-copyin-eq-COPYING.branch [
      | then-copyin-eq-COPYING-via-then-copyin-eq-COPYING w ↦ copyin_is_due r w.if-copyin-eq-COPYING.true
      | then-copyin-eq-COPYING-via-else-copyin-eq-COPYING+then-codes-eq-COPYING_OUT w ↦
          copyout_is_due r c.if-copyin-eq-NO_INTERVAL.false w.if-codes-eq-COPYING_OUT.true
    ]

pub returns-then-kind-eq-EXECUTING : goal.returns-then-kind-eq-EXECUTING
returns-then-kind-eq-EXECUTING c times sets =
    rw (eq-eqb _ _ c.if-kind-eq-EXECUTING.true) (executing_is_due (registers_in (kept times sets c.args.codes.now)) c.if-copyin-eq-NO_INTERVAL.false c.if-kind-eq-EXECUTING.true)

pub returns-else-kind-eq-EXECUTING : goal.returns-else-kind-eq-EXECUTING
returns-else-kind-eq-EXECUTING c times sets =
    the_processor_is_due (registers_in (kept times sets c.args.codes.now)) c.if-copyin-eq-NO_INTERVAL.false
    c.if-copyin-eq-COPYING.false c.if-codes-eq-COPYING_OUT.false c.if-kind-eq-EXECUTING.false
