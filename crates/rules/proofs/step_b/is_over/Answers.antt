-- `rules::step_b::is_over` meets its contract: by whether an interval is open, and unit by unit. Assumes nothing.
use Rattle.rules.specs.Types.{sym, ◌∙◌}
use Rattle.rules.specs.Kept.{kept, registers_in}
use Rattle.rules.proofs.Fields.{none_ends, works}
use Rattle.rules.proofs.Kept.{unsettled, ends_free}
use Rattle.rules.proofs.step_b.is_over.Goals as goal
use Rattle.rules.proofs.step_b.is_over.Goals.{then-settled, else-settled}

pub returns-then-copyin-eq-NO_INTERVAL : goal.returns-then-copyin-eq-NO_INTERVAL
returns-then-copyin-eq-NO_INTERVAL c times sets = none_ends (registers_in (kept times sets c.args.codes.now)) c.if-copyin-eq-NO_INTERVAL.true

pub returns-then-resting : goal.returns-then-resting
returns-then-resting c times sets =
    let r = registers_in (kept times sets c.args.codes.now) in
    elim c.if-settled.branch [
      | then-settled w ↦
          ends_free r c.if-copyin-eq-NO_INTERVAL.false (sym (c.settled.ensures _ _) ∙ w.if-settled.true)
          (sym (w.resting.ensures _ _ _) ∙ sym w.value-is ∙ c.if-resting.true)
      | else-settled w ↦ cc
    ]

pub returns-else-resting : goal.returns-else-resting
returns-else-resting c times sets =
    let r = registers_in (kept times sets c.args.codes.now) in
    rw c.if-resting.false
    (elim c.if-settled.branch [
      | then-settled w ↦ works r c.if-copyin-eq-NO_INTERVAL.false (sym (w.resting.ensures _ _ _) ∙ sym w.value-is ∙ c.if-resting.false)
      | else-settled w ↦ unsettled r c.if-copyin-eq-NO_INTERVAL.false (sym (c.settled.ensures _ _) ∙ w.if-settled.false)
    ])
