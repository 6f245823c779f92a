-- `exports_reading::gateway_read` meets its contract: what `reading::read` answers, as two numbers. Assumes nothing.
use mathlib.Core.Path.{◌≡◌, ◌∙◌, ap, subst}
use mathlib.Core.List.{List}
use Prim.Native.Nat.{ℕ}
use Rattle.record.specs.Types.{Outcome}
use Rattle.reading.specs.Acceptance.{Accepts}
use Rattle.record.specs.Writing.{outcome_number, outcome_value}
use Rattle.exports_reading.proofs.gateway_read.Goals as goal

as_read : {tasks stored before after : List ℕ} {o p : Outcome} → o ≡ p → Accepts tasks stored before o after → Accepts tasks stored before p after
as_read {tasks = tasks} {stored = stored} {before = before} {after = after} e h = subst (λ (x : Outcome). Accepts tasks stored before x after) e h

pub returns : goal.returns
returns c =
    let read = c.read-outcome.ensures in
    let wrote = read.read in record {
      value = c.number_of.ensures ∙ ap outcome_number wrote.outcome_is;
      value_after = c.value_of.ensures ∙ ap outcome_value wrote.outcome_is;
      out_after = wrote.holds;
      accepts = as_read wrote.outcome_is read.accepts;
    }
