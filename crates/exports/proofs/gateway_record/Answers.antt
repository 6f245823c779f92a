-- `exports::gateway_record` meets its contract: what `record::write` answers, as two numbers. Assumes nothing.
use mathlib.Core.Path.{◌∙◌}
use Rattle.exports.proofs.gateway_record.Goals as goal

pub returns : goal.returns
returns c =
    let write = c.write-outcome.ensures in
    let answered = write.answered in
    record {
      value = c.number_of.ensures ∙ answered.number;
      value_after = c.value_of.ensures ∙ answered.value;
      out_after = answered.wrote.holds;
      accepted_with_claim = write.claim;
    }
