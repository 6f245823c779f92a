-- `exports_waves::gateway_waveform` meets its contract: what `waves::write` answers, as two numbers. Assumes nothing.
use mathlib.Core.Path.{◌∙◌}
use Rattle.exports_waves.proofs.gateway_waveform.Goals as goal

pub returns : goal.returns
returns c =
    let write = c.write-outcome.ensures in
    let answered = write.answered in
    record {
      value = c.number_of.ensures ∙ answered.number;
      value_after = c.value_of.ensures ∙ answered.value;
      out_after = answered.wrote.holds;
      accepted_views = write.views;
    }
