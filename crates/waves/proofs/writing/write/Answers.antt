-- `waves::write` meets its contract: what is written, with what a viewer shows of it. Assumes nothing.
use Rattle.record.proofs.Outcomes.{in_numbers}
use Rattle.waves.proofs.Viewing.{accepted_views}
use Rattle.waves.proofs.writing.write.Goals as goal

pub returns : goal.returns
returns c =
    record {
      answered = in_numbers c.write_file.ensures;
      views = accepted_views c.args.s.now;
    }
