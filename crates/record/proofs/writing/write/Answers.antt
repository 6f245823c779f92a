-- `record::write` meets its contract: what is written, with demand 3 for files. Assumes nothing.
use Rattle.record.specs.FileClaim
use Rattle.record.proofs.Outcomes.{in_numbers}
use Rattle.record.proofs.FileClaim.{demand_3_files}
use Rattle.record.proofs.writing.write.Goals as goal

pub returns : goal.returns
unfolding FileClaim.Demand3Files
returns c =
    record {
      answered = in_numbers c.write_file.ensures;
      claim = demand_3_files c.args.s.now;
    }
