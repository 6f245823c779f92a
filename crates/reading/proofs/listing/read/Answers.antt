-- `reading::listing::read` meets its contract: what is read, with acceptance said for itself. Assumes nothing.
use mathlib.Core.Path.{ap}
use Rattle.record.specs.Writing.{outcome_number, outcome_value}
use Rattle.reading.proofs.Outcomes.{accepted}
use Rattle.reading.proofs.listing.read.Goals as goal

pub returns : goal.returns
returns c =
    let e = c.read_checked.ensures in
    let a = c.args in
    record {
      read = e;
      number = ap outcome_number e.outcome_is;
      value = ap outcome_value e.outcome_is;
      accepts = accepted a.tasks.now a.stored.now a.out.now e;
    }
