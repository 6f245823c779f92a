-- `views::show` meets its contract: by whether an interval is open. Assumes nothing.
use Rattle.views.proofs.show.Goals as goal

pub returns-then-codes-eq-NO_INTERVAL : goal.returns-then-codes-eq-NO_INTERVAL
returns-then-codes-eq-NO_INTERVAL c sets =
    let x = c.show_none.ensures sets in
    record {
      view = x.view;
      is_so = λ b. x.is_so c.args.times.now b c.if-codes-eq-NO_INTERVAL.true;
      ticks_are = x.ticks_are;
      units_are = x.units_are;
    }

pub returns : goal.returns
returns c sets =
    let x = c.show_open.ensures sets in
    record {
      view = x.view;
      is_so = λ b. x.is_so b c.if-codes-eq-NO_INTERVAL.false;
      ticks_are = x.ticks_are;
      units_are = x.units_are;
    }
