-- `dispatcher::mark::with_marks` meets its contract: the sets with the marks, the next ticket, and all else as it was. Assumes nothing.
use Rattle.dispatcher.specs.Dispatcher.{beside_of}
use Rattle.dispatcher.proofs.mark.with_marks.Goals as goal

pub returns : goal.returns
returns c =
    let d = c.args.d in
    (c.marked_all.ensures d.times d.codes (beside_of d), c.raised-ticket.ensures)
