-- `reading::rebuilding::lay_input` meets its contract: the task entries, and the list behind them. Assumes nothing.
use Rattle.reading.proofs.Laying.{rebuilt_from}
use Rattle.reading.proofs.rebuilding.lay_input.Goals as goal

pub returns : goal.returns
returns c =
    let a = c.args in
    let copy = c.copy-from in
    rebuilt_from a.tasks.now a.keys.now a.out.now c.requires copy.result copy.ensures.count copy.new.to c.lay.new.out copy.ensures.after c.lay.ensures
