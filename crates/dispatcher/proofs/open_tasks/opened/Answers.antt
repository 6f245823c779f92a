-- `dispatcher::open_tasks::opened` meets its contract: number by number. Assumes nothing.
use Rattle.std.proofs.Common.{refl}
use Rattle.rules.specs.Registers.{interval_in, phase_in, state_in}
use Rattle.rules.specs.Calls.{opened}
use Rattle.dispatcher.proofs.open_tasks.opened.Goals as goal

pub returns : goal.returns
unfolding state_in phase_in interval_in opened
returns c = (refl, refl)
