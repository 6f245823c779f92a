-- `dispatcher::Dispatcher::enquire` meets its contract: the instant of a copy, and the ticket. Assumes nothing.
use Rattle.dispatcher.proofs.Numbered.{enquired}
use Rattle.dispatcher.proofs.Dispatcher.enquire.Goals as goal

pub returns : goal.returns
returns c = enquired _ _ _ _ c.instant-step.ensures
