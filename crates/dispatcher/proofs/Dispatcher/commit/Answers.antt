-- `dispatcher::Dispatcher::commit` meets its contract: by the ticket. Assumes nothing.
use Rattle.std.proofs.Common.{eq-eqb}
use Rattle.dispatcher.proofs.Numbered.{committed}
use Rattle.dispatcher.proofs.Dispatcher.commit.Goals as goal

pub returns : goal.returns
returns c = committed _ _ _ _ _ (eq-eqb _ _ c.if-ticket-self.false) c.instant.ensures
