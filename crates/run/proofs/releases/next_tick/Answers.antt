-- `run::next_tick` meets its contract: by what its callees give. Assumes nothing.
use Rattle.rules.proofs.Ticks.{both}
use Rattle.run.proofs.releases.next_tick.Goals as goal

pub returns : goal.returns
returns c = λ sets. rw c.least.ensures (both _ _ _ _ c.first_tick.ensures (c.due_tick.ensures sets))
