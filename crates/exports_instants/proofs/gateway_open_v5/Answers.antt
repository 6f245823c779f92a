-- `exports_instants::gateway_open_v5` meets its contract: what opening answers, put where it is kept. Assumes nothing.
use mathlib.Core.Path.{ap₂}
use Rattle.rules.specs.Kept.{read}
use Rattle.exports_instants.proofs.Keeping.{opened_at, not_opened_at}
use Rattle.exports_instants.proofs.gateway_open_v5.Goals as goal

pub returns-in-Ok : goal.returns-in-Ok
returns-in-Ok c = opened_at _ _ _ _ _ _ _ _ c.open.ensures c.in-Ok.is (ap₂ read c.put_numbers.ensures c.put_tasks.ensures)

pub returns-in-Err : goal.returns-in-Err
returns-in-Err c = rw (c.number.ensures, c.place.ensures) (not_opened_at _ _ _ _ _ _ c.open.ensures c.in-Err.is)
