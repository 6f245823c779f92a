-- `reading::rebuilding::rebuild` meets its contract: by whether there is room. Assumes nothing.
use native.Mathlib.Omega.{arith}
use Rattle.reading.proofs.Laying.{input_length, no_room}
use Rattle.reading.proofs.rebuilding.rebuild.Goals as goal

pub returns-then-out-tasks : goal.returns-then-out-tasks
returns-then-out-tasks c =
    let a = c.args in
    no_room _ _ (omega (arith, input_length a.tasks.now a.keys.now))

pub returns-then-out-tasks-2 : goal.returns-then-out-tasks-2
returns-then-out-tasks-2 c =
    let a = c.args in
    no_room _ _ (omega (arith, input_length a.tasks.now a.keys.now))
