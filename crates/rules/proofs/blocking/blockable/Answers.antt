-- `rules::blocking::blockable` meets its contract: by whether the processor executed a job. Assumes nothing.
use borrow.Author.Tests.{eq-eqb, ne_eqb}
use Rattle.rules.specs.Types.{subst}
use lib.ListN.{replicate}
use Rattle.rules.specs.Steps.{BlockableIn}
use Rattle.rules.proofs.Blocked.{idled_blocks, executed_blocks, gathers, none_gathered}
use Rattle.rules.proofs.blocking.blockable.Goals as goal

pub returns-then-kind-ne-IDLE : goal.returns-then-kind-ne-IDLE
returns-then-kind-ne-IDLE c d i start until p e q t r =
    let a = c.args in
    executed_blocks d i a.kind a.n a.present start until p e q (ne_eqb _ _ c.if-kind-ne-IDLE.true) t c.ranges.present.fits r (gathers a.priority.now c.higher.result a.n a.present c.higher.ensures)

pub returns : goal.returns
returns c d i start until p e q t r =
    let a = c.args in
    subst (BlockableIn d) (none_gathered (replicate 32 0)) (idled_blocks d i a.kind a.n a.present start until p e q (eq-eqb _ _ c.if-kind-ne-IDLE.false) t c.ranges.present.fits)
