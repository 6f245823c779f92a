-- `rules::step_b::promoted` meets its contract: of an interval at its end, only where none was chosen or the copy-in gave way is one promoted. Assumes nothing.
use borrow.Author.Tests.{ne_eqb}
use lib.Dec.{eqb}
use lib.ListN.{get_or}
use Rattle.sets.proofs.Laws.{by-test}
use Rattle.rules.specs.Instant.{promoted}
use Rattle.rules.specs.Registers.{interval_in, state_in}
use Rattle.rules.specs.Kept.{kept, registers_in}
use Rattle.rules.proofs.Kept.{is_settled}
use Rattle.rules.proofs.step_b.promoted.Goals as goal

pub returns-then-codes-eq-LOADED : goal.returns-then-codes-eq-LOADED
unfolding promoted interval_in state_in
returns-then-codes-eq-LOADED c times columns blocked waits h = simp c.if-codes-eq-LOADED.true

pub returns : goal.returns
unfolding promoted interval_in state_in
returns c times columns blocked waits h =
    let a = c.args in
    let k = get_or a.codes.now 6 0 in
    let s = is_settled (registers_in (kept times a.sets.now a.codes.now)) h in
    by-test (eqb k 1)
    (λ e. simp (s.0, e, c.first.ensures, c.intersection.ensures))
    (λ e. simp (s.0, s.1, ne_eqb k 3 c.if-codes-eq-LOADED.false, e, c.first.ensures, c.intersection.ensures))
