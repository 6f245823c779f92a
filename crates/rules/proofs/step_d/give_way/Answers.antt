-- `rules::step_d::give_way` meets its contract: only what the engine holds gives way. Assumes nothing.
use Rattle.rules.specs.Types.{refl, sym, ◌∙◌}
use mathlib.Core.Path.{ap}
use borrow.Author.Tests.{not-true, not-false}
use lib.ListN.{get_or}
use Rattle.rules.specs.Order.{highest}
use Rattle.rules.specs.Instant.{cancel}
use Rattle.rules.specs.Registers.{state_in}
use Rattle.rules.specs.Kept.{kept, by_task, beside, registers_in, read}
use Rattle.rules.proofs.Releases.{stays, cancels}
use Rattle.rules.proofs.Kept.{as_well, given_at}
use Rattle.std.proofs.Common.{not}
use Rattle.rules.proofs.step_d.give_way.Goals as goal

pub returns-then-not-holds : goal.returns-then-not-holds
unfolding state_in
returns-then-not-holds c times columns blocked waits w =
    let a = c.args in
    let k = kept times a.sets.now a.codes.now in
    record {
      whole = w;
      state = stays (read k (beside a.priority.now columns (by_task a.release.now blocked waits))) a.taken (registers_in k) (sym c.holds.ensures ∙ not-true c.holds.result (ap not c.if-not-holds.true));
    }

pub returns-then-outranks : goal.returns-then-outranks
unfolding state_in
returns-then-outranks c times columns blocked waits w =
    let a = c.args in
    let k = kept times a.sets.now a.codes.now in
    let b = beside a.priority.now columns (by_task a.release.now blocked waits) in
    as_well (given_at b c.insert.result c.given_way.result k w c.given_way.ensures c.insert.ensures)
    (sym (cancels (read k b) a.taken (registers_in k)
    (sym c.holds.ensures ∙ not-false c.holds.result (ap not c.if-not-holds.false))
    (c.first-by.ensures ∙ ap (highest a.priority.now (λ j. get_or a.release.now j 0)) c.intersection-marked.ensures)
    (sym c.if-outranks.true ∙ c.outranks.ensures (read k b) refl)))

pub returns-else-outranks : goal.returns-else-outranks
unfolding cancel state_in
returns-else-outranks c times columns blocked waits w =
    let a = c.args in
    let k = kept times a.sets.now a.codes.now in
    let b = beside a.priority.now columns (by_task a.release.now blocked waits) in
    record {
      whole = w;
      state = sym (cancels (read k b) a.taken (registers_in k)
          (sym c.holds.ensures ∙ not-false c.holds.result (ap not c.if-not-holds.false))
          (c.first-by.ensures ∙ ap (highest a.priority.now (λ j. get_or a.release.now j 0)) c.intersection-marked.ensures)
          (sym c.if-outranks.false ∙ c.outranks.ensures (read k b) refl));
    }
