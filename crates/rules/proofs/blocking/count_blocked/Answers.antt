-- `rules::blocking::count_blocked` meets its contract: one more for each job that the interval blocks. Assumes nothing.
use Rattle.rules.specs.Types.{refl, sym, ap, ◌∙◌}
use lib.ListN.{get_or}
use Rattle.sets.specs.Sets.{insert}
use borrow.Author.Tests.{eq-eqb, ne_eqb, not-true}
use Rattle.rules.specs.Instant.{counted}
use Rattle.rules.specs.Registers.{state_in}
use Rattle.rules.specs.Kept.{kept, beside, registers_in, memory_in}
use Rattle.rules.proofs.Parts.{waits_loaded, waits}
use Rattle.rules.proofs.Blocked.{none_idle, none_wait, none_counted, alone_blocks}
use Rattle.std.proofs.Common.{not}
use Rattle.rules.proofs.blocking.count_blocked.Goals as goal

pub returns-then-codes-eq-IDLE : goal.returns-then-codes-eq-IDLE
returns-then-codes-eq-IDLE c times columns o h =
    let a = c.args in
    let k = kept times a.sets.now a.codes.now in
    sym (none_counted a.blocked.now) ∙ ap (λ x. counted x 0 a.blocked.now) (none_idle (memory_in k (beside a.priority.now columns o)) (registers_in k) (eq-eqb _ _ c.if-codes-eq-IDLE.true))

pub returns-then-not-outranks : goal.returns-then-not-outranks
unfolding state_in
returns-then-not-outranks c times columns o h =
    let a = c.args in
    let k = kept times a.sets.now a.codes.now in
    let m = memory_in k (beside a.priority.now columns o) in
    let low = sym (c.outranks.ensures (state_in m (registers_in k)) refl) ∙ not-true c.outranks.result (ap not c.if-not-outranks.true) in
    sym (none_counted a.blocked.now)
    ∙ ap (λ x. counted x 0 a.blocked.now)
    (alone_blocks m (registers_in k) (get_or a.codes.now 7 0) low (ne_eqb _ _ c.if-codes-eq-IDLE.false)
    (waits_loaded (get_or a.codes.now 7 0) (get_or times 5 0) (get_or a.sets.now 2 0) c.if-codes-eq-LOADED.true refl)
    (ap (insert (get_or a.codes.now 7 0)) c.if-ready-eq0.true))

pub returns-else-ready-ne0 : goal.returns-else-ready-ne0
returns-else-ready-ne0 c times columns o h =
    let a = c.args in
    let k = kept times a.sets.now a.codes.now in
    sym (none_counted a.blocked.now)
    ∙ ap (λ x. counted x 0 a.blocked.now)
    (none_wait (memory_in k (beside a.priority.now columns o)) (registers_in k)
    (waits (get_or a.codes.now 6 0) (get_or a.codes.now 7 0) (get_or times 5 0) (get_or a.sets.now 2 0) (ne_eqb _ _ c.if-codes-eq-LOADED.false)) c.if-ready-ne0.false)
