-- `run::check_releases` meets its contract: what is left to read, read from here, gives the refusal of the whole. Assumes nothing.
use mathlib.Core.Path.{refl, sym, ap, ◌∙◌}
use native.Mathlib.Omega.{arith}
use borrow.Author.Rules.{rules}
use lib.ListN.{length}
use Rattle.std.proofs.Common.{Some}
use Rattle.table.specs.Refusals.{number_found}
use Rattle.table.proofs.Laws.{fault_some}
use Rattle.run.specs.Types.{AtEntry}
use Rattle.run.proofs.Checking.{release_whole, few, at_end, malformed, task_late, spacing_late, refuses, turn, turn_on}
use Rattle.run.proofs.check.check_releases.Goals as goal
use Rattle.std.specs.Prelude.{Ok}

pub entries-init : goal.entries-init
entries-init c = let a = c.args in (search rules, record { fuel = length a.s.now; enough = omega arith; same = refl })

pub overflow_add-at : goal.overflow_add-at
overflow_add-at c =
    let s = c.args.s.now in
    omega (arith, release_whole s c.entries.at _ (sym c.entry_at.ensures ∙ c.in-Ok.is ∙ ap Ok c.in-ReleaseEntry.is))

pub entries-smaller : goal.entries-smaller
entries-smaller c =
    let s = c.args.s.now in
    omega (arith, release_whole s c.entries.at _ (sym c.entry_at.ensures ∙ c.in-Ok.is ∙ ap Ok c.in-ReleaseEntry.is))

pub entries-preserved : goal.entries-preserved
entries-preserved c =
    let a = c.args in let s = a.s.now in let v = c.entries in
    let e = sym c.release_refusal.ensures ∙ ap number_found c.in_default.is in
    let r = sym c.entry_at.ensures ∙ c.in-Ok.is ∙ ap Ok c.in-ReleaseEntry.is in
    (omega (arith, few a.present v.last v.count _ e), turn_on s v.at a.present v.last v.count _ v.invariant.1 c.if-s-at.false _ r e)

pub returns-then-s-at : goal.returns-then-s-at
returns-then-s-at c = let a = c.args in let v = c.entries in sym (at_end a.s.now v.at a.present v.last v.count v.invariant.1.fuel c.if-s-at.true) ∙ v.invariant.1.same

pub returns-in-Err : goal.returns-in-Err
returns-in-Err c =
    let a = c.args in let s = a.s.now in let v = c.entries in
    turn s v.at a.present v.last v.count _ v.invariant.1 c.if-s-at.false _
    (λ k. malformed s v.at a.present v.last v.count k c.if-s-at.false _ (sym c.entry_at.ensures ∙ c.in-Err.is) ∙ ap (λ n. Some (AtEntry n v.at)) (sym c.number.ensures))

pub returns-in-TaskEntry : goal.returns-in-TaskEntry
returns-in-TaskEntry c =
    let a = c.args in let s = a.s.now in let v = c.entries in
    turn s v.at a.present v.last v.count _ v.invariant.1 c.if-s-at.false _ (λ k. task_late s v.at a.present v.last v.count k c.if-s-at.false _ (sym c.entry_at.ensures ∙ c.in-Ok.is ∙ ap Ok c.in-TaskEntry.is))

pub returns-in-SpacingEntry : goal.returns-in-SpacingEntry
returns-in-SpacingEntry c =
    let a = c.args in let s = a.s.now in let v = c.entries in
    turn s v.at a.present v.last v.count _ v.invariant.1 c.if-s-at.false _ (λ k. spacing_late s v.at a.present v.last v.count k c.if-s-at.false _ (sym c.entry_at.ensures ∙ c.in-Ok.is ∙ ap Ok c.in-SpacingEntry.is))

pub returns-in-Err-release_refusal : goal.returns-in-Err-release_refusal
returns-in-Err-release_refusal c =
    let a = c.args in let s = a.s.now in let v = c.entries in
    let r = sym c.entry_at.ensures ∙ c.in-Ok.is ∙ ap Ok c.in-ReleaseEntry.is in
    ap Some c.at.ensures
    ∙ turn s v.at a.present v.last v.count _ v.invariant.1 c.if-s-at.false _
    (λ k. refuses s v.at a.present v.last v.count k c.if-s-at.false _ _ r (sym c.release_refusal.ensures ∙ ap number_found c.in-Err-release_refusal.is) (fault_some _))
