-- `reading::collecting::collect` meets its contract: one entry after the other. Assumes nothing.
use mathlib.Core.Path.{refl, sym, ap, ◌∙◌, subst}
use Prim.Native.Nat.{ℕ}
use native.Mathlib.Omega.{arith}
use Rattle.entries.specs.Entries.{record_entry_size}
use Rattle.entries.proofs.Places.{entry_within}
use Rattle.std.proofs.Common.{Some}
use Rattle.reading.specs.Types.{AtEntry}
use Rattle.reading.specs.Parts.{told_by, fault, NotesMore, Collects}
use Rattle.reading.specs.declared.collecting.Noted.{Noted}
use Rattle.reading.proofs.Noting.{begins, ends, faulty, some_bytes, goes_on}
use Rattle.reading.proofs.collecting.collect.Goals as goal

pub loop-at-init : goal.loop-at-init
loop-at-init c = (begins _ _ _, refl)

pub returns-in_default : goal.returns-in_default
returns-in_default c =
    let v = c.loop-at in
    let a = c.args in
    subst (λ (n : ℕ). Collects a.stored.now a.before a.keys.now (record { noted = v.noted; refusal = Some (AtEntry n v.at) }) v.keys)
    (sym (c.fault_of.ensures ∙ ap fault c.in_default.is))
    (faulty v.invariant.0 v.invariant.1 c.loop-at-test.true _ (sym c.record_entry_at-entry.ensures ∙ c.in_default.is))

pub overflow_add-at : goal.overflow_add-at
overflow_add-at c =
    let v = c.loop-at in
    let entry = c.record_entry_at-entry in
    omega (arith, c.record_entry_size-at.ensures, ap record_entry_size c.in-Ok.is, ap record_entry_size entry.ensures, entry_within c.args.stored.now v.at)

pub loop-at-smaller : goal.loop-at-smaller
loop-at-smaller c =
    let v = c.loop-at in
    let entry = c.record_entry_at-entry in
    omega (arith, c.record_entry_size-at.ensures, ap record_entry_size c.in-Ok.is, some_bytes c.in-Ok.whole, ap record_entry_size entry.ensures, entry_within c.args.stored.now v.at)

pub loop-at-preserved : goal.loop-at-preserved
loop-at-preserved c =
    let v = c.loop-at in
    let told = subst (λ t. NotesMore v.noted t v.keys c.note-noted.result c.note-noted.new.keys) c.told_by.ensures c.note-noted.ensures in (
      rw c.record_entry_size-at.ensures (goes_on v.invariant.0 v.invariant.1 c.loop-at-test.true c.in-Ok.whole _ _ (sym c.record_entry_at-entry.ensures ∙ c.in-Ok.is) told),
      c.note-noted.ensures.same_length ∙ v.invariant.1,
    )

pub shape_of-keys : goal.shape_of-keys
shape_of-keys c = c.loop-at.invariant.1

pub returns : goal.returns
returns c = ends c.loop-at.invariant.0 c.loop-at.invariant.1 c.loop-at-test.false
