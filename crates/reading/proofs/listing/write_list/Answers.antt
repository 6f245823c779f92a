-- `reading::listing::write_list` meets its contract: the list fits or it does not. Assumes nothing.
use mathlib.Core.Path.{refl, sym, ap, ◌∙◌}
use mathlib.Core.List.{◌++◌}
use Prim.Native.Nat.{ℕ}
use native.Mathlib.Nat.{zero-add}
use lib.ListN.{length, drop}
use Rattle.record.proofs.Outcomes.{fits, too_short}
use Rattle.reading.proofs.listing.write_list.Goals as goal

pub returns-then-out-list : goal.returns-then-out-list
returns-then-out-list c = too_short _ _ _ refl c.if-out-list.true

pub returns : goal.returns
returns c =
    let a = c.args in
    let copy = c.copy.ensures in
    let n = length a.list.now in
    fits a.list.now a.out.now _ _ copy.count c.if-out-list.false
    (copy.after ∙ ap (λ (k : ℕ). a.list.now ++ drop k a.out.now) (sym (zero-add n)))
