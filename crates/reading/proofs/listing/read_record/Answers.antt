-- `reading::listing::read_record` meets its contract: by what the record's entries tell. Assumes nothing.
use mathlib.Core.Path.{sym, subst}
use Prim.Native.Nat.{ℕ, ◌+◌, ◌*◌, ◌≤◌}
use native.Mathlib.Omega.{arith}
use borrow.Author.Tests.{not-true, not-false}
use lib.ListN.{length}
use lib.Seq.{length-take-le}
use Rattle.reading.proofs.Inputs.{opens_short}
use Rattle.reading.proofs.Outcomes.{entry_refused, noted, impossible, possible, front_is, front_within, front_length}
use Rattle.reading.proofs.listing.read_record.Goals as goal

pub returns-then-not-noted : goal.returns-then-not-noted
returns-then-not-noted c =
    let h = c.collect-found.ensures in
    impossible c.args.tasks.now c.args.stored.now c.args.out.now _ h c.in_default.is c.requires.lent (not-true _ c.if-not-noted.true)

pub slice_bounds-sort-end : goal.slice_bounds-sort-end
slice_bounds-sort-end c =
    let h = c.collect-found.ensures in
    (noted c.args.tasks.now c.args.stored.now c.args.out.now _ h c.in_default.is).within

pub slice_bounds-sort-end-2 : goal.slice_bounds-sort-end-2
slice_bounds-sort-end-2 c =
    let h = c.collect-found.ensures in
    sym (length-take-le _ _ (noted c.args.tasks.now c.args.stored.now c.args.out.now _ h c.in_default.is).within)

pub slice_bounds-read_listed-end : goal.slice_bounds-read_listed-end
slice_bounds-read_listed-end c =
    let h = c.collect-found.ensures in
    let w = (noted c.args.tasks.now c.args.stored.now c.args.out.now _ h c.in_default.is).within in
    let s = c.sort in
    front_within _ _ s.new.s _ s.ensures w

pub slice_bounds-read_listed-end-2 : goal.slice_bounds-read_listed-end-2
slice_bounds-read_listed-end-2 c =
    let h = c.collect-found.ensures in
    let w = (noted c.args.tasks.now c.args.stored.now c.args.out.now _ h c.in_default.is).within in
    let s = c.sort in
    front_length _ _ s.new.s _ s.ensures w

pub read_listed-requires : goal.read_listed-requires
read_listed-requires c =
    let h = c.collect-found.ensures in
    let w = (noted c.args.tasks.now c.args.stored.now c.args.out.now _ h c.in_default.is).within in
    let s = c.sort in record {
      opened = c.requires.opened;
      keys_in_bounds = subst (λ (n : ℕ). length c.args.tasks.now + 10 * n ≤ length c.args.input.now) (front_length _ _ s.new.s _ s.ensures w)
          (omega (arith, w, h.same_length, opens_short c.args.tasks.now c.requires.lent.opens, c.requires.lent.room));
    }

pub returns : goal.returns
returns c =
    let h = c.collect-found.ensures in
    let attested = c.in_default.is in
    let w = (noted c.args.tasks.now c.args.stored.now c.args.out.now _ h attested).within in
    let s = c.sort in
    possible c.args.tasks.now c.args.stored.now c.args.out.now _ h attested s.new.s _ (not-false _ c.if-not-noted.false) s.ensures
    (front_is _ _ s.new.s _ s.ensures w) c.read_listed.ensures

pub returns-in-Some : goal.returns-in-Some
returns-in-Some c = entry_refused c.args.tasks.now c.args.stored.now c.args.out.now _ c.collect-found.ensures _ c.in-Some.is
