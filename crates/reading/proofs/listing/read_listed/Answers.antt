-- `reading::listing::read_listed` meets its contract: by whether the list's run has this record. Assumes nothing.
use mathlib.Core.Path.{sym, ◌∙◌, subst}
use mathlib.Core.List.{List}
use Prim.Native.Nat.{ℕ}
use native.Mathlib.Omega.{arith}
use lib.Seq.{length-take-le}
use Rattle.reading.specs.Parts.{ReadHead, releases_in}
use Rattle.reading.proofs.Inputs.{read_head}
use Rattle.reading.proofs.Laying.{input_length, in_room}
use Rattle.reading.proofs.Outcomes.{listed_part, not_listed_part}
use Rattle.reading.proofs.listing.read_listed.Goals as goal

pub slice_bounds-yields-end : goal.slice_bounds-yields-end
slice_bounds-yields-end c =
    let r = in_room c.args.tasks.now c.args.keys.now c.args.input.now c.requires.keys_in_bounds c.lay_input-end.ensures in
    let size = r.size_is ∙ input_length c.args.tasks.now c.args.keys.now in
    omega (arith, size, r.same_length, c.requires.keys_in_bounds)

pub slice_bounds-yields-end-2 : goal.slice_bounds-yields-end-2
slice_bounds-yields-end-2 c =
    let r = in_room c.args.tasks.now c.args.keys.now c.args.input.now c.requires.keys_in_bounds c.lay_input-end.ensures in
    let size = r.size_is ∙ input_length c.args.tasks.now c.args.keys.now in
    sym (length-take-le _ _ (omega (arith, size, r.same_length, c.requires.keys_in_bounds)))

pub yields-requires : goal.yields-requires
yields-requires c =
    let r = in_room c.args.tasks.now c.args.keys.now c.args.input.now c.requires.keys_in_bounds c.lay_input-end.ensures in
    subst (λ (s : List ℕ). ReadHead s c.args.head) (sym r.holds) (read_head c.args.tasks.now (releases_in c.args.keys.now) c.args.head c.requires.opened)

pub slice_bounds-write_list-count : goal.slice_bounds-write_list-count
slice_bounds-write_list-count c =
    let r = in_room c.args.tasks.now c.args.keys.now c.args.input.now c.requires.keys_in_bounds c.lay_input-end.ensures in
    let size = r.size_is ∙ input_length c.args.tasks.now c.args.keys.now in
    omega (arith, size)

pub slice_bounds-write_list-start : goal.slice_bounds-write_list-start
slice_bounds-write_list-start c =
    let r = in_room c.args.tasks.now c.args.keys.now c.args.input.now c.requires.keys_in_bounds c.lay_input-end.ensures in
    let size = r.size_is ∙ input_length c.args.tasks.now c.args.keys.now in
    omega (arith, size)

pub slice_bounds-write_list-end : goal.slice_bounds-write_list-end
slice_bounds-write_list-end c =
    let r = in_room c.args.tasks.now c.args.keys.now c.args.input.now c.requires.keys_in_bounds c.lay_input-end.ensures in
    let size = r.size_is ∙ input_length c.args.tasks.now c.args.keys.now in
    omega (arith, size, r.same_length, c.requires.keys_in_bounds)

pub returns-then-yields : goal.returns-then-yields
returns-then-yields c =
    let a = c.args in
    let r = in_room a.tasks.now a.keys.now a.input.now c.requires.keys_in_bounds c.lay_input-end.ensures in
    listed_part a.tasks.now a.keys.now a.stored.now a.out.now r (sym c.yields.ensures ∙ c.if-yields.true) c.write_list.ensures

pub returns : goal.returns
returns c =
    let a = c.args in
    let r = in_room a.tasks.now a.keys.now a.input.now c.requires.keys_in_bounds c.lay_input-end.ensures in
    not_listed_part a.tasks.now a.keys.now a.stored.now a.out.now r (sym c.yields.ensures ∙ c.if-yields.false)
