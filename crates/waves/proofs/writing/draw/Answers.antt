-- `waves::draw` meets its contract: the header, the instants, and the start where there was none. Assumes nothing.
use mathlib.Core.Path.{sym, ap, ◌∙◌, subst}
use mathlib.Core.List.{List}
use Prim.Native.Nat.{ℕ, ◌+◌, ◌≤◌}
use native.Mathlib.Omega.{arith}
use lib.ListN.{length}
use lib.Seq.{length-take-le}
use Rattle.waves.specs.Drawing.{start}
use Rattle.waves.proofs.Laying.{front, grows}
use Rattle.waves.proofs.Drawing.{start_most}
use Rattle.waves.proofs.Whole.{of_piece, header_room, space, all_drawn, start_room, start_drawn, from_start, to_start, nobody}
use Rattle.waves.proofs.writing.draw.Goals as goal

pub keep_piece-requires : goal.keep_piece-requires
keep_piece-requires c =
    let d = c.opened-d in
    let q = from_start c.args.part d.result d.ensures.0 c.requires in
    λ h. subst (λ (l : List ℕ). 0 + length l ≤ length c.args.out.now) (sym c.header-front.ensures) (header_room q h)

pub draw_instants-drawn-requires : goal.draw_instants-drawn-requires
draw_instants-drawn-requires c =
    let d = c.opened-d in
    let q = from_start c.args.part d.result d.ensures.0 c.requires in
    let x = of_piece c.header-front.ensures c.keep_piece.ensures in
    space q x

pub returns-then-drawn : goal.returns-then-drawn
returns-then-drawn c =
    let d = c.opened-d in
    let q = from_start c.args.part d.result d.ensures.0 c.requires in
    let x = of_piece c.header-front.ensures c.keep_piece.ensures in
    let g = c.draw_instants-drawn.ensures in
    to_start c.args.part d.result d.ensures.0 c.args.s.now c.args.budget (all_drawn q x g c.if-drawn.true)

pub put_start-n-requires : goal.put_start-n-requires
put_start-n-requires c = record { half_bound = omega arith; room = record { fits = omega (arith, start_most (record { processor = 255; copyin = 255; copyout = 255; half = 0 })) } }

pub slice_bounds-scratch-end : goal.slice_bounds-scratch-end
slice_bounds-scratch-end c =
    let put = c.put_start-n.ensures in
    let y = grows 61 put (start_most _) (omega arith) in
    omega (arith, y.0, y.1)

pub slice_bounds-keep_piece-end-2 : goal.slice_bounds-keep_piece-end-2
slice_bounds-keep_piece-end-2 c =
    let put = c.put_start-n.ensures in
    let y = grows 61 put (start_most _) (omega arith) in
    sym (length-take-le _ _ (omega (arith, y.0, y.1)))

pub keep_piece-requires-2 : goal.keep_piece-requires-2
keep_piece-requires-2 c =
    let d = c.opened-d in
    let q = from_start c.args.part d.result d.ensures.0 c.requires in
    let x = of_piece c.header-front.ensures c.keep_piece.ensures in
    let g = c.draw_instants-drawn.ensures in
    let put = c.put_start-n.ensures in
    λ h. omega (arith, start_room q x g c.if-drawn.false h, ap length (front put ∙ ap start (nobody c.args.part d.result d.ensures.0)))

pub overflow_add-result : goal.overflow_add-result
overflow_add-result c =
    let put = c.put_start-n.ensures in
    let y = grows 61 put (start_most _) (omega arith) in
    omega (arith, c.draw_instants-drawn.ensures.small, y.0)

pub returns : goal.returns
returns c =
    let d = c.opened-d in
    let q = from_start c.args.part d.result d.ensures.0 c.requires in
    let x = of_piece c.header-front.ensures c.keep_piece.ensures in
    let g = c.draw_instants-drawn.ensures in
    let put = c.put_start-n.ensures in
    let same = nobody c.args.part d.result d.ensures.0 in
    let z = of_piece (front put ∙ ap start same) c.keep_piece-2.ensures in
    to_start c.args.part d.result d.ensures.0 c.args.s.now c.args.budget
    (start_drawn q x g c.if-drawn.false (omega (arith, put.place_is, ap (λ v. length (start v)) same)) z)
