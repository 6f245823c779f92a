-- `waves::put_change` meets its contract: nothing where no value changes, or the mark and those that do. Assumes nothing.
use mathlib.Core.Path.{sym, ◌∙◌, subst}
use native.Mathlib.Omega.{arith}
use Rattle.waves.specs.Printing.{Room}
use Rattle.waves.specs.Dump.{wires, wire, mark, if_new, change, changed}
use Rattle.waves.proofs.Laying.{nothing, ◌then◌, first_room, next_room, behind_first, behind_second, change_is}
use Rattle.waves.proofs.printing.put_change.Goals as goal

pub returns-then-eq : goal.returns-then-eq
unfolding change
returns-then-eq c = rw (sym c.eq.ensures ∙ c.if-eq.true) (nothing c.args.at c.args.out.now (omega (arith, c.requires.room.fits)))

pub put_mark-a-requires : goal.put_mark-a-requires
put_mark-a-requires c =
    let e = change_is c.args.v c.args.t c.args.w (sym c.eq.ensures ∙ c.if-eq.false) in
    first_room (mark c.args.t) (changed c.args.v c.args.w) (subst (λ l. Room c.args.at l c.args.out.now) e c.requires.room)

pub put_new-b-requires : goal.put_new-b-requires
unfolding changed
put_new-b-requires c =
    let e = change_is c.args.v c.args.t c.args.w (sym c.eq.ensures ∙ c.if-eq.false) in
    first_room (if_new c.args.v.processor c.args.w.processor (wires 97 c.args.w.processor)) (behind_first c.args.v c.args.w)
    (next_room (changed c.args.v c.args.w) c.put_mark-a.ensures (subst (λ l. Room c.args.at l c.args.out.now) e c.requires.room))

pub put_new-c-requires : goal.put_new-c-requires
unfolding changed
put_new-c-requires c =
    let e = change_is c.args.v c.args.t c.args.w (sym c.eq.ensures ∙ c.if-eq.false) in
    let r = next_room (changed c.args.v c.args.w) c.put_mark-a.ensures (subst (λ l. Room c.args.at l c.args.out.now) e c.requires.room) in
    first_room (if_new c.args.v.copyin c.args.w.copyin (wires 98 c.args.w.copyin)) (behind_second c.args.v c.args.w)
    (next_room (behind_first c.args.v c.args.w) c.put_new-b.ensures r)

pub put_new-d-requires : goal.put_new-d-requires
unfolding changed
put_new-d-requires c =
    let e = change_is c.args.v c.args.t c.args.w (sym c.eq.ensures
    ∙ c.if-eq.false) in
    let r = next_room (changed c.args.v c.args.w) c.put_mark-a.ensures (subst (λ l. Room c.args.at l c.args.out.now) e c.requires.room) in
    first_room (if_new c.args.v.copyout c.args.w.copyout (wires 99 c.args.w.copyout)) (if_new c.args.v.half c.args.w.half (wire 100 c.args.w.half))
    (next_room (behind_second c.args.v c.args.w) c.put_new-c.ensures (next_room (behind_first c.args.v c.args.w) c.put_new-b.ensures r))

pub put_new_half-requires : goal.put_new_half-requires
unfolding changed
put_new_half-requires c =
    let e = change_is c.args.v c.args.t c.args.w (sym c.eq.ensures
    ∙ c.if-eq.false) in
    let r = next_room (changed c.args.v c.args.w) c.put_mark-a.ensures (subst (λ l. Room c.args.at l c.args.out.now) e c.requires.room) in record {
      bound = c.requires.half_bound;
      room = next_room (if_new c.args.v.half c.args.w.half (wire 100 c.args.w.half)) c.put_new-d.ensures
          (next_room (behind_second c.args.v c.args.w) c.put_new-c.ensures
          (next_room (behind_first c.args.v c.args.w) c.put_new-b.ensures r));
    }

pub returns : goal.returns
unfolding change changed
returns c =
    rw (sym c.eq.ensures ∙ c.if-eq.false)
    (c.put_mark-a.ensures then c.put_new-b.ensures then c.put_new-c.ensures then c.put_new-d.ensures then c.put_new_half.ensures)
