-- `waves::put_turn` meets its contract: by whether an instant came before, and by the time. Assumes nothing.
use mathlib.Core.Path.{subst}
use borrow.Author.Tests.{eq-eqb, ne_eqb}
use Rattle.waves.specs.Dump.{change}
use Rattle.waves.specs.Printing.{Room}
use Rattle.waves.specs.Drawing.{start, turn}
use Rattle.waves.proofs.Laying.{◌then◌, first_room, next_room}
use Rattle.waves.proofs.Drawing.{adds_change, adds_start, adds_both}
use Rattle.waves.proofs.writing.put_turn.Goals as goal

pub put_change-requires : goal.put_change-requires
put_change-requires c = record { half_bound = c.requires.half_after; room = subst (λ l. Room c.args.at l c.args.out.now) (adds_change c.args.begun c.args.v (record { time = c.args.t; shown = c.args.w }) c.if-begun.true) c.requires.room }

pub returns-then-begun : goal.returns-then-begun
unfolding turn
returns-then-begun c = rw c.if-begun.true c.put_change.ensures

pub put_start-requires : goal.put_start-requires
put_start-requires c = record { half_bound = c.requires.half_after; room = subst (λ l. Room c.args.at l c.args.out.now) (adds_start c.args.begun c.args.v (record { time = c.args.t; shown = c.args.w }) c.if-begun.false c.if-t-eq0.true) c.requires.room }

pub returns-then-t-eq0 : goal.returns-then-t-eq0
unfolding turn
returns-then-t-eq0 c = rw (c.if-begun.false, eq-eqb c.args.t 0 c.if-t-eq0.true) c.put_start.ensures

pub put_start-next-requires : goal.put_start-next-requires
put_start-next-requires c =
    let e = adds_both c.args.begun c.args.v (record { time = c.args.t; shown = c.args.w }) c.if-begun.false c.if-t-eq0.false in
    record { half_bound = c.requires.half_before; room = first_room (start c.args.v) (change c.args.v (record { time = c.args.t; shown = c.args.w })) (subst (λ l. Room c.args.at l c.args.out.now) (e) c.requires.room) }

pub put_change-requires-2 : goal.put_change-requires-2
put_change-requires-2 c =
    let e = adds_both c.args.begun c.args.v (record { time = c.args.t; shown = c.args.w }) c.if-begun.false c.if-t-eq0.false in
    record { half_bound = c.requires.half_after; room = next_room (change c.args.v (record { time = c.args.t; shown = c.args.w })) c.put_start-next.ensures (subst (λ l. Room c.args.at l c.args.out.now) (e) c.requires.room) }

pub returns : goal.returns
unfolding turn
returns c =
    rw (c.if-begun.false, ne_eqb c.args.t 0 c.if-t-eq0.false)
    (c.put_start-next.ensures then c.put_change-2.ensures)
