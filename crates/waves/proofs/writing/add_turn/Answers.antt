-- `waves::add_turn` meets its contract: what an instant adds is put, or counted. Assumes nothing.
use mathlib.Core.Path.{refl, ap}
use native.Mathlib.Omega.{arith}
use Prim.Native.Nat.{◌+◌}
use Rattle.sets.proofs.Laws.{clash}
use Rattle.waves.proofs.Drawing.{turn_most}
use Rattle.waves.proofs.writing.add_turn.Goals as goal

pub put_turn-requires : goal.put_turn-requires
put_turn-requires c = record { half_before = c.requires.half_before; half_after = c.requires.half_after; room = record { fits = c.requires.room_at c.if-keep.true } }

pub returns-then-keep : goal.returns-then-keep
returns-then-keep c =
    let put = c.put_turn.ensures in
    let keep = c.args.keep in
    record { value = put.place_is; kept_at = record { holds = λ e. put.holds; unchanged = λ e. clash keep c.if-keep.true e } }

pub overflow_add-result : goal.overflow_add-result
overflow_add-result c =
    let a = c.args in
    omega (arith, c.turn_size.ensures, c.requires.at_bound, turn_most a.begun a.v a.t a.w (omega arith))

pub returns : goal.returns
returns c =
    let a = c.args in
    record { value = ap (λ n. a.at + n) c.turn_size.ensures; kept_at = record { holds = λ e. clash a.keep e c.if-keep.false; unchanged = λ e. refl } }
