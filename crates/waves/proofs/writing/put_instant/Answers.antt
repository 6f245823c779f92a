-- `waves::writing::put_instant` meets its contract: by whether there is room. Assumes nothing.
use mathlib.Core.Path.{refl}
use native.Mathlib.Omega.{arith}
use Rattle.waves.proofs.Drawing.{turn_most}
use Rattle.waves.proofs.writing.put_instant.Goals as goal

pub returns-then-out-lt-ROOM : goal.returns-then-out-lt-ROOM
returns-then-out-lt-ROOM c = record { none = λ l. (refl, refl); put = λ l. absurd (omega (arith, l, c.if-out-lt-ROOM.true)) }

pub put_turn-requires : goal.put_turn-requires
put_turn-requires c =
    let a = c.args in
    let most = turn_most a.begun c.shown_by.result a.t c.shown_by-2.result (omega arith) in
    record { half_before = c.shown_by.ensures.1; half_after = c.shown_by-2.ensures.1; room = record { fits = omega (arith, c.if-out-lt-ROOM.false, most) } }

pub returns : goal.returns
returns c =
    record {
      none = λ l. absurd (omega (arith, l, c.if-out-lt-ROOM.false));
      put = λ l. rw (← c.shown_by.ensures.0, ← c.shown_by-2.ensures.0) c.put_turn.ensures;
    }
