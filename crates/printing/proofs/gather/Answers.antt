-- At the front or behind.
use Rattle.std.proofs.Common.{◌-◌, ap, arith, length, length-drop}
use borrow.Rule.Slice.PartMut.{mid_of}
use Rattle.lines.proofs.Laws.{room_fits}
use Rattle.printing.proofs.Gathering.{at_front, at_end, rest}
use Rattle.printing.proofs.gather.Goals as goal

pub returns-in-Ok-clause-kept : goal.returns-in-Ok-clause-kept
returns-in-Ok-clause-kept c = let a = c.args in at_front a.out.now a.len a.text _ (omega arith) c.put-kept.ensures.0

pub returns-in-Err-clause-kept_unprinted : goal.returns-in-Err-clause-kept_unprinted
returns-in-Err-clause-kept_unprinted c = let a = c.args in at_front a.out.now a.len a.text _ (omega arith) c.put-kept.ensures.0

pub overflow_add-result : goal.overflow_add-result
overflow_add-result c =
    let a = c.args in
    omega (arith, c.put-put.ensures.0, room_fits a.text (mid_of a.len (length a.out.now - a.len) a.out.now), ap length (rest a.out.now a.len), length-drop a.len a.out.now)

pub returns-clause-kept : goal.returns-clause-kept
returns-clause-kept c = let a = c.args in at_end a.out.now a.len _ a.text (omega arith) c.put-put.ensures.0
