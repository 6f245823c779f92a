-- `lines::put` meets its contract: the bytes shown are copied to the start of the slice. Assumes nothing.
use native.Mathlib.Omega.{arith}
use Rattle.lines.proofs.Laws.{all_copied, too_short}
use Rattle.lines.proofs.put.Goals as goal

pub returns-then-out-n : goal.returns-then-out-n
returns-then-out-n c = too_short c.args.text c.args.out.now (omega arith)

pub returns : goal.returns
returns c =
    let a = c.args in
    let s = c.shown_len-n in
    let all = all_copied a.text a.out.now s.result s.ensures.0 (omega arith) in
    (all.0, rw c.copy_from_slice.ensures.after all.1)
