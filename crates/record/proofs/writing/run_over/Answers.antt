-- `record::run_over` meets its contract: a piece in the slice itself where the record is kept, and then the rest. Assumes nothing.
use native.Mathlib.Omega.{arith}
use Rattle.record.proofs.Running.{opened_room, from_start, ran_from_start, behind_first, ran_behind, within}
use Rattle.record.proofs.writing.run_over.Goals as goal

pub overflow_add-read : goal.overflow_add-read
overflow_add-read c =
    let k = c.args.head in let d = c.opened-state in
    omega (arith, within c.args.s.now k.end d.result c.next_piece-x.ensures (opened_room k d.result d.ensures.0 c.requires).served)

pub go_on-requires : goal.go_on-requires
go_on-requires c = let d = c.opened-state in behind_first c.args.head d.result d.ensures.0 c.requires c.next_piece-x.ensures

pub returns-then-keep : goal.returns-then-keep
returns-then-keep c =
    let d = c.opened-state in
    ran_behind c.args.head d.result d.ensures.0 c.requires c.next_piece-x.ensures c.if-keep.true c.go_on.ensures

pub go_on-requires-2 : goal.go_on-requires-2
go_on-requires-2 c = let d = c.opened-state in from_start c.args.head d.result d.ensures.0 c.requires

pub returns : goal.returns
returns c = let d = c.opened-state in ran_from_start c.args.head d.result d.ensures.0 c.requires c.go_on-2.ensures
