-- `waves::keep_piece` meets its contract: a copy behind what is laid, or nothing. Assumes nothing.
use mathlib.Core.Path.{refl, ap}
use native.Mathlib.Omega.{arith}
use lib.ListN.{length, length-drop}
use Rattle.sets.proofs.Laws.{clash}
use Rattle.words.proofs.Laws.{rest_whole}
use Rattle.waves.proofs.Laying.{copied}
use Rattle.waves.proofs.writing.keep_piece.Goals as goal

pub slice_bounds-copy-count : goal.slice_bounds-copy-count
slice_bounds-copy-count c = omega (arith, c.requires c.if-keep.true)

pub slice_bounds-copy-start : goal.slice_bounds-copy-start
slice_bounds-copy-start c = omega (arith, c.requires c.if-keep.true)

pub copy-requires : goal.copy-requires
copy-requires c = omega (arith, c.requires c.if-keep.true, ap length (rest_whole c.args.place c.args.out.now), length-drop c.args.place c.args.out.now)

pub returns-then-keep : goal.returns-then-keep
returns-then-keep c =
    let f = c.args in
    record {
      holds = λ e. copied f.piece.now f.place f.out.now _ c.copy.ensures.after;
      unchanged = λ e. clash f.keep c.if-keep.true e;
    }

pub returns-else-keep : goal.returns-else-keep
returns-else-keep c = record { holds = λ e. clash c.args.keep e c.if-keep.false; unchanged = λ e. refl }
