-- `record::keep_piece` meets its contract: a copy behind what is laid, or nothing. Assumes nothing.
use mathlib.Core.Path.{refl, ap, ◌∙◌}
use mathlib.Core.List.{List, ◌++◌}
use native.Mathlib.Omega.{arith}
use Prim.Native.Nat.{ℕ}
use lib.ListN.{length, take, drop, length-drop}
use lib.Seq.{drop-drop}
use Rattle.sets.proofs.Laws.{clash}
use Rattle.words.proofs.Laws.{lent, rest_whole}
use Rattle.record.proofs.writing.keep_piece.Goals as goal

pub slice_bounds-copy-count : goal.slice_bounds-copy-count
slice_bounds-copy-count c = omega (arith, c.requires c.if-keep.true)

pub slice_bounds-copy-start : goal.slice_bounds-copy-start
slice_bounds-copy-start c = omega (arith, c.requires c.if-keep.true)

pub copy-requires : goal.copy-requires
copy-requires c = omega (arith, c.requires c.if-keep.true, ap length (rest_whole c.args.place c.args.out.now), length-drop c.args.place c.args.out.now)

pub returns-then-keep : goal.returns-then-keep
returns-then-keep c =
    let f = c.args in
    let n = length f.piece.now in
    record {
      holds = λ e.
          lent (λ (x : List ℕ). f.piece.now ++ drop n x) f.place f.out.now _
          c.copy.ensures.after
          ∙ ap (λ (x : List ℕ). take f.place f.out.now ++ (f.piece.now ++ x)) (drop-drop n f.place f.out.now);
      unchanged = λ e. clash f.keep c.if-keep.true e;
    }

pub returns-else-keep : goal.returns-else-keep
returns-else-keep c = record { holds = λ e. clash c.args.keep e c.if-keep.false; unchanged = λ e. refl }
