-- The columns with one task more: its own lengths, and those of every other task as they were. Assumes nothing.
use mathlib.Core.Path.{◌≡◌, ap, ◌∙◌}
use mathlib.Core.Bool.{cond}
use mathlib.Core.List.{List}
use Prim.Native.Nat.{ℕ, ◌+◌, ◌<◌}
use native.Mathlib.Omega.{arith}
use borrow.Author.Tests.{eqb-true, eqb-false}
use lib.Dec.{eqb}
use lib.ListN.{length, get_or, set, length-set}
use lib.Seq.{get_or-set_same, get_or-set_other}
use Rattle.sets.proofs.Laws.{by-test}
use Rattle.table.specs.Types.{TaskParameters}
use Rattle.table.specs.Table.{copyin_length, execution_length, copyout_length, with_lengths}

-- one column, which begins at a place
module _ (columns : List ℕ) (at n v k : ℕ) (room : at + n < length columns) where
  one_more : get_or (set columns (at + n) v) (at + k) 0 ≡ cond (eqb k n) v (get_or columns (at + k) 0)
  one_more =
      by-test (eqb k n)
      (λ e. rw e (ap (λ (j : ℕ). get_or (set columns (at + n) v) (at + j) 0) (eqb-true k n e) ∙ get_or-set_same columns (at + n) v 0 room))
      (λ e. rw e (get_or-set_other columns (at + n) (at + k) v 0 (λ h. eqb-false k n e (omega arith))))

module _ (columns : List ℕ) (p : TaskParameters) (long : length columns ≡ 128) (small : p.number < 32) (k : ℕ) (task : k < 32) where
  abbrev n : ℕ
  n = p.number

  abbrev first : List ℕ
  first = set columns n p.copyin

  abbrev second : List ℕ
  second = set first (32 + n) p.execution

  pub copyin_more : copyin_length (with_lengths columns p) k ≡ cond (eqb k p.number) p.copyin (copyin_length columns k)
  unfolding with_lengths
  copyin_more =
      get_or-set_other second (64 + n) k p.copyout 0 (λ h. omega arith)
      ∙ get_or-set_other first (32 + n) k p.execution 0 (λ h. omega arith)
      ∙ by-test (eqb k n)
      (λ e. rw e (ap (λ (j : ℕ). get_or first j 0) (eqb-true k n e) ∙ get_or-set_same columns n p.copyin 0 (omega arith)))
      (λ e. rw e (get_or-set_other columns n k p.copyin 0 (eqb-false k n e)))

  pub execution_more : execution_length (with_lengths columns p) k ≡ cond (eqb k p.number) p.execution (execution_length columns k)
  unfolding with_lengths
  execution_more =
      get_or-set_other second (64 + n) (32 + k) p.copyout 0 (λ h. omega arith)
      ∙ one_more first 32 n p.execution k (omega (arith, length-set columns n p.copyin))
      ∙ ap (λ (x : ℕ). cond (eqb k n) p.execution x) (get_or-set_other columns n (32 + k) p.copyin 0 (λ h. omega arith))

  pub copyout_more : copyout_length (with_lengths columns p) k ≡ cond (eqb k p.number) p.copyout (copyout_length columns k)
  unfolding with_lengths
  copyout_more =
      one_more second 64 n p.copyout k (omega (arith, length-set first (32 + n) p.execution, length-set columns n p.copyin))
      ∙ ap (λ (x : ℕ). cond (eqb k n) p.copyout x)
      (get_or-set_other first (32 + n) (64 + k) p.execution 0 (λ h. omega arith) ∙ get_or-set_other columns n (64 + k) p.copyin 0 (λ h. omega arith))

pub columns_long : (columns : List ℕ) (p : TaskParameters) → length (with_lengths columns p) ≡ length columns
unfolding with_lengths
columns_long columns p = simp length-set
