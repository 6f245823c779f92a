use Rattle.std.proofs.Common.{◌≡◌, ◌+◌, ◌^◌, ◌≤◌, ◌<◌}
use Rattle.guarantees.specs.Types.{List, ℕ}
use Rattle.table.specs.Table.{copyin_length, execution_length, copyout_length}
use Rattle.guarantees.specs.Figure.{greatest}
use Rattle.guarantees.proofs.planning.longest_interval.Given as goal

pub record Passed (columns : List ℕ) (present copyin copyout work k : ℕ) : Type 0 where
  pub copyins : copyin ≡ greatest k present (λ n. copyin_length columns n)
  pub copyouts : copyout ≡ greatest k present (λ n. copyout_length columns n)
  pub works : work ≡ greatest k present (λ n. copyin_length columns n + execution_length columns n)
  pub short_copyin : copyin < 2 ^ 32
  pub short_copyout : copyout < 2 ^ 32
  pub tasks : k ≤ 32

abbrev pub invariant-loop-k : goal.invariant-loop-k
invariant-loop-k l = Passed l.columns l.present l.copyin l.copyout l.work l.k
