-- `record_lines::line_at` meets its contract. Assumes nothing.
use mathlib.Core.Path.{ap, subst, ◌∙◌}
use Prim.Native.Nat.{ℕ, ◌+◌}
use native.Mathlib.Omega.{arith}
use Rattle.entries.specs.Entries.{record_entry_size}
use Rattle.lines.specs.Text.{Prints}
use Rattle.record_lines.specs.Lines.{read_line, entry_line, entry_size}
use Rattle.record_lines.proofs.Laws.{size_fits}
use Rattle.record_lines.proofs.line_at.Goals as goal

pub overflow_add-result : goal.overflow_add-result
unfolding entry_size
overflow_add-result c =
    let f = c.record_entry_at-entry in
    let a = c.args in
    omega (arith, c.record_entry_size-size.ensures, ap record_entry_size f.ensures, size_fits a.s.now a.at)

pub returns : goal.returns
unfolding entry_line entry_size
returns c =
    let f = c.record_entry_at-entry in
    let a = c.args in record {
      prints = subst (λ x. Prints c.read_line-text.result (read_line x)) f.ensures c.read_line-text.ensures;
      next_is = ap (λ (k : ℕ). a.at + k) (c.record_entry_size-size.ensures ∙ ap record_entry_size f.ensures);
    }
