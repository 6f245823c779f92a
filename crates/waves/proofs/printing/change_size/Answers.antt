-- `waves::change_size` meets its contract: nothing where no value changes, or the mark's and those of the values that do. Assumes nothing.
use Prim.Native.Nat.{ℕ, ◌+◌, ◌^◌, ◌≤◌, ◌<◌}
use mathlib.Core.Path.{◌≡◌, sym, ◌∙◌}
use lib.ListN.{length}
use Rattle.lines.specs.Lines.{decimal}
use native.Mathlib.Omega.{arith}
use Rattle.lines.proofs.Laws.{short}
use Rattle.waves.specs.Dump.{change}
use Rattle.waves.proofs.Laying.{change_size}
use Rattle.waves.proofs.printing.change_size.Goals as goal

-- a mark's digits and the lines of the values are few
few : {n a b d h : ℕ} (t : ℕ) → t < 10 ^ 20 → n ≡ length (decimal t) → a ≤ 12 → b ≤ 12 → d ≤ 12 → h ≤ 3 → n + (a + (b + (d + h))) ≤ 59
few t l e p q r s = omega (arith, short 19 t l, e)

pub returns-then-eq : goal.returns-then-eq
unfolding change
returns-then-eq c = rw (sym c.eq.ensures ∙ c.if-eq.true)

pub overflow_add-result : goal.overflow_add-result
overflow_add-result c = omega (arith, c.number_size.ensures, short 19 c.args.t (omega arith))

pub overflow_add-result-2 : goal.overflow_add-result-2
overflow_add-result-2 c =
    omega (
      arith,
      few c.args.t (omega arith) c.number_size.ensures c.new_size-a.ensures.1 c.new_size-b.ensures.1
          c.new_size-c.ensures.1 c.new_size-d.ensures.1,
    )

pub overflow_add-result-3 : goal.overflow_add-result-3
overflow_add-result-3 c =
    omega (
      arith,
      few c.args.t (omega arith) c.number_size.ensures c.new_size-a.ensures.1 c.new_size-b.ensures.1
          c.new_size-c.ensures.1 c.new_size-d.ensures.1,
    )

pub overflow_add-result-4 : goal.overflow_add-result-4
overflow_add-result-4 c =
    omega (
      arith,
      few c.args.t (omega arith) c.number_size.ensures c.new_size-a.ensures.1 c.new_size-b.ensures.1
          c.new_size-c.ensures.1 c.new_size-d.ensures.1,
    )

pub overflow_add-result-5 : goal.overflow_add-result-5
overflow_add-result-5 c =
    omega (
      arith,
      few c.args.t (omega arith) c.number_size.ensures c.new_size-a.ensures.1 c.new_size-b.ensures.1
          c.new_size-c.ensures.1 c.new_size-d.ensures.1,
    )

pub returns : goal.returns
returns c =
    let a = c.new_size-a.ensures in
    let b = c.new_size-b.ensures in
    let d = c.new_size-c.ensures in
    let h = c.new_size-d.ensures in
    omega (
      arith,
      c.number_size.ensures,
      a.0,
      b.0,
      d.0,
      h.0,
      change_size c.args.v c.args.t c.args.w (sym c.eq.ensures ∙ c.if-eq.false),
    )
