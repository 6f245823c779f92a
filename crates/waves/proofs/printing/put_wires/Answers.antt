-- `waves::put_wires` meets its contract: the line is copied into the rest of the slice. Assumes nothing.
use mathlib.Core.Path.{sym, ap, ◌∙◌}
use mathlib.Core.List.{List}
use Prim.Native.Nat.{ℕ, ◌+◌}
use native.Mathlib.Omega.{arith}
use Rattle.entries.specs.Entries.{laid}
use Rattle.waves.proofs.Laying.{copied, wires_size}
use Rattle.waves.proofs.printing.put_wires.Goals as goal

pub returns : goal.returns
returns c =
    let a = c.args in
    let line = c.wires-line in
    record {
      within = omega (arith, c.requires);
      place_is = ap (λ (n : ℕ). a.at + n) (sym (wires_size a.code a.n));
      holds =
          copied line.result a.at a.out.now _ c.copy.ensures.after
          ∙ ap (λ (l : List ℕ). laid a.at l a.out.now) line.ensures;
    }
