-- A small dump, as the definitions give it: what changes, what stays, and an instant at which nothing does.
use Rattle.std.proofs.Common.{◌∷◌, ◌++◌}
use mathlib.Core.Path.{◌≡◌, refl}
use Prim.Native.String.{String}
use Rattle.lines.specs.Lines.{digits, decimal}
use Rattle.waves.specs.Types.{List, [], ℕ}
use Rattle.waves.specs.Dump.{ascii, line, header, wires, wire, all, changed, mark, change, changes, dump}

unfoldable lines : List String → List ℕ
lines [] = []
lines (s ∷ ss) = line s ++ lines ss

four_samples : dump (record { time = 0; shown = record { processor = 255; copyin = 3; copyout = 255; half = 0 } }
    ∷ record { time = 3; shown = record { processor = 3; copyin = 1; copyout = 255; half = 1 } }
    ∷ record { time = 4; shown = record { processor = 3; copyin = 1; copyout = 255; half = 1 } }
    ∷ record { time = 1000; shown = record { processor = 3; copyin = 255; copyout = 255; half = 1 } } ∷ [])
    ≡ header ++ lines ("#0" ∷ "b11111111 a" ∷ "b00000011 b" ∷ "b11111111 c" ∷ "0d"
    ∷ "#3" ∷ "b00000011 a" ∷ "b00000001 b" ∷ "1d" ∷ "#1000" ∷ "b11111111 b" ∷ [])
unfolding digits decimal ascii line header wires wire all changed mark change changes dump lines
four_samples = refl
