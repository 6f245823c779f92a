-- Document 01's lines, as the definitions give them.
use mathlib.Core.Path.{◌≡◌, refl}
use mathlib.Core.List.{[], ◌∷◌}
use Rattle.lines.specs.Types.{None, Some}
use Rattle.lines.specs.Lines.{digits, decimal, job_line, interval_line}

-- 0 and 1000000000
decimals : (decimal 0 ≡ 48 ∷ []) × (decimal 1000000000 ≡ 49 ∷ 48 ∷ 48 ∷ 48 ∷ 48 ∷ 48 ∷ 48 ∷ 48 ∷ 48 ∷ 48 ∷ [])
unfolding digits decimal
decimals = (refl, refl)

-- plan A: `J 1 3 9 13 1`
job_1 : job_line (record { task = 1; release = 3; start = 9; completion = 13; blocked = 1 })
    ≡ 74 ∷ 32 ∷ 49 ∷ 32 ∷ 51 ∷ 32 ∷ 57 ∷ 32 ∷ 49 ∷ 51 ∷ 32 ∷ 49 ∷ 10 ∷ []
unfolding digits decimal job_line
job_1 = refl

-- plan A: `I 7 12 0 1 2 3 2 1 -`
interval_7 : interval_line (record { begin = 7; end = 12; half = 0; task = Some 1; work = 2; copiedout = Some 3; chosen = Some 2; fate = 1; promoted = None })
    ≡ 73 ∷ 32 ∷ 55 ∷ 32 ∷ 49 ∷ 50 ∷ 32 ∷ 48 ∷ 32 ∷ 49 ∷ 32 ∷ 50 ∷ 32 ∷ 51 ∷ 32 ∷ 50 ∷ 32 ∷ 49 ∷ 32 ∷ 45 ∷ 10 ∷ []
unfolding digits decimal interval_line
interval_7 = refl
