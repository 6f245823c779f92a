-- A mark set where the sets are kept. Assumes nothing.
use Rattle.std.proofs.Common.{◌≡◌, ℕ, ◌<◌, true, eqb, List, [], ◌∷◌, length, get_or, set, arith}
use Rattle.rules.specs.Calls.{remarked, with_marks}
use Rattle.rules.specs.Registers.{interval_in, phase_in, state_in}
use Rattle.rules.specs.Kept.{kept, Beside, read}

pub marks : (sets : List ℕ) (marked n m : ℕ) (times codes : List ℕ) (b : Beside) → 0 < length sets
    → marked ≡ remarked (get_or sets 0 0) n m
    → read (kept times (set sets 0 marked) codes) b ≡ with_marks (read (kept times sets codes) b) n m
unfolding state_in interval_in phase_in
marks [] marked n m times codes b l e = absurd (omega (arith, l))
marks (s ∷ others) marked n m times codes b l e = rw e

-- of no task
pub no_marks : (sets : List ℕ) (n m : ℕ) (times codes : List ℕ) (b : Beside) → eqb n 0 ≡ true
    → read (kept times sets codes) b ≡ with_marks (read (kept times sets codes) b) n m
no_marks sets n m times codes b e = rw e
