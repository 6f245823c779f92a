use Rattle.std.proofs.Common.{◌&&◌, ◌^◌, ◌<◌, ◌≡◌}
use Rattle.rules.specs.Types.{Bool, cond, List, ℕ, None, Some}
use lib.ListN.{get_or}
use Rattle.sets.specs.Sets.{member}
use Rattle.table.specs.Table.{spacing}
use Rattle.rules.specs.Instant.{comes_sooner}
use Rattle.rules.proofs.Members.{Left, passed}
use Rattle.rules.proofs.spacing.too_soon.Given as goal

pub record Gathered (test : ℕ → Bool) (all left soon : ℕ) : Type 0 where
  pub tasks : Left all left
  pub small : soon < 2 ^ 32
  pub members : (j : ℕ) → j < 32 → member j soon ≡ (passed all left j && test j)

abbrev pub soon_by : ℕ → List ℕ → List ℕ → List ℕ → List ℕ → ℕ → Bool
soon_by t sets columns release waits n =
    comes_sooner t (spacing columns n)
    (cond (member n (get_or sets 5 0)) (Some (get_or waits n 0)) (cond (member n (get_or sets 7 0)) (Some (get_or release n 0)) None))

abbrev pub invariant-loop-n : goal.invariant-loop-n
invariant-loop-n l = Gathered (soon_by l.t l.sets l.columns l.release l.waits) l.spaced l.n-iterator.left l.soon
