-- 3/13: "in a state that calls made a pending job's count rises by one exactly when its task is in it", in the set
-- of tasks that the interval can block.
use Rattle.guarantees.specs.Types.{cond, ℕ, State}
use Rattle.std.specs.Prelude.{get_or, ◌≡◌, ◌&&◌, ◌+◌, ◌<◌}
use Rattle.sets.specs.Sets.{member}
use Rattle.rules.specs.Blocking.{blockable}
use Rattle.rules.specs.Instant.{at_a, at_b, at_e, at_f}

-- from the state before an interval's end to the one after it: one more for each pending job whose task is in the set, and no other count
-- changes; where no interval ends the set is empty
abbrev pub Rises : State → State → Type 0
Rises before after =
    (n : ℕ) → n < 32
    → get_or after.jobs.blocked n 0
    ≡ get_or before.jobs.blocked n 0 + cond (member n before.jobs.pending && member n (blockable before)) 1 0

-- an interval ends in step b, after step a, or in step f, after step e
pub record CountsRise (d : State) (t set : ℕ) : Type 0 where
  pub in_b : Rises (at_a d t).state (at_b d t).state
  pub in_f : Rises (at_e d t set) (at_f d t set).state
