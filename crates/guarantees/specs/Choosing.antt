-- 6/13: first come, first served. "The highest of several is then the earliest released by original time, and among those the lowest task
-- number": of what the engine chooses for copy-in, said of every job that is ready then.
use Rattle.std.specs.Prelude.{◌≡◌, ◌⊎◌, ◌≤◌, ◌<◌}
use Rattle.guarantees.specs.Types.{true, ℕ, None, Some, State}
use Rattle.sets.specs.Sets.{member}
use Rattle.rules.specs.Order.{priority}
use Rattle.rules.specs.View.{values}
use Rattle.rules.specs.Instant.{steps_c_d, at_b, at_e, at_f, at_g, taken_at, deferred_at}

-- task n goes no later than task m: it has a higher priority, or the same and no later release, or both the same and no higher number
abbrev pub NoLater : State → (ℕ → ℕ) → ℕ → ℕ → Type 0
NoLater d since n m =
    (priority d n < priority d m)
    ⊎ ((priority d n ≡ priority d m) × ((since n < since m) ⊎ ((since n ≡ since m) × (n ≤ m))))

-- from the state before a choice to the one after it: where the engine copies nobody in before and task n's job after it, every job that
-- was ready goes no earlier
abbrev pub Chooses : State → State → (ℕ → ℕ) → Type 0
Chooses before after since =
    (n m : ℕ) → (values before).copyin ≡ None → (values after).copyin ≡ Some n → m < 32 → member m before.jobs.ready ≡ true
    → NoLater before since n m

-- the choice is made in step e, after the releases, or in step g, of an interval that begins; `since` has the original times
pub record FirstCome (d : State) (t set : ℕ) (since : ℕ → ℕ) : Type 0 where
  pub in_e : Chooses (steps_c_d (at_b d t).state t (taken_at d t set) (deferred_at d t set)) (at_e d t set) since
  pub in_g : Chooses (at_f d t set).state (at_g d t set) since
