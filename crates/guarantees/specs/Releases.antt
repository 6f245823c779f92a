-- What becomes of the releases of a task: each that is handed in is taken at once, set waiting or skipped, and each that was set
-- waiting is taken later. What stands between quotation marks is 4/13 or 8/13.
use Rattle.std.specs.Prelude.{◌≡◌, ◌&&◌, ◌⊎◌, ◌∷◌, ◌++◌, ◌+◌, ◌≤◌, ◌<◌}
use Rattle.guarantees.specs.Types.{Bool, true, false, cond, not, List, ℕ, Table, None, Some}
use Rattle.sets.specs.Sets.{member, bit}
use Rattle.table.specs.Table.{spacing}
use Rattle.guarantees.specs.History.{Event, Takes, Defers}
use Rattle.guarantees.specs.Queries.{details, is_task, takes, defers, after, waiting, taking, last_released}

-- how many releases of a task were taken at once, how many were set waiting, how many of those were taken later, and whether one waits
pub record Fates : Type 0 where
  pub at_once : ℕ
  pub set_waiting : ℕ
  pub later : ℕ
  pub waits : Bool

abbrev pub no_release : Fates
no_release = record { at_once = 0; set_waiting = 0; later = 0; waits = false }

module _ (n : ℕ) where
  abbrev pub fates_by : Fates → Event → Fates
  fates_by x e = record {
    at_once = cond (takes e && (is_task n (details e).task && not x.waits)) (x.at_once + 1) x.at_once;
    set_waiting = cond (defers e && is_task n (details e).task) (x.set_waiting + 1) x.set_waiting;
    later = cond (takes e && (is_task n (details e).task && x.waits)) (x.later + 1) x.later;
    waits = cond (defers e && is_task n (details e).task) true (cond (takes e && is_task n (details e).task) false x.waits);
  }

  abbrev pub fates : List Event → Fates
  fates = after fates_by no_release

  -- where so many were handed in and so many were skipped
  pub record Balance (handed skipped : ℕ) (h : List Event) : Type 0 where
    pub each_handed : handed ≡ (fates h).at_once + (fates h).set_waiting + skipped
    pub each_waiting : (fates h).set_waiting ≡ (fates h).later + bit (fates h).waits

  -- 8/13: a release at t that "comes sooner than the spacing after the task's last release taken or set waiting", where h has occurred
  -- before it; "a task without one is not tested"
  abbrev pub Sooner : Table → ℕ → List Event → Type 0
  Sooner table t h =
      (member n table.spaced ≡ true) × ((u : ℕ) × (last_released n h ≡ Some u) × (t < u + spacing table.columns n))

  -- 4/13: one that "finds one waiting", where es occurs at its instant; "a release at the instant of taking waits in its turn", so that it
  -- finds one that stays
  abbrev pub FindsWaiting : List Event → List Event → Type 0
  FindsWaiting h es = ((u : ℕ) × (waiting n None h ≡ Some u)) × (taking n es ≡ None)

  -- at an instant at t that hands in a set and skips some of it, where h has occurred before it and es occurs at it
  pub record Placed (table : Table) (t set skipped : ℕ) (h es : List Event) : Type 0 where
    -- what is taken is in the set, or waited
    pub taken_from : (u : ℕ) → taking n es ≡ Some u → (member n set ≡ true) ⊎ ((w : ℕ) × (waiting n None h ≡ Some w))
    -- what is skipped is in the set, and came too soon or found one waiting; no other is skipped
    pub skipped_by : member n skipped ≡ true → (member n set ≡ true) × (Sooner table t h ⊎ FindsWaiting h es)
    -- and each of the set that did is
    pub sooner_skipped : member n set ≡ true → Sooner table t h → member n skipped ≡ true
    pub behind_skipped : member n set ≡ true → FindsWaiting h es → member n skipped ≡ true

  -- 8/13: between two releases of a task taken or set waiting lies at least its spacing, by original time: one that is taken at once, or
  -- set waiting, comes that long after the last
  pub record Spaced (table : Table) (h : List Event) : Type 0 where
    pub at_taking : (before after : List Event) (t u : ℕ) (m : Bool) → h ≡ before ++ (Takes n t m ∷ after) → waiting n None before ≡ None
        → last_released n before ≡ Some u → u + spacing table.columns n ≤ t
    pub at_waiting : (before after : List Event) (t u : ℕ) → h ≡ before ++ (Defers n t ∷ after)
        → last_released n before ≡ Some u → u + spacing table.columns n ≤ t
