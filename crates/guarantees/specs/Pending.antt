-- One job of a task at a time, and one release of it that waits: where the pending job of a task is along a history, and when a
-- release that waits is taken. And what occurs, occurs at the instant that came last. What stands between quotation marks is
-- document 01, or 4/13.
use Rattle.guarantees.specs.Types.{Bool, true, cond, not, List, ℕ, Option, Some, None}
use Rattle.std.specs.Prelude.{eqb, leb, ◌≡◌, ◌&&◌, ◌||◌, ◌∷◌, ◌++◌, ◌<◌}
use Rattle.guarantees.specs.History.{Event, Comes, Completes, Takes, Defers, Begins}
use Rattle.guarantees.specs.Queries.{details, is_task, comes, finishes, completes, ends, takes, begins, starts, gives_way, defers, after, waiting, taking}

-- ---- One job at a time

module _ (n : ℕ) where
  -- where the job of task n is: 0, none is pending; 1, one was taken; 2, an interval has begun that executes it; 3, one that copies it out
  abbrev pub place_by : ℕ → Event → ℕ
  place_by p e =
      cond (takes e && is_task n (details e).task) 1
      (cond (begins e && is_task n (details e).task) 2
      (cond (begins e && is_task n (details e).out) 3
      (cond (completes e && is_task n (details e).task) 0 p)))

  abbrev pub place : List Event → ℕ
  place = after place_by 0

  pub record OneAtATime (h : List Event) : Type 0 where
    -- "A job is one release that was taken. It is pending from its release until its copy-out ends": at a taking none of its task is,
    pub at_taking : (before after : List Event) (t : ℕ) (m : Bool) → h ≡ before ++ (Takes n t m ∷ after) → place before ≡ 0
    -- an interval that executes it begins after a taking that no interval has executed since,
    pub at_execution : (before after : List Event) (t : ℕ) (l : Option ℕ) → h ≡ before ++ (Begins t (Some n) l ∷ after) → place before ≡ 1
    -- then one that copies it out, and then it completes
    pub at_copyout : (before after : List Event) (t : ℕ) (r : Option ℕ) → h ≡ before ++ (Begins t r (Some n) ∷ after) → place before ≡ 2
    pub at_completion : (before after : List Event) (c : ℕ) → h ≡ before ++ (Completes n c ∷ after) → place before ≡ 3
    -- "Each task now holds one waiting release": it is set waiting while a job of its task is pending and none waits,
    pub at_waiting : (before after : List Event) (t : ℕ) → h ≡ before ++ (Defers n t ∷ after)
        → (place before ≡ 0 → ⊥) × (waiting n None before ≡ None)
    -- and "at the instant its job completes, step c takes the waiting one before that instant's own releases"
    pub at_resuming : (before after : List Event) (c u : ℕ) → h ≡ before ++ (Completes n c ∷ after)
        → waiting n None before ≡ Some u → taking n after ≡ Some c

-- ---- The instants

-- the instant that came last
abbrev pub now_by : Option ℕ → Event → Option ℕ
now_by w e = cond (comes e) (Some (details e).tick) w

abbrev pub now : List Event → Option ℕ
now = after now_by None

-- an event of an instant that says a tick
abbrev pub says_tick : Event → Bool
says_tick e = not (comes e || finishes e || gives_way e)

pub record InTime (h : List Event) : Type 0 where
  -- "The time must be after the last one handed in"
  pub rising : (before after : List Event) (t u : ℕ) → h ≡ before ++ (Comes t ∷ after) → now before ≡ Some u → u < t
  pub on_time : (before after : List Event) (e : Event) → h ≡ before ++ (e ∷ after)
      → says_tick e ≡ true → now before ≡ Some (details e).tick

-- ---- The steps of an instant

-- the step that an event belongs to, from a, which is 0, to g, which is 6, where s was the last: an execution starts in a, or in g with its
-- interval; an interval ends in b, or in f behind releases or a completion, which counts as c: the engine chooses behind the releases
abbrev pub step_by : ℕ → Event → ℕ
step_by s e =
    cond (begins e) 6
    (cond (ends e) (cond (leb s 1) 1 5)
    (cond (gives_way e) 3
    (cond (takes e || (defers e || (completes e && eqb s 0))) 2
    (cond (starts e && eqb s 6) 6 0))))

-- the last one
abbrev pub step : List Event → ℕ
step = after step_by 0
