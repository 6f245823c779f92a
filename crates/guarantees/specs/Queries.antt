-- The questions that the claim asks of a history: what is open at a point of it, which intervals begin, when the next one ends or begins,
-- when a job starts to execute, stops and completes, and how many events of a kind there are. Each is a walk along the events, and names
-- only the kinds of events that it asks for.
use Rattle.guarantees.specs.Types.{Bool, true, false, cond, List, [], ℕ, Option, None, Some}
use Rattle.std.specs.Prelude.{eqb, ◌&&◌, ◌||◌, ◌∷◌, ◌++◌, ◌+◌}
use Rattle.guarantees.specs.History.{Event, Comes, Starts, Stops, Finishes, Completes, Ends, Takes, Defers, GivesWay, Begins}

-- ---- What an event says

-- the number of its kind; its tick, 0 where it says none; its task, of an interval that begins the one that it executes; and the task that
-- such an interval copies out; and of a release whether the task was marked
pub record Details : Type 0 where
  pub kind : ℕ
  pub tick : ℕ
  pub task : Option ℕ
  pub out : Option ℕ
  pub mark : Bool

abbrev pub details : Event → Details
details (Comes t) = record { kind = 0; tick = t; task = None; out = None; mark = false }
details (Finishes n) = record { kind = 1; tick = 0; task = Some n; out = None; mark = false }
details (Completes n t) = record { kind = 2; tick = t; task = Some n; out = None; mark = false }
details (Ends t) = record { kind = 3; tick = t; task = None; out = None; mark = false }
details (Takes n t m) = record { kind = 4; tick = t; task = Some n; out = None; mark = m }
details (Begins t r l) = record { kind = 5; tick = t; task = r; out = l; mark = false }
details (Starts n t) = record { kind = 6; tick = t; task = Some n; out = None; mark = false }
details (Stops n t) = record { kind = 7; tick = t; task = Some n; out = None; mark = false }
details (Defers n t) = record { kind = 9; tick = t; task = Some n; out = None; mark = false }
details (GivesWay n) = record { kind = 8; tick = 0; task = Some n; out = None; mark = false }

abbrev pub is_task : ℕ → Option ℕ → Bool
is_task n None = false
is_task n (Some k) = eqb n k

-- whether an event is of a kind
module _ (e : Event) where
  abbrev pub comes : Bool
  comes = eqb (details e).kind 0

  abbrev pub finishes : Bool
  finishes = eqb (details e).kind 1

  abbrev pub completes : Bool
  completes = eqb (details e).kind 2

  abbrev pub ends : Bool
  ends = eqb (details e).kind 3

  abbrev pub takes : Bool
  takes = eqb (details e).kind 4

  abbrev pub begins : Bool
  begins = eqb (details e).kind 5

  abbrev pub starts : Bool
  starts = eqb (details e).kind 6

  abbrev pub stops : Bool
  stops = eqb (details e).kind 7

  abbrev pub gives_way : Bool
  gives_way = eqb (details e).kind 8

  abbrev pub defers : Bool
  defers = eqb (details e).kind 9

-- ---- The walks

-- what each event changes, from the first to the last
unfoldable pub after : {S : Type 0} → (S → Event → S) → S → List Event → S
after change s [] = s
after change s (e ∷ es) = after change (change s e) es

-- what the first event says that passes a test
unfoldable pub first : {A : Type 0} → (Event → Bool) → (Event → A) → A → List Event → A
first test says none [] = none
first test says none (e ∷ es) = cond (test e) (says e) (first test says none es)

-- what all of them say, one behind the other
unfoldable pub each : {A : Type 0} → (Event → List A) → List Event → List A
each says [] = []
each says (e ∷ es) = says e ++ each says es

-- and added up
unfoldable pub total : (Event → ℕ) → List Event → ℕ
total f [] = 0
total f (e ∷ es) = f e + total f es

-- whether an instant is over, where these events follow
abbrev pub at_rest : List Event → Bool
at_rest [] = true
at_rest (e ∷ es) = comes e

-- ---- What is open

-- at some point of a history no interval is open; or one is, with the task that it executes
pub data Situation : Type 0 where
  NoneOpen : Situation
  Open : Option ℕ → Situation

abbrev pub after_event : Situation → Event → Situation
after_event s e = cond (begins e) (Open (details e).task) (cond (ends e) NoneOpen s)

abbrev pub situation : Situation → List Event → Situation
situation = after after_event

-- the last interval to begin, so far: its tick, the task that it executes, the one that it copies out, and the tick of its end
pub record Latest : Type 0 where
  pub begun : Option ℕ
  pub executed : Option ℕ
  pub out : Option ℕ
  pub ended : Option ℕ

abbrev pub none_yet : Latest
none_yet = record { begun = None; executed = None; out = None; ended = None }

abbrev pub latest_by : Latest → Event → Latest
latest_by x e =
    cond (begins e) (record { begun = Some (details e).tick; executed = (details e).task; out = (details e).out; ended = None })
    (cond (ends e) (record { begun = x.begun; executed = x.executed; out = x.out; ended = Some (details e).tick }) x)

abbrev pub latest : Latest → List Event → Latest
latest = after latest_by

-- the task whose copy-in the engine has finished in that interval and that has not given way
abbrev pub loaded : Option ℕ → List Event → Option ℕ
loaded = after (λ l e. cond (begins e || gives_way e) None (cond (finishes e) (details e).task l))

-- and its execution: the ticks of its start and of its end
pub record Execution : Type 0 where
  pub started : Option ℕ
  pub stopped : Option ℕ

abbrev pub not_yet : Execution
not_yet = record { started = None; stopped = None }

abbrev pub execution_by : Execution → Event → Execution
execution_by x e =
    cond (begins e) not_yet
    (cond (starts e) (record { started = Some (details e).tick; stopped = x.stopped })
    (cond (stops e) (record { started = x.started; stopped = Some (details e).tick }) x))

abbrev pub execution : Execution → List Event → Execution
execution = after execution_by

-- the tick of the release of task n that waits
abbrev pub waiting : ℕ → Option ℕ → List Event → Option ℕ
waiting n = after (λ w e. cond (is_task n (details e).task) (cond (defers e) (Some (details e).tick) (cond (takes e) None w)) w)

-- the original tick of a release that is taken at t, after waiting or at once
abbrev pub original : Option ℕ → ℕ → ℕ
original None t = t
original (Some u) t = u

-- of the releases of task n, the tick of the one that waits, and the original tick of the last that was taken
pub record Origin : Type 0 where
  pub waits : Option ℕ
  pub since : ℕ

abbrev pub no_origin : Origin
no_origin = record { waits = None; since = 0 }

abbrev pub origin_by : ℕ → Origin → Event → Origin
origin_by n x e =
    cond (takes e && is_task n (details e).task) (record { waits = None; since = original x.waits (details e).tick })
    (cond (defers e && is_task n (details e).task) (record { waits = Some (details e).tick; since = x.since }) x)

-- the original tick of the last release of task n that was taken
abbrev pub since : List Event → ℕ → ℕ
since h n = (after (origin_by n) no_origin h).since

-- 8/13: of the releases of task n, whether the last one that was taken or set waiting waits, and its original tick
pub record LastRelease : Type 0 where
  pub waits : Bool
  pub tick : Option ℕ

abbrev pub no_last : LastRelease
no_last = record { waits = false; tick = None }

-- one that waited is taken later, and stays the last
abbrev pub last_by : ℕ → LastRelease → Event → LastRelease
last_by n x e =
    cond (takes e && is_task n (details e).task) (record { waits = false; tick = cond x.waits x.tick (Some (details e).tick) })
    (cond (defers e && is_task n (details e).task) (record { waits = true; tick = Some (details e).tick }) x)

-- "the task's last release taken or set waiting", by original time
abbrev pub last_released : ℕ → List Event → Option ℕ
last_released n h = (after (last_by n) no_last h).tick

-- ---- What comes next

-- the intervals that begin, each by the task that it executes
abbrev pub intervals : List Event → List (Option ℕ)
intervals = each (λ e. cond (begins e) ((details e).task ∷ []) [])

-- the tick of the next interval's end
abbrev pub end_tick : List Event → Option ℕ
end_tick = first ends (λ e. Some (details e).tick) None

-- the next interval to begin: its tick, and the task that it copies out
abbrev pub begin_tick : List Event → Option ℕ
begin_tick = first begins (λ e. Some (details e).tick) None

abbrev pub copied_out : List Event → Option ℕ
copied_out = first begins (λ e. (details e).out) None

-- the tick at which the next job of task n is taken
abbrev pub taking : ℕ → List Event → Option ℕ
taking n = first (λ e. takes e && is_task n (details e).task) (λ e. Some (details e).tick) None

-- the ticks at which the next job of task n to execute starts, and at which the next execution of one ends
abbrev pub start : ℕ → List Event → Option ℕ
start n = first (λ e. starts e && is_task n (details e).task) (λ e. Some (details e).tick) None

abbrev pub stop : ℕ → List Event → Option ℕ
stop n = first (λ e. stops e && is_task n (details e).task) (λ e. Some (details e).tick) None

-- the tick at which the next job of task n to complete does
abbrev pub completion : ℕ → List Event → Option ℕ
completion n = first (λ e. completes e && is_task n (details e).task) (λ e. Some (details e).tick) None

-- the last instant that is served, after one at t
abbrev pub last_instant : ℕ → List Event → ℕ
last_instant = after (λ t e. cond (comes e) (details e).tick t)

-- ---- A job's intervals

-- of the intervals that begin after a job's release, "every one begun by the end of the list, the open one included", those up to the one
-- that executes it; "for a job not yet executed that is as far as it goes". A task has one pending job at a time, so that the first
-- interval that executes task n executes this job.
unfoldable pub upto : ℕ → List (Option ℕ) → List (Option ℕ)
upto n [] = []
upto n (r ∷ rs) = r ∷ cond (is_task n r) [] (upto n rs)

-- "Its first interval is the one its release belongs to by step c", that is the open one, else the next to begin; "the second is the
-- next to begin" after it: a job's intervals, where those of rs begin after its release
abbrev pub met : ℕ → Situation → List (Option ℕ) → List (Option ℕ)
met n NoneOpen rs = upto n rs
met n (Open r) rs = r ∷ upto n rs

-- of those, the ones before the one that executes it
unfoldable pub until : ℕ → List (Option ℕ) → List (Option ℕ)
until n [] = []
until n (r ∷ rs) = cond (is_task n r) [] (r ∷ until n rs)

abbrev pub waited : ℕ → Situation → List (Option ℕ) → List (Option ℕ)
waited n NoneOpen rs = until n rs
waited n (Open r) rs = r ∷ until n rs

-- ---- How many

abbrev pub is_take : Event → ℕ
is_take e = cond (takes e) 1 0

abbrev pub is_begin : Event → ℕ
is_begin e = cond (begins e) 1 0

abbrev pub is_completion : Event → ℕ
is_completion e = cond (completes e) 1 0
