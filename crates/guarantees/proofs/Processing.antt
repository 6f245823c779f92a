-- What the processor may do, along a history: a monitor that goes from event to event. From it follows the claim on each execution, on each
-- start and each end of one, and on each interval's end.
use Rattle.std.proofs.Common.{◌≡◌, ◌∷◌, ◌++◌, ◌+◌, ◌≤◌, ◌<◌}
use Rattle.table.specs.Table.{copyin_length, execution_length}
use Rattle.guarantees.specs.Types.{refl, sym, ap, ◌∙◌, subst, true, cond, List, [], ℕ, Option, None, Some}
use native.Mathlib.Omega.{arith}
use native.Mathlib.Nat.{add-zero}
use borrow.Author.Tests.{eq-eqb, le-leb, lt-leb}
use lib.Dec.{eqb}
use Rattle.guarantees.specs.History.{Event, Comes, Starts, Stops, Finishes, Completes, Ends, Takes, Defers, GivesWay, Begins}
use Rattle.guarantees.specs.Queries.{is_task, start, stop, last_instant, Latest, none_yet, latest_by, latest, loaded, Execution, not_yet, execution_by, execution, after, first}
use Rattle.guarantees.specs.Claim.{if_reached, Executed}

-- ---- what the processor may do, along a history

-- between two events: no interval is open; or one is, whose job of a task is to start to execute at a time; or executes it, to stop at a time;
-- or has executed it, or executes none
pub data Doing : Type 0 where
  Shut : Doing
  ToStart : ℕ → ℕ → Doing
  Runs : ℕ → ℕ → Doing
  Rests : Option ℕ → Doing

-- what is due has come
abbrev pub on_time : ℕ → Doing → Type 0
on_time now Shut = Unit {0}
on_time now (ToStart n u) = now < u
on_time now (Runs n u) = now < u
on_time now (Rests r) = Unit {0}

abbrev pub may_start : ℕ → Doing → ℕ → ℕ → Type 0
may_start now Shut n t = ⊥
may_start now (ToStart m u) n t = (n ≡ m) × (t ≡ u) × (t ≡ now)
may_start now (Runs m u) n t = ⊥
may_start now (Rests r) n t = ⊥

abbrev pub may_stop : ℕ → Doing → ℕ → ℕ → Type 0
may_stop now Shut n t = ⊥
may_stop now (ToStart m u) n t = ⊥
may_stop now (Runs m u) n t = (n ≡ m) × (t ≡ u) × (t ≡ now)
may_stop now (Rests r) n t = ⊥

abbrev pub stopped_to : Doing → Doing
stopped_to Shut = Shut
stopped_to (ToStart m u) = ToStart m u
stopped_to (Runs m u) = Rests (Some m)
stopped_to (Rests r) = Rests r

abbrev pub may_shut : Doing → Type 0
may_shut Shut = ⊥
may_shut (ToStart m u) = ⊥
may_shut (Runs m u) = ⊥
may_shut (Rests r) = Unit {0}

abbrev pub may_open : ℕ → Doing → ℕ → Type 0
may_open now Shut t = t ≡ now
may_open now (ToStart m u) t = ⊥
may_open now (Runs m u) t = ⊥
may_open now (Rests r) t = ⊥

module _ (columns : List ℕ) where
  abbrev pub started_to : ℕ → Doing → Doing
  started_to t Shut = Shut
  started_to t (ToStart m u) = Runs m (t + execution_length columns m)
  started_to t (Runs m u) = Runs m u
  started_to t (Rests r) = Rests r

  -- a job that the engine has not copied in, the processor copies in first
  abbrev pub opened_to : ℕ → Option ℕ → Option ℕ → Doing
  opened_to t l None = Rests None
  opened_to t l (Some n) = ToStart n (t + cond (is_task n l) 0 (copyin_length columns n))

  -- from what the processor does at a time on, where l is what the engine has copied in in the last interval begun
  unfoldable pub Working : ℕ → Doing → Option ℕ → List Event → Type 0
  Working now s l [] = on_time now s
  Working now s l (Comes t ∷ es) = (now ≤ t) × Working t s l es
  Working now s l (Starts n t ∷ es) = may_start now s n t × Working now (started_to t s) l es
  Working now s l (Stops n t ∷ es) = may_stop now s n t × Working now (stopped_to s) l es
  Working now s l (Finishes n ∷ es) = Working now s (Some n) es
  Working now s l (GivesWay n ∷ es) = Working now s None es
  Working now s l (Completes n t ∷ es) = Working now s l es
  Working now s l (Defers n t ∷ es) = Working now s l es
  Working now s l (Ends t ∷ es) = may_shut s × Working now Shut l es
  Working now s l (Takes n t m ∷ es) = Working now s l es
  Working now s l (Begins t r o ∷ es) = may_open now s t × Working now (opened_to t l r) None es

-- ---- from there to the claim on each execution

module _ (columns : List ℕ) where
  onward : (es : List Event) (now : ℕ) (s : Doing) (l : Option ℕ) → Working columns now s l es → now ≤ last_instant now es
  unfolding Working after
  onward [] now s l h = omega arith
  onward (Comes t ∷ es) now s l h = omega (arith, h.0, onward es t s l h.1)
  onward (Starts n t ∷ es) now s l h = onward es now (started_to columns t s) l h.1
  onward (Stops n t ∷ es) now s l h = onward es now (stopped_to s) l h.1
  onward (Finishes n ∷ es) now s l h = onward es now s (Some n) h
  onward (GivesWay n ∷ es) now s l h = onward es now s None h
  onward (Completes n t ∷ es) now s l h = onward es now s l h
  onward (Defers n t ∷ es) now s l h = onward es now s l h
  onward (Ends t ∷ es) now s l h = onward es now Shut l h.1
  onward (Takes n t m ∷ es) now s l h = onward es now s l h
  onward (Begins t r o ∷ es) now s l h = onward es now (opened_to columns t l r) None h.1

  module _ (n : ℕ) where
    -- it executes
    running : (es : List Event) (now u : ℕ) (l : Option ℕ) → Working columns now (Runs n u) l es → stop n es ≡ if_reached (last_instant now es) u
    unfolding Working first after
    running [] now u l h = rw (lt-leb u now h)
    running (Comes t ∷ es) now u l h = running es t u l h.1
    running (Starts k t ∷ es) now u l h = absurd h.0
    running (Stops k t ∷ es) now u l h =
        let x : u ≤ last_instant now es = omega (arith, h.0.1, h.0.2, onward es now (Rests (Some n)) l h.1) in
        rw (eq-eqb n k (sym h.0.0), le-leb u (last_instant now es) x) (ap Some h.0.1)
    running (Finishes k ∷ es) now u l h = running es now u (Some k) h
    running (GivesWay k ∷ es) now u l h = running es now u None h
    running (Completes k t ∷ es) now u l h = running es now u l h
    running (Defers k t ∷ es) now u l h = running es now u l h
    running (Ends t ∷ es) now u l h = absurd h.0
    running (Takes k t m ∷ es) now u l h = running es now u l h
    running (Begins t r o ∷ es) now u l h = absurd h.0

    -- it is to start at u
    record Starting (u now : ℕ) (es : List Event) : Type 0 where
      starts : start n es ≡ if_reached (last_instant now es) u
      stops : (s : ℕ) → start n es ≡ Some s → stop n es ≡ if_reached (last_instant now es) (s + execution_length columns n)

    starting : (es : List Event) (now u : ℕ) (l : Option ℕ) → Working columns now (ToStart n u) l es → Starting u now es
    unfolding Working first after
    starting [] now u l h = record { starts = rw (lt-leb u now h); stops = λ s e. absurd (let z : ◌≡◌ {A = ℕ} 0 1 = cc in omega arith) }
    starting (Comes t ∷ es) now u l h = let x : Starting u t es = starting es t u l h.1 in record { starts = x.starts; stops = x.stops }
    starting (Starts k t ∷ es) now u l h =
        let x : u ≤ last_instant now es = omega (arith, h.0.1, h.0.2, onward es now (Runs n (t + execution_length columns n)) l h.1) in
        let b : eqb n k ≡ true = eq-eqb n k (sym h.0.0) in
        record {
          starts = rw (b, le-leb u (last_instant now es) x) (ap Some h.0.1);
          stops = λ s e.
              let y : Some t ≡ Some s = rw b at e in
              let z : t ≡ s = cc in
              running es now (t + execution_length columns n) l h.1 ∙ ap (λ (j : ℕ). if_reached (last_instant now es) (j + execution_length columns n)) z;
        }
    starting (Stops k t ∷ es) now u l h = absurd h.0
    starting (Finishes k ∷ es) now u l h = let x : Starting u now es = starting es now u (Some k) h in record { starts = x.starts; stops = x.stops }
    starting (GivesWay k ∷ es) now u l h = let x : Starting u now es = starting es now u None h in record { starts = x.starts; stops = x.stops }
    starting (Completes k t ∷ es) now u l h = let x : Starting u now es = starting es now u l h in record { starts = x.starts; stops = x.stops }
    starting (Defers k t ∷ es) now u l h = let x : Starting u now es = starting es now u l h in record { starts = x.starts; stops = x.stops }
    starting (Ends t ∷ es) now u l h = absurd h.0
    starting (Takes k t m ∷ es) now u l h = let x : Starting u now es = starting es now u l h in record { starts = x.starts; stops = x.stops }
    starting (Begins t r o ∷ es) now u l h = absurd h.0

    executes : (t : ℕ) (l : Option ℕ) (es : List Event) → Working columns t (opened_to columns t l (Some n)) None es
        → Executed (copyin_length columns n) (execution_length columns n) n t l es
    executes t l es h =
        let u : ℕ = t + cond (is_task n l) 0 (copyin_length columns n) in
        let x : Starting u t es = starting es t u None h in
        record {
          loaded_starts = λ e.
              let z : t + cond (is_task n l) 0 (copyin_length columns n) ≡ t = rw e (add-zero t) in
              x.starts ∙ ap (if_reached (last_instant t es)) z
              ∙ rw (le-leb t (last_instant t es) (onward es t (ToStart n u) None h));
          promoted_starts = λ e. x.starts ∙ rw e;
          execution_ends = x.stops;
        }

    -- at each interval of a history that executes it
    split : (before after : List Event) (t now : ℕ) (o : Option ℕ) (s : Doing) (l : Option ℕ) → Working columns now s l (before ++ (Begins t (Some n) o ∷ after))
        → Executed (copyin_length columns n) (execution_length columns n) n t (loaded l before) after
    unfolding Working after
    split [] after t now o Shut l h = executes t l after (subst (λ (x : ℕ). Working columns x (opened_to columns t l (Some n)) None after) (sym h.0) h.1)
    split [] after t now o (ToStart m u) l h = absurd h.0
    split [] after t now o (Runs m u) l h = absurd h.0
    split [] after t now o (Rests r) l h = absurd h.0
    split (Comes u ∷ es) after t now o s l h = split es after t u o s l h.1
    split (Starts k u ∷ es) after t now o s l h = split es after t now o (started_to columns u s) l h.1
    split (Stops k u ∷ es) after t now o s l h = split es after t now o (stopped_to s) l h.1
    split (Finishes k ∷ es) after t now o s l h = split es after t now o s (Some k) h
    split (GivesWay k ∷ es) after t now o s l h = split es after t now o s None h
    split (Completes k u ∷ es) after t now o s l h = split es after t now o s l h
    split (Defers k u ∷ es) after t now o s l h = split es after t now o s l h
    split (Ends u ∷ es) after t now o s l h = split es after t now o Shut l h.1
    split (Takes k u m ∷ es) after t now o s l h = split es after t now o s l h
    split (Begins u r q ∷ es) after t now o s l h = split es after t now o (opened_to columns u l r) None h.1

    pub execution_in : (h before after : List Event) (t : ℕ) (o : Option ℕ) → Working columns 0 Shut None h → h ≡ before ++ (Begins t (Some n) o ∷ after)
        → Executed (copyin_length columns n) (execution_length columns n) n t (loaded None before) after
    execution_in h before after t o x e = split before after t 0 o Shut None (subst (Working columns 0 Shut None) e x)

-- ---- and to the claim on what starts, stops and ends

module _ (columns : List ℕ) where
  -- an execution has stopped, if there was one
  abbrev Stopped : Option ℕ → Execution → Type 0
  Stopped None y = Unit {0}
  Stopped (Some n) y = (s : ℕ) × (y.stopped ≡ Some s)

  -- what the processor does, by the last interval begun
  abbrev Agrees : Doing → Latest → Execution → Type 0
  Agrees Shut x y = Unit {0}
  Agrees (ToStart n u) x y = (x.executed ≡ Some n) × (x.ended ≡ None) × (y.started ≡ None) × (y.stopped ≡ None)
  Agrees (Runs n u) x y = (s : ℕ) × (x.executed ≡ Some n) × (x.ended ≡ None) × (y.started ≡ Some s) × (y.stopped ≡ None) × (u ≡ s + execution_length columns n)
  Agrees (Rests r) x y = (x.executed ≡ r) × Stopped r y

  agrees_started : (now n t : ℕ) (s : Doing) (x : Latest) (y : Execution) → may_start now s n t → Agrees s x y → Agrees (started_to columns t s) x (execution_by y (Starts n t))
  agrees_started now n t Shut x y m a = absurd m
  agrees_started now n t (ToStart k u) x y m a = (t, a.0, a.1, refl, a.3, refl)
  agrees_started now n t (Runs k u) x y m a = absurd m
  agrees_started now n t (Rests r) x y m a = absurd m

  agrees_stopped : (now n t : ℕ) (s : Doing) (x : Latest) (y : Execution) → may_stop now s n t → Agrees s x y → Agrees (stopped_to s) x (execution_by y (Stops n t))
  agrees_stopped now n t Shut x y m a = absurd m
  agrees_stopped now n t (ToStart k u) x y m a = absurd m
  agrees_stopped now n t (Runs k u) x y m a = (a.1, (t, refl))
  agrees_stopped now n t (Rests r) x y m a = absurd m

  agrees_opened : (t : ℕ) (l r o : Option ℕ) (x : Latest) (y : Execution) → Agrees (opened_to columns t l r) (latest_by x (Begins t r o)) (execution_by y (Begins t r o))
  agrees_opened t l None o x y = (refl, tt)
  agrees_opened t l (Some n) o x y = (refl, refl, refl, refl)

  -- at each event what the processor does agrees with what has occurred
  record Meets (s : Doing) (now : ℕ) (l : Option ℕ) (x : Latest) (y : Execution) (e : Event) (after : List Event) : Type 0 where
    allowed : Working columns now s l (e ∷ after)
    agrees : Agrees s x y

  meets : (before : List Event) (e : Event) (after : List Event) (now : ℕ) (s : Doing) (l : Option ℕ) (x : Latest) (y : Execution)
      → Working columns now s l (before ++ (e ∷ after)) → Agrees s x y
      → (s' : Doing) × (now' : ℕ) × (l' : Option ℕ) × Meets s' now' l' (latest x before) (execution y before) e after
  unfolding Working after
  meets [] e after now s l x y h a = (s, now, l, record { allowed = h; agrees = a })
  meets (Comes t ∷ es) e after now s l x y h a = meets es e after t s l x y h.1 a
  meets (Starts k t ∷ es) e after now s l x y h a = meets es e after now (started_to columns t s) l x (execution_by y (Starts k t)) h.1 (agrees_started now k t s x y h.0 a)
  meets (Stops k t ∷ es) e after now s l x y h a = meets es e after now (stopped_to s) l x (execution_by y (Stops k t)) h.1 (agrees_stopped now k t s x y h.0 a)
  meets (Finishes k ∷ es) e after now s l x y h a = meets es e after now s (Some k) x y h a
  meets (GivesWay k ∷ es) e after now s l x y h a = meets es e after now s None x y h a
  meets (Completes k t ∷ es) e after now s l x y h a = meets es e after now s l x y h a
  meets (Defers k t ∷ es) e after now s l x y h a = meets es e after now s l x y h a
  meets (Ends t ∷ es) e after now s l x y h a = meets es e after now Shut l (latest_by x (Ends t)) y h.1 tt
  meets (Takes k t m ∷ es) e after now s l x y h a = meets es e after now s l x y h a
  meets (Begins t r o ∷ es) e after now s l x y h a =
      meets es e after now (opened_to columns t l r) None (latest_by x (Begins t r o)) (execution_by y (Begins t r o)) h.1 (agrees_opened t l r o x y)

  starts_so : (s : Doing) (now n t : ℕ) (x : Latest) (y : Execution) → may_start now s n t → Agrees s x y → (x.executed ≡ Some n) × (x.ended ≡ None) × (y.started ≡ None)
  starts_so Shut now n t x y m a = absurd m
  starts_so (ToStart k u) now n t x y m a = (a.0 ∙ ap Some (sym m.0), a.1, a.2)
  starts_so (Runs k u) now n t x y m a = absurd m
  starts_so (Rests r) now n t x y m a = absurd m

  stops_so : (s : Doing) (now n t : ℕ) (x : Latest) (y : Execution) → may_stop now s n t → Agrees s x y
      → (v : ℕ) × (x.executed ≡ Some n) × (x.ended ≡ None) × (y.started ≡ Some v) × (y.stopped ≡ None) × (t ≡ v + execution_length columns n)
  stops_so Shut now n t x y m a = absurd m
  stops_so (ToStart k u) now n t x y m a = absurd m
  stops_so (Runs k u) now n t x y m a =
      let e : k ≡ n = sym m.0 in
      (a.0, a.1 ∙ ap Some e, a.2, a.3, a.4, m.1 ∙ a.5 ∙ ap (λ (j : ℕ). a.0 + execution_length columns j) e)
  stops_so (Rests r) now n t x y m a = absurd m

  ends_so : (s : Doing) (n : ℕ) (x : Latest) (y : Execution) → may_shut s → Agrees s x y → x.executed ≡ Some n → (v : ℕ) × (y.stopped ≡ Some v)
  ends_so Shut n x y m a e = absurd m
  ends_so (ToStart k u) n x y m a e = absurd m
  ends_so (Runs k u) n x y m a e = absurd m
  ends_so (Rests r) n x y m a e = subst (λ (r : Option ℕ). Stopped r y) (sym a.0 ∙ e) a.1

  module _ (h : List Event) (allowed : Working columns 0 Shut None h) (before after : List Event) where
    abbrev At : Event → Type 0
    At e = (s : Doing) × (now : ℕ) × (l : Option ℕ) × Meets s now l (latest none_yet before) (execution not_yet before) e after

    at_event : (e : Event) → h ≡ before ++ (e ∷ after) → At e
    at_event e x = meets before e after 0 Shut None none_yet not_yet (subst (Working columns 0 Shut None) x allowed) tt

    pub started_so : (n t : ℕ) → h ≡ before ++ (Starts n t ∷ after) → let x : Latest = latest none_yet before in
        (x.executed ≡ Some n) × (x.ended ≡ None) × ((execution not_yet before).started ≡ None)
    unfolding Working
    started_so n t e =
        let m : At (Starts n t) = at_event (Starts n t) e in
        starts_so m.0 m.1 n t (latest none_yet before) (execution not_yet before) m.3.allowed.0 m.3.agrees

    pub stopped_so : (n t : ℕ) → h ≡ before ++ (Stops n t ∷ after) → let x : Latest = latest none_yet before in let y : Execution = execution not_yet before in
        (v : ℕ) × (x.executed ≡ Some n) × (x.ended ≡ None) × (y.started ≡ Some v) × (y.stopped ≡ None) × (t ≡ v + execution_length columns n)
    unfolding Working
    stopped_so n t e =
        let m : At (Stops n t) = at_event (Stops n t) e in
        stops_so m.0 m.1 n t (latest none_yet before) (execution not_yet before) m.3.allowed.0 m.3.agrees

    pub ended_so : (n t : ℕ) → h ≡ before ++ (Ends t ∷ after) → (latest none_yet before).executed ≡ Some n → (v : ℕ) × ((execution not_yet before).stopped ≡ Some v)
    unfolding Working
    ended_so n t e x =
        let m : At (Ends t) = at_event (Ends t) e in
        ends_so m.0 n (latest none_yet before) (execution not_yet before) m.3.allowed.0 m.3.agrees x
