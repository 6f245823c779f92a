-- What the engine may copy out, along a history: a monitor that goes from event to event. From it follows the claim on each executed job, on
-- each interval that copies a job out, and on each completion.
use Rattle.std.proofs.Common.{◌≡◌, ◌∷◌, ◌++◌, ◌+◌, ◌≤◌, ◌<◌}
use Rattle.table.specs.Table.{copyout_length}
use Rattle.guarantees.specs.Types.{refl, sym, ap, ◌∙◌, subst, false, List, [], ℕ, Option, None, Some}
use native.Mathlib.Omega.{arith}
use borrow.Author.Tests.{eq-eqb, le-leb, lt-leb}
use lib.Dec.{eqb}
use Rattle.guarantees.specs.History.{Event, Starts, Stops, Comes, Finishes, Completes, Ends, Takes, Defers, GivesWay, Begins}
use Rattle.guarantees.specs.Queries.{end_tick, begin_tick, copied_out, completion, last_instant, Latest, none_yet, latest_by, latest, after, first}
use Rattle.guarantees.specs.Claim.{if_reached, CopiedOut}

-- ---- what the engine may do, along a history

-- between two events: no job is to be copied out; or one is, whose interval has ended at a time;
-- or an interval is open, with the task that it executes, and no copy-out under way; or with one of a task, which is to end at a time
pub data Engine : Type 0 where
  Free : Engine
  Owed : ℕ → ℕ → Engine
  Running : Option ℕ → Engine
  Busy : Option ℕ → ℕ → ℕ → Engine

-- a copy-out that is due has ended
abbrev pub at_end : ℕ → Engine → Type 0
at_end now Free = Unit {0}
at_end now (Owed t n) = ⊥
at_end now (Running r) = Unit {0}
at_end now (Busy r n u) = now < u

abbrev pub may_complete : ℕ → Engine → ℕ → ℕ → Type 0
may_complete now Free n t = ⊥
may_complete now (Owed x m) n t = ⊥
may_complete now (Running r) n t = ⊥
may_complete now (Busy r m u) n t = (n ≡ m) × (t ≡ u) × (t ≡ now)

abbrev pub completed_to : Engine → Engine
completed_to Free = Free
completed_to (Owed t n) = Owed t n
completed_to (Running r) = Running r
completed_to (Busy r m u) = Running r

abbrev pub may_end : Engine → Type 0
may_end Free = ⊥
may_end (Owed t n) = ⊥
may_end (Running r) = Unit {0}
may_end (Busy r m u) = ⊥

abbrev pub owes : ℕ → Option ℕ → Engine
owes t None = Free
owes t (Some n) = Owed t n

abbrev pub ended_to : Engine → ℕ → Engine
ended_to Free t = Free
ended_to (Owed x n) t = Owed x n
ended_to (Running r) t = owes t r
ended_to (Busy r m u) t = Busy r m u

abbrev pub may_begin : Engine → ℕ → Option ℕ → Type 0
may_begin Free t l = l ≡ None
may_begin (Owed x n) t l = (t ≡ x) × (l ≡ Some n)
may_begin (Running r) t l = ⊥
may_begin (Busy r m u) t l = ⊥

-- an interval does not copy out the task that it executes
abbrev pub Apart : Option ℕ → Option ℕ → Type 0
Apart None l = Unit {0}
Apart (Some n) None = Unit {0}
Apart (Some n) (Some m) = eqb n m ≡ false

module _ (columns : List ℕ) where
  abbrev pub begun_to : ℕ → Option ℕ → Option ℕ → Engine
  begun_to t r None = Running r
  begun_to t r (Some n) = Busy r n (t + copyout_length columns n)

  -- from the engine's state at a time on
  unfoldable pub Leaving : ℕ → Engine → List Event → Type 0
  Leaving now s [] = at_end now s
  Leaving now s (Comes t ∷ es) = (now ≤ t) × Leaving t s es
  Leaving now s (Takes n t m ∷ es) = Leaving now s es
  Leaving now s (Finishes n ∷ es) = Leaving now s es
  Leaving now s (Defers n t ∷ es) = Leaving now s es
  Leaving now s (GivesWay n ∷ es) = Leaving now s es
  Leaving now s (Starts n v ∷ es) = Leaving now s es
  Leaving now s (Stops n v ∷ es) = Leaving now s es
  Leaving now s (Completes n t ∷ es) = may_complete now s n t × Leaving now (completed_to s) es
  Leaving now s (Ends t ∷ es) = may_end s × Leaving now (ended_to s t) es
  Leaving now s (Begins t r l ∷ es) = ((t ≡ now) × Apart r l × may_begin s t l) × Leaving now (begun_to t r l) es

-- ---- from there to the claim on each executed job

module _ (columns : List ℕ) where
  onward : (es : List Event) (now : ℕ) (s : Engine) → Leaving columns now s es → now ≤ last_instant now es
  unfolding Leaving after
  onward [] now s h = omega arith
  onward (Comes t ∷ es) now s h = omega (arith, h.0, onward es t s h.1)
  onward (Takes n t m ∷ es) now s h = onward es now s h
  onward (Finishes n ∷ es) now s h = onward es now s h
  onward (Defers n t ∷ es) now s h = onward es now s h
  onward (GivesWay n ∷ es) now s h = onward es now s h
  onward (Starts n v ∷ es) now s h = onward es now s h
  onward (Stops n v ∷ es) now s h = onward es now s h
  onward (Completes n t ∷ es) now s h = onward es now (completed_to s) h.1
  onward (Ends t ∷ es) now s h = onward es now (ended_to s t) h.1
  onward (Begins t r l ∷ es) now s h = onward es now (begun_to columns t r l) h.1

  module _ (n : ℕ) where
    -- its copy-out is under way
    busy : (es : List Event) (now : ℕ) (r : Option ℕ) (u : ℕ) → Leaving columns now (Busy r n u) es → completion n es ≡ if_reached (last_instant now es) u
    unfolding Leaving first after
    busy [] now r u h = rw (lt-leb u now h)
    busy (Comes t ∷ es) now r u h = busy es t r u h.1
    busy (Takes k t m ∷ es) now r u h = busy es now r u h
    busy (Finishes k ∷ es) now r u h = busy es now r u h
    busy (Defers k t ∷ es) now r u h = busy es now r u h
    busy (GivesWay k ∷ es) now r u h = busy es now r u h
    busy (Starts k v ∷ es) now r u h = busy es now r u h
    busy (Stops k v ∷ es) now r u h = busy es now r u h
    busy (Completes k t ∷ es) now r u h =
        let l : u ≤ last_instant now es = omega (arith, h.0.1, h.0.2, onward es now (Running r) h.1) in
        rw (eq-eqb n k (sym h.0.0), le-leb u (last_instant now es) l) (ap Some h.0.1)
    busy (Ends t ∷ es) now r u h = absurd h.0
    busy (Begins t q l ∷ es) now r u h = absurd h.0.2

    -- its interval has ended at e
    pub record Leaves (e now : ℕ) (es : List Event) : Type 0 where
      pub begins : (begin_tick es ≡ Some e) × (copied_out es ≡ Some n)
      pub completes : completion n es ≡ if_reached (last_instant now es) (e + copyout_length columns n)

    owed : (es : List Event) (now e : ℕ) → Leaving columns now (Owed e n) es → Leaves e now es
    unfolding Leaving first after
    owed [] now e h = absurd h
    owed (Comes t ∷ es) now e h = let x : Leaves e t es = owed es t e h.1 in record { begins = x.begins; completes = x.completes }
    owed (Takes k t m ∷ es) now e h = let x : Leaves e now es = owed es now e h in record { begins = x.begins; completes = x.completes }
    owed (Finishes k ∷ es) now e h = let x : Leaves e now es = owed es now e h in record { begins = x.begins; completes = x.completes }
    owed (Defers k t ∷ es) now e h = let x : Leaves e now es = owed es now e h in record { begins = x.begins; completes = x.completes }
    owed (GivesWay k ∷ es) now e h = let x : Leaves e now es = owed es now e h in record { begins = x.begins; completes = x.completes }
    owed (Starts k v ∷ es) now e h = let x : Leaves e now es = owed es now e h in record { begins = x.begins; completes = x.completes }
    owed (Stops k v ∷ es) now e h = let x : Leaves e now es = owed es now e h in record { begins = x.begins; completes = x.completes }
    owed (Completes k t ∷ es) now e h = absurd h.0
    owed (Ends t ∷ es) now e h = absurd h.0
    owed (Begins t r l ∷ es) now e h = record {
      begins = (ap Some h.0.2.0, h.0.2.1);
      completes =
          busy es now r (e + copyout_length columns n)
          (subst (λ (s : Engine). Leaving columns now s es) (ap (begun_to columns t r) h.0.2.1 ∙ ap (λ (x : ℕ). Busy r n (x + copyout_length columns n)) h.0.2.0) h.1);
    }

    -- an interval that executes it is open
    abbrev Runs : Engine → Type 0
    Runs Free = ⊥
    Runs (Owed t m) = ⊥
    Runs (Running r) = r ≡ Some n
    Runs (Busy r m u) = (r ≡ Some n) × (eqb n m ≡ false)

    running : (es : List Event) (now : ℕ) (s : Engine) → Runs s → Leaving columns now s es → (e : ℕ) → end_tick es ≡ Some e → Leaves e now es
    unfolding Leaving first after
    running [] now s r h e x = absurd (let z : ◌≡◌ {A = ℕ} 0 1 = cc in omega arith)
    running (Comes t ∷ es) now s r h e x = let y : Leaves e t es = running es t s r h.1 e x in record { begins = y.begins; completes = y.completes }
    running (Takes k t m ∷ es) now s r h e x = let y : Leaves e now es = running es now s r h e x in record { begins = y.begins; completes = y.completes }
    running (Finishes k ∷ es) now s r h e x = let y : Leaves e now es = running es now s r h e x in record { begins = y.begins; completes = y.completes }
    running (Defers k t ∷ es) now s r h e x = let y : Leaves e now es = running es now s r h e x in record { begins = y.begins; completes = y.completes }
    running (GivesWay k ∷ es) now s r h e x = let y : Leaves e now es = running es now s r h e x in record { begins = y.begins; completes = y.completes }
    running (Starts k v ∷ es) now s r h e x = let y : Leaves e now es = running es now s r h e x in record { begins = y.begins; completes = y.completes }
    running (Stops k v ∷ es) now s r h e x = let y : Leaves e now es = running es now s r h e x in record { begins = y.begins; completes = y.completes }
    running (Completes k t ∷ es) now Free r h e x = absurd r
    running (Completes k t ∷ es) now (Owed a b) r h e x = absurd r
    running (Completes k t ∷ es) now (Running q) r h e x = absurd h.0
    running (Completes k t ∷ es) now (Busy q m u) r h e x =
        let y : Leaves e now es = running es now (Running q) r.0 h.1 e x in
        record { begins = y.begins; completes = rw (ap (eqb n) h.0.0 ∙ r.1) y.completes }
    running (Ends t ∷ es) now Free r h e x = absurd r
    running (Ends t ∷ es) now (Owed a b) r h e x = absurd r
    running (Ends t ∷ es) now (Running q) r h e x =
        let z : t ≡ e = cc in
        let y : Leaves e now es = owed es now e (subst (λ (s : Engine). Leaving columns now s es) (ap (owes t) r ∙ ap (λ (j : ℕ). Owed j n) z) h.1) in
        record { begins = y.begins; completes = y.completes }
    running (Ends t ∷ es) now (Busy q m u) r h e x = absurd h.0
    running (Begins t q l ∷ es) now Free r h e x = absurd r
    running (Begins t q l ∷ es) now (Owed a b) r h e x = absurd r
    running (Begins t q l ∷ es) now (Running p) r h e x = absurd h.0.2
    running (Begins t q l ∷ es) now (Busy p m u) r h e x = absurd h.0.2

    begun_runs : (t : ℕ) (l : Option ℕ) → Apart (Some n) l → Runs (begun_to columns t (Some n) l)
    begun_runs t None a = refl
    begun_runs t (Some m) a = (refl, a)

    pub copied : (t : ℕ) (l : Option ℕ) (es : List Event) → Apart (Some n) l → Leaving columns t (begun_to columns t (Some n) l) es → CopiedOut (copyout_length columns n) n t es
    copied t l es a h = record {
      copyout_begins = λ e x. (running es t (begun_to columns t (Some n) l) (begun_runs t l a) h e x).begins;
      copyout_ends = λ e x. (running es t (begun_to columns t (Some n) l) (begun_runs t l a) h e x).completes;
    }

    -- at each interval of a history that executes it
    split : (before after : List Event) (t now : ℕ) (l : Option ℕ) (s : Engine) → Leaving columns now s (before ++ (Begins t (Some n) l ∷ after))
        → CopiedOut (copyout_length columns n) n t after
    unfolding Leaving
    split [] after t now l s h =
        copied t l after h.0.1 (subst (λ (x : ℕ). Leaving columns x (begun_to columns t (Some n) l) after) (sym h.0.0) h.1)
    split (Comes u ∷ es) after t now l s h = split es after t u l s h.1
    split (Takes k u m ∷ es) after t now l s h = split es after t now l s h
    split (Finishes k ∷ es) after t now l s h = split es after t now l s h
    split (Defers k u ∷ es) after t now l s h = split es after t now l s h
    split (GivesWay k ∷ es) after t now l s h = split es after t now l s h
    split (Starts k v ∷ es) after t now l s h = split es after t now l s h
    split (Stops k v ∷ es) after t now l s h = split es after t now l s h
    split (Completes k u ∷ es) after t now l s h = split es after t now l (completed_to s) h.1
    split (Ends u ∷ es) after t now l s h = split es after t now l (ended_to s u) h.1
    split (Begins u r m ∷ es) after t now l s h = split es after t now l (begun_to columns u r m) h.1

    pub executed_in : (h before after : List Event) (t now : ℕ) (l : Option ℕ) (s : Engine) → Leaving columns now s h
        → h ≡ before ++ (Begins t (Some n) l ∷ after) → CopiedOut (copyout_length columns n) n t after
    executed_in h before after t now l s x e = split before after t now l s (subst (Leaving columns now s) e x)

-- ---- and to the claim on what is copied out, and on what completes

module _ (columns : List ℕ) where
  -- what the engine does, by the last interval begun
  abbrev Agrees : Engine → Latest → Type 0
  Agrees Free x = Unit {0}
  Agrees (Owed e m) x = (x.executed ≡ Some m) × (x.ended ≡ Some e)
  Agrees (Running r) x = x.executed ≡ r
  Agrees (Busy r m u) x = (x.executed ≡ r) × ((b : ℕ) × (x.begun ≡ Some b) × (x.ended ≡ None) × (x.out ≡ Some m) × (u ≡ b + copyout_length columns m))

  agrees_completed : (s : Engine) (x : Latest) → Agrees s x → Agrees (completed_to s) x
  agrees_completed Free x a = tt
  agrees_completed (Owed e m) x a = a
  agrees_completed (Running r) x a = a
  agrees_completed (Busy r m u) x a = a.0

  agrees_ended : (s : Engine) (x : Latest) (t : ℕ) → may_end s → Agrees s x → Agrees (ended_to s t) (latest_by x (Ends t))
  agrees_ended Free x t m a = absurd m
  agrees_ended (Owed e k) x t m a = absurd m
  agrees_ended (Running None) x t m a = tt
  agrees_ended (Running (Some k)) x t m a = (a, refl)
  agrees_ended (Busy r k u) x t m a = absurd m

  agrees_begun : (t : ℕ) (r l : Option ℕ) (x : Latest) → Agrees (begun_to columns t r l) (latest_by x (Begins t r l))
  agrees_begun t r None x = refl
  agrees_begun t r (Some n) x = (refl, (t, refl, refl, refl, refl))

  -- at each event the engine's state agrees with what has occurred
  record Meets (s : Engine) (now : ℕ) (x : Latest) (e : Event) (after : List Event) : Type 0 where
    allowed : Leaving columns now s (e ∷ after)
    agrees : Agrees s x

  meets : (before : List Event) (e : Event) (after : List Event) (now : ℕ) (s : Engine) (x : Latest) → Leaving columns now s (before ++ (e ∷ after)) → Agrees s x
      → (s' : Engine) × (now' : ℕ) × Meets s' now' (latest x before) e after
  unfolding Leaving after
  meets [] e after now s x h a = (s, now, record { allowed = h; agrees = a })
  meets (Comes t ∷ es) e after now s x h a = meets es e after t s x h.1 a
  meets (Takes k t m ∷ es) e after now s x h a = meets es e after now s x h a
  meets (Finishes k ∷ es) e after now s x h a = meets es e after now s x h a
  meets (Defers k t ∷ es) e after now s x h a = meets es e after now s x h a
  meets (GivesWay k ∷ es) e after now s x h a = meets es e after now s x h a
  meets (Starts k v ∷ es) e after now s x h a = meets es e after now s x h a
  meets (Stops k v ∷ es) e after now s x h a = meets es e after now s x h a
  meets (Completes k t ∷ es) e after now s x h a = meets es e after now (completed_to s) x h.1 (agrees_completed s x a)
  meets (Ends t ∷ es) e after now s x h a = meets es e after now (ended_to s t) (latest_by x (Ends t)) h.1 (agrees_ended s x t h.0 a)
  meets (Begins t r l ∷ es) e after now s x h a = meets es e after now (begun_to columns t r l) (latest_by x (Begins t r l)) h.1 (agrees_begun t r l x)

  begins_so : (s : Engine) (now n b : ℕ) (r : Option ℕ) (x : Latest) (after : List Event) → Leaving columns now s (Begins b r (Some n) ∷ after) → Agrees s x
      → (x.executed ≡ Some n) × (x.ended ≡ Some b)
  unfolding Leaving
  begins_so Free now n b r x after h a = absurd (let z : Some n ≡ None = h.0.2 in let y : ◌≡◌ {A = ℕ} 0 1 = cc in omega arith)
  begins_so (Owed e m) now n b r x after h a = (a.0 ∙ sym h.0.2.1, a.1 ∙ ap Some (sym h.0.2.0))
  begins_so (Running q) now n b r x after h a = absurd h.0.2
  begins_so (Busy q m u) now n b r x after h a = absurd h.0.2

  completes_so : (s : Engine) (now n c : ℕ) (x : Latest) (after : List Event) → Leaving columns now s (Completes n c ∷ after) → Agrees s x
      → (b : ℕ) × (x.begun ≡ Some b) × (x.ended ≡ None) × (x.out ≡ Some n) × (c ≡ b + copyout_length columns n)
  unfolding Leaving
  completes_so Free now n c x after h a = absurd h.0
  completes_so (Owed e m) now n c x after h a = absurd h.0
  completes_so (Running q) now n c x after h a = absurd h.0
  completes_so (Busy q m u) now n c x after h a =
      let e : m ≡ n = sym h.0.0 in
      (a.1.0, a.1.1, a.1.2, a.1.3 ∙ ap Some e, h.0.1 ∙ a.1.4 ∙ ap (λ (k : ℕ). a.1.0 + copyout_length columns k) e)

  module _ (h : List Event) (allowed : Leaving columns 0 Free h) (before after : List Event) where
    pub copied_out_so : (n b : ℕ) (r : Option ℕ) → h ≡ before ++ (Begins b r (Some n) ∷ after) → let x : Latest = latest none_yet before in (x.executed ≡ Some n) × (x.ended ≡ Some b)
    copied_out_so n b r e =
        let m : (s : Engine) × (now : ℕ) × Meets s now (latest none_yet before) (Begins b r (Some n)) after =
        meets before (Begins b r (Some n)) after 0 Free none_yet (subst (Leaving columns 0 Free) e allowed) tt in
        begins_so m.0 m.1 n b r (latest none_yet before) after m.2.allowed m.2.agrees

    pub completed_so : (n c : ℕ) → h ≡ before ++ (Completes n c ∷ after) → let x : Latest = latest none_yet before in
        (b : ℕ) × (x.begun ≡ Some b) × (x.ended ≡ None) × (x.out ≡ Some n) × (c ≡ b + copyout_length columns n)
    completed_so n c e =
        let m : (s : Engine) × (now : ℕ) × Meets s now (latest none_yet before) (Completes n c) after =
        meets before (Completes n c) after 0 Free none_yet (subst (Leaving columns 0 Free) e allowed) tt in
        completes_so m.0 m.1 n c (latest none_yet before) after m.2.allowed m.2.agrees
