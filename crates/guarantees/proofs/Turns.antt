-- One job at a time: a monitor of a task that goes from event to event, from which the claim on its jobs and on its release that waits follows; and that
-- every history passes it, since a state says where the job of a task is.
use Rattle.std.proofs.Common.{◌≡◌, ◌&&◌, ◌∷◌, ◌++◌, ◌<◌}
use Rattle.guarantees.specs.Types.{refl, sym, ap, ◌∙◌, subst, Bool, true, false, cond, true≢false, false≢true, List, [], ℕ, Some, Option, None}
use native.Mathlib.Omega.{arith}
use lib.Dec.{eqb}
use Rattle.sets.proofs.Laws.{by-test, same_task}
use Rattle.guarantees.specs.History.{Event, Comes, Starts, Stops, Finishes, Completes, Ends, Takes, Defers, GivesWay, Begins}
use Rattle.guarantees.specs.Queries.{details, is_task, takes, defers, after, first, waiting, taking, completion}
use Rattle.guarantees.specs.Pending.{place_by, place, OneAtATime, now_by, now, says_tick, InTime}
use Rattle.guarantees.proofs.Deferred.{waits_by, waits_in}

-- ---- the monitor

-- the instant that came last, where the job of a task is, and whether a release of it waits
pub record View : Type 0 where
  pub now : Option ℕ
  pub place : ℕ
  pub held : Bool

abbrev pub nothing : View
nothing = record { now = None; place = 0; held = false }

module _ (n : ℕ) where
  abbrev pub view_by : View → Event → View
  view_by v e = record { now = now_by v.now e; place = place_by n v.place e; held = waits_by n v.held e }

  -- a release waits only behind a pending job, whenever an instant is over
  abbrev pub Behind : View → Type 0
  Behind v = v.held ≡ true → v.place ≡ 0 → ⊥

  abbrev pub May : View → Event → Type 0
  May v (Comes t) = ((u : ℕ) → v.now ≡ Some u → u < t) × Behind v
  May v (Starts k t) = v.now ≡ Some t
  May v (Stops k t) = v.now ≡ Some t
  May v (Finishes k) = Unit {0}
  May v (Completes k t) = (v.now ≡ Some t) × (eqb n k ≡ true → v.place ≡ 3)
  May v (Ends t) = v.now ≡ Some t
  May v (Takes k t m) = (v.now ≡ Some t) × (eqb n k ≡ true → v.place ≡ 0)
  May v (Defers k t) = (v.now ≡ Some t) × (eqb n k ≡ true → (v.place ≡ 0 → ⊥) × (v.held ≡ false))
  May v (GivesWay k) = Unit {0}
  May v (Begins t r l) = (v.now ≡ Some t) × (is_task n r ≡ true → v.place ≡ 1) × (is_task n l ≡ true → v.place ≡ 2)

  unfoldable pub Turning : View → List Event → Type 0
  Turning v [] = Behind v
  Turning v (e ∷ es) = May v e × Turning (view_by v e) es

  -- ---- at some event of a history

  abbrev pub seen : View → List Event → View
  seen = after view_by

  turning_at : (before : List Event) (e : Event) (es : List Event) (v : View) → Turning v (before ++ (e ∷ es)) → Turning (seen v before) (e ∷ es)
  unfolding Turning after
  turning_at [] e es v h = h
  turning_at (x ∷ before) e es v h = turning_at before e es (view_by v x) h.1

  -- what the monitor has seen is what the claim asks for
  seen_now : (es : List Event) (v : View) → (seen v es).now ≡ after now_by v.now es
  unfolding after
  seen_now [] v = refl
  seen_now (e ∷ es) v = seen_now es (view_by v e)

  seen_place : (es : List Event) (v : View) → (seen v es).place ≡ after (place_by n) v.place es
  unfolding after
  seen_place [] v = refl
  seen_place (e ∷ es) v = seen_place es (view_by v e)

  seen_held : (es : List Event) (v : View) → (seen v es).held ≡ waits_in n v.held es
  unfolding after
  seen_held [] v = refl
  seen_held (e ∷ es) v = seen_held es (view_by v e)

  abbrev pub stands : Option ℕ → Bool
  stands None = false
  stands (Some u) = true

  stands_by : (a b c : Bool) (t : ℕ) (w : Option ℕ) → stands (cond a (cond b (Some t) (cond c None w)) w) ≡ cond (b && a) true (cond (c && a) false (stands w))
  stands_by true true c t w = refl
  stands_by true false true t w = refl
  stands_by true false false t w = refl
  stands_by false true true t w = refl
  stands_by false true false t w = refl
  stands_by false false true t w = refl
  stands_by false false false t w = refl

  pub held_is : (es : List Event) (w : Option ℕ) → stands (waiting n w es) ≡ waits_in n (stands w) es
  unfolding after
  held_is [] w = refl
  held_is (e ∷ es) w =
      held_is es (cond (is_task n (details e).task) (cond (defers e) (Some (details e).tick) (cond (takes e) None w)) w)
      ∙ ap (λ (b : Bool). waits_in n b es) (stands_by (is_task n (details e).task) (defers e) (takes e) (details e).tick w)

  pub none_held : (w : Option ℕ) → stands w ≡ false → w ≡ None
  none_held None h = refl
  none_held (Some u) h = absurd (true≢false h)

  pub some_held : (w : Option ℕ) → stands w ≡ true → (u : ℕ) × (w ≡ Some u)
  some_held None h = absurd (false≢true h)
  some_held (Some u) h = (u, refl)

  -- ---- a release that waits where its task has no pending job is taken before the instant is over

  resumes : (es : List Event) (t : ℕ) → Turning (record { now = Some t; place = 0; held = true }) es → taking n es ≡ Some t
  unfolding Turning first
  resumes [] t h = absurd (h refl refl)
  resumes (Comes u ∷ es) t h = absurd (h.0.1 refl refl)
  resumes (Starts k u ∷ es) t h = resumes es t h.1
  resumes (Stops k u ∷ es) t h = resumes es t h.1
  resumes (Finishes k ∷ es) t h = resumes es t h.1
  resumes (Completes k u ∷ es) t h = by-test (eqb n k) (λ e. absurd (let z : ◌≡◌ {A = ℕ} 0 3 = h.0.1 e in omega arith)) (λ e. resumes es t (rw e at h.1))
  resumes (Ends u ∷ es) t h = resumes es t h.1
  resumes (Takes k u m ∷ es) t h = by-test (eqb n k) (λ e. rw e (sym h.0.0)) (λ e. rw e (resumes es t (rw e at h.1)))
  resumes (Defers k u ∷ es) t h = by-test (eqb n k) (λ e. absurd ((h.0.1 e).0 refl)) (λ e. resumes es t (rw e at h.1))
  resumes (GivesWay k ∷ es) t h = resumes es t h.1
  resumes (Begins u r l ∷ es) t h =
      by-test (is_task n r) (λ e. absurd (let z : ◌≡◌ {A = ℕ} 0 1 = h.0.1 e in omega arith))
      (λ e. by-test (is_task n l) (λ f. absurd (let z : ◌≡◌ {A = ℕ} 0 2 = h.0.2 f in omega arith)) (λ f. resumes es t (rw (e, f) at h.1)))

  -- ---- one that waits behind a pending job is taken when that job completes

  tick-of {ℓ} : {A : Type ℓ} (t : ℕ) → Some t ≡ None → A
  tick-of t h = absurd (let z : ◌≡◌ {A = ℕ} 0 1 = cc in omega arith)

  next_is : (between later : List Event) (tick : ℕ) (m : Bool) → taking n between ≡ None → taking n (between ++ (Takes n tick m ∷ later)) ≡ Some tick
  unfolding first
  next_is [] later tick m h = ap (λ (b : Bool). cond b (Some tick) (taking n later)) (same_task n)
  next_is (e ∷ between) later tick m h =
      by-test (takes e && is_task n (details e).task) (λ x. tick-of (details e).tick (rw x at h)) (λ x. rw x (next_is between later tick m (rw x at h)))

  resumed : (between later : List Event) (tick : ℕ) (m : Bool) (v : View) → v.held ≡ true → (v.place ≡ 0 → ⊥) → taking n between ≡ None
      → Turning v (between ++ (Takes n tick m ∷ later)) → completion n between ≡ Some tick
  unfolding Turning first
  resumed [] later tick m v w p x h = absurd (p (h.0.1 (same_task n)))
  resumed (Comes u ∷ es) later tick m v w p x h = resumed es later tick m (view_by v (Comes u)) w p x h.1
  resumed (Starts k u ∷ es) later tick m v w p x h = resumed es later tick m v w p x h.1
  resumed (Stops k u ∷ es) later tick m v w p x h = resumed es later tick m v w p x h.1
  resumed (Finishes k ∷ es) later tick m v w p x h = resumed es later tick m v w p x h.1
  resumed (Ends u ∷ es) later tick m v w p x h = resumed es later tick m v w p x h.1
  resumed (GivesWay k ∷ es) later tick m v w p x h = resumed es later tick m v w p x h.1
  resumed (Completes k u ∷ es) later tick m v w p x h =
      by-test (eqb n k)
      (λ e. rw e (sym (resumes (es ++ (Takes n tick m ∷ later)) u
      (subst (λ (b : Bool). Turning (record { now = Some u; place = 0; held = b }) (es ++ (Takes n tick m ∷ later))) w
      (subst (λ (d : Option ℕ). Turning (record { now = d; place = 0; held = v.held }) (es ++ (Takes n tick m ∷ later))) h.0.0 (rw e at h.1))))
      ∙ next_is es later tick m x))
      (λ e. rw e (resumed es later tick m v w p x (rw e at h.1)))
  resumed (Takes k u b ∷ es) later tick m v w p x h =
      by-test (eqb n k) (λ e. tick-of u (rw e at x)) (λ e. resumed es later tick m v w p (rw e at x) (rw e at h.1))
  resumed (Defers k u ∷ es) later tick m v w p x h =
      by-test (eqb n k) (λ e. absurd (true≢false (sym w ∙ (h.0.1 e).1))) (λ e. resumed es later tick m v w p x (rw e at h.1))
  resumed (Begins u r l ∷ es) later tick m v w p x h =
      resumed es later tick m (view_by v (Begins u r l)) w (go (is_task n r) (is_task n l)) x h.1
    where
      go : (a b : Bool) → cond a 2 (cond b 3 v.place) ≡ 0 → ⊥
      go true b z = omega arith
      go false true z = omega arith
      go false false z = p z

  -- ---- the claim

  module _ (h : List Event) (turning : Turning nothing h) where
    at_event : (before : List Event) (e : Event) (after : List Event) → h ≡ before ++ (e ∷ after)
        → Turning (record { now = now before; place = place n before; held = waits_in n false before }) (e ∷ after)
    at_event before e after x =
        subst (λ (w : Option ℕ). Turning (record { now = w; place = place n before; held = waits_in n false before }) (e ∷ after)) (seen_now before nothing)
        (subst (λ (p : ℕ). Turning (record { now = (seen nothing before).now; place = p; held = waits_in n false before }) (e ∷ after)) (seen_place before nothing)
        (subst (λ (b : Bool). Turning (record { now = (seen nothing before).now; place = (seen nothing before).place; held = b }) (e ∷ after)) (seen_held before nothing)
        (turning_at before e after nothing (subst (Turning nothing) x turning))))

    free : (before : List Event) → waits_in n false before ≡ false → waiting n None before ≡ None
    free before e = none_held (waiting n None before) (held_is before None ∙ e)

    held : (before : List Event) (u : ℕ) → waiting n None before ≡ Some u → waits_in n false before ≡ true
    held before u e = sym (held_is before None) ∙ ap stands e

    pub one_at_a_time : OneAtATime n h
    unfolding Turning
    one_at_a_time = record {
      at_taking = λ before after t m x. (at_event before (Takes n t m) after x).0.1 (same_task n);
      at_execution = λ before after t l x. (at_event before (Begins t (Some n) l) after x).0.1 (same_task n);
      at_copyout = λ before after t r x. (at_event before (Begins t r (Some n)) after x).0.2 (same_task n);
      at_completion = λ before after c x. (at_event before (Completes n c) after x).0.1 (same_task n);
      at_waiting = λ before after t x.
          let y : (place n before ≡ 0 → ⊥) × (waits_in n false before ≡ false) = (at_event before (Defers n t) after x).0.1 (same_task n) in
          (y.0, free before y.1);
      at_resuming = λ before after c u x w. completes_then before after c u x w;
    }
      where
        completes_then : (before after : List Event) (c u : ℕ) → h ≡ before ++ (Completes n c ∷ after) → waiting n None before ≡ Some u → taking n after ≡ Some c
        completes_then before after c u x w =
            let y : May (record { now = now before; place = place n before; held = waits_in n false before }) (Completes n c)
            × Turning (view_by (record { now = now before; place = place n before; held = waits_in n false before }) (Completes n c)) after =
            unfold Turning in at_event before (Completes n c) after x in
            resumes after c
            (subst (λ (w : Option ℕ). Turning (record { now = w; place = 0; held = true }) after) y.0.0
            (subst (λ (b : Bool). Turning (record { now = now before; place = 0; held = b }) after) (held before u w)
            (subst (λ (b : Bool). Turning (record { now = now before; place = cond b 0 (place n before); held = waits_in n false before }) after) (same_task n) y.1)))

    pub resumed_in : (before after between later : List Event) (t tick : ℕ) (m : Bool) → h ≡ before ++ (Defers n t ∷ after)
        → after ≡ between ++ (Takes n tick m ∷ later) → taking n between ≡ None → completion n between ≡ Some tick
    unfolding Turning
    resumed_in before after between later t tick m x y z =
        let w : View = record { now = now before; place = place n before; held = true } in
        let e : May (record { now = now before; place = place n before; held = waits_in n false before }) (Defers n t)
        × Turning (view_by (record { now = now before; place = place n before; held = waits_in n false before }) (Defers n t)) after =
        at_event before (Defers n t) after x in
        resumed between later tick m w refl (e.0.1 (same_task n)).0 z
        (subst (Turning w) y (subst (λ (b : Bool). Turning (record { now = now before; place = place n before; held = cond b true (waits_in n false before) }) after) (same_task n) e.1))

    -- from the taking of a job on: it has been taken, and none waits
    pub taken_at : (before after : List Event) (t : ℕ) (m : Bool) → h ≡ before ++ (Takes n t m ∷ after)
        → (v : Option ℕ) × Turning (record { now = v; place = 1; held = false }) after
    unfolding Turning
    taken_at before after t m x = (
      now before,
      subst (λ (b : Bool). Turning (record { now = now before; place = cond b 1 (place n before); held = cond b false (waits_in n false before) }) after) (same_task n)
          (at_event before (Takes n t m) after x).1,
    )

    timed : (v : View) (e : Event) → May v e → says_tick e ≡ true → v.now ≡ Some (details e).tick
    timed v (Comes t) m s = absurd (false≢true s)
    timed v (Starts k t) m s = m
    timed v (Stops k t) m s = m
    timed v (Finishes k) m s = absurd (false≢true s)
    timed v (Completes k t) m s = m.0
    timed v (Ends t) m s = m
    timed v (Takes k t b) m s = m.0
    timed v (Defers k t) m s = m.0
    timed v (GivesWay k) m s = absurd (false≢true s)
    timed v (Begins t r l) m s = m.0

    pub in_time : InTime h
    unfolding Turning
    in_time = record {
      rising = λ before after t u x e. (at_event before (Comes t) after x).0.0 u e;
      on_time = λ before after e x s. timed (record { now = now before; place = place n before; held = waits_in n false before }) e (at_event before e after x).0 s;
    }
