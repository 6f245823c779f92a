-- The events of an instant: what holds of a list of events and is kept by each kind of event holds with those of a step before it; the three
-- parts of an instant, before, at and after the releases; and the intervals that begin in them.
use Rattle.std.proofs.Common.{◌≡◌, ◌∷◌, ◌++◌, ◌<◌}
use Rattle.guarantees.specs.Types.{refl, ap, ◌∙◌, Bool, true, false, cond, List, [], append_assoc, ℕ, zero, suc, Option, JobEntry, None, Some, Processor, Idle, CopyingIn, Executing, Finished, CopyIn, Unchosen, NoneChosen, Copying, Loaded, Cancelled, Phase, Between, Within, State}
use native.Mathlib.Omega.{arith}
use lib.Dec.{eqb}
use Rattle.sets.specs.Sets.{member}
use Rattle.rules.specs.Instant.{processor_task, copyout_task, at_a, at_b, at_e, at_f, at_g, taken_at, deferred_at}
use Rattle.guarantees.specs.History.{Event, Comes, Starts, Stops, Finishes, Completes, Ends, Takes, Defers, GivesWay, Begins, happens, processor_events, processor_events_in, finish_events, finish_events_in, completion_events, end_events, take_events, defer_events, given_way, giving_events, giving_events_in, begin_events, execution_events, start_events}
use Rattle.guarantees.specs.Queries.{intervals, each}

-- ---- the events of each step

module _ (P : List Event → Type 0) where
  pub by_processor_at : (t : ℕ) → ((n : ℕ) (es : List Event) → P es → P (Starts n t ∷ es)) → ((n : ℕ) (es : List Event) → P es → P (Stops n t ∷ es))
      → (p : Phase) (es : List Event) → P es → P (processor_events_in t p ++ es)
  unfolding processor_events_in processor_events
  by_processor_at t f g (Between next outgoing) es h = h
  by_processor_at t f g (Within i) es h = go i.processor
    where
      go_starts : (n : ℕ) (b : Bool) → P (cond b (Starts n t ∷ []) [] ++ es)
      go_starts n true = f n es h
      go_starts n false = h

      go_stops : (n : ℕ) (b : Bool) → P (cond b (Stops n t ∷ []) [] ++ es)
      go_stops n true = g n es h
      go_stops n false = h

      go : (q : Processor) → P (processor_events t q ++ es)
      go Idle = h
      go (CopyingIn n until) = go_starts n (eqb until t)
      go (Executing n start until) = go_stops n (eqb until t)
      go (Finished n start) = h

  pub by_processor : ((n t : ℕ) (es : List Event) → P es → P (Starts n t ∷ es)) → ((n t : ℕ) (es : List Event) → P es → P (Stops n t ∷ es))
      → (t : ℕ) (p : Phase) (es : List Event) → P es → P (processor_events_in t p ++ es)
  by_processor f g t p es h = by_processor_at t (λ n. f n t) (λ n. g n t) p es h

  pub by_starts : (t : ℕ) → ((n : ℕ) (es : List Event) → P es → P (Starts n t ∷ es)) → (p q : Phase) (es : List Event) → P es → P (start_events t p q ++ es)
  unfolding start_events execution_events
  by_starts t f (Within i) q es h = h
  by_starts t f (Between next outgoing) (Between x y) es h = h
  by_starts t f (Between next outgoing) (Within j) es h = go j.processor
    where
      go : (q : Processor) → P (execution_events t q ++ es)
      go Idle = h
      go (CopyingIn n until) = h
      go (Executing n start until) = f n es h
      go (Finished n start) = h

  pub by_finishes : ((n : ℕ) (es : List Event) → P es → P (Finishes n ∷ es)) → (t : ℕ) (p : Phase) (es : List Event) → P es → P (finish_events_in t p ++ es)
  unfolding finish_events_in finish_events
  by_finishes f t (Between next outgoing) es h = h
  by_finishes f t (Within i) es h = go i.copyin
    where
      go_copying : (n : ℕ) (b : Bool) → P (cond b (Finishes n ∷ []) [] ++ es)
      go_copying n true = f n es h
      go_copying n false = h

      go : (c : CopyIn) → P (finish_events t c ++ es)
      go Unchosen = h
      go NoneChosen = h
      go (Copying n until) = go_copying n (eqb until t)
      go (Loaded n) = h
      go (Cancelled n fate) = h

  pub by_gives : ((n : ℕ) (es : List Event) → P es → P (GivesWay n ∷ es)) → (p q : Phase) (es : List Event) → P es → P (giving_events_in p q ++ es)
  unfolding giving_events_in giving_events
  by_gives f (Between next outgoing) q es h = h
  by_gives f (Within i) (Between next outgoing) es h = h
  by_gives f (Within i) (Within j) es h = go (given_way i.copyin) (given_way j.copyin)
    where
      go : (a b : Option ℕ) → P (giving_events a b ++ es)
      go None None = h
      go None (Some n) = f n es h
      go (Some n) b = h

  pub by_completes : ((n t : ℕ) (es : List Event) → P es → P (Completes n t ∷ es)) → (o : Option JobEntry) (es : List Event) → P es → P (completion_events o ++ es)
  unfolding completion_events
  by_completes f None es h = h
  by_completes f (Some e) es h = f e.task e.completion es h

  pub by_ends : (t : ℕ) → ((es : List Event) → P es → P (Ends t ∷ es)) → (p q : Phase) (es : List Event) → P es → P (end_events t p q ++ es)
  unfolding end_events
  by_ends t f (Between next outgoing) q es h = h
  by_ends t f (Within i) (Between next outgoing) es h = f es h
  by_ends t f (Within i) (Within j) es h = h

  pub by_takes : (k taken marked t : ℕ) → ((n : ℕ) → n < k → member n taken ≡ true → (es : List Event) → P es → P (Takes n t (member n marked) ∷ es))
      → (es : List Event) → P es → P (take_events k taken marked t ++ es)
  unfolding take_events
  by_takes zero taken marked t f es h = h
  by_takes (suc k) taken marked t f es h =
      rw (append_assoc (take_events k taken marked t) (cond (member k taken) (Takes k t (member k marked) ∷ []) []) es)
      (by_takes k taken marked t (λ n l. f n (omega arith)) (cond (member k taken) (Takes k t (member k marked) ∷ []) [] ++ es) (go (member k taken) (f k (omega arith))))
    where
      go : (b : Bool) → (b ≡ true → (es : List Event) → P es → P (Takes k t (member k marked) ∷ es)) → P (cond b (Takes k t (member k marked) ∷ []) [] ++ es)
      go true f = f refl es h
      go false f = h

  pub by_defers : (k deferred t : ℕ) → ((n : ℕ) → n < k → member n deferred ≡ true → (es : List Event) → P es → P (Defers n t ∷ es))
      → (es : List Event) → P es → P (defer_events k deferred t ++ es)
  unfolding defer_events
  by_defers zero deferred t f es h = h
  by_defers (suc k) deferred t f es h =
      rw (append_assoc (defer_events k deferred t) (cond (member k deferred) (Defers k t ∷ []) []) es)
      (by_defers k deferred t (λ n l. f n (omega arith)) (cond (member k deferred) (Defers k t ∷ []) [] ++ es) (go (member k deferred) (f k (omega arith))))
    where
      go : (b : Bool) → (b ≡ true → (es : List Event) → P es → P (Defers k t ∷ es)) → P (cond b (Defers k t ∷ []) [] ++ es)
      go true f = f refl es h
      go false f = h

  pub by_begins : (t : ℕ) → ((r l : Option ℕ) (es : List Event) → P es → P (Begins t r l ∷ es)) → (p q : Phase) (es : List Event) → P es → P (begin_events t p q ++ es)
  unfolding begin_events
  by_begins t f (Within i) q es h = h
  by_begins t f (Between next outgoing) (Between x y) es h = h
  by_begins t f (Between next outgoing) (Within j) es h = f (processor_task j.processor) (copyout_task j.copyout) es h

-- ---- the parts of an instant

-- before the releases
unfoldable pub front_of : State → ℕ → List Event
front_of d t =
    Comes t
    ∷ (processor_events_in t d.phase
    ++ (finish_events_in t d.phase
    ++ (completion_events (at_a d t).done
    ++ end_events t (at_a d t).state.phase (at_b d t).state.phase)))

-- after those that are taken
unfoldable pub tail_of : State → ℕ → ℕ → List Event
tail_of d t set =
    defer_events 32 (deferred_at d t set) t
    ++ (giving_events_in (at_b d t).state.phase (at_e d t set).phase
    ++ (end_events t (at_e d t set).phase (at_f d t set).state.phase
    ++ (begin_events t (at_f d t set).state.phase (at_g d t set).phase
    ++ start_events t (at_f d t set).state.phase (at_g d t set).phase)))

pub happens_parts : (d : State) (t set : ℕ) (h : List Event)
    → happens d t set ++ h ≡ front_of d t ++ (take_events 32 (taken_at d t set) d.marked t ++ (tail_of d t set ++ h))
unfolding happens front_of tail_of
happens_parts d t set h = simp append_assoc

pub front_parts : (d : State) (t : ℕ) (es : List Event) → front_of d t ++ es
    ≡ Comes t
    ∷ (processor_events_in t d.phase
    ++ (finish_events_in t d.phase
    ++ (completion_events (at_a d t).done
    ++ (end_events t (at_a d t).state.phase (at_b d t).state.phase ++ es))))
unfolding front_of
front_parts d t es = simp append_assoc

pub tail_parts : (d : State) (t set : ℕ) (es : List Event) → tail_of d t set ++ es
    ≡ defer_events 32 (deferred_at d t set) t
    ++ (giving_events_in (at_b d t).state.phase (at_e d t set).phase
    ++ (end_events t (at_e d t set).phase (at_f d t set).state.phase
    ++ (begin_events t (at_f d t set).state.phase (at_g d t set).phase
    ++ (start_events t (at_f d t set).state.phase (at_g d t set).phase ++ es))))
unfolding tail_of
tail_parts d t set es = simp append_assoc

-- what each event before the releases keeps
pub by_front : (P : List Event → Type 0) → ((t : ℕ) (es : List Event) → P es → P (Comes t ∷ es))
    → ((n t : ℕ) (es : List Event) → P es → P (Starts n t ∷ es)) → ((n t : ℕ) (es : List Event) → P es → P (Stops n t ∷ es))
    → ((n : ℕ) (es : List Event) → P es → P (Finishes n ∷ es))
    → ((n t : ℕ) (es : List Event) → P es → P (Completes n t ∷ es)) → ((t : ℕ) (es : List Event) → P es → P (Ends t ∷ es))
    → (d : State) (t : ℕ) (es : List Event) → P es → P (front_of d t ++ es)
by_front P a x y b c e d t es h =
    let z : List Event = end_events t (at_a d t).state.phase (at_b d t).state.phase ++ es in
    rw (front_parts d t es)
    (a t (processor_events_in t d.phase ++ (finish_events_in t d.phase ++ (completion_events (at_a d t).done ++ z)))
    (by_processor P x y t d.phase (finish_events_in t d.phase ++ (completion_events (at_a d t).done ++ z))
    (by_finishes P b t d.phase (completion_events (at_a d t).done ++ z)
    (by_completes P c (at_a d t).done z (by_ends P t (e t) (at_a d t).state.phase (at_b d t).state.phase es h)))))

-- ---- the intervals that begin: only at the end of an instant

abbrev As : List Event → List Event → Type 0
As ys zs = intervals zs ≡ intervals ys

pub takes_intervals : (k taken marked t : ℕ) (ys : List Event) → intervals (take_events k taken marked t ++ ys) ≡ intervals ys
unfolding each
takes_intervals k taken marked t ys = by_takes (As ys) k taken marked t (λ n l m es e. e) ys refl

front_intervals : (d : State) (t : ℕ) (ys : List Event) → intervals (front_of d t ++ ys) ≡ intervals ys
unfolding each
front_intervals d t ys = by_front (As ys) (λ t es e. e) (λ n t es e. e) (λ n t es e. e) (λ n es e. e) (λ n t es e. e) (λ t es e. e) d t ys refl

begins_intervals : (t : ℕ) (p q : Phase) (ys : List Event) → intervals (begin_events t p q ++ ys) ≡ intervals (begin_events t p q) ++ intervals ys
unfolding begin_events each
begins_intervals t (Within i) q ys = refl
begins_intervals t (Between next outgoing) (Between x y) ys = refl
begins_intervals t (Between next outgoing) (Within j) ys = refl

pub tail_intervals : (d : State) (t set : ℕ) (h : List Event)
    → intervals (tail_of d t set ++ h) ≡ intervals (begin_events t (at_f d t set).state.phase (at_g d t set).phase) ++ intervals h
unfolding each
tail_intervals d t set h =
    let e : List Event = end_events t (at_e d t set).phase (at_f d t set).state.phase in
    let b : List Event = begin_events t (at_f d t set).state.phase (at_g d t set).phase in
    let s : List Event = start_events t (at_f d t set).state.phase (at_g d t set).phase in
    let w : List Event = giving_events_in (at_b d t).state.phase (at_e d t set).phase in
    ap intervals (tail_parts d t set h)
    ∙ by_defers (As (w ++ (e ++ (b ++ (s ++ h))))) 32 (deferred_at d t set) t (λ n l m es e. e) (w ++ (e ++ (b ++ (s ++ h)))) refl
    ∙ by_gives (As (e ++ (b ++ (s ++ h)))) (λ n es e. e) (at_b d t).state.phase (at_e d t set).phase (e ++ (b ++ (s ++ h))) refl
    ∙ by_ends (As (b ++ (s ++ h))) t (λ es e. e) (at_e d t set).phase (at_f d t set).state.phase (b ++ (s ++ h)) refl
    ∙ begins_intervals t (at_f d t set).state.phase (at_g d t set).phase (s ++ h)
    ∙ ap (λ (x : List (Option ℕ)). intervals b ++ x) (by_starts (As h) t (λ n es e. e) (at_f d t set).state.phase (at_g d t set).phase h refl)

pub happens_intervals : (d : State) (t set : ℕ) (h : List Event)
    → intervals (happens d t set ++ h) ≡ intervals (begin_events t (at_f d t set).state.phase (at_g d t set).phase) ++ intervals h
happens_intervals d t set h =
    ap intervals (happens_parts d t set h)
    ∙ front_intervals d t (take_events 32 (taken_at d t set) d.marked t ++ (tail_of d t set ++ h))
    ∙ takes_intervals 32 (taken_at d t set) d.marked t (tail_of d t set ++ h)
    ∙ tail_intervals d t set h
