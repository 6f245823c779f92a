-- When the releases of a task were handed in: what a walk along a history finds is what the state has of it, and step c keeps that.
use Rattle.std.proofs.Common.{◌≡◌, ◌&&◌, ◌||◌, ◌∷◌, ◌++◌, ◌<◌}
use Rattle.guarantees.specs.Types.{refl, sym, ap, ◌∙◌, Bool, true, false, cond, not, List, [], ℕ, Table, WaitingReleases, State, Option, None, Some, Call}
use mathlib.Core.List.{append-nil}
use native.Mathlib.Omega.{arith}
use native.Mathlib.Nat.{zero-add}
use lib.ListN.{get_or, length, replicate, get_or-replicate}
use Rattle.sets.specs.Sets.{member, difference}
use Rattle.sets.proofs.Laws.{none, same_task, united, difference_member}
use Rattle.rules.specs.Instant.{stamped, step_c, original as stamps, at_b, at_e, at_f, at_g, taken_at, deferred_at}
use Rattle.guarantees.specs.History.{Event, Takes, Defers, end_events, take_events, defer_events, giving_events_in, begin_events, start_events, happens, history, after_calls}
use Rattle.rules.specs.Calls.{opened}
use Rattle.guarantees.specs.Queries.{after, original, Origin, no_origin, origin_by}
use Rattle.guarantees.proofs.Tallies.{stamped_length, stamped_exact}
use Rattle.guarantees.proofs.Walk.{walk_to}
use Rattle.guarantees.proofs.Frames.{release_b, waiting_b, release_g, waiting_g}
use Rattle.guarantees.proofs.Events.{by_front, front_of, tail_of, happens_parts, tail_parts}
use Rattle.guarantees.proofs.Deferred.{at_task, by_rest}

-- by the task's release that waits: its original tick, where it is taken
pub original_is : (w : Bool) (a t : ℕ) (h : Option ℕ) → h ≡ cond w (Some a) None → original h t ≡ cond w a t
original_is true a t h e = ap (λ (y : Option ℕ). original y t) e
original_is false a t h e = ap (λ (y : Option ℕ). original y t) e

-- and what waits after step c, where it is taken (b) or not, and another waits from now on (c) or not
pub held_is : (b c w : Bool) (a t : ℕ) (h : Option ℕ) → h ≡ cond w (Some a) None → cond c (Some t) (cond b None h) ≡ cond ((w && not b) || c) (Some (cond c t a)) None
held_is true true true a t h e = refl
held_is true true false a t h e = refl
held_is true false true a t h e = refl
held_is true false false a t h e = refl
held_is false true true a t h e = refl
held_is false true false a t h e = refl
held_is false false true a t h e = e
held_is false false false a t h e = e

module _ (n : ℕ) where
  pub stamp : (s : ℕ) (f : ℕ → ℕ) (xs : List ℕ) → n < length xs → get_or (stamped s f 0 xs) n 0 ≡ cond (member n s) (f n) (get_or xs n 0)
  stamp s f xs l = stamped_exact s f 0 xs n l ∙ ap (λ (j : ℕ). cond (member j s) (f j) (get_or xs n 0)) (zero-add n)

  -- what the state has
  pub record OriginIs (o : Origin) (release : List ℕ) (w : WaitingReleases) : Type 0 where
    pub releases : n < length release
    pub times : n < length w.times
    pub since_is : o.since ≡ get_or release n 0
    pub waits_is : o.waits ≡ cond (member n w.tasks) (Some (get_or w.times n 0)) None

  module _ (small : n < 32) where
    -- those that are taken
    abbrev pub taken_origin : ℕ → ℕ → Origin → Origin
    taken_origin taken t o = cond (member n taken) (record { waits = None; since = original o.waits t }) o

    abbrev pub deferred_origin : ℕ → ℕ → Origin → Origin
    deferred_origin deferred t o = cond (member n deferred) (record { waits = Some t; since = o.since }) o

    pub takes_origin : (taken marks t : ℕ) (o : Origin) → after (origin_by n) o (take_events 32 taken marks t) ≡ taken_origin taken t o
    unfolding after take_events
    takes_origin taken marks t o =
        ap (after (origin_by n) o) (sym (append-nil (take_events 32 taken marks t)))
        ∙ at_task n taken (λ j. Takes j t (member j marks)) (λ j. take_events j taken marks t) refl (λ j. refl)
        (λ x es. after (origin_by n) x es ≡ taken_origin taken t o)
        (λ x k e es h. rw e h) o (record { waits = None; since = original o.waits t })
        (λ m es h. rw (same_task n) h) 32 small [] refl

    pub defers_origin : (deferred t : ℕ) (o : Origin) → after (origin_by n) o (defer_events 32 deferred t) ≡ deferred_origin deferred t o
    unfolding after defer_events
    defers_origin deferred t o =
        ap (after (origin_by n) o) (sym (append-nil (defer_events 32 deferred t)))
        ∙ at_task n deferred (λ j. Defers j t) (λ j. defer_events j deferred t) refl (λ j. refl)
        (λ x es. after (origin_by n) x es ≡ deferred_origin deferred t o)
        (λ x k e es h. rw e h) o (record { waits = Some t; since = o.since })
        (λ m es h. rw (same_task n) h) 32 small [] refl

    -- and what waits then
    pub c_origin : (d : State) (t taken deferred : ℕ) (o : Origin) → OriginIs o d.jobs.release d.waiting
        → let c : State = step_c d t taken deferred in OriginIs (deferred_origin deferred t (taken_origin taken t o)) c.jobs.release c.waiting
    unfolding step_c
    c_origin d t taken deferred o h = record {
      releases = omega (arith, h.releases, stamped_length taken (stamps d.waiting t) 0 d.jobs.release);
      times = omega (arith, h.times, stamped_length deferred (λ j. t) 0 d.waiting.times);
      since_is =
          since_then (member n deferred) (member n taken)
          ∙ ap (λ (x : ℕ). cond (member n taken) x o.since) (original_is (member n d.waiting.tasks) (get_or d.waiting.times n 0) t o.waits h.waits_is)
          ∙ ap (λ (x : ℕ). cond (member n taken) (stamps d.waiting t n) x) h.since_is
          ∙ sym (stamp taken (stamps d.waiting t) d.jobs.release h.releases);
      waits_is =
          rw (
            united (difference d.waiting.tasks taken) deferred n small,
            difference_member d.waiting.tasks taken n small,
            stamp deferred (λ j. t) d.waiting.times h.times,
          )
          (waits_then (member n deferred) (member n taken)
          ∙ held_is (member n taken) (member n deferred) (member n d.waiting.tasks) (get_or d.waiting.times n 0) t o.waits h.waits_is);
    }
      where
        since_then : (c b : Bool) → let x : Origin = cond b (record { waits = None; since = original o.waits t }) o in
            (cond c (record { waits = Some t; since = x.since }) x).since ≡ cond b (original o.waits t) o.since
        since_then true true = refl
        since_then true false = refl
        since_then false true = refl
        since_then false false = refl

        waits_then : (c b : Bool) → let x : Origin = cond b (record { waits = None; since = original o.waits t }) o in
            (cond c (record { waits = Some t; since = x.since }) x).waits ≡ cond c (Some t) (cond b None o.waits)
        waits_then true b = refl
        waits_then false true = refl
        waits_then false false = refl

    -- ---- along the calls

    walked : (xs ys : List Event) (o : Origin) → after (origin_by n) o (xs ++ ys) ≡ after (origin_by n) (after (origin_by n) o xs) ys
    unfolding after
    walked [] ys o = refl
    walked (e ∷ xs) ys o = walked xs ys (origin_by n o e)

    -- what an instant makes of it
    abbrev origin_then : State → ℕ → ℕ → Origin → Origin
    origin_then d t set o = deferred_origin (deferred_at d t set) t (taken_origin (taken_at d t set) t o)

    front_origin : (d : State) (t : ℕ) (o : Origin) (es : List Event) → after (origin_by n) o (front_of d t ++ es) ≡ after (origin_by n) o es
    unfolding after
    front_origin d t o es =
        by_front (λ zs. after (origin_by n) o zs ≡ after (origin_by n) o es)
        (λ t es e. e) (λ k t es e. e) (λ k t es e. e) (λ k es e. e) (λ k t es e. e) (λ t es e. e) d t es refl

    rest_origin : (d : State) (t set : ℕ) (o : Origin) (es : List Event)
        → after (origin_by n) o (giving_events_in (at_b d t).state.phase (at_e d t set).phase
        ++ (end_events t (at_e d t set).phase (at_f d t set).state.phase
        ++ (begin_events t (at_f d t set).state.phase (at_g d t set).phase
        ++ (start_events t (at_f d t set).state.phase (at_g d t set).phase ++ es))))
        ≡ after (origin_by n) o es
    unfolding after
    rest_origin d t set o es =
        by_rest (λ zs. after (origin_by n) o zs ≡ after (origin_by n) o es) (λ k es e. e) (λ u es e. e) (λ u r l es e. e) (λ k u es e. e) d t set es refl

    happens_origin : (d : State) (t set : ℕ) (o : Origin) (h : List Event)
        → after (origin_by n) o (happens d t set ++ h) ≡ after (origin_by n) (origin_then d t set o) h
    happens_origin d t set o h =
        let y : Origin = taken_origin (taken_at d t set) t o in
        let takes : List Event = take_events 32 (taken_at d t set) d.marked t in
        let defers : List Event = defer_events 32 (deferred_at d t set) t in
        ap (after (origin_by n) o) (happens_parts d t set h)
        ∙ front_origin d t o (takes ++ (tail_of d t set ++ h))
        ∙ walked takes (tail_of d t set ++ h) o
        ∙ ap (λ (x : Origin). after (origin_by n) x (tail_of d t set ++ h)) (takes_origin (taken_at d t set) d.marked t o)
        ∙ ap (after (origin_by n) y) (tail_parts d t set h)
        ∙ walked defers _ y
        ∙ rest_origin d t set (after (origin_by n) y defers) h
        ∙ ap (λ (x : Origin). after (origin_by n) x h) (defers_origin (deferred_at d t set) t y)

    then_is : (d : State) (t set : ℕ) (o : Origin) → OriginIs o d.jobs.release d.waiting
        → let g : State = at_g d t set in OriginIs (origin_then d t set o) g.jobs.release g.waiting
    then_is d t set o h =
        let b : State = (at_b d t).state in
        rw (release_g d t set, waiting_g d t set)
        (c_origin b t (taken_at d t set) (deferred_at d t set) o (rw (release_b d t, waiting_b d t) h))

    pub since_after : (cs : List Call) (d : State) (o : Origin) → OriginIs o d.jobs.release d.waiting
        → let g : State = after_calls d cs in OriginIs (after (origin_by n) o (history d cs)) g.jobs.release g.waiting
    since_after =
        walk_to (λ d h g. (o : Origin) → OriginIs o d.jobs.release d.waiting → OriginIs (after (origin_by n) o h) g.jobs.release g.waiting)
        (λ d o k. unfold after in k)
        (λ d t set cs e f o k. rw (happens_origin d t set o (history (at_g d t set) cs)) (f (origin_then d t set o) (then_is d t set o k)))
        (λ d m e h g f o k. f o k)

-- at the opening nothing has been taken
pub opened_origin : (table : Table) (marks k : ℕ) → k < 32 → OriginIs k no_origin (opened table marks).jobs.release (opened table marks).waiting
unfolding opened
opened_origin table marks k l = record {
  releases = l;
  times = l;
  since_is = sym (get_or-replicate 32 k 0 0 l);
  waits_is = ap (λ (b : Bool). cond b (Some (get_or (replicate 32 0) k 0)) None) (sym (none k));
}
