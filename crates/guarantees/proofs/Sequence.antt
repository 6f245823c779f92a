-- The events of an instant come in the order of its steps.
use Rattle.std.proofs.Common.{◌≡◌, ◌∷◌, ◌++◌, ◌≤◌}
use Rattle.guarantees.specs.Types.{refl, sym, subst, Bool, true, false, cond, true≢false, ⊎_elim, List, [], ℕ, Table, Processor, Idle, CopyingIn, Executing, Finished, Phase, Between, Within, State, Option, JobEntry, None, Some, Call}
use native.Mathlib.Omega.{arith}
use borrow.Author.Tests.{leb-true}
use lib.Dec.{leb}
use Rattle.rules.specs.Calls.{opened}
use Rattle.rules.specs.Instant.{at_a, at_b, at_e, at_f, at_g, taken_at, deferred_at}
use Rattle.guarantees.specs.History.{Event, Comes, Starts, Stops, Finishes, Ends, history, happens, completion_events, end_events, take_events, giving_events_in, begin_events, start_events, execution_events}
use Rattle.guarantees.specs.Queries.{comes, after}
use Rattle.guarantees.specs.Pending.{step_by, step}
use Rattle.guarantees.proofs.Walk.{walk}
use Rattle.guarantees.proofs.Alone.{AloneIn, alone_after, completes_or_ends}
use Rattle.guarantees.proofs.Events.{by_processor_at, by_finishes, by_ends, by_takes, by_defers, by_gives, tail_of, happens_parts, front_parts, tail_parts}

-- ---- along a history

unfoldable pub Ordered : ℕ → List Event → Type 0
Ordered s [] = Unit {0}
Ordered s (e ∷ es) = (comes e ≡ false → s ≤ step_by s e) × Ordered (step_by s e) es

at_event : (before rest : List Event) (e : Event) (s : ℕ) → Ordered s (before ++ (e ∷ rest)) → comes e ≡ false → after step_by s before ≤ step_by (after step_by s before) e
unfolding Ordered after
at_event [] rest e s h = h.0
at_event (x ∷ before) rest e s h = at_event before rest e (step_by s x) h.1

abbrev Any : List Event → Type 0
Any es = (s : ℕ) → Ordered s es

-- behind any step up to k
abbrev Upto : ℕ → List Event → Type 0
Upto k es = (s : ℕ) → s ≤ k → Ordered s es

module _ (t : ℕ) where
  -- ---- f, g

  begins_ordered : (p q : Phase) (es : List Event) → Any es → Upto 5 (begin_events t p q ++ (start_events t p q ++ es))
  unfolding begin_events start_events execution_events Ordered
  begins_ordered (Within i) q es h s l = h s
  begins_ordered (Between next outgoing) (Between x y) es h s l = h s
  begins_ordered (Between next outgoing) (Within j) es h s l = ((λ e. omega arith), go j.processor)
    where
      go : (q : Processor) → Ordered 6 (execution_events t q ++ es)
      go Idle = h 6
      go (CopyingIn n until) = h 6
      go (Executing n start until) = ((λ e. omega arith), h 6)
      go (Finished n start) = h 6

  ends_ordered : (es : List Event) → Upto 5 es → Upto 5 (Ends t ∷ es)
  unfolding Ordered
  ends_ordered es h s l = go (leb s 1) (λ e. leb-true s 1 e)
    where
      go : (b : Bool) → (b ≡ true → s ≤ 1) → (false ≡ false → s ≤ cond b 1 5) × Ordered (cond b 1 5) es
      go true f = ((λ e. f refl), h 1 (omega arith))
      go false f = ((λ e. l), h 5 (omega arith))

  -- ---- a, b

  comes_ordered : (s : ℕ) (es : List Event) → Ordered 0 es → Ordered s (Comes t ∷ es)
  unfolding Ordered
  comes_ordered s es h = ((λ e. absurd (true≢false e)), h)

  starts_ordered : (n : ℕ) (es : List Event) → Ordered 0 es → Ordered 0 (Starts n t ∷ es)
  unfolding Ordered
  starts_ordered n es h = ((λ e. omega arith), h)

  stops_ordered : (n : ℕ) (es : List Event) → Ordered 0 es → Ordered 0 (Stops n t ∷ es)
  unfolding Ordered
  stops_ordered n es h = ((λ e. omega arith), h)

  finishes_ordered : (n : ℕ) (es : List Event) → Ordered 0 es → Ordered 0 (Finishes n ∷ es)
  unfolding Ordered
  finishes_ordered n es h = ((λ e. omega arith), h)

  completes_ordered : (o : Option JobEntry) (es : List Event) → Upto 2 es → Ordered 0 (completion_events o ++ es)
  unfolding completion_events Ordered
  completes_ordered None es h = h 0 (omega arith)
  completes_ordered (Some e) es h = ((λ e. omega arith), h 2 (omega arith))

  b_ordered : (p q : Phase) (es : List Event) → Upto 2 es → Ordered 0 (end_events t p q ++ es)
  unfolding end_events Ordered
  b_ordered (Between next outgoing) q es h = h 0 (omega arith)
  b_ordered (Within i) (Between next outgoing) es h = ((λ e. omega arith), h 1 (omega arith))
  b_ordered (Within i) (Within j) es h = h 0 (omega arith)

  a_b_ordered : (d : State) (es : List Event) → AloneIn d → Upto 2 es
      → Ordered 0 (completion_events (at_a d t).done ++ (end_events t (at_a d t).state.phase (at_b d t).state.phase ++ es))
  a_b_ordered d es h k =
      ⊎_elim
      (λ e. subst (λ (xs : List Event). Ordered 0 (xs ++ (end_events t (at_a d t).state.phase (at_b d t).state.phase ++ es))) (sym e) (b_ordered (at_a d t).state.phase (at_b d t).state.phase es k))
      (λ e. subst (λ (xs : List Event). Ordered 0 (completion_events (at_a d t).done ++ (xs ++ es))) (sym e) (completes_ordered (at_a d t).done es k))
      (completes_or_ends t d h)

  -- ---- an instant

  tail_ordered : (d : State) (set : ℕ) (es : List Event) → Any es → Upto 2 (tail_of d t set ++ es)
  tail_ordered d set es any =
      let f : Phase = (at_f d t set).state.phase in
      let g : Phase = (at_g d t set).phase in
      let later : List Event = begin_events t f g ++ (start_events t f g ++ es) in
      let ending : List Event = end_events t (at_e d t set).phase f ++ later in
      let z : Upto 5 ending = by_ends (Upto 5) t ends_ordered (at_e d t set).phase f later (begins_ordered f g es any) in
      let y : Upto 3 (giving_events_in (at_b d t).state.phase (at_e d t set).phase ++ ending) =
      by_gives (Upto 3) (λ n zs h s l. unfold Ordered in ((λ e. l), h 3 (omega arith))) (at_b d t).state.phase (at_e d t set).phase ending (λ s l. z s (omega arith)) in
      rw (tail_parts d t set es)
      (by_defers (Upto 2) 32 (deferred_at d t set) t (λ n k m zs h s l. unfold Ordered in ((λ e. l), h 2 (omega arith))) (giving_events_in (at_b d t).state.phase (at_e d t set).phase ++ ending) (λ s l. y s (omega arith)))

  happens_ordered : (d : State) (set : ℕ) (es : List Event) → AloneIn d → Any es → Any (happens d t set ++ es)
  happens_ordered d set es alone any s =
      let later : List Event = take_events 32 (taken_at d t set) d.marked t ++ (tail_of d t set ++ es) in
      let taking : Upto 2 later =
      by_takes (Upto 2) 32 (taken_at d t set) d.marked t (λ n k m zs h s l. unfold Ordered in ((λ e. l), h 2 (omega arith))) (tail_of d t set ++ es) (tail_ordered d set es any) in
      rw (happens_parts d t set es, front_parts d t later)
      (comes_ordered s _
      (by_processor_at (Ordered 0) t starts_ordered stops_ordered d.phase _
      (by_finishes (Ordered 0) finishes_ordered t d.phase _
      (a_b_ordered d later alone taking))))

-- ---- along the calls

pub each_step : (table : Table) (marks : ℕ) (cs : List Call) (before rest : List Event) (e : Event) → history (opened table marks) cs ≡ before ++ (e ∷ rest) → comes e ≡ false → step before ≤ step_by (step before) e
each_step table marks cs before rest e x =
    at_event before rest e 0
    (subst (Ordered 0) x (walk (λ d h. AloneIn d → Any h) (λ d a s. unfold Ordered in tt) (λ d t set cs e k a. happens_ordered t d set (history (at_g d t set) cs) a (k (alone_after t d set a))) (λ d m e h k a. k a) cs (opened table marks)
    (unfold opened in tt) 0))
