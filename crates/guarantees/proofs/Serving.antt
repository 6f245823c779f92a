-- Every job that is taken executes and completes, where nothing is pending after the calls: a job completes only where it has started, since
-- what is copied out was executed; and a task whose release is taken has no job that is executed or copied out.
use Rattle.std.proofs.Common.{◌≡◌, ◌&&◌, ◌∷◌, ◌++◌, ◌<◌}
use Rattle.guarantees.specs.Types.{refl, sym, ap, ◌∙◌, subst, Bool, true, false, cond, true≢false, false≢true, List, [], ℕ, Table, Jobs, Option, None, Some, Processor, Idle, CopyingIn, Executing, Finished, CopyOut, NoCopyOut, CopyingOut, CopiedOut, Interval, Next, NoneNext, LoadedNext, PromotedNext, Outgoing, NoneOutgoing, AwaitsCopyOut, Phase, Between, Within, State, Stage, Call}
use native.Mathlib.Omega.{arith}
use lib.Dec.{eqb}
use Rattle.sets.specs.Sets.{member, bit}
use Rattle.sets.proofs.Laws.{by-test, none, same_task}
use Rattle.rules.specs.With.{at_clock}
use Rattle.rules.specs.Order.{highest_of}
use Rattle.rules.specs.Instant.{processor_at, completed, ended, step_a, step_b, step_c, step_d, step_e, step_g, close, awaiting_copyout, with_candidates, cancel, choose, begin, begin_processor, begin_copyout, at_a, at_b, at_e, at_f, at_g, taken_at, deferred_at, fresh_stage}
use Rattle.rules.specs.Calls.{opened}
use Rattle.guarantees.specs.History.{Event, Comes, Starts, Stops, Finishes, Ends, Takes, Defers, GivesWay, Begins, happens, history, after_calls, processor_events, processor_events_in, finish_events_in, completion_events, end_events, take_events, begin_events, execution_events, start_events}
use Rattle.guarantees.specs.Queries.{details, is_task, starts, completes, first, start, completion}
use Rattle.guarantees.specs.Claim.{Completed}
use Rattle.guarantees.proofs.Proper.{Fair}
use Rattle.guarantees.proofs.Cases.{held_at, copyout_cases, b_cases, d_cases, e_cases, g_cases}
use Rattle.guarantees.proofs.Walk.{walk}
use Rattle.guarantees.proofs.Events.{by_finishes, by_ends, by_defers, by_gives, by_begins, tail_of, happens_parts, front_parts, tail_parts}
use Rattle.guarantees.proofs.Releases.{taken_not_pending, passed}
use Rattle.guarantees.proofs.Places.{stage, processor_bit, copyout_bit, outgoing_bit, to_b}
use Rattle.guarantees.proofs.Served.{served_at}
use Rattle.guarantees.proofs.Invariant.{Good, good_opened, good_next, good_quiet}
use Rattle.guarantees.proofs.Pending.{pending_in, pending_same, completes_after}
use Rattle.guarantees.proofs.Deferred.{takes_it, at_task, taken_small}

module _ (n : ℕ) where
  -- ---- by the history

  abbrev starts_it : Event → Bool
  starts_it e = starts e && is_task n (details e).task

  abbrev completes_it : Event → Bool
  completes_it e = completes e && is_task n (details e).task

  -- whether the last job of task n to be taken has started
  abbrev started_by : Bool → Event → Bool
  started_by s e = cond (takes_it n e) false (cond (starts_it e) true s)

  -- a job of task n completes only where it has started
  unfoldable Serving : Bool → List Event → Type 0
  Serving s [] = Unit {0}
  Serving s (e ∷ es) = (completes_it e ≡ true → s ≡ true) × Serving (started_by s e) es

  -- behind a taking
  serving_after : (before after : List Event) (t : ℕ) (m s : Bool) → Serving s (before ++ (Takes n t m ∷ after)) → Serving false after
  unfolding Serving
  serving_after [] after t m s h = subst (λ (b : Bool). Serving (cond b false s) after) (same_task n) h.1
  serving_after (e ∷ before) after t m s h = serving_after before after t m (started_by s e) h.1

  -- one that has not started and completes starts first
  starts_first : (es : List Event) → Serving false es → (u : ℕ) → completion n es ≡ Some u → (v : ℕ) × (start n es ≡ Some v)
  unfolding Serving first
  starts_first [] h u c = absurd (let z : ◌≡◌ {A = ℕ} 0 1 = cc in omega arith)
  starts_first (e ∷ es) h u c = go (starts_it e) (completes_it e) refl refl (starts_first es)
    where
      unstarted : (a : Bool) → starts_it e ≡ false → cond a false (cond (starts_it e) true false) ≡ false
      unstarted true x = refl
      unstarted false x = rw x

      go : (a b : Bool) → starts_it e ≡ a → completes_it e ≡ b
          → (Serving false es → (u : ℕ) → completion n es ≡ Some u → (v : ℕ) × (start n es ≡ Some v)) → (v : ℕ) × (start n (e ∷ es) ≡ Some v)
      go true b x y k = ((details e).tick, rw x)
      go false true x y k = absurd (false≢true (h.0 y))
      go false false x y k =
          let i : (v : ℕ) × (start n es ≡ Some v) = k (subst (λ (s : Bool). Serving s es) (unstarted (takes_it n e) x) h.1) u (rw y at c) in
          (i.0, rw x i.1)

  -- ---- by the state

  -- what is executed, has been, or is copied out has started
  abbrev processor_started : Bool → Processor → Type 0
  processor_started s Idle = Unit {0}
  processor_started s (CopyingIn m until) = Unit {0}
  processor_started s (Executing m start until) = eqb n m ≡ true → s ≡ true
  processor_started s (Finished m start) = eqb n m ≡ true → s ≡ true

  abbrev copyout_started : Bool → CopyOut → Type 0
  copyout_started s NoCopyOut = Unit {0}
  copyout_started s (CopyingOut m start until) = eqb n m ≡ true → s ≡ true
  copyout_started s (CopiedOut m) = Unit {0}

  abbrev outgoing_started : Bool → Outgoing → Type 0
  outgoing_started s NoneOutgoing = Unit {0}
  outgoing_started s (AwaitsCopyOut m start) = eqb n m ≡ true → s ≡ true

  abbrev phase_started : Bool → Phase → Type 0
  phase_started s (Between next outgoing) = outgoing_started s outgoing
  phase_started s (Within i) = processor_started s i.processor × copyout_started s i.copyout

  -- an event by which no job of task n is taken, starts or completes
  quiet : (s : Bool) (e : Event) → completes_it e ≡ false → started_by s e ≡ s → (es : List Event) → Serving s es → Serving s (e ∷ es)
  unfolding Serving
  quiet s e x y es h = (λ z. absurd (true≢false (sym z ∙ x)), rw y h)

  -- a job starts
  starting : (m t : ℕ) (s : Bool) (es : List Event) → ((z : Bool) → (s ≡ true → z ≡ true) → (eqb n m ≡ true → z ≡ true) → Serving z es) → Serving s (Starts m t ∷ es)
  unfolding Serving
  starting m t s es k = (λ x. absurd (false≢true x), k (cond (eqb n m) true s) (λ x. by-test (eqb n m) (λ y. rw y) (λ y. rw y x)) (λ x. rw x))

  -- a
  a_processor : (table : Table) (t : ℕ) (q : Processor) (s : Bool) (es : List Event) → processor_started s q
      → ((z : Bool) → (s ≡ true → z ≡ true) → processor_started z (processor_at table t q) → Serving z es) → Serving s (processor_events t q ++ es)
  unfolding processor_events processor_at
  a_processor table t Idle s es h k = k s (λ e. e) tt
  a_processor table t (CopyingIn m until) s es h k =
      by-test (eqb until t) (λ e. rw e (starting m t s es (λ z f x. rw e at k z f x))) (λ e. rw e (rw e at k s (λ x. x) tt))
  a_processor table t (Executing m start until) s es h k =
      by-test (eqb until t)
      (λ e. rw e (quiet s (Stops m t) refl refl es (rw e at k s (λ x. x) h)))
      (λ e. rw e (rw e at k s (λ x. x) h))
  a_processor table t (Finished m start) s es h k = k s (λ e. e) h

  a_completes : (j : Jobs) (t : ℕ) (o : CopyOut) (s : Bool) (es : List Event) → copyout_started s o → Serving s es → Serving s (completion_events (completed j t o) ++ es)
  unfolding completed completion_events Serving
  a_completes j t NoCopyOut s es h k = k
  a_completes j t (CopyingOut m start until) s es h k = by-test (eqb until t) (λ e. rw e (h, k)) (λ e. rw e k)
  a_completes j t (CopiedOut m) s es h k = k

  copyout_more : (s z : Bool) → (s ≡ true → z ≡ true) → (o : CopyOut) → copyout_started s o → copyout_started z o
  copyout_more s z f NoCopyOut h = h
  copyout_more s z f (CopyingOut m start until) h = λ e. f (h e)
  copyout_more s z f (CopiedOut m) h = h

  a_serving : (d : State) (t : ℕ) (p : Phase) → d.phase ≡ p → (s : Bool) (es : List Event) → phase_started s p
      → ((z : Bool) → phase_started z (step_a d t p).state.phase → Serving z es)
      → Serving s (processor_events_in t p ++ (finish_events_in t p ++ (completion_events (step_a d t p).done ++ es)))
  unfolding step_a ended processor_events_in
  a_serving d t (Between next outgoing) e s es h k = unfold finish_events_in completion_events in k s (rw e h)
  a_serving d t (Within i) e s es h k =
      a_processor d.table t i.processor s (finish_events_in t (Within i) ++ (completion_events (completed d.jobs t i.copyout) ++ es)) h.0
      (λ z f q.
      let o : copyout_started z i.copyout = copyout_more s z f i.copyout h.1 in
      by_finishes (Serving z) (λ k. quiet z (Finishes k) refl refl) t (Within i) (completion_events (completed d.jobs t i.copyout) ++ es)
      (a_completes d.jobs t i.copyout z es o (k z (q, copyout_cases t (copyout_started z) i.copyout o (λ m start until x y. tt)))))

  -- b, f
  b_started : (s : Bool) (x : Stage) (t : ℕ) → phase_started s x.state.phase → phase_started s (step_b x t x.state.phase).state.phase
  unfolding close
  b_started s x t h =
      b_cases (λ y. phase_started s y.phase) x t (λ i e o. h) (λ next outgoing e. h) (λ i e o. go i.processor (subst (phase_started s) e h).0)
    where
      go : (q : Processor) → processor_started s q → outgoing_started s (awaiting_copyout q)
      go Idle h = tt
      go (CopyingIn m until) h = tt
      go (Executing m start until) h = tt
      go (Finished m start) h = h

  -- c
  c_started : (s : Bool) (d : State) (taken : ℕ) (p : Phase) → phase_started s p → phase_started s (with_candidates d taken p)
  unfolding with_candidates
  c_started s d taken (Between next outgoing) h = h
  c_started s d taken (Within i) h = h

  -- d
  d_started : (s : Bool) (d : State) (taken : ℕ) → phase_started s d.phase → phase_started s (step_d d taken d.phase).phase
  unfolding cancel
  d_started s d taken h = d_cases (λ x. phase_started s x.phase) d taken h (λ i m fate e c b. subst (phase_started s) e h)

  -- e
  choose_started : (s : Bool) (d : State) (t : ℕ) (i : Interval) (q : Option ℕ) → phase_started s (Within i) → phase_started s (choose d t i q).phase
  unfolding choose
  choose_started s d t i None h = h
  choose_started s d t i (Some q) h = h

  e_started : (s : Bool) (d : State) (t : ℕ) → phase_started s d.phase → phase_started s (step_e d t d.phase).phase
  e_started s d t h =
      e_cases (λ x. phase_started s x.phase) d t h (λ i e c u. choose_started s d t i (highest_of d d.jobs.ready) (subst (phase_started s) e h))

  -- g
  abbrev Units : Processor → CopyOut → Phase → Type 0
  Units q o (Between next outgoing) = ⊥
  Units q o (Within j) = (j.processor ≡ q) × (j.copyout ≡ o)

  choose_units : (q : Processor) (o : CopyOut) (d : State) (t : ℕ) (i : Interval) (c : Option ℕ) → Units q o (Within i) → Units q o (choose d t i c).phase
  unfolding choose
  choose_units q o d t i None h = h
  choose_units q o d t i (Some c) h = h

  e_units : (q : Processor) (o : CopyOut) (d : State) (t : ℕ) → Units q o d.phase → Units q o (step_e d t d.phase).phase
  e_units q o d t h = e_cases (λ x. Units q o x.phase) d t h (λ i e c u. choose_units q o d t i (highest_of d d.jobs.ready) (subst (Units q o) e h))

  g_processor : (table : Table) (t : ℕ) (next : Next) (s : Bool) (es : List Event)
      → ((z : Bool) → (s ≡ true → z ≡ true) → processor_started z (begin_processor table t next) → Serving z es) → Serving s (execution_events t (begin_processor table t next) ++ es)
  unfolding execution_events
  g_processor table t NoneNext s es k = k s (λ e. e) tt
  g_processor table t (LoadedNext m) s es k = starting m t s es k
  g_processor table t (PromotedNext m) s es k = k s (λ e. e) tt

  g_copyout : (table : Table) (t : ℕ) (s z : Bool) → (s ≡ true → z ≡ true) → (outgoing : Outgoing) → outgoing_started s outgoing → copyout_started z (begin_copyout table t outgoing)
  g_copyout table t s z f NoneOutgoing h = tt
  g_copyout table t s z f (AwaitsCopyOut m start) h = λ e. f (h e)

  -- an interval that begins has the job that is to execute next on the processor, and on the engine the one that is to be copied out
  g_begins : (table : Table) (t : ℕ) (next : Next) (outgoing : Outgoing) (p : Phase) (s : Bool) (es : List Event)
      → Units (begin_processor table t next) (begin_copyout table t outgoing) p → outgoing_started s outgoing → ((z : Bool) → phase_started z p → Serving z es)
      → Serving s (start_events t (Between next outgoing) p ++ es)
  unfolding start_events
  g_begins table t next outgoing (Between x y) s es u h k = absurd u
  g_begins table t next outgoing (Within j) s es u h k =
      subst (λ (q : Processor). Serving s (execution_events t q ++ es)) (sym u.0)
      (g_processor table t next s es
      (λ z f x. k z (subst (processor_started z) (sym u.0) x, subst (copyout_started z) (sym u.1) (g_copyout table t s z f outgoing h))))

  g_serving : (d : State) (t taken : ℕ) (s : Bool) (es : List Event) → phase_started s d.phase
      → ((z : Bool) → phase_started z (step_g d t taken d.phase).phase → Serving z es) → Serving s (start_events t d.phase (step_g d t taken d.phase).phase ++ es)
  g_serving d t taken s es h =
      g_cases (λ x. ((z : Bool) → phase_started z x.phase → Serving z es) → Serving s (start_events t d.phase x.phase ++ es)) d t taken
      (λ i e k. subst (λ (p : Phase). Serving s (start_events t p d.phase ++ es)) (sym e) (unfold start_events in k s h))
      (λ next outgoing e w k. subst (λ (p : Phase). Serving s (start_events t p p ++ es)) (sym e) (unfold start_events in k s h))
      (λ next outgoing e w k.
      let b : State = begin d t taken next outgoing in
      subst (λ (p : Phase). Serving s (start_events t p (step_e b t b.phase).phase ++ es)) (sym e)
      (g_begins d.table t next outgoing (step_e b t b.phase).phase s es
      (e_units (begin_processor d.table t next) (begin_copyout d.table t outgoing) b t (unfold begin in (refl, refl))) (subst (phase_started s) e h) k))

  -- ---- the instant

  -- a task that is in no place of a unit
  nowhere : (p : Phase) → stage n p ≡ 0 → (s : Bool) → phase_started s p
  nowhere (Between next outgoing) h s = go outgoing (omega (arith, h))
    where
      go : (l : Outgoing) → outgoing_bit n l ≡ 0 → outgoing_started s l
      go NoneOutgoing h = tt
      go (AwaitsCopyOut m start) h = λ e. absurd (let z : 1 ≡ 0 = rw e at h in omega arith)
  nowhere (Within i) h s = (go i.processor (omega (arith, h)), go_out i.copyout (omega (arith, h)))
    where
      go : (q : Processor) → processor_bit n q ≡ 0 → processor_started s q
      go Idle h = tt
      go (CopyingIn m until) h = tt
      go (Executing m start until) h = λ e. absurd (let z : 1 ≡ 0 = rw e at h in omega arith)
      go (Finished m start) h = λ e. absurd (let z : 1 ≡ 0 = rw e at h in omega arith)

      go_out : (o : CopyOut) → copyout_bit n o ≡ 0 → copyout_started s o
      go_out NoCopyOut h = tt
      go_out (CopyingOut m start until) h = λ e. absurd (let z : 1 ≡ 0 = rw e at h in omega arith)
      go_out (CopiedOut m) h = tt

  module _ (small : n < 32) where
    takes_serving : (taken marked t : ℕ) (s : Bool) (es : List Event) → Serving (cond (member n taken) false s) es → Serving s (take_events 32 taken marked t ++ es)
    unfolding take_events Serving
    takes_serving taken marked t s es h =
        at_task n taken (λ k. Takes k t (member k marked)) (λ k. take_events k taken marked t) refl (λ k. refl) Serving
        (λ x k e. quiet x (Takes k t (member k marked)) refl (rw e)) s false
        (λ m es z. (λ y. absurd (false≢true y), rw (same_task n) z)) 32 small es h

    -- a task whose release is taken is in no place
    taken_started : (taken : ℕ) (p : Phase) (s : Bool) → (member n taken ≡ true → stage n p ≡ 0) → phase_started s p → phase_started (cond (member n taken) false s) p
    taken_started taken p s f h = by-test (member n taken) (λ e. rw e (nowhere p (f e) false)) (λ e. rw e h)

    tail_serving : (d : State) (t set : ℕ) (s : Bool) (es : List Event) → phase_started s (at_b d t).state.phase
        → ((z : Bool) → phase_started z (at_g d t set).phase → Serving z es) → Serving s (tail_of d t set ++ es)
    unfolding at_g at_f at_e step_c
    tail_serving d t set s es h k =
        let taken : ℕ = taken_at d t set in
        let c : State = step_c (at_b d t).state t taken (deferred_at d t set) in
        let x : State = step_d c taken c.phase in
        let begun : List Event = begin_events t (at_f d t set).state.phase (at_g d t set).phase in
        let started : List Event = start_events t (at_f d t set).state.phase (at_g d t set).phase in
        let closed : List Event = end_events t (at_e d t set).phase (at_f d t set).state.phase in
        let e : phase_started s (at_e d t set).phase = e_started s x t (d_started s c taken (c_started s (at_b d t).state taken (at_b d t).state.phase h)) in
        rw (tail_parts d t set es)
        (by_defers (Serving s) 32 (deferred_at d t set) t (λ j l m. quiet s (Defers j t) refl refl) _
        (by_gives (Serving s) (λ j. quiet s (GivesWay j) refl refl) (at_b d t).state.phase (at_e d t set).phase (closed ++ (begun ++ (started ++ es)))
        (by_ends (Serving s) t (quiet s (Ends t) refl refl) (at_e d t set).phase (at_f d t set).state.phase (begun ++ (started ++ es))
        (by_begins (Serving s) t (λ r l. quiet s (Begins t r l) refl refl) (at_f d t set).state.phase (at_g d t set).phase (started ++ es)
        (g_serving (at_f d t set).state t (held_at d t set) s es (b_started s (fresh_stage (at_e d t set)) t e) k)))))

    instant_serving : (d : State) (t set : ℕ) (s : Bool) (es : List Event) → (member n (taken_at d t set) ≡ true → stage n (at_b d t).state.phase ≡ 0)
        → phase_started s d.phase → ((z : Bool) → phase_started z (at_g d t set).phase → Serving z es) → Serving s (happens d t set ++ es)
    unfolding at_b at_a
    instant_serving d t set s es f h k =
        let taken : ℕ = taken_at d t set in
        let rest : List Event = take_events 32 taken d.marked t ++ (tail_of d t set ++ es) in
        rw (happens_parts d t set es, front_parts d t rest)
        (quiet s (Comes t) refl refl _
        (a_serving (at_clock d t) t d.phase refl s (end_events t (at_a d t).state.phase (at_b d t).state.phase ++ rest) h
        (λ z p. by_ends (Serving z) t (quiet z (Ends t) refl refl) (at_a d t).state.phase (at_b d t).state.phase rest
        (takes_serving taken d.marked t z (tail_of d t set ++ es)
        (tail_serving d t set (cond (member n taken) false z) es (taken_started taken (at_b d t).state.phase z f (b_started z (at_a d t) t p)) k)))))

-- ---- along the calls

module _ (table : Table) (marks : ℕ) (fair : Fair table marks) where
  serving : (n : ℕ) → n < 32 → (d : State) (cs : List Call) → Good table marks fair d → (s : Bool) → phase_started n s d.phase → Serving n s (history d cs)
  serving n small d cs =
      walk (λ d h. Good table marks fair d → (s : Bool) → phase_started n s d.phase → Serving n s h)
      (λ d g s h. unfold Serving in tt)
      (λ d t set cs e k g s h.
      instant_serving n small d t set s (history (at_g d t set) cs) (apart d t set g) h (k (good_next table marks fair d t set g (served_at d t set e))))
      (λ d m e h k g. k (good_quiet table marks fair d m e g))
      cs d
    where
      apart : (d : State) (t set : ℕ) → Good table marks fair d → member n (taken_at d t set) ≡ true → stage n (at_b d t).state.phase ≡ 0
      apart d t set g m =
          omega (
            arith,
            (to_b table.present fair.present d t g.parted).parted.parts n small,
            ap bit (taken_not_pending (at_b d t).state (passed d t set) n (unfold taken_at in m)),
          )

  -- each job that is taken starts and completes, since at the opening none is pending and none executes
  pub all_served_jobs : (calls : List Call) → (after_calls (opened table marks) calls).jobs.pending ≡ 0
      → (before after : List Event) (n t : ℕ) (marked : Bool) → history (opened table marks) calls ≡ before ++ (Takes n t marked ∷ after) → Completed n after
  unfolding opened
  all_served_jobs calls p before after n t m e =
      let d : State = opened table marks in
      let small : n < 32 = taken_small d calls before after n t m e in
      let c : (u : ℕ) × (completion n after ≡ Some u) =
      completes_after before after n t m false
      (subst (λ (x : List Event). pending_in n false x ≡ false) e
      (subst (λ (b : Bool). pending_in n b (history d calls) ≡ false) (none n) (pending_same n small d calls ∙ ap (member n) p ∙ none n))) in
      let s : (v : ℕ) × (start n after ≡ Some v) =
      starts_first n after (serving_after n before after t m false (subst (Serving n false) e (serving n small d calls (good_opened table marks fair) false tt))) c.0 c.1 in
      record { started = s.0; starts = s.1; done = c.0; completes = c.1 }
