-- The entry of a job done tells the truth: along the calls, the state knows of each task's last job what the walk of Tally finds.
use Rattle.std.proofs.Common.{◌≡◌, ◌∷◌, ◌++◌, ◌<◌}
use Rattle.guarantees.specs.Types.{refl, sym, ap, ◌∙◌, subst, Bool, true, false, cond, false≢true, List, append_assoc, inr, ⊎_elim, ℕ, Table, Jobs, Clock, At, CopyOut, NoCopyOut, CopyingOut, CopiedOut, Interval, Phase, Between, Within, State, None, Some, Call, JobEntry, Occurred, Ok, Err}
use native.Mathlib.Omega.{arith}
use lib.Dec.{eqb}
use lib.ListN.{get_or, replicate}
use Rattle.sets.specs.Sets.{member}
use Rattle.sets.proofs.Laws.{by-test, clash, none, same_task, member_task}
use Rattle.rules.specs.With.{at_clock}
use Rattle.rules.specs.Instant.{step_a, step_c, step_d, completed, job_entry, occurred, at_a, at_b, at_e, at_f, at_g, taken_at, deferred_at, fresh_stage}
use Rattle.guarantees.specs.History.{Event, Comes, history, after_calls, happens, processor_events_in, finish_events_in, completion_events, end_events, take_events, defer_events, giving_events_in, begin_events, start_events}
use Rattle.guarantees.specs.Queries.{waiting, original}
use Rattle.guarantees.specs.Entries.{lower_in, TellsJob}
use Rattle.guarantees.specs.States.{copyout_known, phase_known}
use Rattle.guarantees.proofs.Proper.{Fair}
use Rattle.guarantees.proofs.Walk.{with_marks, walk_to}
use Rattle.guarantees.proofs.Served.{Served-at, served_at}
use Rattle.guarantees.proofs.Invariant.{Good, good_opened, good_next, good_quiet, good_after}
use Rattle.rules.specs.Calls.{refusal, served, instant, opened}
use Rattle.guarantees.proofs.Cases.{held_at}
use Rattle.guarantees.proofs.Steps.{Sub}
use Rattle.guarantees.proofs.Releases.{taken_not_pending, passed}
use Rattle.guarantees.proofs.Blocking.{Bounded, bounded_a, bounded_e, bounded_g, bounded_opened, bounded_quiet}
use Rattle.guarantees.proofs.Places.{Parted, b_moves, to_b, to_e}
use Rattle.guarantees.proofs.Closings.{done_so}
use Rattle.guarantees.proofs.Tallies.{gives_tally}
use Rattle.guarantees.proofs.Tally.{Tally, nothing, tally, tally_append, Split, last_job}
use Rattle.guarantees.proofs.Knows.{InCopyOut, RunsAt, Awaiting, Ran, Knows, a_knows, b_knows, c_knows, d_knows, e_knows, g_knows}

-- ---- along the calls

module _ (table : Table) (marks : ℕ) (fair : Fair table marks) (n : ℕ) (small : n < 32) where
  abbrev K : Tally → State → Type 0
  K = Knows table.priority n small

  abbrev B : State → Type 0
  B = Bounded table.priority n small

  -- another clock, or other marks
  still_knows : (d : State) (c : Clock) (m : ℕ) (x : Tally) → K x d
      → K x (record { table = d.table; marked = m; clock = c; half = d.half; jobs = d.jobs; waiting = d.waiting; phase = d.phase })
  still_knows d c m x k = record {
    table = k.table;
    at = k.at;
    releases = k.releases;
    counts = k.counts;
    holds = k.holds;
    awaits = λ w. let a : Awaiting table.priority n small x d = k.awaits w in record { release = a.release; unexecuted = a.unexecuted; count = a.count; unstarted = a.unstarted };
    runs = λ s r. let a : Ran table.priority n small x s d = k.runs s r in record { release = a.release; executed = a.executed; count = a.count; started = a.started };
  }

  clock_knows : (d : State) (t : ℕ) (x : Tally) → K x d → K x (at_clock d t)
  clock_knows d t = still_knows d (At t) d.marked

  quiet_knows : (d : State) (m : ℕ) (x : Tally) → K x d → K x (with_marks d m)
  quiet_knows d m = still_knows d d.clock m

  module _ (d : State) (t set : ℕ) (x : Tally) (g : Good table marks fair d) (known : Sub set table.present) (bound : B d) (k : K x d) where
    abbrev pr : List ℕ
    pr = table.priority

    abbrev ended_a : List Event
    ended_a = processor_events_in t d.phase ++ (finish_events_in t d.phase ++ completion_events (at_a d t).done)

    abbrev ends_b : List Event
    ends_b = end_events t (at_a d t).state.phase (at_b d t).state.phase

    abbrev takes_c : List Event
    takes_c = take_events 32 (taken_at d t set) d.marked t

    abbrev defers_c : List Event
    defers_c = defer_events 32 (deferred_at d t set) t

    -- what the walk finds after step c
    abbrev after_c : Tally
    after_c = tally n (tally n (tally n (tally n x ended_a) ends_b) takes_c) defers_c

    abbrev gives_d : List Event
    gives_d = giving_events_in (at_b d t).state.phase (at_e d t set).phase

    abbrev ends_f : List Event
    ends_f = end_events t (at_e d t set).phase (at_f d t set).state.phase

    abbrev begins_g : List Event
    begins_g = begin_events t (at_f d t set).state.phase (at_g d t set).phase ++ start_events t (at_f d t set).state.phase (at_g d t set).phase

    pub knows_a : K (tally n x ended_a) (at_a d t).state
    unfolding at_a
    knows_a = a_knows pr n small (at_clock d t) t d.phase x refl (clock_knows d t x k)

    knows_b : K (tally n (tally n x ended_a) ends_b) (at_b d t).state
    unfolding at_b
    knows_b = b_knows pr n small (at_a d t) t (at_a d t).state.phase (tally n x ended_a) refl (bounded_a pr n small d t set bound) knows_a

    parted_b : Parted table.present fair.present (at_b d t).state (at_b d t).state.phase
    parted_b = (to_b table.present fair.present d t g.parted).parted

    pub knows_e : K after_c (at_e d t set)
    unfolding at_e
    knows_e =
        let b : State = (at_b d t).state in
        let taken : ℕ = taken_at d t set in
        let deferred : ℕ = deferred_at d t set in
        let c : State = step_c b t taken deferred in
        e_knows pr n small t (step_d c taken c.phase) after_c
        (d_knows pr n small taken c after_c
        (c_knows pr n small table.present fair.present b t taken deferred d.marked (tally n (tally n x ended_a) ends_b) parted_b
        (λ j m. unfold taken_at in taken_not_pending b (passed d t set) j m) knows_b))

    pub parted_e : Parted table.present fair.present (at_e d t set) (at_e d t set).phase
    parted_e = (to_e table.present fair.present d t set known parted_b).parted

    knows_f : K (tally n after_c ends_f) (at_f d t set).state
    unfolding at_f
    knows_f =
        b_knows pr n small (fresh_stage (at_e d t set)) t (at_e d t set).phase after_c refl (bounded_e pr n small d t set bound) knows_e

    parted_f : Parted table.present fair.present (at_f d t set).state (at_f d t set).state.phase
    unfolding at_f
    parted_f = (b_moves table.present fair.present (fresh_stage (at_e d t set)) t (at_e d t set).phase refl parted_e).parted

    knows_g : K (tally n (tally n after_c ends_f) begins_g) (at_g d t set)
    unfolding at_g
    knows_g =
        g_knows pr n small table.present fair.present (at_f d t set).state t (held_at d t set) (at_f d t set).state.phase
        (tally n after_c ends_f) refl parted_f knows_f

    walked : tally n x (happens d t set) ≡ tally n (tally n after_c ends_f) begins_g
    walked =
        let tail : List Event = gives_d ++ (ends_f ++ begins_g) in
        let rest : List Event = ends_b ++ (takes_c ++ (defers_c ++ tail)) in
        let parts : happens d t set ≡ Comes t ∷ (ended_a ++ (ends_b ++ (takes_c ++ (defers_c ++ (gives_d ++ (ends_f ++ begins_g)))))) = unfold happens in simp append_assoc in
        ap (tally n x) parts
        ∙ first_comes (ended_a ++ rest)
        ∙ tally_append n ended_a rest x
        ∙ tally_append n ends_b (takes_c ++ (defers_c ++ tail)) (tally n x ended_a)
        ∙ tally_append n takes_c (defers_c ++ tail) (tally n (tally n x ended_a) ends_b)
        ∙ tally_append n defers_c tail (tally n (tally n (tally n x ended_a) ends_b) takes_c)
        ∙ tally_append n gives_d (ends_f ++ begins_g) after_c
        ∙ ap (λ (z : Tally). tally n z (ends_f ++ begins_g)) (gives_tally n (at_b d t).state.phase (at_e d t set).phase after_c)
        ∙ tally_append n ends_f begins_g after_c
      where
        first_comes : (es : List Event) → tally n x (Comes t ∷ es) ≡ tally n x es
        first_comes es = unfold tally in refl

    instant_knows : K (tally n x (happens d t set)) (at_g d t set)
    instant_knows = subst (λ (y : Tally). K y (at_g d t set)) (sym walked) knows_g

  opened_knows : K nothing (opened table marks)
  unfolding opened
  opened_knows = record {
    table = refl;
    at = refl;
    releases = small;
    counts = small;
    holds = record { times = small; is = ap (λ (b : Bool). cond b (Some (get_or (replicate 32 0) n 0)) None) (sym (none n)) };
    awaits = λ w. ⊎_elim (λ m. clash (member n 0) m (none n)) (λ e. absurd (false≢true e)) w;
    runs = λ s r. absurd r;
  }

  pub knows_after : (cs : List Call) → K (tally n nothing (history (opened table marks) cs)) (after_calls (opened table marks) cs)
  knows_after cs =
      walk_to (λ d h g. (x : Tally) → Good table marks fair d → B d → K x d → K (tally n x h) g)
      (λ d x g b k. unfold tally in k)
      (λ d t set cs e f x g b k.
      let s : Served-at d t set = served_at d t set e in
      let known : Sub set table.present = subst (λ (y : Table). Sub set y.present) g.table_is s.known in
      subst (λ (y : Tally). K y (after_calls (at_g d t set) cs)) (sym (tally_append n (happens d t set) (history (at_g d t set) cs) x))
      (f (tally n x (happens d t set)) (good_next table marks fair d t set g s) (bounded_g table.priority n small d t set b) (instant_knows d t set x g known b k)))
      (λ d m e h g f x gd b k. f x (good_quiet table marks fair d m e gd) (bounded_quiet table.priority n small d m b) (quiet_knows d m x k))
      cs (opened table marks) nothing (good_opened table marks fair) (bounded_opened table.priority n small table marks refl) opened_knows

-- ---- the entry of a job done

different {ℓ} : {A : Type ℓ} (e : JobEntry) → None ≡ Some e → A
different e h = absurd (let z : ◌≡◌ {A = ℕ} 0 1 = cc in omega arith)

tick_is : (a b : ℕ) → Some a ≡ Some b → a ≡ b
tick_is a b h = cc

-- the copy-out that ends now
completed_is : (j : Jobs) (t : ℕ) (o : CopyOut) (e : JobEntry) → completed j t o ≡ Some e
    → (m : ℕ) × (start : ℕ) × (until : ℕ) × (o ≡ CopyingOut m start until) × (job_entry j m start t ≡ e)
unfolding completed
completed_is j t NoCopyOut e h = different e h
completed_is j t (CopyingOut m start until) e h = go (eqb until t) h
  where
    go : (b : Bool) → cond b (Some (job_entry j m start t)) None ≡ Some e
        → (m' : ℕ) × (start' : ℕ) × (until' : ℕ) × (CopyingOut m start until ≡ CopyingOut m' start' until') × (job_entry j m' start' t ≡ e)
    go true h = (m, start, until, refl, cc)
    go false h = different e h
completed_is j t (CopiedOut m) e h = different e h

a_done : (d : State) (t : ℕ) (p : Phase) (e : JobEntry) → (step_a d t p).done ≡ Some e → (i : Interval) × (p ≡ Within i) × (completed d.jobs t i.copyout ≡ Some e)
unfolding step_a
a_done d t (Between next outgoing) e h = different e h
a_done d t (Within i) e h = (i, refl, h)

-- what an instant answers that is served
pub served_so : (d : State) (t set : ℕ) (o : Occurred) → (instant d t set).answer ≡ Ok o → occurred d t set ≡ o
unfolding instant served
served_so d t set o h =
    by-test (eqb (refusal d t set) 0)
    (λ b. let z : Ok (occurred d t set) ≡ Ok o = rw b at h in cc)
    (λ b. let z : Err (refusal d t set) ≡ Ok o = rw b at h in absurd (let y : ◌≡◌ {A = ℕ} 0 1 = cc in omega arith))

done_now : (d : State) (t set : ℕ) (o : Occurred) (e : JobEntry) → (instant d t set).answer ≡ Ok o → o.done ≡ Some e → (step_a (at_clock d t) t d.phase).done ≡ Some e
unfolding at_a
done_now d t set o e h f = sym (done_so d t set) ∙ ap (λ (o : Occurred). o.done) (served_so d t set o h) ∙ f

module _ (table : Table) (marks : ℕ) (fair : Fair table marks) where
  pub tells : (cs : List Call) (t set : ℕ) (o : Occurred) (e : JobEntry) → let d : State = after_calls (opened table marks) cs in
      (instant d t set).answer ≡ Ok o → o.done ≡ Some e → TellsJob table.priority (history (opened table marks) cs) t e
  tells cs t set o e h f =
      let d : State = after_calls (opened table marks) cs in
      let p : (i : Interval) × (d.phase ≡ Within i) × (completed d.jobs t i.copyout ≡ Some e) = a_done (at_clock d t) t d.phase e (done_now d t set o e h f) in
      let c : (m : ℕ) × (start : ℕ) × (until : ℕ) × (p.0.copyout ≡ CopyingOut m start until) × (job_entry d.jobs m start t ≡ e) =
      completed_is d.jobs t p.0.copyout e p.2 in
      let g : Good table marks fair d = good_after table marks fair cs (opened table marks) (good_opened table marks fair) in
      let known : member c.0 table.present ≡ true =
      subst (copyout_known table.present) c.3 (subst (phase_known table.present) p.1 g.parted.known).2 in
      subst (TellsJob table.priority (history (opened table marks) cs) t) c.4
      (tells_of cs t c.0 c.1 c.2 p.0 (member_task c.0 table.present fair.present known) p.1 c.3)
    where
      tells_of : (cs : List Call) (t m start until : ℕ) (i : Interval) → m < 32 → let d : State = after_calls (opened table marks) cs in
          d.phase ≡ Within i → i.copyout ≡ CopyingOut m start until → TellsJob table.priority (history (opened table marks) cs) t (job_entry d.jobs m start t)
      tells_of cs t m start until i small e f =
          let d : State = after_calls (opened table marks) cs in
          let h : List Event = history (opened table marks) cs in
          let x : Tally = tally m nothing h in
          let a : Ran table.priority m small x (Some start) d =
          (knows_after table marks fair m small cs).runs (Some start)
          (subst (RunsAt table.priority m small (Some start)) (sym e) (inr (subst (InCopyOut table.priority m small (Some start)) (sym f) (same_task m, refl)))) in
          let s : Split m nothing h x = last_job m h (get_or d.jobs.release m 0) a.release in
          let r : ℕ = original (waiting m None s.before) s.tick in
          let same : Some (get_or d.jobs.release m 0) ≡ Some r = sym a.release ∙ s.release in
          record {
            before = s.before;
            after = s.after;
            taken = s.tick;
            marked = s.marked;
            taking_is = s.is;
            last_taken = s.last;
            release = tick_is (get_or d.jobs.release m 0) r same;
            execution_start = sym s.started ∙ a.started;
            completion = refl;
            blocked = a.count ∙ ap (lower_in table.priority m) s.waits;
          }
