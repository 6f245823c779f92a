-- Every history passes the monitor of a task's jobs: where the job of a task is, by the state, step by step and along the calls.
use Rattle.std.proofs.Common.{◌≡◌, ◌&&◌, ◌||◌, ◌∷◌, ◌++◌, ◌+◌, ◌*◌, ◌≤◌, ◌<◌}
use Rattle.guarantees.specs.Types.{refl, sym, ap, ◌∙◌, subst, Bool, true, false, cond, not, true≢false, false≢true, List, ℕ, Table, Jobs, WaitingReleases, Clock, Unset, At, Option, None, Some, Processor, CopyOut, NoCopyOut, CopyingOut, CopiedOut, Interval, Next, NoneNext, LoadedNext, PromotedNext, Outgoing, NoneOutgoing, AwaitsCopyOut, Phase, Between, Within, State, Stage, Call}
use native.Mathlib.Omega.{arith}
use lib.Dec.{eqb}
use Rattle.sets.specs.Sets.{member, bit}
use Rattle.sets.proofs.Laws.{by-test, none, same_task, united, removed}
use Rattle.rules.specs.With.{at_clock}
use Rattle.rules.specs.Order.{highest_of}
use Rattle.rules.specs.Calls.{opened}
use Rattle.rules.specs.Instant.{step_a, step_b, step_c, step_d, step_e, step_g, close, close_stage, over, with_candidates, cancel, choose, begin, begin_processor, begin_copyout, wanted, taken, deferred, completed, without_done, after_done, ended, processor_task, copyout_task, copyout_at, job_entry, at_a, at_b, at_e, at_f, at_g, taken_at, deferred_at, fresh_stage}
use Rattle.guarantees.specs.History.{Event, Comes, Takes, Defers, Begins, history, happens, processor_events_in, finish_events_in, completion_events, end_events, take_events, defer_events, giving_events_in, begin_events, start_events}
use Rattle.guarantees.specs.Queries.{is_task}
use Rattle.guarantees.proofs.Proper.{Fair}
use Rattle.guarantees.proofs.Walk.{walk}
use Rattle.guarantees.proofs.Cases.{held_at, d_cases, e_cases}
use Rattle.guarantees.proofs.Steps.{Sub}
use Rattle.guarantees.proofs.Events.{by_processor_at, by_finishes, by_gives, by_starts, tail_of, happens_parts, front_parts, tail_parts}
use Rattle.guarantees.proofs.Frames.{Frame, b_frame, g_frame, waiting_b, pending_g, clock_g}
use Rattle.guarantees.proofs.Releases.{is_taken, is_deferred, taken_member, deferred_member, taken_not_pending, passed, waits_g}
use Rattle.guarantees.proofs.Places.{Parted, copyin_bit, processor_bit, copyout_bit, next_bit, outgoing_bit, stage, rests, no_copyout, b_moves, a_processor_bit, b_outgoing_bit, b_copyout_bit, g_processor, g_copyout, to_b, to_e}
use Rattle.guarantees.proofs.Served.{Served-at, served_at, strictly_onward}
use Rattle.guarantees.proofs.Invariant.{Good, good_opened, good_next, good_quiet}
use Rattle.guarantees.proofs.Deferred.{at_task, free, moves}
use Rattle.guarantees.proofs.CopyOuts.{Both, begun_both}
use Rattle.guarantees.proofs.Turns.{View, Behind, Turning, nothing}

-- the instant that came last
abbrev instant_of : Clock → Option ℕ
instant_of Unset = None
instant_of (At t) = Some t

bit_most : (b : Bool) → bit b ≤ 1
bit_most true = omega arith
bit_most false = omega arith

module _ (present : ℕ) (tasks : present < 4294967296) (n : ℕ) (small : n < 32) where
  -- ---- where the job is, by the phase

  abbrev executing : Phase → ℕ
  executing (Between next outgoing) = outgoing_bit n outgoing
  executing (Within i) = processor_bit n i.processor

  abbrev leaving : Phase → ℕ
  leaving (Between next outgoing) = 0
  leaving (Within i) = copyout_bit n i.copyout

  -- with whether one is pending, and whether a release waits
  abbrev pub view_in : Option ℕ → Bool → Bool → Phase → View
  view_in now c w p = record { now = now; place = bit c + executing p + 2 * leaving p; held = w }

  abbrev T : View → List Event → Type 0
  T = Turning n

  module _ (t : ℕ) where
    abbrev Seen : Bool → Bool → Phase → View
    Seen = view_in (Some t)

    -- a
    completes_turning : (j : Jobs) (o : CopyOut) (w : Bool) (x r : ℕ) (ys : List Event) → bit (member n j.pending) ≡ r + x + copyout_bit n o
        → T (record { now = Some t; place = bit (member n (after_done j.pending (completed j t o))) + x + 2 * copyout_bit n (copyout_at t o); held = w }) ys
        → T (record { now = Some t; place = bit (member n j.pending) + x + 2 * copyout_bit n o; held = w }) (completion_events (completed j t o) ++ ys)
    unfolding completed copyout_at completion_events
    completes_turning j NoCopyOut w x r ys e h = h
    completes_turning j (CopiedOut m) w x r ys e h = h
    completes_turning j (CopyingOut m start until) w x r ys e h = go (eqb until t) h
      where
        P : ℕ
        P = j.pending

        now : (b : Bool) → eqb n m ≡ b → bit (member n P) ≡ r + x + bit b → T (record { now = Some t; place = bit (not b && member n P) + x + 2 * 0; held = w }) ys
            → T (record { now = Some t; place = cond b 0 (bit (member n P) + x + 2 * bit b); held = w }) ys
        now true f e h = subst (λ (p : ℕ). T (record { now = Some t; place = p; held = w }) ys) (omega (arith, bit_most (member n P))) h
        now false f e h = h

        go : (b : Bool) → T (record { now = Some t; place = bit (member n (after_done P (cond b (Some (job_entry j m start t)) None))) + x + 2 * copyout_bit n (cond b (CopiedOut m) (CopyingOut m start until)); held = w }) ys
            → T (record { now = Some t; place = bit (member n P) + x + 2 * bit (eqb n m); held = w }) (completion_events (cond b (Some (job_entry j m start t)) None) ++ ys)
        go true h =
            unfold Turning in (
              (refl, λ f. omega (arith, e, bit_most (member n P), ap bit f)),
              now (eqb n m) refl e (subst (λ (b : Bool). T (record { now = Some t; place = bit b + x + 2 * 0; held = w }) ys) (removed m P n small) h),
            )
        go false h = h

    a_done_turning : (d : State) (w : Bool) (p : Phase) (ys : List Event) → d.phase ≡ p → Parted present tasks d p
        → T (Seen (member n (step_a d t p).state.jobs.pending) w (step_a d t p).state.phase) ys
        → T (Seen (member n d.jobs.pending) w p) (completion_events (step_a d t p).done ++ ys)
    unfolding step_a without_done ended completion_events
    a_done_turning d w (Between next outgoing) ys e h k = subst (λ (q : Phase). T (Seen (member n d.jobs.pending) w q) ys) e k
    a_done_turning d w (Within i) ys e h k =
        completes_turning d.jobs i.copyout w (processor_bit n i.processor) (bit (member n d.jobs.ready) + copyin_bit n i.copyin) ys (omega (arith, h.parts n small))
        (subst (λ (x : ℕ). T (record { now = Some t; place = bit (member n (after_done d.jobs.pending (completed d.jobs t i.copyout))) + x + 2 * copyout_bit n (copyout_at t i.copyout); held = w }) ys)
        (a_processor_bit present tasks n d.table t i.processor) k)

    a_turning : (d : State) (w : Bool) (p : Phase) (ys : List Event) → d.phase ≡ p → Parted present tasks d p
        → T (Seen (member n (step_a d t p).state.jobs.pending) w (step_a d t p).state.phase) ys
        → T (Seen (member n d.jobs.pending) w p) (processor_events_in t p ++ (finish_events_in t p ++ (completion_events (step_a d t p).done ++ ys)))
    a_turning d w p ys e h k =
        let v : View = Seen (member n d.jobs.pending) w p in
        let done : List Event = completion_events (step_a d t p).done in
        by_processor_at (T v) t (λ k es x. unfold Turning in (refl, x)) (λ k es x. unfold Turning in (refl, x)) p (finish_events_in t p ++ (done ++ ys))
        (by_finishes (T v) (λ k es x. unfold Turning in (tt, x)) t p (done ++ ys) (a_done_turning d w p ys e h k))

    -- b, f
    stays_turning : (c w : Bool) (i : Interval) (q : Phase) (ys : List Event) → q ≡ Within i → T (Seen c w q) ys → T (Seen c w (Within i)) (end_events t (Within i) q ++ ys)
    unfolding end_events
    stays_turning c w i q ys e k = rw e (rw e at k)

    b_turning : (c w : Bool) (s : Stage) (p : Phase) (ys : List Event) → s.state.phase ≡ p → T (Seen c w (step_b s t p).state.phase) ys
        → T (Seen c w p) (end_events t p (step_b s t p).state.phase ++ ys)
    unfolding step_b close_stage close end_events
    b_turning c w s (Between next outgoing) ys e h = subst (λ (p : Phase). T (Seen c w p) ys) e h
    b_turning c w s (Within i) ys e h = go (over i) refl h
      where
        go : (b : Bool) → over i ≡ b → T (Seen c w (close_stage s t i b).state.phase) ys → T (Seen c w (Within i)) (end_events t (Within i) (close_stage s t i b).state.phase ++ ys)
        go true o h =
            unfold Turning in (
              refl,
              subst (λ (x : ℕ). T (record { now = Some t; place = x; held = w }) ys)
                  (omega (arith, b_outgoing_bit present tasks n i.processor (rests i o), b_copyout_bit present tasks n i.copyout (no_copyout i o))) h,
            )
        go false o h = stays_turning c w i s.state.phase ys e h

    -- c
    abbrev P : View → List Event → Type 0
    P x es = T (record { now = Some t; place = x.place; held = x.held }) es

    takes_turning : (taken marked p : ℕ) (w : Bool) (ys : List Event) → (member n taken ≡ true → p ≡ 0)
        → T (record { now = Some t; place = cond (member n taken) 1 p; held = cond (member n taken) false w }) ys
        → T (record { now = Some t; place = p; held = w }) (take_events 32 taken marked t ++ ys)
    unfolding take_events Turning
    takes_turning taken marked p w ys f h =
        at_task n taken (λ k. Takes k t (member k marked)) (λ k. take_events k taken marked t) refl (λ k. refl) P
        (λ x k e es y. ((refl, λ z. absurd (true≢false (sym z ∙ e))), rw e y)) (record { now = None; place = p; held = w }) (record { now = None; place = 1; held = false })
        (λ m es y. ((refl, λ z. f m), rw (same_task n) y)) 32 small ys (go (member n taken) h)
      where
        go : (b : Bool) → T (record { now = Some t; place = cond b 1 p; held = cond b false w }) ys
            → P (cond b (record { now = None; place = 1; held = false }) (record { now = None; place = p; held = w })) ys
        go true h = h
        go false h = h

    defers_turning : (deferred p : ℕ) (w : Bool) (ys : List Event) → (member n deferred ≡ true → (p ≡ 0 → ⊥) × (w ≡ false))
        → T (record { now = Some t; place = p; held = cond (member n deferred) true w }) ys
        → T (record { now = Some t; place = p; held = w }) (defer_events 32 deferred t ++ ys)
    unfolding defer_events Turning
    defers_turning deferred p w ys f h =
        at_task n deferred (λ k. Defers k t) (λ k. defer_events k deferred t) refl (λ k. refl) P
        (λ x k e es y. ((refl, λ z. absurd (true≢false (sym z ∙ e))), rw e y)) (record { now = None; place = p; held = w }) (record { now = None; place = p; held = true })
        (λ m es y. ((refl, λ z. f m), rw (same_task n) y)) 32 small ys (go (member n deferred) h)
      where
        go : (b : Bool) → T (record { now = Some t; place = p; held = cond b true w }) ys
            → P (cond b (record { now = None; place = p; held = true }) (record { now = None; place = p; held = w })) ys
        go true h = h
        go false h = h

    -- c, d, e
    abbrev spots : Phase → ℕ
    spots p = executing p + 2 * leaving p

    c_spots : (d : State) (taken : ℕ) (p : Phase) → spots (with_candidates d taken p) ≡ spots p
    unfolding with_candidates
    c_spots d taken (Between next outgoing) = refl
    c_spots d taken (Within i) = refl

    d_spots : (d : State) (taken : ℕ) → spots (step_d d taken d.phase).phase ≡ spots d.phase
    unfolding cancel
    d_spots d taken = d_cases (λ x. spots x.phase ≡ spots d.phase) d taken refl (λ i k u e s b. rw e)

    choose_spots : (d : State) (i : Interval) (q : Option ℕ) → spots (choose d t i q).phase ≡ spots (Within i)
    unfolding choose
    choose_spots d i None = refl
    choose_spots d i (Some q) = refl

    e_spots : (d : State) → spots (step_e d t d.phase).phase ≡ spots d.phase
    e_spots d = e_cases (λ x. spots x.phase ≡ spots d.phase) d t refl (λ i e s u. choose_spots d i (highest_of d d.jobs.ready) ∙ ap spots (sym e))

    spots_e : (d : State) (set : ℕ) → spots (at_e d t set).phase ≡ spots (at_b d t).state.phase
    unfolding at_e step_c
    spots_e d set =
        let b : State = (at_b d t).state in
        let taken : ℕ = taken_at d t set in
        let c : State = step_c b t taken (deferred_at d t set) in
        e_spots (step_d c taken c.phase) ∙ d_spots c taken ∙ c_spots b taken b.phase

    -- g
    begun_place : (a b c : Bool) (x : ℕ) → bit c ≡ x + (bit a + bit b) → cond a 2 (cond b 3 (bit c + bit b + 0)) ≡ bit c + bit a + 2 * bit b
    begun_place true true c x h = absurd (omega (arith, bit_most c))
    begun_place true false c x h = omega (arith, bit_most c)
    begun_place false true c x h = omega (arith, bit_most c)
    begun_place false false c x h = omega arith

    next_is : (table : Table) (next : Next) → next_bit n next ≡ bit (is_task n (processor_task (begin_processor table t next)))
    next_is table NoneNext = refl
    next_is table (LoadedNext m) = refl
    next_is table (PromotedNext m) = refl

    outgoing_is : (table : Table) (outgoing : Outgoing) → outgoing_bit n outgoing ≡ bit (is_task n (copyout_task (begin_copyout table t outgoing)))
    outgoing_is table NoneOutgoing = refl
    outgoing_is table (AwaitsCopyOut m start) = refl

    -- an interval begins with r on the processor and l on the engine
    begins_turning : (a b c w : Bool) (r l : Option ℕ) (x y : ℕ) (ys : List Event) → is_task n r ≡ a → is_task n l ≡ b → y ≡ bit b → bit c ≡ x + (bit a + bit b)
        → T (record { now = Some t; place = bit c + bit a + 2 * bit b; held = w }) ys
        → T (record { now = Some t; place = bit c + y + 2 * 0; held = w }) (Begins t r l ∷ ys)
    unfolding Turning
    begins_turning a b c w r l x y ys e f z h k = (
      (refl, (λ p. let q : a ≡ true = sym e ∙ p in omega (arith, z, bit_most c, ap bit q)), λ p. let q : b ≡ true = sym f ∙ p in omega (arith, z, bit_most c, ap bit q)),
      subst (λ (p : ℕ). T (record { now = Some t; place = p; held = w }) ys)
          (sym (begun_place a b c x h) ∙ ap (λ (p : ℕ). cond a 2 (cond b 3 p)) (omega (arith, z)) ∙ ap (λ (i : Bool). cond i 2 (cond b 3 (bit c + y + 2 * 0))) (sym e)
          ∙ ap (λ (i : Bool). cond (is_task n r) 2 (cond i 3 (bit c + y + 2 * 0))) (sym f)) k,
    )

    opens_turning : (c w : Bool) (table : Table) (next : Next) (outgoing : Outgoing) (q : Phase) (x : ℕ) (ys : List Event)
        → Both table.columns t (begin_processor table t next) (begin_copyout table t outgoing) q → bit c ≡ x + (next_bit n next + outgoing_bit n outgoing)
        → T (Seen c w q) ys → T (Seen c w (Between next outgoing)) (begin_events t (Between next outgoing) q ++ ys)
    unfolding begin_events
    opens_turning c w table next outgoing (Between y z) x ys b h k = absurd b
    opens_turning c w table next outgoing (Within j) x ys b h k =
        let q : Processor = begin_processor table t next in
        let o : CopyOut = begin_copyout table t outgoing in
        subst (λ (o : CopyOut). T (Seen c w (Between next outgoing)) (Begins t (processor_task j.processor) (copyout_task o) ∷ ys)) (sym b.1)
        (subst (λ (q : Processor). T (Seen c w (Between next outgoing)) (Begins t (processor_task q) (copyout_task o) ∷ ys)) (sym b.0)
        (begins_turning (is_task n (processor_task q)) (is_task n (copyout_task o)) c w (processor_task q) (copyout_task o) x (outgoing_bit n outgoing) ys refl refl (outgoing_is table outgoing)
        (omega (arith, h, next_is table next, outgoing_is table outgoing))
        (subst (λ (p : ℕ). T (record { now = Some t; place = p; held = w }) ys)
        (omega (arith, ap (processor_bit n) b.0, ap (copyout_bit n) b.1, g_processor present tasks n table t next, g_copyout present tasks n table t outgoing, next_is table next, outgoing_is table outgoing)) k)))

    shut_turning : (c w : Bool) (next : Next) (outgoing : Outgoing) (q : Phase) (ys : List Event) → q ≡ Between next outgoing → T (Seen c w q) ys
        → T (Seen c w (Between next outgoing)) (begin_events t (Between next outgoing) q ++ ys)
    unfolding begin_events
    shut_turning c w next outgoing q ys e k = rw e (rw e at k)

    g_turning : (c w : Bool) (f : State) (taken : ℕ) (p : Phase) (ys : List Event) → f.phase ≡ p → member n f.jobs.pending ≡ c → Parted present tasks f p
        → T (Seen c w (step_g f t taken p).phase) ys → T (Seen c w p) (begin_events t p (step_g f t taken p).phase ++ ys)
    unfolding step_g begin_events
    g_turning c w f taken (Within i) ys e x h k = subst (λ (p : Phase). T (Seen c w p) ys) e k
    g_turning c w f taken (Between next outgoing) ys e x h k = go (wanted next outgoing f.jobs.ready) k
      where
        b : State
        b = begin f t taken next outgoing

        go : (z : Bool) → T (Seen c w (cond z (step_e b t b.phase) f).phase) ys
            → T (Seen c w (Between next outgoing)) (begin_events t (Between next outgoing) (cond z (step_e b t b.phase) f).phase ++ ys)
        go true k =
            opens_turning c w f.table next outgoing (step_e b t b.phase).phase (bit (member n f.jobs.ready)) ys
            (begun_both f.table.columns t b (begin_processor f.table t next) (begin_copyout f.table t outgoing) (unfold begin in (refl, refl)))
            (omega (arith, ap bit (sym x), h.parts n small)) k
        go false k = shut_turning c w next outgoing f.phase ys e k

    -- ---- the steps together

    within_stage : (p : Phase) → executing p + leaving p ≤ stage n p
    within_stage (Between next outgoing) = omega arith
    within_stage (Within i) = omega arith

    -- a task whose release is taken is nowhere
    nowhere : (b : State) (set : ℕ) → Parted present tasks b b.phase → member n (taken b set) ≡ true
        → bit (member n b.jobs.pending) + executing b.phase + 2 * leaving b.phase ≡ 0
    nowhere b set h m = omega (arith, within_stage b.phase, h.parts n small, ap bit (taken_not_pending b set n m))

    module _ (d : State) (set : ℕ) (known : Sub set present) (h : Parted present tasks (at_b d t).state (at_b d t).state.phase) where
      abbrev B : State
      B = (at_b d t).state

      abbrev G : State
      G = at_g d t set

      abbrev placed_b : ℕ
      placed_b = bit (member n B.jobs.pending) + executing B.phase + 2 * leaving B.phase

      abbrev taken_now : ℕ
      taken_now = taken B (passed d t set)

      abbrev deferred_now : ℕ
      deferred_now = deferred B (passed d t set)

      -- a release is set waiting behind a pending job
      deferred_behind : member n deferred_now ≡ true → cond (member n taken_now) 1 placed_b ≡ 0 → ⊥
      deferred_behind m z =
          go (member n B.jobs.pending) (member n B.waiting.tasks) (member n (passed d t set)) (executing B.phase) (2 * leaving B.phase)
          (sym (deferred_member B (passed d t set) n small) ∙ m)
          (subst (λ (x : Bool). cond x 1 placed_b ≡ 0) (taken_member B (passed d t set) n small) z)
        where
          go : (p w s : Bool) (x y : ℕ) → is_deferred p w s ≡ true → cond (is_taken p w s) 1 (bit p + x + y) ≡ 0 → ⊥
          go true w s x y m z = omega arith
          go false true s x y m z = omega arith
          go false false true x y m z = omega arith
          go false false false x y m z = false≢true m

      placed_e : cond (member n taken_now) 1 placed_b ≡ bit (member n G.jobs.pending) + executing (at_e d t set).phase + 2 * leaving (at_e d t set).phase
      placed_e =
          go (member n taken_now) (nowhere B (passed d t set) h) ∙ omega (arith, spots_e d set, ap bit (sym pending_is))
        where
          pending_is : member n G.jobs.pending ≡ (member n B.jobs.pending || member n taken_now)
          pending_is = ap (member n) (pending_g d t set) ∙ (unfold taken_at in united B.jobs.pending taken_now n small)

          go : (x : Bool) → (x ≡ true → placed_b ≡ 0) → cond x 1 placed_b ≡ bit (member n B.jobs.pending || x) + executing B.phase + 2 * leaving B.phase
          go true z = by-test (member n B.jobs.pending) (λ p. absurd (omega (arith, z refl, ap bit p))) (λ p. rw p (omega (arith, z refl)))
          go false z = by-test (member n B.jobs.pending) (λ p. rw p refl) (λ p. rw p refl)

      held_e : cond (member n deferred_now) true (cond (member n taken_now) false (member n B.waiting.tasks)) ≡ member n G.waiting.tasks
      held_e = moves B (passed d t set) n small ∙ ap (member n) (sym (waits_g d t set))

      parted_f : Parted present tasks (at_f d t set).state (at_f d t set).state.phase
      unfolding at_f
      parted_f = (b_moves present tasks (fresh_stage (at_e d t set)) t (at_e d t set).phase refl (to_e present tasks d t set known h).parted).parted

      pending_f : (at_f d t set).state.jobs.pending ≡ G.jobs.pending
      unfolding at_g
      pending_f = ap (λ (x : Frame). x.pending) (sym (g_frame (at_f d t set).state t (held_at d t set)))

      rest_turning : (ys : List Event) → let c : Bool = member n G.jobs.pending in let w : Bool = member n G.waiting.tasks in
          T (Seen c w G.phase) ys
          → T (Seen c w (at_e d t set).phase) (giving_events_in B.phase (at_e d t set).phase
          ++ (end_events t (at_e d t set).phase (at_f d t set).state.phase
          ++ (begin_events t (at_f d t set).state.phase G.phase ++ (start_events t (at_f d t set).state.phase G.phase ++ ys))))
      unfolding at_f at_g
      rest_turning ys k =
          let c : Bool = member n G.jobs.pending in
          let w : Bool = member n G.waiting.tasks in
          let e : State = at_e d t set in
          let f : State = (at_f d t set).state in
          let starts : List Event = start_events t f.phase G.phase ++ ys in
          let begins : List Event = begin_events t f.phase G.phase ++ starts in
          by_gives (T (Seen c w e.phase)) (λ j es x. unfold Turning in (tt, x)) B.phase e.phase (end_events t e.phase f.phase ++ begins)
          (b_turning c w (fresh_stage e) e.phase begins refl
          (g_turning c w f (held_at d t set) f.phase starts refl (ap (member n) pending_f) parted_f
          (by_starts (T (Seen c w G.phase)) t (λ j es x. unfold Turning in (refl, x)) f.phase G.phase ys k)))

      tail_turning : (ys : List Event) → T (Seen (member n G.jobs.pending) (member n G.waiting.tasks) G.phase) ys
          → T (Seen (member n B.jobs.pending) (member n B.waiting.tasks) B.phase) (take_events 32 (taken_at d t set) d.marked t ++ (tail_of d t set ++ ys))
      unfolding taken_at deferred_at
      tail_turning ys k =
          takes_turning taken_now d.marked placed_b (member n B.waiting.tasks) (tail_of d t set ++ ys) (nowhere B (passed d t set) h)
          (rw (tail_parts d t set ys)
          (defers_turning deferred_now (cond (member n taken_now) 1 placed_b) (cond (member n taken_now) false (member n B.waiting.tasks)) _
          (λ m. (deferred_behind m, free B (passed d t set) n small m))
          (rw (placed_e, held_e) (rest_turning ys k))))

  -- ---- an instant

  comes_turning : (t : ℕ) (v : View) (es : List Event) → ((u : ℕ) → v.now ≡ Some u → u < t) → Behind n v
      → T (record { now = Some t; place = v.place; held = v.held }) es → T v (Comes t ∷ es)
  unfolding Turning
  comes_turning t v es f b h = ((f, b), h)

  turning_instant : (d : State) (t set : ℕ) (ys : List Event) → Sub set present → ((u : ℕ) → d.clock ≡ At u → u < t) → Sub d.waiting.tasks d.jobs.pending → Parted present tasks d d.phase
      → let g : State = at_g d t set in T (view_in (Some t) (member n g.jobs.pending) (member n g.waiting.tasks) g.phase) ys
      → T (view_in (instant_of d.clock) (member n d.jobs.pending) (member n d.waiting.tasks) d.phase) (happens d t set ++ ys)
  turning_instant d t set ys known onward behind h k =
      let later : List Event = take_events 32 (taken_at d t set) d.marked t ++ (tail_of d t set ++ ys) in
      rw (happens_parts d t set ys, front_parts d t later)
      (comes_turning t (view_in (instant_of d.clock) (member n d.jobs.pending) (member n d.waiting.tasks) d.phase) _ (rises d.clock onward)
      (λ w z. omega (arith, ap bit (behind n small w))) (front later (tail_turning t d set known (to_b present tasks d t h).parted ys k)))
    where
      rises : (c : Clock) → ((u : ℕ) → c ≡ At u → u < t) → (u : ℕ) → instant_of c ≡ Some u → u < t
      rises Unset f u e = absurd (let z : ◌≡◌ {A = ℕ} 0 1 = cc in omega arith)
      rises (At v) f u e = f u (let z : v ≡ u = cc in ap At z)

      front : (later : List Event) → let b : State = (at_b d t).state in
          T (Seen t (member n b.jobs.pending) (member n b.waiting.tasks) b.phase) later
          → T (Seen t (member n d.jobs.pending) (member n d.waiting.tasks) d.phase)
          (processor_events_in t d.phase ++ (finish_events_in t d.phase ++ (completion_events (at_a d t).done ++ (end_events t (at_a d t).state.phase (at_b d t).state.phase ++ later))))
      front later x =
          unfold at_b at_a in
          let a : Stage = at_a d t in
          a_turning t (at_clock d t) (member n d.waiting.tasks) d.phase (end_events t a.state.phase (at_b d t).state.phase ++ later) refl
          (record { few = h.few; marks = h.marks; pending = h.pending; ready = h.ready; waits = h.waits; known = h.known; parts = h.parts })
          (b_turning t (member n a.state.jobs.pending) (member n d.waiting.tasks) a a.state.phase later refl
          (subst (λ (p : ℕ). T (Seen t (member n p) (member n d.waiting.tasks) (at_b d t).state.phase) later) (ap (λ (y : Frame). y.pending) (b_frame a t))
          (subst (λ (w : WaitingReleases). T (Seen t (member n (at_b d t).state.jobs.pending) (member n w.tasks) (at_b d t).state.phase) later) (waiting_b d t) x)))

-- ---- along the calls

module _ (table : Table) (marks : ℕ) (fair : Fair table marks) (n : ℕ) (small : n < 32) where
  abbrev view_of : State → View
  view_of d = view_in table.present fair.present n small (instant_of d.clock) (member n d.jobs.pending) (member n d.waiting.tasks) d.phase

  turning : (cs : List Call) (d : State) → Good table marks fair d → Turning n (view_of d) (history d cs)
  turning =
      walk (λ d h. Good table marks fair d → Turning n (view_of d) h)
      (λ d g. unfold Turning in λ w z. omega (arith, ap bit (g.behind n small w)))
      (λ d t set cs e k g.
      let s : Served-at d t set = served_at d t set e in
      let x : State = at_g d t set in
      turning_instant table.present fair.present n small d t set (history x cs)
      (subst (λ (y : Table). Sub set y.present) g.table_is s.known) (λ u c. strictly_onward d t set u e c) g.behind g.parted
      (subst (λ (c : Clock). Turning n (view_in table.present fair.present n small (instant_of c) (member n x.jobs.pending) (member n x.waiting.tasks) x.phase) (history x cs)) (clock_g d t set)
      (k (good_next table marks fair d t set g s))))
      (λ d m e h k g. k (good_quiet table marks fair d m e g))

  -- every list of calls from the state that opening returned
  pub turns : (cs : List Call) → Turning n nothing (history (opened table marks) cs)
  turns cs = subst (λ (b : Bool). Turning n (record { now = None; place = bit b + 0 + 2 * 0; held = b }) (history (opened table marks) cs)) (none n) (unfold opened in turning cs (opened table marks) (good_opened table marks fair))
