-- What a state knows of the last job of a task is what the walk of Tally finds, and each step keeps that.
use Rattle.std.proofs.Common.{◌≡◌, ◌&&◌, ◌||◌, ◌∷◌, ◌++◌, ◌⊎◌, ◌+◌, ◌^◌, ◌≤◌, ◌<◌}
use Rattle.guarantees.specs.Types.{refl, sym, ap, ◌∙◌, subst, Bool, true, false, cond, false≢true, List, [], inl, inr, ⊎_elim, ℕ, min, Table, WaitingReleases, Option, None, Some, Processor, Idle, CopyingIn, Executing, Finished, CopyOut, NoCopyOut, CopyingOut, CopiedOut, CopyIn, Unchosen, NoneChosen, Copying, Loaded, Cancelled, Interval, Next, NoneNext, LoadedNext, PromotedNext, Outgoing, NoneOutgoing, AwaitsCopyOut, Phase, Between, Within, State, Stage}
use native.Mathlib.Omega.{arith}
use native.Mathlib.Nat.{add-zero, zero-add}
use borrow.Author.Tests.{eqb-true, ne_eqb, le-ltb}
use Rattle.table.specs.Table.{execution_length}
use lib.Dec.{eqb, ltb}
use lib.ListN.{get_or, length}
use Rattle.sets.specs.Sets.{member, difference, bit}
use Rattle.sets.proofs.Laws.{by-test, clash, none, collected, united, difference_member, union_out, same_task, insert_same, insert_other}
use Rattle.rules.specs.With.{later}
use Rattle.rules.specs.Order.{highest_of, higher, higher_than}
use Rattle.rules.specs.Instant.{step_a, step_b, step_c, step_d, step_e, step_g, close, close_stage, over, promoted, awaiting_copyout, awaiting_execution, blocks, settled, with_candidates, original as stamps, cancel, choose, begin, begin_processor, begin_copyout, wanted, without_done, ended, processor_at, copyout_at, processor_task}
use Rattle.guarantees.specs.History.{Event, Takes, Ends, processor_events, processor_events_in, finish_events, finish_events_in, completion_events, end_events, take_events, defer_events, begin_events, start_events}
use Rattle.guarantees.specs.Queries.{is_task, Situation, Open, original}
use Rattle.guarantees.specs.Entries.{is_lower, lower_in}
use Rattle.guarantees.proofs.Cases.{d_cases, e_cases}
use Rattle.guarantees.proofs.Frames.{Frame, d_frame, e_frame}
use Rattle.guarantees.proofs.Steps.{Opened, e_opens, settles, processor_task_same}
use Rattle.guarantees.proofs.Waiting.{held_task, next_task, up_next, runs}
use Rattle.guarantees.proofs.Order.{situation_of, c_situation, d_situation, e_situation}
use Rattle.guarantees.proofs.Blocking.{Place, Out, In, place, c_place, c_up_next, Awaits, AwaitsIn, Bounded, Like, a_like, d_like, e_like, promoted_awaits, promoted_ready}
use Rattle.guarantees.proofs.Places.{Parted, stage, next_bit, outgoing_bit, processor_bit, copyout_bit}
use Rattle.guarantees.proofs.Origins.{original_is, held_is, stamp}
use Rattle.guarantees.proofs.Tally.{Tally, first_of, or_else, grown, tally_by, tally, tally_append}
use Rattle.guarantees.proofs.Tallies.{counted_length, counted_exact, stamped_length, with_started, with_held, started_after, processor_tally, finish_tally, completion_tally, takes_others, takes_this, defers_tally, started_next, begun, opened_tally}

-- ---- how many intervals are lower

module _ (pr : List ℕ) (n : ℕ) where
  lower_more : (w : List (Option ℕ)) (r : Option ℕ) → lower_in pr n (w ++ (r ∷ [])) ≡ lower_in pr n w + cond (is_lower pr n r) 1 0
  unfolding lower_in
  lower_more [] r = omega arith
  lower_more (q ∷ w) r = omega (arith, lower_more w r)

  -- none is lower than itself
  pub not_itself : (m : ℕ) → eqb n m ≡ true → is_lower pr n (Some m) ≡ false
  not_itself m e = subst (λ (k : ℕ). ltb (get_or pr n 0) (get_or pr k 0) ≡ false) (eqb-true n m e) (le-ltb (get_or pr n 0) (get_or pr n 0) (omega arith))

-- ---- what a state knows of a task's last job

module _ (pr : List ℕ) (n : ℕ) (small : n < 32) where
  -- whether the open interval is lower
  abbrev pub low : Place → ℕ
  low (Out h) = 0
  low (In r) = cond (is_lower pr n r) 1 0

  -- it is executed, is copied out, or waits for that, and its execution has started at a tick or not yet
  abbrev pub InProcessor : Option ℕ → Processor → Type 0
  InProcessor s Idle = ⊥
  InProcessor s (CopyingIn m until) = (eqb n m ≡ true) × (s ≡ None)
  InProcessor s (Executing m start until) = (eqb n m ≡ true) × (s ≡ Some start)
  InProcessor s (Finished m start) = (eqb n m ≡ true) × (s ≡ Some start)

  abbrev pub InCopyOut : Option ℕ → CopyOut → Type 0
  InCopyOut s NoCopyOut = ⊥
  InCopyOut s (CopyingOut m start until) = (eqb n m ≡ true) × (s ≡ Some start)
  InCopyOut s (CopiedOut m) = ⊥

  abbrev pub InOutgoing : Option ℕ → Outgoing → Type 0
  InOutgoing s NoneOutgoing = ⊥
  InOutgoing s (AwaitsCopyOut m start) = (eqb n m ≡ true) × (s ≡ Some start)

  abbrev pub RunsAt : Option ℕ → Phase → Type 0
  RunsAt s (Between next outgoing) = InOutgoing s outgoing
  RunsAt s (Within i) = InProcessor s i.processor ⊎ InCopyOut s i.copyout

  -- a job that awaits execution: its count is of all intervals but the open one
  pub record Awaiting (x : Tally) (d : State) : Type 0 where
    pub release : x.release ≡ Some (get_or d.jobs.release n 0)
    pub unexecuted : x.executed ≡ false
    pub count : get_or d.jobs.blocked n 0 + low (place d.phase) ≡ lower_in pr n x.waits
    pub unstarted : x.started ≡ None

  -- one that is executed, or was: its count is of all
  pub record Ran (x : Tally) (s : Option ℕ) (d : State) : Type 0 where
    pub release : x.release ≡ Some (get_or d.jobs.release n 0)
    pub executed : x.executed ≡ true
    pub count : get_or d.jobs.blocked n 0 ≡ lower_in pr n x.waits
    pub started : x.started ≡ s

  -- the release that waits
  pub record HoldsWaiting (h : Option ℕ) (w : WaitingReleases) : Type 0 where
    pub times : n < length w.times
    pub is : h ≡ cond (member n w.tasks) (Some (get_or w.times n 0)) None

  pub record Knows (x : Tally) (d : State) : Type 0 where
    pub table : d.table.priority ≡ pr
    pub at : x.at ≡ situation_of d.phase
    pub releases : n < length d.jobs.release
    pub counts : n < length d.jobs.blocked
    pub holds : HoldsWaiting x.held d.waiting
    pub awaits : AwaitsIn pr n small d → Awaiting x d
    pub runs : (s : Option ℕ) → RunsAt s d.phase → Ran x s d

  -- ---- a step that changes none of it but what waits

  record Alike (d g : State) : Type 0 where
    like : Like pr n small d g
    release : get_or g.jobs.release n 0 ≡ get_or d.jobs.release n 0
    releases : length g.jobs.release ≡ length d.jobs.release
    counts : length g.jobs.blocked ≡ length d.jobs.blocked
    at : situation_of g.phase ≡ situation_of d.phase
    runs : (s : Option ℕ) → RunsAt s g.phase → RunsAt s d.phase

  alike_knows : (d g : State) (x : Tally) (h : Option ℕ) → Alike d g → HoldsWaiting h g.waiting → Knows x d → Knows (with_held n x h) g
  alike_knows d g x h l z k = record {
    table = l.like.table ∙ k.table;
    at = k.at ∙ sym l.at;
    releases = omega (arith, k.releases, l.releases);
    counts = omega (arith, k.counts, l.counts);
    holds = z;
    awaits = λ w.
        let a : Awaiting x d = k.awaits (l.like.awaits w) in
        record {
          release = a.release ∙ ap Some (sym l.release);
          unexecuted = a.unexecuted;
          count = omega (arith, a.count, l.like.count, ap low l.like.place);
          unstarted = a.unstarted;
        };
    runs = λ s r.
        let a : Ran x s d = k.runs s (l.runs s r) in
        record { release = a.release ∙ ap Some (sym l.release); executed = a.executed; count = l.like.count ∙ a.count; started = a.started };
  }

  -- d
  d_alike : (taken : ℕ) (d : State) → Alike d (step_d d taken d.phase)
  unfolding cancel
  d_alike taken d = record {
    like = d_like pr n small taken d;
    release = d_cases (λ x. get_or x.jobs.release n 0 ≡ get_or d.jobs.release n 0) d taken refl (λ i m u e s b. refl);
    releases = d_cases (λ x. length x.jobs.release ≡ length d.jobs.release) d taken refl (λ i m u e s b. refl);
    counts = d_cases (λ x. length x.jobs.blocked ≡ length d.jobs.blocked) d taken refl (λ i m u e s b. refl);
    at = d_situation d taken;
    runs = λ s. d_cases (λ x. RunsAt s x.phase → RunsAt s d.phase) d taken (λ r. r) (λ i m u e c b r. subst (RunsAt s) (sym e) r);
  }

  pub d_knows : (taken : ℕ) (d : State) (x : Tally) → Knows x d → Knows x (step_d d taken d.phase)
  d_knows taken d x k =
      alike_knows d (step_d d taken d.phase) x x.held (d_alike taken d) (subst (HoldsWaiting x.held) (sym (ap (λ (y : Frame). y.waiting) (d_frame d taken))) k.holds) k

  -- e
  choose_same : (d : State) (t : ℕ) (i : Interval) (q : Option ℕ) → ((choose d t i q).jobs.release ≡ d.jobs.release) × ((choose d t i q).jobs.blocked ≡ d.jobs.blocked)
  unfolding choose
  choose_same d t i None = (refl, refl)
  choose_same d t i (Some q) = (refl, refl)

  choose_runs : (d : State) (t : ℕ) (i : Interval) (q : Option ℕ) (s : Option ℕ) → RunsAt s (choose d t i q).phase → RunsAt s (Within i)
  unfolding choose
  choose_runs d t i None s r = r
  choose_runs d t i (Some q) s r = r

  e_alike : (t : ℕ) (d : State) → Alike d (step_e d t d.phase)
  e_alike t d = record {
    like = e_like pr n small t d;
    release = ap (λ (r : List ℕ). get_or r n 0) same_release;
    releases = ap length same_release;
    counts = ap length (e_cases (λ x. x.jobs.blocked ≡ d.jobs.blocked) d t refl (λ i e s u. (choose_same d t i (highest_of d d.jobs.ready)).1));
    at = e_situation d t;
    runs = λ s. e_cases (λ x. RunsAt s x.phase → RunsAt s d.phase) d t (λ r. r)
        (λ i e c u r. subst (RunsAt s) (sym e) (choose_runs d t i (highest_of d d.jobs.ready) s r));
  }
    where
      same_release : (step_e d t d.phase).jobs.release ≡ d.jobs.release
      same_release = e_cases (λ x. x.jobs.release ≡ d.jobs.release) d t refl (λ i e s u. (choose_same d t i (highest_of d d.jobs.ready)).0)

  pub e_knows : (t : ℕ) (d : State) (x : Tally) → Knows x d → Knows x (step_e d t d.phase)
  e_knows t d x k =
      alike_knows d (step_e d t d.phase) x x.held (e_alike t d) (subst (HoldsWaiting x.held) (sym (ap (λ (y : Frame). y.waiting) (e_frame d t))) k.holds) k

  -- ---- a

  -- the start of an execution that has started stays
  start_stays : (t : ℕ) (q : Processor) (a : ℕ) → started_after n t q (Some a) ≡ Some a
  start_stays t Idle a = refl
  start_stays t (CopyingIn m until) a = go (eqb until t) (eqb n m)
    where
      go : (b c : Bool) → cond b (cond c (Some a) (Some a)) (Some a) ≡ Some a
      go true true = refl
      go true false = refl
      go false c = refl
  start_stays t (Executing m start until) a = refl
  start_stays t (Finished m start) a = refl

  -- and none of a job starts that is not copied in
  no_start : (t : ℕ) (q : Processor) (s : Option ℕ) → (InProcessor None q → ⊥) → started_after n t q s ≡ s
  no_start t Idle s f = refl
  no_start t (CopyingIn m until) s f = go (eqb until t) (eqb n m) refl
    where
      go : (b c : Bool) → eqb n m ≡ c → cond b (cond c (or_else s (Some t)) s) s ≡ s
      go true true e = absurd (f (e, refl))
      go true false e = refl
      go false c e = refl
  no_start t (Executing m start until) s f = refl
  no_start t (Finished m start) s f = refl

  in_copyout_tick : (s : Option ℕ) (o : CopyOut) → InCopyOut s o → (a : ℕ) × (s ≡ Some a)
  in_copyout_tick s NoCopyOut r = absurd r
  in_copyout_tick s (CopyingOut m start until) r = (start, r.1)
  in_copyout_tick s (CopiedOut m) r = absurd r

  a_copyout : (t : ℕ) (s : Option ℕ) (o : CopyOut) → InCopyOut s (copyout_at t o) → InCopyOut s o
  unfolding copyout_at
  a_copyout t s NoCopyOut r = r
  a_copyout t s (CopyingOut m start until) r = go (eqb until t) r
    where
      go : (b : Bool) → InCopyOut s (cond b (CopiedOut m) (CopyingOut m start until)) → (eqb n m ≡ true) × (s ≡ Some start)
      go true r = absurd r
      go false r = r
  a_copyout t s (CopiedOut m) r = r

  -- what the processor's step makes of the start
  a_processor : (table : Table) (t : ℕ) (q : Processor) (x : Tally) (s : Option ℕ) → ((s : Option ℕ) → InProcessor s q → x.started ≡ s)
      → InProcessor s (processor_at table t q) → ((s' : Option ℕ) × InProcessor s' q) × (started_after n t q x.started ≡ s)
  unfolding processor_at
  a_processor table t Idle x s k r = absurd r
  a_processor table t (CopyingIn m until) x s k r = go (eqb until t) r
    where
      go : (b : Bool) → InProcessor s (cond b (Executing m t (later t (execution_length table.columns m))) (CopyingIn m until))
          → ((s' : Option ℕ) × InProcessor s' (CopyingIn m until)) × (cond b (cond (eqb n m) (or_else x.started (Some t)) x.started) x.started ≡ s)
      go true r = ((None, (r.0, refl)), rw (r.0, k None (r.0, refl)) (sym r.1))
      go false r = ((s, r), k s r)
  a_processor table t (Executing m start until) x s k r = go (eqb until t) r
    where
      go : (b : Bool) → InProcessor s (cond b (Finished m start) (Executing m start until)) → ((s' : Option ℕ) × InProcessor s' (Executing m start until)) × (x.started ≡ s)
      go true r = ((s, r), k s r)
      go false r = ((s, r), k s r)
  a_processor table t (Finished m start) x s k r = ((s, r), k s r)

  abbrev ended_tally : ℕ → Interval → Tally → Tally
  ended_tally t i x = with_started n x (started_after n t i.processor x.started)

  a_within : (d : State) (t : ℕ) (i : Interval) (x : Tally) → d.phase ≡ Within i → Like pr n small d (step_a d t (Within i)).state → Knows x d
      → Knows (ended_tally t i x) (step_a d t (Within i)).state
  unfolding step_a ended without_done
  a_within d t i x e l k = record {
    table = k.table;
    at = k.at ∙ ap situation_of e ∙ ap Open (sym (processor_task_same d.table t i.processor));
    releases = k.releases;
    counts = k.counts;
    holds = k.holds;
    awaits = λ w.
        let a : Awaiting x d = k.awaits (l.awaits w) in
        record {
          release = a.release;
          unexecuted = a.unexecuted;
          count = omega (arith, a.count, ap low l.place);
          unstarted =
              no_start t i.processor x.started (λ r. clash x.executed (ran None (inl r)).executed a.unexecuted) ∙ a.unstarted;
        };
    runs = λ s r.
        ⊎_elim
        (λ y.
        let z : ((s' : Option ℕ) × InProcessor s' i.processor) × (started_after n t i.processor x.started ≡ s) =
        a_processor d.table t i.processor x s (λ s' r'. (ran s' (inl r')).started) y in
        let a : Ran x z.0.0 d = ran z.0.0 (inl z.0.1) in
        record { release = a.release; executed = a.executed; count = a.count; started = z.1 })
        (λ y.
        let y' : InCopyOut s i.copyout = a_copyout t s i.copyout y in
        let a : Ran x s d = ran s (inr y') in
        let z : (b : ℕ) × (s ≡ Some b) = in_copyout_tick s i.copyout y' in
        record {
          release = a.release;
          executed = a.executed;
          count = a.count;
          started = ap (started_after n t i.processor) (a.started ∙ z.1) ∙ start_stays t i.processor z.0 ∙ sym z.1;
        })
        r;
  }
    where
      ran : (s : Option ℕ) → RunsAt s (Within i) → Ran x s d
      ran s r = k.runs s (subst (RunsAt s) (sym e) r)

  pub a_knows : (d : State) (t : ℕ) (p : Phase) (x : Tally) → d.phase ≡ p → Knows x d
      → Knows (tally n x (processor_events_in t p ++ (finish_events_in t p ++ completion_events (step_a d t p).done))) (step_a d t p).state
  a_knows d t (Between next outgoing) x e k = unfold processor_events_in finish_events_in step_a completion_events tally in k
  a_knows d t (Within i) x e k =
      unfold processor_events_in finish_events_in in
      subst (λ (y : Tally). Knows y (step_a d t (Within i)).state) (sym walked)
      (a_within d t i x e (subst (λ (p : Phase). Like pr n small d (step_a d t p).state) e (a_like pr n small t d)) k)
    where
      walked : tally n x (processor_events t i.processor ++ (finish_events t i.copyin ++ completion_events (step_a d t (Within i)).done)) ≡ ended_tally t i x
      walked =
          let x' : Tally = with_started n x (started_after n t i.processor x.started) in
          let c : List Event = completion_events (step_a d t (Within i)).done in
          tally_append n (processor_events t i.processor) (finish_events t i.copyin ++ c) x
          ∙ ap (λ (y : Tally). tally n y (finish_events t i.copyin ++ c)) (processor_tally n t i.processor x)
          ∙ tally_append n (finish_events t i.copyin) c x'
          ∙ ap (λ (y : Tally). tally n y c) (finish_tally n t i.copyin x')
          ∙ completion_tally n (step_a d t (Within i)).done (ended_tally t i x)

  -- ---- b, f

  pub awaits_in : (ready : ℕ) (c : CopyIn) → settled c ≡ true → Awaits pr n small ready (held_task c) → member n (awaiting_execution c ready) ≡ true
  awaits_in ready Unchosen h w = absurd (false≢true h)
  awaits_in ready NoneChosen h w = ⊎_elim (λ m. m) (λ e. absurd (false≢true e)) w
  awaits_in ready (Copying m until) h w = absurd (false≢true h)
  awaits_in ready (Loaded m) h w = ⊎_elim (λ y. insert_other m ready n small y) (λ e. insert_same m ready n small e) w
  awaits_in ready (Cancelled m fate) h w = ⊎_elim (λ m. m) (λ e. absurd (false≢true e)) w

  pub higher_is : (d : State) (s : ℕ) (r : Option ℕ) → d.table.priority ≡ pr → member n (higher d r s) ≡ (member n s && is_lower pr n r)
  unfolding higher_than
  higher_is d s None e = none n ∙ go (member n s)
    where
      go : (b : Bool) → false ≡ (b && false)
      go true = refl
      go false = refl
  higher_is d s (Some m) e =
      collected (λ k. member k s && ltb (get_or d.table.priority k 0) (get_or d.table.priority m 0)) n small
      ∙ ap (λ (p : List ℕ). member n s && ltb (get_or p n 0) (get_or p m 0)) e

  one : (b : Bool) (c : ℕ) → c ≤ 2 → cond b (min (c + 1) 255) c ≡ c + cond b 1 0
  one true c l = omega arith
  one false c l = omega arith

  -- the count after an interval's end
  pub close_count : (d : State) (i : Interval) → n < length d.jobs.blocked → get_or d.jobs.blocked n 0 ≤ 2
      → get_or (close d i).jobs.blocked n 0 ≡ get_or d.jobs.blocked n 0 + cond (member n (blocks d i)) 1 0
  unfolding close
  close_count d i l b =
      counted_exact (blocks d i) 0 d.jobs.blocked n l
      ∙ ap (λ (j : ℕ). cond (member j (blocks d i)) (min (get_or d.jobs.blocked n 0 + 1) 255) (get_or d.jobs.blocked n 0)) (zero-add n)
      ∙ one (member n (blocks d i)) (get_or d.jobs.blocked n 0) b

  pub blocks_is : (d : State) (i : Interval) → d.table.priority ≡ pr
      → member n (blocks d i) ≡ (member n (awaiting_execution i.copyin d.jobs.ready) && is_lower pr n (processor_task i.processor))
  unfolding blocks
  blocks_is d i e = higher_is d (awaiting_execution i.copyin d.jobs.ready) (processor_task i.processor) e

  -- a job that leaves the processor
  leaves : (s : Option ℕ) (q : Processor) → InOutgoing s (awaiting_copyout q) → InProcessor s q × (is_lower pr n (processor_task q) ≡ false)
  leaves s Idle r = absurd r
  leaves s (CopyingIn m until) r = absurd r
  leaves s (Executing m start until) r = absurd r
  leaves s (Finished m start) r = (r, not_itself pr n m r.0)

  pub and_false : (b : Bool) → (b && false) ≡ false
  and_false true = refl
  and_false false = refl

  module _ (d : State) (t : ℕ) (i : Interval) (x : Tally) (e : d.phase ≡ Within i) (o : over i ≡ true) (b : Bounded pr n small d) (k : Knows x d) where
    close_awaiting : AwaitsIn pr n small (close d i) → Awaiting (tally_by n x (Ends t)) (close d i)
    unfolding close
    close_awaiting w =
        let w' : Awaits pr n small d.jobs.ready (held_task i.copyin) =
        promoted_awaits pr n small d.jobs.ready i.copyin (promoted d i i.copyin) (promoted_ready pr n small d i i.copyin) w in
        let a : Awaiting x d = k.awaits (subst (λ (p : Phase). Awaits pr n small d.jobs.ready (up_next p)) (sym e) w') in
        let l : member n (blocks d i) ≡ is_lower pr n (processor_task i.processor) =
        blocks_is d i k.table ∙ ap (λ (y : Bool). y && is_lower pr n (processor_task i.processor)) (awaits_in d.jobs.ready i.copyin (settles i o) w') in
        let c : get_or (close d i).jobs.blocked n 0 ≡ lower_in pr n x.waits =
        omega (arith, close_count d i k.counts b.most, ap {B = ℕ} (λ (y : Bool). cond y 1 0) l, a.count, ap (λ (p : Phase). low (place p)) e) in
        record { release = a.release; unexecuted = a.unexecuted; count = add-zero (get_or (close d i).jobs.blocked n 0) ∙ c; unstarted = a.unstarted }

    close_ran : (s : Option ℕ) → RunsAt s (close d i).phase → Ran (tally_by n x (Ends t)) s (close d i)
    unfolding close
    close_ran s r =
        let z : InProcessor s i.processor × (is_lower pr n (processor_task i.processor) ≡ false) = leaves s i.processor r in
        let a : Ran x s d = k.runs s (subst (RunsAt s) (sym e) (inl z.0)) in
        let l : member n (blocks d i) ≡ false =
        blocks_is d i k.table ∙ ap (λ (y : Bool). member n (awaiting_execution i.copyin d.jobs.ready) && y) z.1
        ∙ and_false (member n (awaiting_execution i.copyin d.jobs.ready)) in
        let c : get_or (close d i).jobs.blocked n 0 ≡ lower_in pr n x.waits =
        omega (arith, close_count d i k.counts b.most, ap {B = ℕ} (λ (y : Bool). cond y 1 0) l, a.count) in
        record { release = a.release; executed = a.executed; count = c; started = a.started }

    close_knows : Knows (tally_by n x (Ends t)) (close d i)
    unfolding close
    close_knows = record {
      table = k.table;
      at = refl;
      releases = k.releases;
      counts = omega (arith, k.counts, counted_length (blocks d i) 0 d.jobs.blocked);
      holds = k.holds;
      awaits = λ w. close_awaiting w;
      runs = λ s r. close_ran s r;
    }

  pub b_knows : (s : Stage) (t : ℕ) (p : Phase) (x : Tally) → s.state.phase ≡ p → Bounded pr n small s.state → Knows x s.state
      → Knows (tally n x (end_events t p (step_b s t p).state.phase)) (step_b s t p).state
  b_knows s t (Between next outgoing) x e b k = unfold step_b end_events tally in k
  b_knows s t (Within i) x e b k = unfold step_b in go (over i) refl
    where
      stays : (q : Phase) → q ≡ Within i → tally n x (end_events t (Within i) q) ≡ x
      stays q f = unfold end_events tally in rw f

      go : (c : Bool) → over i ≡ c → Knows (tally n x (end_events t (Within i) (close_stage s t i c).state.phase)) (close_stage s t i c).state
      go true o = unfold close_stage close end_events tally in close_knows s.state t i x e o b k
      go false o = unfold close_stage in subst (λ (y : Tally). Knows y s.state) (sym (stays s.state.phase e)) k

  -- ---- c

  processor_staged : (s : Option ℕ) (q : Processor) → InProcessor s q → 1 ≤ processor_bit n q
  processor_staged s Idle r = absurd r
  processor_staged s (CopyingIn m until) r = rw r.0 (omega arith)
  processor_staged s (Executing m start until) r = rw r.0 (omega arith)
  processor_staged s (Finished m start) r = rw r.0 (omega arith)

  copyout_staged : (s : Option ℕ) (o : CopyOut) → InCopyOut s o → 1 ≤ copyout_bit n o
  copyout_staged s NoCopyOut r = absurd r
  copyout_staged s (CopyingOut m start until) r = rw r.0 (omega arith)
  copyout_staged s (CopiedOut m) r = absurd r

  outgoing_staged : (s : Option ℕ) (o : Outgoing) → InOutgoing s o → 1 ≤ outgoing_bit n o
  outgoing_staged s NoneOutgoing r = absurd r
  outgoing_staged s (AwaitsCopyOut m start) r = rw r.0 (omega arith)

  staged : (s : Option ℕ) (p : Phase) → RunsAt s p → 1 ≤ stage n p
  staged s (Between next outgoing) r = omega (arith, outgoing_staged s outgoing r)
  staged s (Within i) r = ⊎_elim (λ y. omega (arith, processor_staged s i.processor y)) (λ y. omega (arith, copyout_staged s i.copyout y)) r

  c_runs : (d : State) (taken : ℕ) (s : Option ℕ) (p : Phase) → RunsAt s (with_candidates d taken p) → RunsAt s p
  unfolding with_candidates
  c_runs d taken s (Between next outgoing) r = r
  c_runs d taken s (Within i) r = r

  first_low : (p : Phase) → lower_in pr n (first_of (situation_of p)) ≡ low (place p)
  unfolding lower_in
  first_low (Between next outgoing) = refl
  first_low (Within i) = omega arith

  abbrev fresh : ℕ → Tally → Tally
  fresh t x = record { at = x.at; held = None; release = Some (original x.held t); waits = first_of x.at; executed = false; started = None }

  is_fresh : (t : ℕ) (m : Bool) (x : Tally) → tally_by n x (Takes n t m) ≡ fresh t x
  is_fresh t m x = rw (same_task n)

  module _ (d : State) (t taken deferred : ℕ) (x : Tally) (k : Knows x d) where
    -- the tick of the release that waits then
    abbrev held_c : Option ℕ
    held_c = cond (member n deferred) (Some t) (cond (member n taken) None x.held)

    c_holds : HoldsWaiting held_c (step_c d t taken deferred).waiting
    unfolding step_c
    c_holds = record {
      times = omega (arith, k.holds.times, stamped_length deferred (λ j. t) 0 d.waiting.times);
      is =
          rw (
            united (difference d.waiting.tasks taken) deferred n small,
            difference_member d.waiting.tasks taken n small,
            stamp n deferred (λ j. t) d.waiting.times k.holds.times,
          )
          (held_is (member n taken) (member n deferred) (member n d.waiting.tasks) (get_or d.waiting.times n 0) t x.held k.holds.is);
    }

    c_taken : member n taken ≡ true → ((s : Option ℕ) → RunsAt s d.phase → ⊥) → Knows (with_held n (fresh t x) held_c) (step_c d t taken deferred)
    unfolding step_c
    c_taken m f = record {
      table = k.table;
      at = k.at ∙ sym (c_situation d taken d.phase);
      releases = omega (arith, k.releases, stamped_length taken (stamps d.waiting t) 0 d.jobs.release);
      counts = omega (arith, k.counts, stamped_length taken (λ j. 0) 0 d.jobs.blocked);
      holds = c_holds;
      awaits = λ w. record {
        release =
            ap Some (original_is (member n d.waiting.tasks) (get_or d.waiting.times n 0) t x.held k.holds.is
            ∙ sym (stamp n taken (stamps d.waiting t) d.jobs.release k.releases ∙ ap (λ (b : Bool). cond b (stamps d.waiting t n) (get_or d.jobs.release n 0)) m));
        unexecuted = refl;
        count =
            omega (
              arith,
              stamp n taken (λ j. 0) d.jobs.blocked k.counts ∙ ap (λ (b : Bool). cond b 0 (get_or d.jobs.blocked n 0)) m,
              ap low (c_place d taken d.phase),
              first_low d.phase,
              ap (λ (s : Situation). lower_in pr n (first_of s)) k.at,
            );
        unstarted = refl;
      };
      runs = λ s r. absurd (f s (c_runs d taken s d.phase r));
    }

    c_other : member n taken ≡ false → Knows (with_held n x held_c) (step_c d t taken deferred)
    unfolding step_c
    c_other m =
        alike_knows d (step_c d t taken deferred) x held_c
        (record {
          like = record {
            table = refl;
            count = stamp n taken (λ j. 0) d.jobs.blocked k.counts ∙ ap (λ (b : Bool). cond b 0 (get_or d.jobs.blocked n 0)) m;
            place = sym (c_place d taken d.phase);
            awaits = λ w.
                ⊎_elim (λ y. inl (⊎_elim (λ z. z) (λ z. clash (member n taken) z m) (union_out d.jobs.ready taken n y)))
                (λ y. inr (ap (is_task n) (sym (c_up_next d taken d.phase)) ∙ y)) w;
          };
          release = stamp n taken (stamps d.waiting t) d.jobs.release k.releases ∙ ap (λ (b : Bool). cond b (stamps d.waiting t n) (get_or d.jobs.release n 0)) m;
          releases = stamped_length taken (stamps d.waiting t) 0 d.jobs.release;
          counts = stamped_length taken (λ j. 0) 0 d.jobs.blocked;
          at = c_situation d taken d.phase;
          runs = λ s r. c_runs d taken s d.phase r;
        })
        c_holds k

  pub c_knows : (present : ℕ) (tasks : present < 2 ^ 32) (d : State) (t taken deferred marks : ℕ) (x : Tally) → Parted present tasks d d.phase
      → ((k : ℕ) → member k taken ≡ true → member k d.jobs.pending ≡ false) → Knows x d
      → Knows (tally n (tally n x (take_events 32 taken marks t)) (defer_events 32 deferred t)) (step_c d t taken deferred)
  c_knows present tasks d t taken deferred marks x h f k =
      by-test (member n taken)
      (λ m.
      subst (λ (y : Tally). Knows y (step_c d t taken deferred))
      (sym (ap (λ (y : Tally). tally n y (defer_events 32 deferred t)) (takes_this n 32 taken marks t x small m ∙ is_fresh t (member n marks) x)
      ∙ defers_tally n small deferred t (fresh t x) ∙ ap (λ (b : Bool). with_held n (fresh t x) (cond (member n deferred) (Some t) (cond b None x.held))) (sym m)))
      (c_taken d t taken deferred x k m
      (λ s r. let z : bit (member n d.jobs.pending) ≡ 0 = rw (f n m) in omega (arith, h.parts n small, staged s d.phase r))))
      (λ m.
      subst (λ (y : Tally). Knows y (step_c d t taken deferred))
      (sym (ap (λ (y : Tally). tally n y (defer_events 32 deferred t))
      (takes_others n 32 taken marks t x (λ j l y. ne_eqb n j (λ e. clash (member n taken) (ap (λ (i : ℕ). member i taken) e ∙ y) m)))
      ∙ defers_tally n small deferred t x ∙ ap (λ (b : Bool). with_held n x (cond (member n deferred) (Some t) (cond b None x.held))) (sym m)))
      (c_other d t taken deferred x k m))

  -- ---- g

  next_staged : (next : Next) → next_bit n next ≡ 0 → is_task n (next_task next) ≡ false
  next_staged NoneNext h = refl
  next_staged (LoadedNext m) h = go (eqb n m) h
    where
      go : (b : Bool) → bit b ≡ 0 → b ≡ false
      go true h = absurd (omega arith)
      go false h = refl
  next_staged (PromotedNext m) h = go (eqb n m) h
    where
      go : (b : Bool) → bit b ≡ 0 → b ≡ false
      go true h = absurd (omega arith)
      go false h = refl

  most_one : (b : Bool) → bit b ≤ 1
  most_one true = omega arith
  most_one false = omega arith

  next_stays : (t : ℕ) (next : Next) (a : ℕ) → started_next n t next (Some a) ≡ Some a
  next_stays t NoneNext a = refl
  next_stays t (LoadedNext m) a = go (eqb n m)
    where
      go : (b : Bool) → cond b (Some a) (Some a) ≡ Some a
      go true = refl
      go false = refl
  next_stays t (PromotedNext m) a = refl

  next_none : (t : ℕ) (next : Next) (s : Option ℕ) → is_task n (next_task next) ≡ false → started_next n t next s ≡ s
  next_none t NoneNext s e = refl
  next_none t (LoadedNext m) s e = rw e
  next_none t (PromotedNext m) s e = refl

  -- an interval that executes the job begins
  begin_runs : (table : Table) (t : ℕ) (next : Next) (x : Tally) (s : Option ℕ) → InProcessor s (begin_processor table t next)
      → (is_task n (next_task next) ≡ true) × (x.started ≡ None → started_next n t next x.started ≡ s)
  begin_runs table t NoneNext x s r = absurd r
  begin_runs table t (LoadedNext m) x s r = (r.0, λ z. rw (r.0, z) (sym r.1))
  begin_runs table t (PromotedNext m) x s r = (r.0, λ z. z ∙ sym r.1)

  begin_copies : (table : Table) (t : ℕ) (outgoing : Outgoing) (s : Option ℕ) → InCopyOut s (begin_copyout table t outgoing) → InOutgoing s outgoing × ((a : ℕ) × (s ≡ Some a))
  begin_copies table t NoneOutgoing s r = absurd r
  begin_copies table t (AwaitsCopyOut m start) s r = (r, (start, r.1))

  grows : (b c : Bool) (w : List (Option ℕ)) (r : Option ℕ) → b ≡ false → c ≡ false → lower_in pr n (grown b c w r) ≡ lower_in pr n w + cond (is_lower pr n r) 1 0
  grows b c w r e f = rw (e, f) (lower_more pr n w r)

  grows_not : (b c : Bool) (w : List (Option ℕ)) (r : Option ℕ) → (b ≡ true) ⊎ (c ≡ true) → grown b c w r ≡ w
  grows_not true c w r h = refl
  grows_not false true w r h = refl
  grows_not false false w r h = ⊎_elim (λ e. absurd (false≢true e)) (λ e. absurd (false≢true e)) h

  either : (b c : Bool) → (b ≡ true) ⊎ (c ≡ true) → (b || c) ≡ true
  either true c h = refl
  either false true h = refl
  either false false h = ⊎_elim (λ e. e) (λ e. e) h

  neither : (b c : Bool) → b ≡ false → c ≡ false → (b || c) ≡ false
  neither b c e f = rw (e, f)

  begin_knows : (present : ℕ) (tasks : present < 2 ^ 32) (f : State) (t taken : ℕ) (next : Next) (outgoing : Outgoing) (x : Tally) → f.phase ≡ Between next outgoing
      → Parted present tasks f (Between next outgoing) → Knows x f → Knows (begun n t next x) (begin f t taken next outgoing)
  unfolding begin
  begin_knows present tasks f t taken next outgoing x e h k = record {
    table = k.table;
    at = ap Open (sym (runs f.table t next));
    releases = k.releases;
    counts = k.counts;
    holds = k.holds;
    awaits = λ w. ⊎_elim (λ m. awaiting m) (λ y. absurd (false≢true y)) w;
    runs = λ s r. ⊎_elim (λ y. ran s y) (λ y. copied s y) r;
  }
    where
      r : Option ℕ
      r = next_task next

      count_between : (c : ℕ) → get_or f.jobs.blocked n 0 + low (place f.phase) ≡ c → get_or f.jobs.blocked n 0 ≡ c
      count_between c z = omega (arith, z, ap (λ (p : Phase). low (place p)) e)

      awaiting : member n f.jobs.ready ≡ true → Awaiting (begun n t next x) (begin f t taken next outgoing)
      awaiting m =
          let a : Awaiting x f = k.awaits (inl m) in
          let c : is_task n (next_task next) ≡ false = next_staged next (omega (arith, h.parts n small, most_one (member n f.jobs.pending), ap bit m)) in
          unfold begin in record {
            release = a.release;
            unexecuted = neither x.executed (is_task n (next_task next)) a.unexecuted c;
            count =
                omega (
                  arith,
                  count_between (lower_in pr n x.waits) a.count,
                  grows x.executed (is_task n (next_task next)) x.waits (next_task next) a.unexecuted c,
                  ap {B = ℕ} (λ (z : Option ℕ). cond (is_lower pr n z) 1 0) (runs f.table t next),
                );
            unstarted = next_none t next x.started c ∙ a.unstarted;
          }

      ran : (s : Option ℕ) → InProcessor s (begin_processor f.table t next) → Ran (begun n t next x) s (begin f t taken next outgoing)
      ran s y =
          let z : (is_task n (next_task next) ≡ true) × (x.started ≡ None → started_next n t next x.started ≡ s) = begin_runs f.table t next x s y in
          let a : Awaiting x f = k.awaits (inr (ap (λ (p : Phase). is_task n (up_next p)) e ∙ z.0)) in
          unfold begin in record {
            release = a.release;
            executed = either x.executed (is_task n (next_task next)) (inr z.0);
            count = count_between (lower_in pr n x.waits) a.count ∙ ap (lower_in pr n) (sym (grows_not x.executed (is_task n (next_task next)) x.waits (next_task next) (inr z.0)));
            started = z.1 a.unstarted;
          }

      copied : (s : Option ℕ) → InCopyOut s (begin_copyout f.table t outgoing) → Ran (begun n t next x) s (begin f t taken next outgoing)
      copied s y =
          let z : InOutgoing s outgoing × ((a : ℕ) × (s ≡ Some a)) = begin_copies f.table t outgoing s y in
          let a : Ran x s f = k.runs s (subst (RunsAt s) (sym e) z.0) in
          unfold begin in record {
            release = a.release;
            executed = either x.executed (is_task n (next_task next)) (inl a.executed);
            count = a.count ∙ ap (lower_in pr n) (sym (grows_not x.executed (is_task n (next_task next)) x.waits (next_task next) (inl a.executed)));
            started = ap (started_next n t next) (a.started ∙ z.1.1) ∙ next_stays t next z.1.0 ∙ sym z.1.1;
          }

  pub g_knows : (present : ℕ) (tasks : present < 2 ^ 32) (f : State) (t taken : ℕ) (p : Phase) (x : Tally) → f.phase ≡ p → Parted present tasks f p → Knows x f
      → Knows (tally n x (begin_events t p (step_g f t taken p).phase ++ start_events t p (step_g f t taken p).phase)) (step_g f t taken p)
  g_knows present tasks f t taken (Within i) x e h k = unfold step_g begin_events start_events tally in k
  g_knows present tasks f t taken (Between next outgoing) x e h k = unfold step_g in go (wanted next outgoing f.jobs.ready)
    where
      b : State
      b = begin f t taken next outgoing

      opens : Opened (begin_processor f.table t next) (step_e b t b.phase).phase
      opens = unfold begin in e_opens b t (begin_processor f.table t next) refl

      stays : (q : Phase) → q ≡ Between next outgoing → tally n x (begin_events t (Between next outgoing) q ++ start_events t (Between next outgoing) q) ≡ x
      stays q z = unfold begin_events start_events tally in rw z

      go : (w : Bool) → let g : State = cond w (step_e b t b.phase) f in
          Knows (tally n x (begin_events t (Between next outgoing) g.phase ++ start_events t (Between next outgoing) g.phase)) g
      go true =
          subst (λ (y : Tally). Knows y (step_e b t b.phase)) (sym (opened_tally n f.table t next outgoing (step_e b t b.phase).phase x opens))
          (e_knows t b (begun n t next x) (begin_knows present tasks f t taken next outgoing x e h k))
      go false = subst (λ (y : Tally). Knows y f) (sym (stays f.phase e)) k
