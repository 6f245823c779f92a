-- The copy-outs: the engine of a state, step by step and along the calls.
use Rattle.std.proofs.Common.{◌≡◌, ◌∷◌, ◌++◌, ◌+◌, ◌^◌, ◌≤◌, ◌<◌}
use Rattle.guarantees.specs.Types.{refl, sym, ap, ◌∙◌, subst, Bool, true, false, cond, true≢false, false≢true, List, ℕ, Table, Jobs, Clock, Option, None, Some, Processor, Idle, CopyingIn, Executing, Finished, CopyOut, NoCopyOut, CopyingOut, CopiedOut, Interval, Next, Outgoing, NoneOutgoing, AwaitsCopyOut, Phase, Between, Within, State, Stage, Call}
use native.Mathlib.Omega.{arith}
use borrow.Author.Tests.{eqb-true, eqb-false, ne_eqb}
use lib.Dec.{eqb}
use Rattle.table.specs.Table.{copyout_length}
use Rattle.sets.specs.Sets.{member, bit}
use Rattle.sets.proofs.Laws.{same_task, member_task}
use Rattle.rules.specs.With.{at_clock, later}
use Rattle.rules.specs.Order.{highest_of}
use Rattle.rules.specs.Instant.{step_a, step_b, step_c, step_d, step_e, step_g, close, close_stage, over, with_candidates, cancel, choose, begin, begin_processor, begin_copyout, copying_out, wanted, completed, ended, processor_task, copyout_task, copyout_at, awaiting_copyout, resting, job_entry, at_a, at_b, at_e, at_f, at_g, taken_at, deferred_at, fresh_stage}
use Rattle.rules.specs.Calls.{opened}
use Rattle.guarantees.specs.History.{Event, Begins, Ends, history, happens, finish_events_in, completion_events, end_events, take_events, giving_events_in, begin_events, start_events}
use Rattle.guarantees.proofs.Proper.{Fair}
use Rattle.guarantees.proofs.Walk.{walk}
use Rattle.guarantees.proofs.Settled.{RestAt}
use Rattle.guarantees.proofs.Times.{Times, times_map, copyout_times}
use Rattle.guarantees.proofs.Cases.{held_at, d_cases, e_cases}
use Rattle.guarantees.proofs.Steps.{processor_task_same}
use Rattle.guarantees.proofs.Events.{by_processor, by_finishes, by_gives, by_takes, by_defers, by_starts, tail_of, front_of, happens_parts, front_parts, tail_parts}
use Rattle.guarantees.proofs.Served.{last, served_at}
use Rattle.guarantees.proofs.Invariant.{Good, Until, mass, debt, debt_less, good_opened, good_next, good_quiet}
use Rattle.guarantees.proofs.Frames.{Frame, b_frame, table_e, clock_g}
use Rattle.guarantees.proofs.Engine.{Engine, Free, Owed, Running, Busy, Leaving, Apart, at_end, owes}
use Rattle.guarantees.proofs.Places.{Parted, processor_bit, copyout_bit, copyin_bit, rests, no_copyout}
use Rattle.guarantees.specs.States.{copyout_known}

-- ---- the engine of a state

abbrev pub Plain : ℕ → Type 0
Plain u = u ≤ 3000000000

abbrev engine_in : Option ℕ → CopyOut → Engine
engine_in r NoCopyOut = Running r
engine_in r (CopyingOut n start until) = Busy r n until
engine_in r (CopiedOut n) = Running r

-- where the last interval has ended at t
abbrev engine_left : ℕ → Outgoing → Engine
engine_left t NoneOutgoing = Free
engine_left t (AwaitsCopyOut n start) = Owed t n

abbrev engine_of : ℕ → Phase → Engine
engine_of t (Between next outgoing) = engine_left t outgoing
engine_of t (Within i) = engine_in (processor_task i.processor) i.copyout

-- no task is executed and copied out in one interval
abbrev ApartIn : Option ℕ → CopyOut → Type 0
ApartIn r NoCopyOut = Unit {0}
ApartIn r (CopyingOut n start until) = Apart r (Some n)
ApartIn r (CopiedOut n) = Unit {0}

abbrev ApartAt : Phase → Type 0
ApartAt (Between next outgoing) = Unit {0}
ApartAt (Within i) = ApartIn (processor_task i.processor) i.copyout

apart_bits : (a b p : Bool) (x : ℕ) → bit p ≡ x + bit a + bit b → b ≡ true → a ≡ false
apart_bits false b p x h e = refl
apart_bits true b p x h e = absurd (most p (let z : bit b ≡ 1 = rw e in omega arith))
  where
    most : (p : Bool) → 2 ≤ bit p → ⊥
    most true l = omega arith
    most false l = omega arith

apart_in : (present : ℕ) (tasks : present < 2 ^ 32) (d : State) (i : Interval) (q : Processor) (o : CopyOut) → i.processor ≡ q → i.copyout ≡ o
    → Parted present tasks d (Within i) → ApartIn (processor_task q) o
apart_in present tasks d i q NoCopyOut e f h = tt
apart_in present tasks d i q (CopiedOut m) e f h = tt
apart_in present tasks d i q (CopyingOut m start until) e f h = go q (at_m q e)
  where
    small : m < 32
    small = member_task m present tasks (subst (copyout_known present) f h.known.2)

    at_m : (q : Processor) → i.processor ≡ q
        → bit (member m d.jobs.pending) ≡ bit (member m d.jobs.ready) + copyin_bit m i.copyin + processor_bit m q + bit (eqb m m)
    at_m q e =
        subst (λ (q : Processor). bit (member m d.jobs.pending) ≡ bit (member m d.jobs.ready) + copyin_bit m i.copyin + processor_bit m q + bit (eqb m m)) e
        (subst (λ (o : CopyOut). bit (member m d.jobs.pending) ≡ bit (member m d.jobs.ready) + copyin_bit m i.copyin + processor_bit m i.processor + copyout_bit m o) f
        (omega (arith, h.parts m small)))

    other : (n : ℕ) → bit (member m d.jobs.pending) ≡ bit (member m d.jobs.ready) + copyin_bit m i.copyin + bit (eqb m n) + bit (eqb m m) → eqb n m ≡ false
    other n x =
        ne_eqb n m
        (λ y. eqb-false m n
        (apart_bits (eqb m n) (eqb m m) (member m d.jobs.pending) (bit (member m d.jobs.ready) + copyin_bit m i.copyin) x (same_task m)) (sym y))

    go : (q : Processor) → bit (member m d.jobs.pending) ≡ bit (member m d.jobs.ready) + copyin_bit m i.copyin + processor_bit m q + bit (eqb m m)
        → Apart (processor_task q) (Some m)
    go Idle x = tt
    go (CopyingIn n u) x = other n x
    go (Executing n s u) x = other n x
    go (Finished n s) x = other n x

apart_at : (present : ℕ) (tasks : present < 2 ^ 32) (d : State) (p : Phase) → Parted present tasks d p → ApartAt p
apart_at present tasks d (Between next outgoing) h = tt
apart_at present tasks d (Within i) h = apart_in present tasks d i i.processor i.copyout refl refl h

-- ---- step by step, at an instant

c_engine : (d : State) (t taken : ℕ) (p : Phase) → engine_of t (with_candidates d taken p) ≡ engine_of t p
unfolding with_candidates
c_engine d t taken (Between next outgoing) = refl
c_engine d t taken (Within i) = refl

d_engine : (d : State) (t taken : ℕ) → engine_of t (step_d d taken d.phase).phase ≡ engine_of t d.phase
unfolding cancel
d_engine d t taken = d_cases (λ x. engine_of t x.phase ≡ engine_of t d.phase) d taken refl (λ i n u e s b. rw e)

choose_engine : (d : State) (t x : ℕ) (i : Interval) (q : Option ℕ) → engine_of x (choose d t i q).phase ≡ engine_of x (Within i)
unfolding choose
choose_engine d t x i None = refl
choose_engine d t x i (Some q) = refl

e_engine : (d : State) (t : ℕ) → engine_of t (step_e d t d.phase).phase ≡ engine_of t d.phase
e_engine d t = e_cases (λ x. engine_of t x.phase ≡ engine_of t d.phase) d t refl (λ i e s u. choose_engine d t t i (highest_of d d.jobs.ready) ∙ rw e)

engine_e : (d : State) (t set : ℕ) → engine_of t (at_e d t set).phase ≡ engine_of t (at_b d t).state.phase
unfolding at_e step_c
engine_e d t set =
    let b : State = (at_b d t).state in
    let taken : ℕ = taken_at d t set in
    let deferred : ℕ = deferred_at d t set in
    let c : State = step_c b t taken deferred in
    let x : State = step_d c taken c.phase in
    e_engine x t ∙ d_engine c t taken ∙ c_engine b t taken b.phase

module _ (columns : List ℕ) (t : ℕ) where
  -- a
  completes_leaving : (j : Jobs) (r : Option ℕ) (o : CopyOut) (ys : List Event) → Leaving columns t (engine_in r (copyout_at t o)) ys
      → Leaving columns t (engine_in r o) (completion_events (completed j t o) ++ ys)
  unfolding completion_events completed copyout_at Leaving
  completes_leaving j r NoCopyOut ys h = h
  completes_leaving j r (CopyingOut n start until) ys h = go (eqb until t) refl h
    where
      go : (b : Bool) → eqb until t ≡ b → Leaving columns t (engine_in r (cond b (CopiedOut n) (CopyingOut n start until))) ys
          → Leaving columns t (Busy r n until) (completion_events (cond b (Some (job_entry j n start t)) None) ++ ys)
      go true e h = ((refl, sym (eqb-true until t e), refl), h)
      go false e h = h
  completes_leaving j r (CopiedOut n) ys h = h

  a_leaving : (d : State) (p : Phase) (ys : List Event) → d.phase ≡ p → Leaving columns t (engine_of t (step_a d t p).state.phase) ys
      → Leaving columns t (engine_of t p) (completion_events (step_a d t p).done ++ ys)
  unfolding step_a ended completion_events
  a_leaving d (Between next outgoing) ys e h = subst (λ (p : Phase). Leaving columns t (engine_of t p) ys) e h
  a_leaving d (Within i) ys e h =
      completes_leaving d.jobs (processor_task i.processor) i.copyout ys
      (subst (λ (r : Option ℕ). Leaving columns t (engine_in r (copyout_at t i.copyout)) ys) (processor_task_same d.table t i.processor) h)

  -- b, f
  leaves_owed : (q : Processor) → resting q ≡ true → engine_left t (awaiting_copyout q) ≡ owes t (processor_task q)
  leaves_owed Idle h = refl
  leaves_owed (CopyingIn n until) h = absurd (false≢true h)
  leaves_owed (Executing n start until) h = absurd (false≢true h)
  leaves_owed (Finished n start) h = refl

  close_leaving : (r : Option ℕ) (o : CopyOut) (ys : List Event) → copying_out o ≡ false → Leaving columns t (owes t r) ys → Leaving columns t (engine_in r o) (Ends t ∷ ys)
  unfolding Leaving
  close_leaving r NoCopyOut ys u h = (tt, h)
  close_leaving r (CopyingOut n start until) ys u h = absurd (true≢false u)
  close_leaving r (CopiedOut n) ys u h = (tt, h)

  stays_leaving : (i : Interval) (q : Phase) (ys : List Event) → q ≡ Within i → Leaving columns t (engine_of t q) ys → Leaving columns t (engine_of t (Within i)) (end_events t (Within i) q ++ ys)
  unfolding end_events
  stays_leaving i q ys e k = rw e (rw e at k)

  b_leaving : (s : Stage) (p : Phase) (ys : List Event) → s.state.phase ≡ p → Leaving columns t (engine_of t (step_b s t p).state.phase) ys
      → Leaving columns t (engine_of t p) (end_events t p (step_b s t p).state.phase ++ ys)
  unfolding step_b close_stage close end_events
  b_leaving s (Between next outgoing) ys e h = subst (λ (p : Phase). Leaving columns t (engine_of t p) ys) e h
  b_leaving s (Within i) ys e h = go (over i) refl h
    where
      go : (b : Bool) → over i ≡ b → Leaving columns t (engine_of t (close_stage s t i b).state.phase) ys
          → Leaving columns t (engine_of t (Within i)) (end_events t (Within i) (close_stage s t i b).state.phase ++ ys)
      go true o h =
          close_leaving (processor_task i.processor) i.copyout ys (no_copyout i o)
          (subst (λ (x : Engine). Leaving columns t x ys) (leaves_owed i.processor (rests i o)) h)
      go false o h = stays_leaving i s.state.phase ys e h

  -- g
  abbrev pub Both : Processor → CopyOut → Phase → Type 0
  Both q o (Between next outgoing) = ⊥
  Both q o (Within j) = (j.processor ≡ q) × (j.copyout ≡ o)

  choose_both : (d : State) (i : Interval) (q : Processor) (o : CopyOut) (r : Option ℕ) → Both q o (Within i) → Both q o (choose d t i r).phase
  unfolding choose
  choose_both d i q o None h = h
  choose_both d i q o (Some r) h = h

  pub begun_both : (d : State) (q : Processor) (o : CopyOut) → Both q o d.phase → Both q o (step_e d t d.phase).phase
  begun_both d q o h =
      e_cases (λ x. Both q o x.phase) d t h (λ i e s u. choose_both d i q o (highest_of d d.jobs.ready) (subst (Both q o) e h))

  none_apart : (r : Option ℕ) → Apart r None
  none_apart None = tt
  none_apart (Some n) = tt

  -- the copy-out in an interval that begins now
  out_leaving : (table : Table) (r : Option ℕ) (outgoing : Outgoing) (ys : List Event) → table.columns ≡ columns → copyout_times Plain (begin_copyout table t outgoing)
      → ApartIn r (begin_copyout table t outgoing) → Leaving columns t (engine_in r (begin_copyout table t outgoing)) ys
      → Leaving columns t (engine_left t outgoing) (Begins t r (copyout_task (begin_copyout table t outgoing)) ∷ ys)
  unfolding Leaving
  out_leaving table r NoneOutgoing ys e p a h = ((refl, none_apart r, refl), h)
  out_leaving table r (AwaitsCopyOut n start) ys e p a h =
      ((refl, a, (refl, refl)), subst (λ (u : ℕ). Leaving columns t (Busy r n u) ys) (exact (copyout_length table.columns n) p ∙ ap (λ (l : List ℕ). t + copyout_length l n) e) h)
    where
      exact : (x : ℕ) → later t x ≤ 3000000000 → later t x ≡ t + x
      exact x l = omega arith

  opens_leaving : (table : Table) (next : Next) (outgoing : Outgoing) (q : Phase) (ys : List Event) → table.columns ≡ columns
      → Both (begin_processor table t next) (begin_copyout table t outgoing) q → Times Plain q → ApartAt q → Leaving columns t (engine_of t q) ys
      → Leaving columns t (engine_left t outgoing) (begin_events t (Between next outgoing) q ++ ys)
  unfolding begin_events
  opens_leaving table next outgoing (Between x y) ys e b p a h = absurd b
  opens_leaving table next outgoing (Within j) ys e b p a h =
      subst (λ (o : CopyOut). Leaving columns t (engine_left t outgoing) (Begins t (processor_task j.processor) (copyout_task o) ∷ ys)) (sym b.1)
      (out_leaving table (processor_task j.processor) outgoing ys e (subst (copyout_times Plain) b.1 p.1)
      (subst (ApartIn (processor_task j.processor)) b.1 a)
      (subst (λ (o : CopyOut). Leaving columns t (engine_in (processor_task j.processor) o) ys) b.1 h))

  shut_leaving : (next : Next) (outgoing : Outgoing) (q : Phase) (ys : List Event) → q ≡ Between next outgoing → Leaving columns t (engine_of t q) ys
      → Leaving columns t (engine_left t outgoing) (begin_events t (Between next outgoing) q ++ ys)
  unfolding begin_events
  shut_leaving next outgoing q ys e k = rw e (rw e at k)

  g_leaving : (f : State) (taken : ℕ) (p : Phase) (ys : List Event) → f.phase ≡ p → f.table.columns ≡ columns → Times Plain (step_g f t taken p).phase
      → ApartAt (step_g f t taken p).phase → Leaving columns t (engine_of t (step_g f t taken p).phase) ys → Leaving columns t (engine_of t p) (begin_events t p (step_g f t taken p).phase ++ ys)
  unfolding step_g begin_events
  g_leaving f taken (Within i) ys e x p a h = subst (λ (p : Phase). Leaving columns t (engine_of t p) ys) e h
  g_leaving f taken (Between next outgoing) ys e x p a h = go (wanted next outgoing f.jobs.ready) p a h
    where
      b : State
      b = begin f t taken next outgoing

      go : (w : Bool) → Times Plain (cond w (step_e b t b.phase) f).phase → ApartAt (cond w (step_e b t b.phase) f).phase
          → Leaving columns t (engine_of t (cond w (step_e b t b.phase) f).phase) ys
          → Leaving columns t (engine_left t outgoing) (begin_events t (Between next outgoing) (cond w (step_e b t b.phase) f).phase ++ ys)
      go true p a h =
          opens_leaving f.table next outgoing (step_e b t b.phase).phase ys x
          (begun_both b (begin_processor f.table t next) (begin_copyout f.table t outgoing) (unfold begin in (refl, refl))) p a h
      go false p a h = shut_leaving next outgoing f.phase ys e h

-- ---- along the calls

-- a settled state owes nothing
engine_settled : (d : State) (x y : ℕ) (p : Phase) → RestAt d.jobs.ready p → engine_of x p ≡ engine_of y p
engine_settled d x y (Between next outgoing) h = rw h.1
engine_settled d x y (Within i) h = refl

-- and no copy-out of it is overdue
engine_ends : (now mass debt : ℕ) (d : State) (p : Phase) → RestAt d.jobs.ready p → Times (Until now mass debt) p → at_end now (engine_of 0 p)
engine_ends now mass debt d (Between next outgoing) h x = rw h.1 tt
engine_ends now mass debt d (Within i) h x = go i.copyout x.1
  where
    go : (o : CopyOut) → copyout_times (Until now mass debt) o → at_end now (engine_in (processor_task i.processor) o)
    go NoCopyOut x = tt
    go (CopyingOut n start until) x = x.after
    go (CopiedOut n) x = tt

module _ (table : Table) (marks : ℕ) (fair : Fair table marks) where
  pub plain : (d : State) → Good table marks fair d → Times Plain d.phase
  plain d g =
      times_map (Until (last d.clock) (mass d) (debt d)) Plain (λ u x. omega (arith, x.bound, debt_less d g.sound)) d.phase g.times

  leaving_tail : (d : State) (t set : ℕ) (ys : List Event) → d.table ≡ table → Good table marks fair (at_g d t set)
      → Leaving table.columns t (engine_of t (at_g d t set).phase) ys → Leaving table.columns t (engine_of t (at_e d t set).phase) (tail_of d t set ++ ys)
  unfolding at_g at_f Leaving
  leaving_tail d t set ys x n h =
      let e : State = at_e d t set in
      let s : Stage = fresh_stage e in
      let f : State = (at_f d t set).state in
      let z : List Event = start_events t f.phase (at_g d t set).phase ++ ys in
      rw (tail_parts d t set ys)
      (by_defers (Leaving table.columns t (engine_of t e.phase)) 32 (deferred_at d t set) t (λ n l m es h. h) (giving_events_in (at_b d t).state.phase e.phase ++ (end_events t e.phase f.phase ++ (begin_events t f.phase (at_g d t set).phase ++ z)))
      (by_gives (Leaving table.columns t (engine_of t e.phase)) (λ n es h. h) (at_b d t).state.phase e.phase (end_events t e.phase f.phase ++ (begin_events t f.phase (at_g d t set).phase ++ z))
      (b_leaving table.columns t s e.phase (begin_events t f.phase (at_g d t set).phase ++ z) refl
      (g_leaving table.columns t f (held_at d t set) f.phase z refl
      (ap (λ (y : Table). y.columns) (ap (λ (y : Frame). y.table) (b_frame s t) ∙ table_e d t set ∙ x)) (plain (at_g d t set) n)
      (apart_at table.present fair.present (at_g d t set) (at_g d t set).phase n.parted)
      (by_starts (Leaving table.columns t (engine_of t (at_g d t set).phase)) t (λ n es h. h) f.phase (at_g d t set).phase ys h)))))

  leaving_front : (d : State) (t : ℕ) (ys : List Event) → last d.clock ≤ t → Leaving table.columns t (engine_of t (at_b d t).state.phase) ys
      → Leaving table.columns (last d.clock) (engine_of t d.phase) (front_of d t ++ ys)
  unfolding at_b at_a Leaving
  leaving_front d t ys l h =
      let a : Stage = at_a d t in
      let e : List Event = end_events t a.state.phase (at_b d t).state.phase in
      rw (front_parts d t ys) (
        l,
        by_processor (Leaving table.columns t (engine_of t d.phase)) (λ n u es h. h) (λ n u es h. h) t d.phase
            (finish_events_in t d.phase ++ (completion_events a.done ++ (e ++ ys)))
            (by_finishes (Leaving table.columns t (engine_of t d.phase)) (λ n es h. h) t d.phase (completion_events a.done ++ (e ++ ys))
            (a_leaving table.columns t (at_clock d t) d.phase (e ++ ys) refl (b_leaving table.columns t a a.state.phase ys refl h))),
      )

  leaving_instant : (d : State) (t set : ℕ) (ys : List Event) → last d.clock ≤ t → Good table marks fair d → Good table marks fair (at_g d t set)
      → Leaving table.columns t (engine_of 0 (at_g d t set).phase) ys → Leaving table.columns (last d.clock) (engine_of 0 d.phase) (happens d t set ++ ys)
  leaving_instant d t set ys l g n h =
      rw (happens_parts d t set ys, engine_settled d 0 t d.phase g.settled.rests)
      (leaving_front d t (take_events 32 (taken_at d t set) d.marked t ++ (tail_of d t set ++ ys)) l
      (by_takes (Leaving table.columns t (engine_of t (at_b d t).state.phase)) 32 (taken_at d t set) d.marked t (λ n l m es h. unfold Leaving in h) (tail_of d t set ++ ys)
      (subst (λ (s : Engine). Leaving table.columns t s (tail_of d t set ++ ys)) (engine_e d t set)
      (leaving_tail d t set ys g.table_is n
      (subst (λ (s : Engine). Leaving table.columns t s ys) (engine_settled (at_g d t set) 0 t (at_g d t set).phase n.settled.rests) h)))))

  pub leaving : (d : State) (cs : List Call) → Good table marks fair d → Leaving table.columns (last d.clock) (engine_of 0 d.phase) (history d cs)
  leaving d cs =
      walk (λ d h. Good table marks fair d → Leaving table.columns (last d.clock) (engine_of 0 d.phase) h)
      (λ d g. unfold Leaving in engine_ends (last d.clock) (mass d) (debt d) d d.phase g.settled.rests g.times)
      (λ d t set cs e k g.
      let n : Good table marks fair (at_g d t set) = good_next table marks fair d t set g (served_at d t set e) in
      leaving_instant d t set (history (at_g d t set) cs) (served_at d t set e).onward g n
      (subst (λ (c : Clock). Leaving table.columns (last c) (engine_of 0 (at_g d t set).phase) (history (at_g d t set) cs)) (clock_g d t set) (k n)))
      (λ d m e h k g. k (good_quiet table marks fair d m e g))
      cs d

  -- every list of calls from the state that opening returned
  pub copied_out : (cs : List Call) → Leaving table.columns 0 Free (history (opened table marks) cs)
  copied_out cs = unfold opened in leaving (opened table marks) cs (good_opened table marks fair)
