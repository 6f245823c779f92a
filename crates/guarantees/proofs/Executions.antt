-- The executions: what the processor of a state does, step by step and along the calls.
use Rattle.std.proofs.Common.{◌≡◌, ◌⊎◌, ◌∷◌, ◌++◌, ◌+◌, ◌≤◌}
use Rattle.guarantees.specs.Types.{refl, sym, ap, ◌∙◌, subst, Bool, true, false, cond, false≢true, inl, inr, ⊎_elim, List, [], ℕ, Table, Clock, Option, None, Some, Processor, Idle, CopyingIn, Executing, Finished, CopyIn, Unchosen, NoneChosen, Copying, Loaded, Cancelled, Interval, Next, NoneNext, LoadedNext, PromotedNext, Outgoing, Phase, Between, Within, State, Stage, Call}
use native.Mathlib.Omega.{arith}
use native.Mathlib.Nat.{add-zero}
use borrow.Author.Tests.{eqb-true}
use lib.Dec.{eqb}
use Rattle.table.specs.Table.{copyin_length, execution_length}
use Rattle.sets.proofs.Laws.{same_task}
use Rattle.rules.specs.With.{at_clock, later}
use Rattle.rules.specs.Order.{highest_of}
use Rattle.rules.specs.Instant.{step_a, step_b, step_c, step_d, step_e, step_g, close, close_stage, over, promoted, next_of, with_candidates, cancel, choose, begin, begin_processor, wanted, ended, processor_at, processor_task, copyout_task, copyin_at, resting, settled, at_a, at_b, at_e, at_f, at_g, taken_at, deferred_at, fresh_stage}
use Rattle.rules.specs.Calls.{opened}
use Rattle.guarantees.specs.History.{Event, Starts, Stops, Finishes, GivesWay, Begins, Ends, history, happens, processor_events, processor_events_in, finish_events, finish_events_in, completion_events, end_events, take_events, given_way, giving_events, giving_events_in, begin_events, start_events, execution_events}
use Rattle.guarantees.specs.States.{processor_known, phase_known}
use Rattle.guarantees.proofs.Proper.{Fair}
use Rattle.guarantees.proofs.Walk.{walk}
use Rattle.guarantees.proofs.Times.{Times, processor_times}
use Rattle.guarantees.proofs.Cases.{held_at, Held, d_cases, e_cases}
use Rattle.guarantees.proofs.Steps.{Opened, e_opens, settles}
use Rattle.guarantees.proofs.Events.{by_completes, by_takes, by_defers, tail_of, front_of, happens_parts, front_parts, tail_parts}
use Rattle.guarantees.proofs.Served.{last, served_at}
use Rattle.guarantees.proofs.Invariant.{Good, Until, mass, debt, good_opened, good_next, good_quiet}
use Rattle.guarantees.proofs.Frames.{Frame, b_frame, table_e, clock_g}
use Rattle.guarantees.proofs.Places.{rests}
use Rattle.guarantees.proofs.CopyOuts.{Plain, plain}
use Rattle.guarantees.proofs.Processing.{Doing, Shut, ToStart, Runs, Rests, Working, on_time}

-- ---- the processor of a state

abbrev pub doing_in : Processor → Doing
doing_in Idle = Rests None
doing_in (CopyingIn n until) = ToStart n until
doing_in (Executing n start until) = Runs n until
doing_in (Finished n start) = Rests (Some n)

-- the job that the engine has copied in in the open interval
abbrev pub finished_of : CopyIn → Option ℕ
finished_of Unchosen = None
finished_of NoneChosen = None
finished_of (Copying n until) = None
finished_of (Loaded n) = Some n
finished_of (Cancelled n fate) = None

-- and in the last one
abbrev pub loaded_next : Next → Option ℕ
loaded_next NoneNext = None
loaded_next (LoadedNext n) = Some n
loaded_next (PromotedNext n) = None

pub record View : Type 0 where
  pub doing : Doing
  pub copied : Option ℕ

abbrev pub view_of : Phase → View
view_of (Between next outgoing) = record { doing = Shut; copied = loaded_next next }
view_of (Within i) = record { doing = doing_in i.processor; copied = finished_of i.copyin }

-- ---- step by step, at an instant

choose_view : (d : State) (t : ℕ) (i : Interval) (q : Option ℕ) → view_of (choose d t i q).phase ≡ record { doing = doing_in i.processor; copied = None }
unfolding choose
choose_view d t i None = refl
choose_view d t i (Some q) = refl

pub e_view : (d : State) (t : ℕ) → view_of (step_e d t d.phase).phase ≡ view_of d.phase
e_view d t = e_cases (λ x. view_of x.phase ≡ view_of d.phase) d t refl (λ i e s u. choose_view d t i (highest_of d d.jobs.ready) ∙ rw (e, s))

-- c to e: no copy-in gives way, or one does, and then the engine has copied in none
abbrev without_copied : View → View
without_copied v = record { doing = v.doing; copied = None }

abbrev pub Given : Phase → Phase → Type 0
Given p q =
    ((giving_events_in p q ≡ []) × (view_of q ≡ view_of p))
    ⊎ ((n : ℕ) × (giving_events_in p q ≡ GivesWay n ∷ []) × (view_of q ≡ without_copied (view_of p)))

gives_none : (m : Option ℕ) → giving_events m m ≡ []
unfolding giving_events
gives_none None = refl
gives_none (Some n) = refl

same_given : (p : Phase) → Given p p
unfolding giving_events_in
same_given (Between next outgoing) = inl (refl, refl)
same_given (Within i) = inl (gives_none (given_way i.copyin), refl)

c_given : (d : State) (taken : ℕ) (p q : Phase) → Given (with_candidates d taken p) q → Given p q
unfolding with_candidates giving_events_in
c_given d taken (Between next outgoing) q h = h
c_given d taken (Within i) (Between next outgoing) h = h
c_given d taken (Within i) (Within j) h = h

held_not_given : (k : CopyIn) (n : ℕ) → Held k n → given_way k ≡ None
held_not_given k n s = ⊎_elim (λ x. ap given_way x.1) (λ x. ap given_way x) s

d_given : (d : State) (taken : ℕ) → Given d.phase (step_d d taken d.phase).phase
unfolding cancel giving_events_in giving_events
d_given d taken =
    d_cases (λ x. Given d.phase x.phase) d taken (same_given d.phase)
    (λ i n fate e s b.
    subst (λ (p : Phase). Given p (cancel d i n fate true).phase) (sym e) (inr (n, ap (λ (m : Option ℕ). giving_events m (Some n)) (held_not_given i.copyin n s), refl)))

like_given : (p q q' : Phase) → giving_events_in p q' ≡ giving_events_in p q → view_of q' ≡ view_of q → Given p q → Given p q'
like_given p q q' e v h = ⊎_elim (λ x. inl (e ∙ x.0, v ∙ x.1)) (λ x. inr (x.0, e ∙ x.1, v ∙ x.2)) h

choose_given : (d : State) (t : ℕ) (i : Interval) (q : Option ℕ) (p : Phase) → i.copyin ≡ Unchosen → giving_events_in p (choose d t i q).phase ≡ giving_events_in p (Within i)
unfolding choose giving_events_in
choose_given d t i None (Between next outgoing) s = refl
choose_given d t i None (Within j) s = rw s
choose_given d t i (Some q) (Between next outgoing) s = refl
choose_given d t i (Some q) (Within j) s = rw s

e_given : (p : Phase) (d : State) (t : ℕ) → Given p d.phase → Given p (step_e d t d.phase).phase
e_given p d t h =
    e_cases (λ x. Given p x.phase) d t h
    (λ i e s u.
    let q : Option ℕ = highest_of d d.jobs.ready in
    like_given p (Within i) (choose d t i q).phase (choose_given d t i q p s) (choose_view d t i q ∙ rw s) (subst (Given p) e h))

pub given_e : (d : State) (t set : ℕ) → Given (at_b d t).state.phase (at_e d t set).phase
unfolding at_e step_c
given_e d t set =
    let b : State = (at_b d t).state in
    let taken : ℕ = taken_at d t set in
    let deferred : ℕ = deferred_at d t set in
    let c : State = step_c b t taken deferred in
    let x : State = step_d c taken c.phase in
    e_given b.phase x t (c_given b taken b.phase x.phase (d_given c taken))

-- a time with room for a length
plain_later : (t x : ℕ) → t ≤ 3000000000 → x ≤ 1000000 → later t x ≡ t + x
plain_later t x h l = omega arith

exact : (t x : ℕ) → later t x ≤ 3000000000 → later t x ≡ t + x
exact t x l = omega arith

module _ (table : Table) (marks : ℕ) (fair : Fair table marks) (t : ℕ) where
  abbrev Works : View → List Event → Type 0
  Works v ys = Working table.columns t v.doing v.copied ys

  -- a
  processor_works : (q : Processor) (l : Option ℕ) (ys : List Event) → processor_known table.present q → processor_times Plain q
      → Working table.columns t (doing_in (processor_at table t q)) l ys → Working table.columns t (doing_in q) l (processor_events t q ++ ys)
  unfolding processor_events processor_at Working
  processor_works Idle l ys k p h = h
  processor_works (CopyingIn n until) l ys k p h = go (eqb until t) refl h
    where
      go : (b : Bool) → eqb until t ≡ b → Working table.columns t (doing_in (cond b (Executing n t (later t (execution_length table.columns n))) (CopyingIn n until))) l ys
          → Working table.columns t (ToStart n until) l (cond b (Starts n t ∷ []) [] ++ ys)
      go true e h =
          let u : until ≡ t = eqb-true until t e in (
            (refl, sym u, refl),
            subst (λ (x : ℕ). Working table.columns t (Runs n x) l ys)
                (plain_later t (execution_length table.columns n) (subst (λ (x : ℕ). x ≤ 3000000000) u p) (fair.executions n k).1) h,
          )
      go false e h = h
  processor_works (Executing n start until) l ys k p h = go (eqb until t) refl h
    where
      go : (b : Bool) → eqb until t ≡ b → Working table.columns t (doing_in (cond b (Finished n start) (Executing n start until))) l ys
          → Working table.columns t (Runs n until) l (cond b (Stops n t ∷ []) [] ++ ys)
      go true e h = ((refl, sym (eqb-true until t e), refl), h)
      go false e h = h
  processor_works (Finished n start) l ys k p h = h

  finishes_works : (s : Doing) (c : CopyIn) (ys : List Event) → Working table.columns t s (finished_of (copyin_at t c)) ys
      → Working table.columns t s (finished_of c) (finish_events t c ++ ys)
  unfolding finish_events Working
  finishes_works s Unchosen ys h = h
  finishes_works s NoneChosen ys h = h
  finishes_works s (Copying n until) ys h = go (eqb until t) h
    where
      go : (b : Bool) → Working table.columns t s (finished_of (cond b (Loaded n) (Copying n until))) ys → Working table.columns t s None (cond b (Finishes n ∷ []) [] ++ ys)
      go true h = h
      go false h = h
  finishes_works s (Loaded n) ys h = h
  finishes_works s (Cancelled n fate) ys h = h

  a_works : (d : State) (p : Phase) (ys : List Event) → d.phase ≡ p → d.table ≡ table → phase_known table.present p → Times Plain p
      → Works (view_of (step_a d t p).state.phase) ys → Works (view_of p) (processor_events_in t p ++ (finish_events_in t p ++ ys))
  unfolding step_a ended processor_events_in finish_events_in
  a_works d (Between next outgoing) ys e x k p h = subst (λ (p : Phase). Works (view_of p) ys) e h
  a_works d (Within i) ys e x k p h =
      processor_works i.processor (finished_of i.copyin) (finish_events t i.copyin ++ ys) k.1 p.0
      (finishes_works (doing_in (processor_at table t i.processor)) i.copyin ys
      (subst (λ (y : Table). Working table.columns t (doing_in (processor_at y t i.processor)) (finished_of (copyin_at t i.copyin)) ys) x h))

  -- b, f
  shuts : (q : Processor) (l : Option ℕ) (ys : List Event) → resting q ≡ true → Working table.columns t Shut l ys → Working table.columns t (doing_in q) l (Ends t ∷ ys)
  unfolding Working
  shuts Idle l ys r h = (tt, h)
  shuts (CopyingIn n until) l ys r h = absurd (false≢true r)
  shuts (Executing n start until) l ys r h = absurd (false≢true r)
  shuts (Finished n start) l ys r h = (tt, h)

  none_chosen : (q : Option ℕ) → loaded_next (next_of NoneChosen q) ≡ None
  none_chosen None = refl
  none_chosen (Some n) = refl

  none_left : (c fate : ℕ) (q : Option ℕ) → loaded_next (next_of (Cancelled c fate) q) ≡ None
  none_left c fate None = refl
  none_left c fate (Some n) = refl

  -- where an interval can end, what its engine has copied in is what is loaded for the next one
  pub stays_loaded : (d : State) (i : Interval) (c : CopyIn) → settled c ≡ true → loaded_next (next_of c (promoted d i c)) ≡ finished_of c
  unfolding promoted
  stays_loaded d i Unchosen h = refl
  stays_loaded d i NoneChosen h = none_chosen (promoted d i NoneChosen)
  stays_loaded d i (Copying n until) h = refl
  stays_loaded d i (Loaded n) h = refl
  stays_loaded d i (Cancelled n fate) h = none_left n fate (promoted d i (Cancelled n fate))

  b_stays : (i : Interval) (q : Phase) (ys : List Event) → q ≡ Within i → Works (view_of q) ys → Works (view_of (Within i)) (end_events t (Within i) q ++ ys)
  unfolding end_events
  b_stays i q ys e k = rw e (rw e at k)

  b_works : (s : Stage) (p : Phase) (ys : List Event) → s.state.phase ≡ p → Works (view_of (step_b s t p).state.phase) ys
      → Works (view_of p) (end_events t p (step_b s t p).state.phase ++ ys)
  unfolding step_b close_stage close end_events
  b_works s (Between next outgoing) ys e h = subst (λ (p : Phase). Works (view_of p) ys) e h
  b_works s (Within i) ys e h = go (over i) refl h
    where
      go : (b : Bool) → over i ≡ b → Works (view_of (close_stage s t i b).state.phase) ys → Works (view_of (Within i)) (end_events t (Within i) (close_stage s t i b).state.phase ++ ys)
      go true o h =
          shuts i.processor (finished_of i.copyin) ys (rests i o)
          (subst (λ (l : Option ℕ). Working table.columns t Shut l ys) (stays_loaded s.state i i.copyin (settles i o)) h)
      go false o h = b_stays i s.state.phase ys e h

  -- g
  opens_works : (next : Next) (o : Option ℕ) (ys : List Event) → processor_times Plain (begin_processor table t next)
      → Working table.columns t (doing_in (begin_processor table t next)) None ys
      → Working table.columns t Shut (loaded_next next) (Begins t (processor_task (begin_processor table t next)) o ∷ (execution_events t (begin_processor table t next) ++ ys))
  unfolding execution_events Working
  opens_works NoneNext o ys p h = (refl, h)
  opens_works (LoadedNext n) o ys p h =
      let z : t + cond (eqb n n) 0 (copyin_length table.columns n) ≡ t = rw (same_task n) (add-zero t) in
      (refl, ((refl, sym z, refl), subst (λ (x : ℕ). Working table.columns t (Runs n x) None ys) (exact t (execution_length table.columns n) p) h))
  opens_works (PromotedNext n) o ys p h =
      (refl, subst (λ (x : ℕ). Working table.columns t (ToStart n x) None ys) (exact t (copyin_length table.columns n) p) h)

  opened_works : (next : Next) (outgoing : Outgoing) (q : Phase) (ys : List Event) → Opened (begin_processor table t next) q → Times Plain q
      → Working table.columns t (doing_in (begin_processor table t next)) None ys
      → Working table.columns t Shut (loaded_next next) (begin_events t (Between next outgoing) q ++ (start_events t (Between next outgoing) q ++ ys))
  unfolding begin_events start_events
  opened_works next outgoing (Between x y) ys o p h = absurd o
  opened_works next outgoing (Within j) ys o p h =
      subst (λ (q : Processor). Working table.columns t Shut (loaded_next next) (Begins t (processor_task q) (copyout_task j.copyout) ∷ (execution_events t q ++ ys))) (sym o)
      (opens_works next (copyout_task j.copyout) ys (subst (processor_times Plain) o p.0) h)

  shut_works : (next : Next) (outgoing : Outgoing) (q : Phase) (ys : List Event) → q ≡ Between next outgoing → Works (view_of q) ys
      → Working table.columns t Shut (loaded_next next) (begin_events t (Between next outgoing) q ++ (start_events t (Between next outgoing) q ++ ys))
  unfolding begin_events start_events
  shut_works next outgoing q ys e k = rw e (rw e at k)

  g_works : (f : State) (taken : ℕ) (p : Phase) (ys : List Event) → f.phase ≡ p → f.table ≡ table → Times Plain (step_g f t taken p).phase
      → Works (view_of (step_g f t taken p).phase) ys → Works (view_of p) (begin_events t p (step_g f t taken p).phase ++ (start_events t p (step_g f t taken p).phase ++ ys))
  unfolding step_g begin_events start_events
  g_works f taken (Within i) ys e x p h = subst (λ (p : Phase). Works (view_of p) ys) e h
  g_works f taken (Between next outgoing) ys e x p h = go (wanted next outgoing f.jobs.ready) p h
    where
      b : State
      b = begin f t taken next outgoing

      begun : Opened (begin_processor table t next) (step_e b t b.phase).phase
      begun = unfold begin in subst (λ (y : Table). Opened (begin_processor y t next) (step_e b t b.phase).phase) x (e_opens b t (begin_processor f.table t next) refl)

      seen : Works (view_of (step_e b t b.phase).phase) ys → Working table.columns t (doing_in (begin_processor table t next)) None ys
      seen h =
          unfold begin in
          subst (λ (y : Table). Working table.columns t (doing_in (begin_processor y t next)) None ys) x
          (subst (λ (v : View). Works v ys) (e_view b t) h)

      go : (w : Bool) → Times Plain (cond w (step_e b t b.phase) f).phase → Works (view_of (cond w (step_e b t b.phase) f).phase) ys
          → Working table.columns t Shut (loaded_next next)
          (begin_events t (Between next outgoing) (cond w (step_e b t b.phase) f).phase ++ (start_events t (Between next outgoing) (cond w (step_e b t b.phase) f).phase ++ ys))
      go true p h = opened_works next outgoing (step_e b t b.phase).phase ys begun p (seen h)
      go false p h = shut_works next outgoing f.phase ys e h

-- ---- along the calls

-- no execution's start or end is overdue
doing_ends : (now mass debt : ℕ) (p : Phase) → Times (Until now mass debt) p → on_time now (view_of p).doing
doing_ends now mass debt (Between next outgoing) h = tt
doing_ends now mass debt (Within i) h = go i.processor h.0
  where
    go : (q : Processor) → processor_times (Until now mass debt) q → on_time now (doing_in q)
    go Idle x = tt
    go (CopyingIn n until) x = x.after
    go (Executing n start until) x = x.after
    go (Finished n start) x = tt

module _ (table : Table) (marks : ℕ) (fair : Fair table marks) where
  abbrev WorksAt : ℕ → Phase → List Event → Type 0
  WorksAt t p ys = Working table.columns t (view_of p).doing (view_of p).copied ys

  works_gives : (t : ℕ) (p q : Phase) (ys : List Event) → Given p q → WorksAt t q ys → WorksAt t p (giving_events_in p q ++ ys)
  unfolding Working
  works_gives t p q ys w h =
      ⊎_elim
      (λ x. rw x.0 (subst (λ (v : View). Working table.columns t v.doing v.copied ys) x.1 h))
      (λ x. rw x.1 (subst (λ (v : View). Working table.columns t v.doing v.copied ys) x.2 h))
      w

  works_tail : (d : State) (t set : ℕ) (ys : List Event) → d.table ≡ table → Good table marks fair (at_g d t set)
      → WorksAt t (at_g d t set).phase ys → WorksAt t (at_b d t).state.phase (tail_of d t set ++ ys)
  unfolding at_g at_f
  works_tail d t set ys x n h =
      let e : State = at_e d t set in
      let s : Stage = fresh_stage e in
      let f : State = (at_f d t set).state in
      let g : Phase = (at_g d t set).phase in
      let z : List Event = begin_events t f.phase g ++ (start_events t f.phase g ++ ys) in
      rw (tail_parts d t set ys)
      (by_defers (WorksAt t (at_b d t).state.phase) 32 (deferred_at d t set) t (λ n l m es h. unfold Working in h) (giving_events_in (at_b d t).state.phase e.phase ++ (end_events t e.phase f.phase ++ z))
      (works_gives t (at_b d t).state.phase e.phase (end_events t e.phase f.phase ++ z) (given_e d t set)
      (b_works table marks fair t s e.phase z refl
      (g_works table marks fair t f (held_at d t set) f.phase ys refl
      (ap (λ (y : Frame). y.table) (b_frame s t) ∙ table_e d t set ∙ x) (plain table marks fair (at_g d t set) n) h))))

  works_front : (d : State) (t : ℕ) (ys : List Event) → last d.clock ≤ t → Good table marks fair d
      → WorksAt t (at_b d t).state.phase ys → WorksAt (last d.clock) d.phase (front_of d t ++ ys)
  unfolding at_b at_a Working
  works_front d t ys l g h =
      let a : Stage = at_a d t in
      let e : List Event = end_events t a.state.phase (at_b d t).state.phase in
      rw (front_parts d t ys) (
        l,
        a_works table marks fair t (at_clock d t) d.phase (completion_events a.done ++ (e ++ ys)) refl g.table_is g.parted.known (plain table marks fair d g)
            (by_completes (WorksAt t a.state.phase) (λ n u es h. h) a.done (e ++ ys) (b_works table marks fair t a a.state.phase ys refl h)),
      )

  works_instant : (d : State) (t set : ℕ) (ys : List Event) → last d.clock ≤ t → Good table marks fair d → Good table marks fair (at_g d t set)
      → WorksAt t (at_g d t set).phase ys → WorksAt (last d.clock) d.phase (happens d t set ++ ys)
  works_instant d t set ys l g n h =
      rw (happens_parts d t set ys)
      (works_front d t (take_events 32 (taken_at d t set) d.marked t ++ (tail_of d t set ++ ys)) l g
      (by_takes (WorksAt t (at_b d t).state.phase) 32 (taken_at d t set) d.marked t (λ n l m es h. unfold Working in h) (tail_of d t set ++ ys)
      (works_tail d t set ys g.table_is n h)))

  works : (d : State) (cs : List Call) → Good table marks fair d → WorksAt (last d.clock) d.phase (history d cs)
  works d cs =
      walk (λ d h. Good table marks fair d → WorksAt (last d.clock) d.phase h)
      (λ d g. unfold Working in doing_ends (last d.clock) (mass d) (debt d) d.phase g.times)
      (λ d t set cs e k g.
      let n : Good table marks fair (at_g d t set) = good_next table marks fair d t set g (served_at d t set e) in
      works_instant d t set (history (at_g d t set) cs) (served_at d t set e).onward g n
      (subst (λ (c : Clock). WorksAt (last c) (at_g d t set).phase (history (at_g d t set) cs)) (clock_g d t set) (k n)))
      (λ d m e h k g. k (good_quiet table marks fair d m e g))
      cs d

  -- every list of calls from the state that opening returned
  pub executed : (cs : List Call) → Working table.columns 0 Shut None (history (opened table marks) cs)
  executed cs = unfold opened in works (opened table marks) cs (good_opened table marks fair)
