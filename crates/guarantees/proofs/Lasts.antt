-- Every history passes the monitor of how long intervals last: the begin of a state's open interval and whether a task's job is pending, step by step
-- and along the calls.
use Rattle.std.proofs.Common.{◌≡◌, ◌&&◌, ◌||◌, ◌∷◌, ◌++◌, ◌≤◌, ◌<◌}
use Rattle.guarantees.specs.Types.{refl, sym, ap, ◌∙◌, subst, Bool, true, false, cond, not, List, ℕ, Table, Jobs, Clock, Option, None, Some, CopyOut, NoCopyOut, CopyingOut, CopiedOut, Interval, Next, Outgoing, Phase, Between, Within, State, Stage, Call}
use native.Mathlib.Omega.{arith}
use lib.Dec.{eqb}
use Rattle.sets.specs.Sets.{member, bit}
use Rattle.sets.proofs.Laws.{none, same_task, united, removed}
use Rattle.rules.specs.With.{at_clock}
use Rattle.rules.specs.Order.{highest_of}
use Rattle.rules.specs.Calls.{opened}
use Rattle.rules.specs.Instant.{step_a, step_b, step_c, step_d, step_e, step_g, close, close_stage, over, with_candidates, cancel, choose, begin, wanted, completed, without_done, after_done, ended, job_entry, at_a, at_b, at_e, at_f, at_g, taken_at, deferred_at, fresh_stage}
use Rattle.guarantees.specs.History.{Event, Comes, Takes, history, happens, processor_events_in, finish_events_in, completion_events, end_events, take_events, giving_events_in, begin_events, start_events}
use Rattle.guarantees.proofs.Proper.{Fair}
use Rattle.guarantees.proofs.Walk.{walk}
use Rattle.guarantees.proofs.Cases.{held_at, b_cases, d_cases, e_cases}
use Rattle.guarantees.proofs.Steps.{Sub}
use Rattle.guarantees.proofs.Settled.{RestAt}
use Rattle.guarantees.proofs.Events.{by_processor, by_finishes, by_gives, by_defers, by_starts, tail_of, happens_parts, front_parts, tail_parts}
use Rattle.guarantees.proofs.Frames.{Frame, b_frame, pending_g, clock_g}
use Rattle.guarantees.proofs.Places.{Parted}
use Rattle.guarantees.proofs.Served.{last, Served-at, served_at}
use Rattle.guarantees.proofs.Invariant.{Good, good_opened, good_next, good_quiet}
use Rattle.guarantees.proofs.Deferred.{at_task}
use Rattle.guarantees.proofs.Spans.{begun_of, in_time, M, Spans, reached, next_spans}
use Rattle.guarantees.proofs.Lasting.{at_rest, Lasting}

-- a record of an interval that begins at a time
abbrev BegunAt : ℕ → Phase → Type 0
BegunAt b (Between next outgoing) = ⊥
BegunAt b (Within i) = i.begin ≡ b

-- ---- the begin of the open interval, step by step

a_begun : (d : State) (t : ℕ) (p : Phase) → d.phase ≡ p → begun_of (step_a d t p).state.phase ≡ begun_of p
unfolding step_a ended
a_begun d t (Between next outgoing) e = ap begun_of e
a_begun d t (Within i) e = refl

c_begun : (d : State) (taken : ℕ) (p : Phase) → begun_of (with_candidates d taken p) ≡ begun_of p
unfolding with_candidates
c_begun d taken (Between next outgoing) = refl
c_begun d taken (Within i) = refl

d_begun : (d : State) (taken : ℕ) → begun_of (step_d d taken d.phase).phase ≡ begun_of d.phase
unfolding cancel
d_begun d taken = d_cases (λ x. begun_of x.phase ≡ begun_of d.phase) d taken refl (λ i n u e s b. rw e)

choose_begun : (d : State) (t : ℕ) (i : Interval) (q : Option ℕ) → begun_of (choose d t i q).phase ≡ Some i.begin
unfolding choose
choose_begun d t i None = refl
choose_begun d t i (Some q) = refl

e_begun : (d : State) (t : ℕ) → begun_of (step_e d t d.phase).phase ≡ begun_of d.phase
e_begun d t = e_cases (λ x. begun_of x.phase ≡ begun_of d.phase) d t refl (λ i e s u. choose_begun d t i (highest_of d d.jobs.ready) ∙ rw e)

begun_e : (d : State) (t set : ℕ) → begun_of (at_e d t set).phase ≡ begun_of (at_b d t).state.phase
unfolding at_e step_c
begun_e d t set =
    let b : State = (at_b d t).state in
    let taken : ℕ = taken_at d t set in
    let c : State = step_c b t taken (deferred_at d t set) in
    e_begun (step_d c taken c.phase) t ∙ d_begun c taken ∙ c_begun b taken b.phase

module _ (M n : ℕ) (small : n < 32) (t : ℕ) where
  abbrev T : Option ℕ → Bool → List Event → Type 0
  T = Lasting M n t

  -- ---- the events of each step

  -- a
  completes_lasting : (j : Jobs) (w : Option ℕ) (o : CopyOut) (ys : List Event) → T w (member n (after_done j.pending (completed j t o))) ys
      → T w (member n j.pending) (completion_events (completed j t o) ++ ys)
  unfolding completed completion_events Lasting
  completes_lasting j w NoCopyOut ys h = h
  completes_lasting j w (CopiedOut m) ys h = h
  completes_lasting j w (CopyingOut m start until) ys h = go (eqb until t) h
    where
      one : (b c : Bool) → (not b && c) ≡ cond b false c
      one true c = refl
      one false c = refl

      go : (b : Bool) → T w (member n (after_done j.pending (cond b (Some (job_entry j m start t)) None))) ys
          → T w (member n j.pending) (completion_events (cond b (Some (job_entry j m start t)) None) ++ ys)
      go true h = subst (λ (b : Bool). T w b ys) (removed m j.pending n small ∙ one (eqb n m) (member n j.pending)) h
      go false h = h

  a_lasting : (d : State) (p : Phase) (ys : List Event) → d.phase ≡ p → T (begun_of (step_a d t p).state.phase) (member n (step_a d t p).state.jobs.pending) ys
      → T (begun_of p) (member n d.jobs.pending) (processor_events_in t p ++ (finish_events_in t p ++ (completion_events (step_a d t p).done ++ ys)))
  unfolding Lasting
  a_lasting d p ys e h =
      let done : List Event = completion_events (step_a d t p).done in
      by_processor (T (begun_of p) (member n d.jobs.pending)) (λ k u es x. x) (λ k u es x. x) t p (finish_events_in t p ++ (done ++ ys))
      (by_finishes (T (begun_of p) (member n d.jobs.pending)) (λ k es x. x) t p (done ++ ys) (go p e h))
    where
      go : (p : Phase) → d.phase ≡ p → T (begun_of (step_a d t p).state.phase) (member n (step_a d t p).state.jobs.pending) ys
          → T (begun_of p) (member n d.jobs.pending) (completion_events (step_a d t p).done ++ ys)
      go (Between next outgoing) e h = unfold step_a completion_events in subst (λ (q : Phase). T (begun_of q) (member n d.jobs.pending) ys) e (unfold step_a in h)
      go (Within i) e h = unfold step_a without_done ended in completes_lasting d.jobs (Some i.begin) i.copyout ys (unfold step_a without_done ended in h)

  -- b, f
  stays_lasting : (p : Bool) (i : Interval) (q : Phase) (ys : List Event) → q ≡ Within i → T (begun_of q) p ys → T (Some i.begin) p (end_events t (Within i) q ++ ys)
  unfolding end_events
  stays_lasting p i q ys e k = rw e (rw e at k)

  b_lasting : (c : Bool) (s : Stage) (p : Phase) (ys : List Event) → s.state.phase ≡ p → in_time M (begun_of p) t → T (begun_of (step_b s t p).state.phase) c ys
      → T (begun_of p) c (end_events t p (step_b s t p).state.phase ++ ys)
  unfolding step_b close_stage close end_events
  b_lasting c s (Between next outgoing) ys e l h = subst (λ (p : Phase). T (begun_of p) c ys) e h
  b_lasting c s (Within i) ys e l h = go (over i) h
    where
      go : (b : Bool) → T (begun_of (close_stage s t i b).state.phase) c ys → T (Some i.begin) c (end_events t (Within i) (close_stage s t i b).state.phase ++ ys)
      go true h = unfold Lasting in ((refl, l), h)
      go false h = stays_lasting c i s.state.phase ys e h

  -- c
  takes_lasting : (taken marked : ℕ) (w : Option ℕ) (p : Bool) (ys : List Event) → T w (cond (member n taken) true p) ys → T w p (take_events 32 taken marked t ++ ys)
  unfolding take_events Lasting
  takes_lasting taken marked w p ys h =
      at_task n taken (λ k. Takes k t (member k marked)) (λ k. take_events k taken marked t) refl (λ k. refl) (λ x es. T w x es)
      (λ x k e es y. (refl, rw e y)) p true (λ m es y. (refl, rw (same_task n) y)) 32 small ys h

  -- g
  opens_lasting : (c : Bool) (next : Next) (outgoing : Outgoing) (q : Phase) (ys : List Event) → BegunAt t q → T (begun_of q) c ys → T None c (begin_events t (Between next outgoing) q ++ ys)
  unfolding begin_events Lasting
  opens_lasting c next outgoing (Between x y) ys b h = absurd b
  opens_lasting c next outgoing (Within j) ys b h = ((refl, refl), subst (λ (u : ℕ). T (Some u) c ys) b h)

  shut_lasting : (c : Bool) (next : Next) (outgoing : Outgoing) (q : Phase) (ys : List Event) → q ≡ Between next outgoing → T (begun_of q) c ys
      → T None c (begin_events t (Between next outgoing) q ++ ys)
  unfolding begin_events
  shut_lasting c next outgoing q ys e k = rw e (rw e at k)

  begun_now : (d : State) → BegunAt t d.phase → BegunAt t (step_e d t d.phase).phase
  begun_now d h = e_cases (λ x. BegunAt t x.phase) d t h (λ i e s u. chosen i (highest_of d d.jobs.ready) (subst (BegunAt t) e h))
    where
      chosen : (i : Interval) (q : Option ℕ) → i.begin ≡ t → BegunAt t (choose d t i q).phase
      chosen i None e = unfold choose in e
      chosen i (Some q) e = unfold choose in e

  g_lasting : (c : Bool) (f : State) (taken : ℕ) (p : Phase) (ys : List Event) → f.phase ≡ p → T (begun_of (step_g f t taken p).phase) c ys
      → T (begun_of p) c (begin_events t p (step_g f t taken p).phase ++ ys)
  unfolding step_g begin_events
  g_lasting c f taken (Within i) ys e k = subst (λ (p : Phase). T (begun_of p) c ys) e k
  g_lasting c f taken (Between next outgoing) ys e k = go (wanted next outgoing f.jobs.ready) k
    where
      b : State
      b = begin f t taken next outgoing

      go : (z : Bool) → T (begun_of (cond z (step_e b t b.phase) f).phase) c ys
          → T None c (begin_events t (Between next outgoing) (cond z (step_e b t b.phase) f).phase ++ ys)
      go true k = opens_lasting c next outgoing (step_e b t b.phase).phase ys (begun_now b (unfold begin in refl)) k
      go false k = shut_lasting c next outgoing f.phase ys e k

  -- ---- the steps together

  b_in_time : (s : Stage) → in_time M (begun_of s.state.phase) t → in_time M (begun_of (step_b s t s.state.phase).state.phase) t
  unfolding close
  b_in_time s h = b_cases (λ x. in_time M (begun_of x.phase) t) s t (λ i e o. h) (λ next outgoing e. h) (λ i e o. tt)

  -- what is pending then
  either : (p a : Bool) → (p || a) ≡ cond a true p
  either true true = refl
  either true false = refl
  either false true = refl
  either false false = refl

  pending_then : (d : State) (set : ℕ) → member n (at_g d t set).jobs.pending ≡ cond (member n (taken_at d t set)) true (member n (at_b d t).state.jobs.pending)
  pending_then d set =
      ap (member n) (pending_g d t set) ∙ united (at_b d t).state.jobs.pending (taken_at d t set) n small
      ∙ either (member n (at_b d t).state.jobs.pending) (member n (taken_at d t set))

  tail_lasting : (d : State) (set : ℕ) (ys : List Event) → in_time M (begun_of (at_b d t).state.phase) t
      → T (begun_of (at_g d t set).phase) (member n (at_g d t set).jobs.pending) ys
      → T (begun_of (at_b d t).state.phase) (member n (at_b d t).state.jobs.pending) (take_events 32 (taken_at d t set) d.marked t ++ (tail_of d t set ++ ys))
  unfolding at_g at_f
  tail_lasting d set ys l h =
      let b : State = (at_b d t).state in
      let e : State = at_e d t set in
      let f : State = (at_f d t set).state in
      let g : State = at_g d t set in
      let c : Bool = member n g.jobs.pending in
      let starts : List Event = start_events t f.phase g.phase ++ ys in
      let begins : List Event = begin_events t f.phase g.phase ++ starts in
      let ends : List Event = end_events t e.phase f.phase ++ begins in
      takes_lasting (taken_at d t set) d.marked (begun_of b.phase) (member n b.jobs.pending) (tail_of d t set ++ ys)
      (subst (λ (x : Bool). T (begun_of b.phase) x (tail_of d t set ++ ys)) (pending_then d set)
      (rw (tail_parts d t set ys)
      (by_defers (T (begun_of b.phase) c) 32 (deferred_at d t set) t (λ k m x es y. unfold Lasting in y) (giving_events_in b.phase e.phase ++ ends)
      (by_gives (T (begun_of b.phase) c) (λ k es y. unfold Lasting in y) b.phase e.phase ends
      (subst (λ (w : Option ℕ). T w c ends) (begun_e d t set)
      (b_lasting c (fresh_stage e) e.phase begins refl (subst (λ (w : Option ℕ). in_time M w t) (sym (begun_e d t set)) l)
      (g_lasting c f (held_at d t set) f.phase starts refl
      (by_starts (T (begun_of g.phase) c) t (λ k es y. unfold Lasting in y) f.phase g.phase ys h))))))))

  front_lasting : (d : State) (later : List Event) → in_time M (begun_of d.phase) t → T (begun_of (at_b d t).state.phase) (member n (at_b d t).state.jobs.pending) later
      → T (begun_of d.phase) (member n d.jobs.pending)
      (processor_events_in t d.phase ++ (finish_events_in t d.phase ++ (completion_events (at_a d t).done ++ (end_events t (at_a d t).state.phase (at_b d t).state.phase ++ later))))
  unfolding at_b at_a
  front_lasting d later l h =
      let a : Stage = at_a d t in
      a_lasting (at_clock d t) d.phase (end_events t a.state.phase (at_b d t).state.phase ++ later) refl
      (b_lasting (member n a.state.jobs.pending) a a.state.phase later refl (subst (λ (w : Option ℕ). in_time M w t) (sym (a_begun (at_clock d t) t d.phase refl)) l)
      (subst (λ (p : ℕ). T (begun_of (at_b d t).state.phase) (member n p) later) (ap (λ (y : Frame). y.pending) (b_frame a t)) h))

  b_reached : (d : State) → in_time M (begun_of d.phase) t → in_time M (begun_of (at_b d t).state.phase) t
  unfolding at_b at_a
  b_reached d l = b_in_time (at_a d t) (subst (λ (w : Option ℕ). in_time M w t) (sym (a_begun (at_clock d t) t d.phase refl)) l)

  comes_lasting : (now : ℕ) (w : Option ℕ) (p : Bool) (es : List Event) → now ≤ t → at_rest w p → in_time M w t → T w p es → Lasting M n now w p (Comes t ∷ es)
  unfolding Lasting
  comes_lasting now w p es o r l h = ((o, r, l), h)

  lasting_instant : (d : State) (set : ℕ) (ys : List Event) → last d.clock ≤ t → at_rest (begun_of d.phase) (member n d.jobs.pending) → in_time M (begun_of d.phase) t
      → T (begun_of (at_g d t set).phase) (member n (at_g d t set).jobs.pending) ys
      → Lasting M n (last d.clock) (begun_of d.phase) (member n d.jobs.pending) (happens d t set ++ ys)
  lasting_instant d set ys o r l h =
      let later : List Event = take_events 32 (taken_at d t set) d.marked t ++ (tail_of d t set ++ ys) in
      rw (happens_parts d t set ys, front_parts d t later)
      (comes_lasting (last d.clock) (begun_of d.phase) (member n d.jobs.pending) _ o r l (front_lasting d later l (tail_lasting d set ys (b_reached d l) h)))

-- ---- along the calls

module _ (table : Table) (marks : ℕ) (fair : Fair table marks) (n : ℕ) (small : n < 32) where
  -- a settled state in which no interval is open has no pending job
  rests : (d : State) (p : Phase) → RestAt d.jobs.ready p → Parted table.present fair.present d p → at_rest (begun_of p) (member n d.jobs.pending)
  rests d (Between next outgoing) h k =
      no_bit (member n d.jobs.pending) (k.parts n small ∙ rw (h.0, h.1, h.2, none n))
    where
      no_bit : (b : Bool) → bit b ≡ 0 → b ≡ false
      no_bit true e = absurd (omega arith)
      no_bit false e = refl
  rests d (Within i) h k = tt

  abbrev longest : ℕ
  longest = M table fair.present

  -- how long what is under way may take, since some time
  abbrev Spanned : State → Type 0
  Spanned d = (x : ℕ) × Spans table fair.present x d.phase

  lasting : (cs : List Call) (d : State) → Good table marks fair d → Spanned d
      → Lasting longest n (last d.clock) (begun_of d.phase) (member n d.jobs.pending) (history d cs)
  lasting =
      walk (λ d h. Good table marks fair d → Spanned d → Lasting longest n (last d.clock) (begun_of d.phase) (member n d.jobs.pending) h)
      (λ d g x. unfold Lasting in rests d d.phase g.settled.rests g.parted)
      (λ d t set cs e k g x.
      let s : Served-at d t set = served_at d t set e in
      let y : State = at_g d t set in
      lasting_instant longest n small t d set (history y cs) s.onward (rests d d.phase g.settled.rests g.parted)
      (reached table fair.present t x.0 d.phase g.settled.decided g.settled.open_yet s.due x.1)
      (subst (λ (c : Clock). Lasting longest n (last c) (begun_of y.phase) (member n y.jobs.pending) (history y cs)) (clock_g d t set)
      (k (good_next table marks fair d t set g s)
      (t, next_spans table fair.present t x.0 d set g.table_is (subst (λ (z : Table). Sub set z.present) g.table_is s.known) g.parted g.settled.decided s.due x.1))))
      (λ d m e h k g x. k (good_quiet table marks fair d m e g) x)

  -- every list of calls from the state that opening returned
  pub lasts : (cs : List Call) → Lasting longest n 0 None false (history (opened table marks) cs)
  lasts cs =
      subst (λ (b : Bool). Lasting longest n 0 None b (history (opened table marks) cs)) (none n)
      (unfold opened in lasting cs (opened table marks) (good_opened table marks fair) (0, tt))
