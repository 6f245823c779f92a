-- The entry of an interval closed tells the truth, and each interval executes what the history says: the course of an interval along a history agrees with the
-- state, step by step and along the calls.
use Rattle.std.proofs.Common.{◌≡◌, ◌&&◌, ◌||◌, ◌∷◌, ◌++◌, ◌⊎◌, ◌+◌, ◌-◌, ◌≤◌, ◌<◌}
use Rattle.guarantees.specs.Types.{refl, sym, ap, ◌∙◌, subst, Bool, true, false, cond, not, true≢false, false≢true, List, [], inl, inr, ⊎_elim, ℕ, Table, Option, None, Some, CopyIn, Unchosen, NoneChosen, Copying, Loaded, Cancelled, Interval, Next, NoneNext, Outgoing, Phase, Between, Within, State, Stage, NoInterval, IntervalEntry, Call}
use mathlib.Core.List.{append-nil}
use native.Mathlib.Omega.{arith}
use lib.Dec.{eqb}
use lib.ListN.{get_or}
use Rattle.sets.specs.Sets.{member, union, intersection, insert, bit}
use Rattle.sets.proofs.Laws.{by-test, clash, none, same_task, united, intersection_member, intersection_left, inserted, removed, union_out, union_right}
use Rattle.rules.specs.With.{at_clock, with_copyin}
use Rattle.rules.specs.Order.{highest, highest_of}
use Rattle.rules.specs.Calls.{opened}
use Rattle.rules.specs.Instant.{step_a, step_b, step_c, step_d, step_e, step_g, close, close_stage, over, promoted, next_of, work_of, held_over, with_candidates, cancel, choose, begin, begin_processor, begin_copyout, wanted, ended as Ended-by, without_done, settled, entry_with, interval_entry, copyin_at, copyin_task, copyin_fate, processor_task, copyout_task, closing, occurred, at_a, at_b, at_e, at_f, at_g, taken_at, deferred_at, fresh_stage}
use Rattle.guarantees.specs.History.{Event, Comes, Starts, Stops, Finishes, Completes, Ends, Takes, Defers, GivesWay, Begins, history, happens, processor_events_in, finish_events, finish_events_in, completion_events, end_events, take_events, defer_events, given_way, giving_events, giving_events_in, begin_events, start_events}
use Rattle.guarantees.specs.Queries.{details, finishes, ends, begins, gives_way, after, Origin, origin_by}
use Rattle.guarantees.specs.Intervals.{Course, no_course, course, work_by, highest_own, course_by, promoted_by, executes_next, Proceeds, entry_by, ended}
use Rattle.guarantees.specs.Entries.{all_occurred, closed_in, closed}
use Rattle.guarantees.proofs.Walk.{walk_told}
use Rattle.guarantees.proofs.Cases.{held_at, HeldFor, d_fates, e_cases}
use Rattle.guarantees.proofs.Steps.{settles, processor_task_same}
use Rattle.guarantees.proofs.Events.{by_processor_at, by_completes, by_takes, by_defers, by_starts, tail_of, happens_parts, front_parts, tail_parts}
use Rattle.guarantees.proofs.Frames.{Frame, b_frame, frame_e, marked_b}
use Rattle.guarantees.proofs.Highest.{highest_same}
use Rattle.guarantees.proofs.Origins.{OriginIs, taken_origin, deferred_origin, takes_origin, defers_origin, c_origin, opened_origin}
use Rattle.guarantees.proofs.Settled.{unwanted}
use Rattle.guarantees.proofs.Order.{situation_of, situation_e}
use Rattle.guarantees.proofs.Waiting.{next_task, runs}
use Rattle.guarantees.proofs.Places.{copyin_bit}
use Rattle.guarantees.proofs.Deferred.{at_task}
use Rattle.guarantees.proofs.CopyOuts.{Both, begun_both}
use Rattle.guarantees.proofs.Closings.{copyout_task_same, closed_of, closing_is, a_none, one_closes}

able_same : (c r : Bool) → (c ≡ true → r ≡ true) → c ≡ (c && r)
able_same true r h = sym (h refl)
able_same false r h = refl

-- ---- along a history

module _ (pr : List ℕ) where
  -- what may occur, by the course so far
  pub record Allowed (x : Course) (e : Event) : Type 0 where
    pub begins_so : begins e ≡ true → (x.is_open ≡ false) × ((details e).task ≡ x.decided)
    pub ends_so : ends e ≡ true → x.is_open ≡ true
    pub finishes_so : finishes e ≡ true → (x.is_open ≡ true) × (x.fate ≡ 0)
    pub gives_so : gives_way e ≡ true → (x.is_open ≡ true) × ((x.fate ≡ 0) ⊎ ((x.fate ≡ 1) × (x.chosen ≡ (details e).task)))

  unfoldable pub Executing-so : Course → List Event → Type 0
  Executing-so x [] = Unit {0}
  Executing-so x (e ∷ es) = Allowed x e × Executing-so (course_by pr x e) es

  allowed_at : (before : List Event) (x : Course) (e : Event) (es : List Event) → Executing-so x (before ++ (e ∷ es)) → Allowed (after (course_by pr) x before) e
  unfolding Executing-so after
  allowed_at [] x e es h = h.0
  allowed_at (y ∷ before) x e es h = allowed_at before (course_by pr x y) e es h.1

  pub proceeds : (h : List Event) → Executing-so no_course h → Proceeds pr h
  proceeds h x = record {
    each_begin = λ before after t r l e. (at before (Begins t r l) after e).begins_so refl;
    each_end = λ before after t e. (at before (Ends t) after e).ends_so refl;
    each_finish = λ before after n e. (at before (Finishes n) after e).finishes_so refl;
    each_giving = λ before after n e. (at before (GivesWay n) after e).gives_so refl;
  }
    where
      at : (before : List Event) (e : Event) (es : List Event) → h ≡ before ++ (e ∷ es) → Allowed (course pr before) e
      at before e es z = allowed_at before no_course e es (subst (Executing-so no_course) z x)

  -- and the entries of the intervals that end are l
  pub record Follows (l : List IntervalEntry) (x : Course) (es : List Event) : Type 0 where
    pub executing : Executing-so x es
    pub says : ended pr x es ≡ l

  other {ℓ} : {A : Type ℓ} (b : Bool) → b ≡ false → b ≡ true → A
  other b e f = absurd (true≢false (sym f ∙ e))

  -- an event of no such kind
  record Plain (e : Event) : Type 0 where
    begins_not : begins e ≡ false
    ends_not : ends e ≡ false
    finishes_not : finishes e ≡ false
    gives_not : gives_way e ≡ false

  follows_on : (l : List IntervalEntry) (x : Course) (e : Event) (es : List Event) → Plain e → Follows l (course_by pr x e) es → Follows l x (e ∷ es)
  follows_on l x e es p h = record {
    executing = unfold Executing-so in (allowed, h.executing);
    says = unfold ended in ap (λ (c : Bool). cond c (entry_by pr x (details e).tick ∷ []) [] ++ ended pr (course_by pr x e) es) p.ends_not ∙ h.says;
  }
    where
      allowed : Allowed x e
      allowed = record {
        begins_so = other (begins e) p.begins_not;
        ends_so = other (ends e) p.ends_not;
        finishes_so = other (finishes e) p.finishes_not;
        gives_so = other (gives_way e) p.gives_not;
      }

  follows_finish : (l : List IntervalEntry) (x : Course) (n : ℕ) (es : List Event) → x.is_open ≡ true → x.fate ≡ 0 → Follows l (course_by pr x (Finishes n)) es
      → Follows l x (Finishes n ∷ es)
  follows_finish l x n es o f h = record { executing = unfold Executing-so in (allowed, h.executing); says = unfold ended in h.says }
    where
      allowed : Allowed x (Finishes n)
      allowed = record { begins_so = other false refl; ends_so = other false refl; finishes_so = λ y. (o, f); gives_so = other false refl }

  follows_gives : (l : List IntervalEntry) (x : Course) (n : ℕ) (es : List Event) → x.is_open ≡ true → ((x.fate ≡ 0) ⊎ ((x.fate ≡ 1) × (x.chosen ≡ Some n)))
      → Follows l (course_by pr x (GivesWay n)) es → Follows l x (GivesWay n ∷ es)
  follows_gives l x n es o f h = record { executing = unfold Executing-so in (allowed, h.executing); says = unfold ended in h.says }
    where
      allowed : Allowed x (GivesWay n)
      allowed = record { begins_so = other false refl; ends_so = other false refl; finishes_so = other false refl; gives_so = λ y. (o, f) }

  follows_ends : (l : List IntervalEntry) (x : Course) (t : ℕ) (i : IntervalEntry) (es : List Event) → x.is_open ≡ true → entry_by pr x t ≡ i
      → Follows l (course_by pr x (Ends t)) es → Follows (i ∷ l) x (Ends t ∷ es)
  follows_ends l x t i es o e h = record {
    executing = unfold Executing-so in (allowed, h.executing);
    says = unfold ended in ap (λ (z : List IntervalEntry). entry_by pr x t ∷ z) h.says ∙ ap (λ (z : IntervalEntry). z ∷ l) e;
  }
    where
      allowed : Allowed x (Ends t)
      allowed = record { begins_so = other false refl; ends_so = λ y. o; finishes_so = other false refl; gives_so = other false refl }

  follows_begins : (l : List IntervalEntry) (x : Course) (t : ℕ) (r o : Option ℕ) (es : List Event) → x.is_open ≡ false → r ≡ x.decided
      → Follows l (course_by pr x (Begins t r o)) es → Follows l x (Begins t r o ∷ es)
  follows_begins l x t r o es s e h = record { executing = unfold Executing-so in (allowed, h.executing); says = unfold ended in h.says }
    where
      allowed : Allowed x (Begins t r o)
      allowed = record { begins_so = λ y. (s, e); ends_so = other false refl; finishes_so = other false refl; gives_so = other false refl }

  -- ---- what agrees with the state

  abbrev Shown : Option ℕ → ℕ → CopyIn → Type 0
  Shown c f Unchosen = (c ≡ None) × (f ≡ 0)
  Shown c f NoneChosen = (c ≡ None) × (f ≡ 0)
  Shown c f (Copying n until) = (c ≡ None) × (f ≡ 0)
  Shown c f (Loaded n) = (c ≡ Some n) × (f ≡ 1)
  Shown c f (Cancelled n fate) = (c ≡ Some n) × (f ≡ fate) × (eqb fate 1 ≡ false)

  record InCourse (x : Course) (ready : ℕ) (i : Interval) : Type 0 where
    is_open : x.is_open ≡ true
    begin_is : x.begin ≡ i.begin
    task_is : x.task ≡ processor_task i.processor
    work_is : x.work ≡ i.work
    out_is : x.copiedout ≡ copyout_task i.copyout
    shown : Shown x.chosen x.fate i.copyin
    own_is : (k : ℕ) → k < 32 → member k x.own ≡ member k i.candidates
    none_next : (k : ℕ) → k < 32 → member k x.next ≡ false
    -- a candidate is ready, or is being copied in
    able : (k : ℕ) → k < 32 → member k i.candidates ≡ true → 1 ≤ bit (member k ready) + copyin_bit k i.copyin

  -- s are the marked jobs taken since the interval has ended
  record Over (s : ℕ) (x : Course) (ready : ℕ) (next : Next) : Type 0 where
    is_shut : x.is_open ≡ false
    executes : next_task next ≡ x.decided
    works : work_of next ≡ work_by x.fate (next_task next)
    next_is : (k : ℕ) → k < 32 → member k x.next ≡ member k s
    able : (k : ℕ) → k < 32 → member k s ≡ true → member k ready ≡ true

  abbrev AgreesAt : ℕ → Course → ℕ → Phase → Type 0
  AgreesAt s x ready (Between next outgoing) = Over s x ready next
  AgreesAt s x ready (Within i) = InCourse x ready i

  record Agrees (s : ℕ) (x : Course) (d : State) (p : Phase) : Type 0 where
    table_is : d.table.priority ≡ pr
    half_is : x.half ≡ d.half
    origins_are : (k : ℕ) → k < 32 → OriginIs k (x.origins k) d.jobs.release d.waiting
    phase : AgreesAt s x d.jobs.ready p

  -- ---- a

  abbrev finished : ℕ → CopyIn → Course → Course
  finished t Unchosen x = x
  finished t NoneChosen x = x
  finished t (Copying n until) x = cond (eqb until t) (course_by pr x (Finishes n)) x
  finished t (Loaded n) x = x
  finished t (Cancelled n fate) x = x

  -- the interval, its execution and its copy-out
  record SameInterval (x y : Course) : Type 0 where
    is_open : y.is_open ≡ x.is_open
    begin_same : y.begin ≡ x.begin
    half_same : y.half ≡ x.half
    task_same : y.task ≡ x.task
    work_same : y.work ≡ x.work
    out_same : y.copiedout ≡ x.copiedout

  -- all but the copy-in
  record SameButCopy (x y : Course) : Type 0 where
    interval : SameInterval x y
    own_same : y.own ≡ x.own
    next_same : y.next ≡ x.next
    origins_same : y.origins ≡ x.origins

  same_interval : {x : Course} → SameInterval x x
  same_interval = record { is_open = refl; begin_same = refl; half_same = refl; task_same = refl; work_same = refl; out_same = refl }

  unchanged : (x : Course) → SameButCopy x x
  unchanged x = record { interval = same_interval; own_same = refl; next_same = refl; origins_same = refl }

  finished_same : (t : ℕ) (c : CopyIn) (x : Course) → SameButCopy x (finished t c x)
  finished_same t Unchosen x = unchanged x
  finished_same t NoneChosen x = unchanged x
  finished_same t (Copying n until) x = go (eqb until t)
    where
      go : (b : Bool) → SameButCopy x (cond b (course_by pr x (Finishes n)) x)
      go true = record { interval = record { is_open = refl; begin_same = refl; half_same = refl; task_same = refl; work_same = refl; out_same = refl }; own_same = refl; next_same = refl; origins_same = refl }
      go false = unchanged x
  finished_same t (Loaded n) x = unchanged x
  finished_same t (Cancelled n fate) x = unchanged x

  finished_shown : (t : ℕ) (c : CopyIn) (x : Course) → Shown x.chosen x.fate c → Shown (finished t c x).chosen (finished t c x).fate (copyin_at t c)
  finished_shown t Unchosen x h = h
  finished_shown t NoneChosen x h = h
  finished_shown t (Copying n until) x h = go (eqb until t)
    where
      go : (b : Bool) → Shown (cond b (course_by pr x (Finishes n)) x).chosen (cond b (course_by pr x (Finishes n)) x).fate (cond b (Loaded n) (Copying n until))
      go true = (refl, refl)
      go false = h
  finished_shown t (Loaded n) x h = h
  finished_shown t (Cancelled n fate) x h = h

  finish_follows : (l : List IntervalEntry) (t : ℕ) (c : CopyIn) (x : Course) (ys : List Event) → x.is_open ≡ true → Shown x.chosen x.fate c → Follows l (finished t c x) ys
      → Follows l x (finish_events t c ++ ys)
  unfolding finish_events
  finish_follows l t Unchosen x ys o s h = h
  finish_follows l t NoneChosen x ys o s h = h
  finish_follows l t (Copying n until) x ys o s h = go (eqb until t) h
    where
      go : (b : Bool) → Follows l (cond b (course_by pr x (Finishes n)) x) ys → Follows l x (cond b (Finishes n ∷ []) [] ++ ys)
      go true h = follows_finish l x n ys o s.1 h
      go false h = h
  finish_follows l t (Loaded n) x ys o s h = h
  finish_follows l t (Cancelled n fate) x ys o s h = h

  a_copyin_bit : (k t : ℕ) (c : CopyIn) → copyin_bit k (copyin_at t c) ≡ copyin_bit k c
  a_copyin_bit k t Unchosen = refl
  a_copyin_bit k t NoneChosen = refl
  a_copyin_bit k t (Copying n until) = by-test (eqb until t) (λ e. rw e refl) (λ e. rw e refl)
  a_copyin_bit k t (Loaded n) = refl
  a_copyin_bit k t (Cancelled n fate) = refl

  a_follows : (l : List IntervalEntry) (s : ℕ) (d : State) (t : ℕ) (p : Phase) (ys : List Event) → d.phase ≡ p
      → ((x : Course) → Agrees s x (step_a d t p).state (step_a d t p).state.phase → Follows l x ys)
      → (x : Course) → Agrees s x d p → Follows l x (finish_events_in t p ++ (completion_events (step_a d t p).done ++ ys))
  unfolding step_a finish_events_in completion_events
  a_follows l s d t (Between next outgoing) ys e k x a = k x (subst (Agrees s x d) (sym e) a)
  a_follows l s d t (Within i) ys e k x a =
      finish_follows l t i.copyin x (completion_events (step_a d t (Within i)).done ++ ys) h.is_open h.shown
      (by_completes (Follows l y) (λ n u es h. follows_on l y (Completes n u) es (record { begins_not = refl; ends_not = refl; finishes_not = refl; gives_not = refl }) h) (step_a d t (Within i)).done ys
      (k y (unfold step_a without_done Ended-by in record {
        table_is = a.table_is;
        half_is = same.interval.half_same ∙ a.half_is;
        origins_are = λ k l. subst (λ (o : ℕ → Origin). OriginIs k (o k) d.jobs.release d.waiting) (sym same.origins_same) (a.origins_are k l);
        phase = record {
          is_open = same.interval.is_open ∙ h.is_open;
          begin_is = same.interval.begin_same ∙ h.begin_is;
          task_is = same.interval.task_same ∙ h.task_is ∙ sym (processor_task_same d.table t i.processor);
          work_is = same.interval.work_same ∙ h.work_is;
          out_is = same.interval.out_same ∙ h.out_is ∙ sym (copyout_task_same t i);
          shown = finished_shown t i.copyin x h.shown;
          own_is = λ j m. ap (member j) same.own_same ∙ h.own_is j m;
          none_next = λ j m. ap (member j) same.next_same ∙ h.none_next j m;
          able = λ j m c. omega (arith, h.able j m c, a_copyin_bit j t i.copyin);
        };
      })))
    where
      h : InCourse x d.jobs.ready i
      h = a.phase

      y : Course
      y = finished t i.copyin x

      same : SameButCopy x (finished t i.copyin x)
      same = finished_same t i.copyin x

  -- ---- b, f

  record ClosedSo (d : State) (i : Interval) (c : CopyIn) (x : Course) : Type 0 where
    chosen_is : x.chosen ≡ copyin_task c
    fate_is : x.fate ≡ copyin_fate c
    promoted_is : promoted_by pr x ≡ promoted d i c
    executes : next_task (next_of c (promoted d i c)) ≡ executes_next pr x
    works : work_of (next_of c (promoted d i c)) ≡ work_by x.fate (next_task (next_of c (promoted d i c)))

  -- every candidate is ready, so that the highest of them is the highest of the course's own
  best_own : (d : State) (i : Interval) (x : Course) → ((k : ℕ) → k < 32 → member k i.candidates ≡ true → member k d.jobs.ready ≡ true)
      → d.table.priority ≡ pr → ((k : ℕ) → k < 32 → OriginIs k (x.origins k) d.jobs.release d.waiting)
      → ((k : ℕ) → k < 32 → member k x.own ≡ member k i.candidates)
      → highest_own pr x ≡ highest_of d (intersection i.candidates d.jobs.ready)
  best_own d i x f e g o =
      ap (λ (l : List ℕ). highest l (λ n. (x.origins n).since) x.own) (sym e)
      ∙ highest_same d.table.priority (λ n. (x.origins n).since) (λ n. get_or d.jobs.release n 0) x.own (intersection i.candidates d.jobs.ready)
      (λ k l. o k l ∙ able_same (member k i.candidates) (member k d.jobs.ready) (f k l) ∙ sym (intersection_member i.candidates d.jobs.ready k l))
      (λ k l. (g k l).since_is)

  -- where no job is loaded
  promotes : (c : CopyIn) (q : Option ℕ) → next_of c None ≡ NoneNext → next_task (next_of c q) ≡ q
  promotes c None h = ap next_task h
  promotes c (Some q) h = refl

  promotes_work : (c : CopyIn) (q : Option ℕ) (fate : ℕ) → next_of c None ≡ NoneNext → eqb fate 1 ≡ false → work_of (next_of c q) ≡ work_by fate (next_task (next_of c q))
  promotes_work c None fate h e = rw h refl
  promotes_work c (Some q) fate h e = rw e refl

  promoted_so : (d : State) (i : Interval) (c : CopyIn) (x : Course) → settled c ≡ true → Shown x.chosen x.fate c
      → ((k : ℕ) → k < 32 → copyin_bit k c ≡ 0 → member k i.candidates ≡ true → member k d.jobs.ready ≡ true)
      → d.table.priority ≡ pr → ((k : ℕ) → k < 32 → OriginIs k (x.origins k) d.jobs.release d.waiting)
      → ((k : ℕ) → k < 32 → member k x.own ≡ member k i.candidates) → ClosedSo d i c x
  unfolding promoted
  promoted_so d i Unchosen x s h f e g o = absurd (false≢true s)
  promoted_so d i (Copying n until) x s h f e g o = absurd (false≢true s)
  promoted_so d i (Loaded n) x s h f e g o =
      record { chosen_is = h.0; fate_is = h.1; promoted_is = rw h.1 refl; executes = rw h.1 (sym h.0); works = rw h.1 refl }
  promoted_so d i NoneChosen x s h f e g o =
      let b : highest_own pr x ≡ highest_of d (intersection i.candidates d.jobs.ready) = best_own d i x (λ k l. f k l refl) e g o in
      let q : Option ℕ = highest_of d (intersection i.candidates d.jobs.ready) in
      record {
        chosen_is = h.0;
        fate_is = h.1;
        promoted_is = rw h.1 b;
        executes = rw h.1 (promotes NoneChosen q refl ∙ sym b);
        works = rw h.1 (promotes_work NoneChosen q 0 refl refl);
      }
  promoted_so d i (Cancelled n fate) x s h f e g o =
      let b : highest_own pr x ≡ highest_of d (intersection i.candidates d.jobs.ready) = best_own d i x (λ k l. f k l refl) e g o in
      let q : Option ℕ = highest_of d (intersection i.candidates d.jobs.ready) in
      record {
        chosen_is = h.0;
        fate_is = h.1;
        promoted_is = rw (h.1, h.2) b;
        executes = rw (h.1, h.2) (promotes (Cancelled n fate) q refl ∙ sym b);
        works = rw h.1 (promotes_work (Cancelled n fate) q fate refl h.2);
      }

  -- a settled copy-in that is no task's leaves the candidates ready
  all_ready : (ready : ℕ) (i : Interval) (x : Course) → InCourse x ready i → (k : ℕ) → k < 32 → copyin_bit k i.copyin ≡ 0 → member k i.candidates ≡ true → member k ready ≡ true
  all_ready ready i x h k l z m = is_in (member k ready) (omega (arith, h.able k l m))
    where
      is_in : (b : Bool) → 1 ≤ bit b → b ≡ true
      is_in true l = refl
      is_in false l = absurd (omega arith)

  closed_so : (d : State) (i : Interval) (x : Course) → over i ≡ true → Agrees 0 x d (Within i) → ClosedSo d i i.copyin x
  closed_so d i x o a =
      promoted_so d i i.copyin x (settles i o) a.phase.shown (all_ready d.jobs.ready i x a.phase) a.table_is a.origins_are a.phase.own_is

  entry_so : (d : State) (i : Interval) (x : Course) (t : ℕ) → over i ≡ true → Agrees 0 x d (Within i) → entry_by pr x t ≡ interval_entry d t i
  unfolding interval_entry entry_with
  entry_so d i x t o a =
      let c : ClosedSo d i i.copyin x = closed_so d i x o a in
      entry_same a.phase.begin_is a.half_is a.phase.task_is a.phase.work_is a.phase.out_is c.chosen_is c.fate_is c.promoted_is
    where
      entry_same : {b b' h h' w w' f f' : ℕ} {r r' o o' c c' p p' : Option ℕ} → b ≡ b' → h ≡ h' → r ≡ r' → w ≡ w' → o ≡ o' → c ≡ c' → f ≡ f' → p ≡ p'
          → ◌≡◌ {A = IntervalEntry} (record { begin = b; end = t; half = h; task = r; work = w; copiedout = o; chosen = c; fate = f; promoted = p })
          (record { begin = b'; end = t; half = h'; task = r'; work = w'; copiedout = o'; chosen = c'; fate = f'; promoted = p' })
      entry_same e1 e2 e3 e4 e5 e6 e7 e8 = rw (e1, e2, e3, e4, e5, e6, e7, e8) refl

  stays_follows : (l : List IntervalEntry) (t : ℕ) (x : Course) (i : Interval) (q : Phase) (ys : List Event) → q ≡ Within i → Follows l x ys → Follows l x (end_events t (Within i) q ++ ys)
  unfolding end_events
  stays_follows l t x i q ys e h = rw e h

  b_follows : (l : List IntervalEntry) (s : ℕ) (z : Stage) (t : ℕ) (p : Phase) (ys : List Event) → z.state.phase ≡ p → z.closed ≡ NoInterval
      → ((i : Interval) → p ≡ Within i → (k : ℕ) → k < 32 → member k s ≡ false)
      → ((x : Course) → Agrees s x (step_b z t p).state (step_b z t p).state.phase → Follows l x ys)
      → (x : Course) → Agrees s x z.state p → Follows (closed_of (step_b z t p).closed ++ l) x (end_events t p (step_b z t p).state.phase ++ ys)
  unfolding step_b close_stage end_events
  b_follows l s z t (Between next outgoing) ys e n f k x a = rw n (k x (subst (Agrees s x z.state) (sym e) a))
  b_follows l s z t (Within i) ys e n f k x a = go (over i) refl k
    where
      shut : over i ≡ true → Agrees s (course_by pr x (Ends t)) (close z.state i) (close z.state i).phase
      shut o =
          let c : ClosedSo z.state i i.copyin x = closed_so z.state i x o (record { table_is = a.table_is; half_is = a.half_is; origins_are = a.origins_are; phase = a.phase }) in
          unfold close in record {
            table_is = a.table_is;
            half_is = a.half_is;
            origins_are = a.origins_are;
            phase = record {
              is_shut = refl;
              executes = c.executes;
              works = c.works;
              next_is = λ j m. a.phase.none_next j m ∙ sym (f i refl j m);
              able = λ j m y. absurd (true≢false (sym y ∙ f i refl j m));
            };
          }

      go : (b : Bool) → over i ≡ b → ((x : Course) → Agrees s x (close_stage z t i b).state (close_stage z t i b).state.phase → Follows l x ys)
          → Follows (closed_of (close_stage z t i b).closed ++ l) x (end_events t (Within i) (close_stage z t i b).state.phase ++ ys)
      go true o k =
          unfold close_stage end_events close in
          follows_ends l x t (interval_entry z.state t i) ys a.phase.is_open (entry_so z.state i x t o (record { table_is = a.table_is; half_is = a.half_is; origins_are = a.origins_are; phase = a.phase }))
          (k (course_by pr x (Ends t)) (unfold close_stage close in shut o))
      go false o k =
          unfold close_stage in
          rw n (stays_follows l t x i z.state.phase ys e (k x (subst (Agrees s x z.state) (sym e) a)))

  -- ---- c

  -- some events by which no interval begins or ends
  unfoldable NoneBegins : List Event → Type 0
  NoneBegins [] = Unit {0}
  NoneBegins (e ∷ es) = Plain e × NoneBegins es

  follows_all : (l : List IntervalEntry) (es : List Event) (x : Course) (ys : List Event) → NoneBegins es → Follows l (after (course_by pr) x es) ys → Follows l x (es ++ ys)
  unfolding NoneBegins after
  follows_all l [] x ys n h = h
  follows_all l (e ∷ es) x ys n h = follows_on l x e (es ++ ys) n.0 (follows_all l es (course_by pr x e) ys n.1 h)

  -- all but the marked jobs
  record SameButSets (x y : Course) : Type 0 where
    interval : SameInterval x y
    chosen_same : y.chosen ≡ x.chosen
    fate_same : y.fate ≡ x.fate
    decided_same : y.decided ≡ x.decided

  abbrev set_of : Bool → Course → ℕ
  set_of true x = x.own
  set_of false x = x.next

  module _ (taken marks t : ℕ) where
    abbrev takes : List Event
    takes = take_events 32 taken marks t

    abbrev taken_to : Course → Course
    taken_to x = after (course_by pr) x (take_events 32 taken marks t)

    none_begins : NoneBegins (take_events 32 taken marks t)
    unfolding NoneBegins
    none_begins = subst NoneBegins (append-nil takes) (by_takes NoneBegins 32 taken marks t (λ n l m es h. (record { begins_not = refl; ends_not = refl; finishes_not = refl; gives_not = refl }, h)) [] tt)

    takes_same : (x : Course) → SameButSets x (taken_to x)
    unfolding after
    takes_same =
        subst (λ (es : List Event). (x : Course) → SameButSets x (after (course_by pr) x es)) (append-nil takes)
        (by_takes (λ es. (x : Course) → SameButSets x (after (course_by pr) x es)) 32 taken marks t
        (λ n l m es h x. again x n (h (course_by pr x (Takes n t (member n marks))))) []
        (λ x. record { interval = same_interval; chosen_same = refl; fate_same = refl; decided_same = refl }))
      where
        again : (x : Course) (n : ℕ) {y : Course} → SameButSets (course_by pr x (Takes n t (member n marks))) y → SameButSets x y
        again x n i = record {
          interval = record {
            is_open = i.interval.is_open;
            begin_same = i.interval.begin_same;
            half_same = i.interval.half_same;
            task_same = i.interval.task_same;
            work_same = i.interval.work_same;
            out_same = i.interval.out_same;
          };
          chosen_same = i.chosen_same;
          fate_same = i.fate_same;
          decided_same = i.decided_same;
        }

    -- the set that they do not belong to
    takes_other : (o : Bool) (x : Course) → x.is_open ≡ o → set_of (not o) (taken_to x) ≡ set_of (not o) x
    unfolding after
    takes_other o =
        subst (λ (es : List Event). (x : Course) → x.is_open ≡ o → set_of (not o) (after (course_by pr) x es) ≡ set_of (not o) x) (append-nil takes)
        (by_takes (λ es. (x : Course) → x.is_open ≡ o → set_of (not o) (after (course_by pr) x es) ≡ set_of (not o) x) 32 taken marks t
        (λ n l m es h x e. h (course_by pr x (Takes n t (member n marks))) e ∙ one o x n (member n marks) e) [] (λ x e. refl))
      where
        one : (o : Bool) (x : Course) (n : ℕ) (m : Bool) → x.is_open ≡ o → set_of (not o) (course_by pr x (Takes n t m)) ≡ set_of (not o) x
        one true x n true e = rw e refl
        one true x n false e = refl
        one false x n true e = rw e refl
        one false x n false e = refl

    -- and the one that they do
    module _ (o : Bool) (k : ℕ) (small : k < 32) where
      joins : (x : Course) (j : ℕ) (m : Bool) → x.is_open ≡ o → member k (set_of o (course_by pr x (Takes j t m))) ≡ ((m && eqb k j) || member k (set_of o x))
      joins = go o
        where
          go : (o : Bool) (x : Course) (j : ℕ) (m : Bool) → x.is_open ≡ o → member k (set_of o (course_by pr x (Takes j t m))) ≡ ((m && eqb k j) || member k (set_of o x))
          go true x j true e = rw e (inserted j x.own k small)
          go true x j false e = refl
          go false x j true e = rw e (inserted j x.next k small)
          go false x j false e = refl

      takes_sets : (x : Course) → x.is_open ≡ o → member k (set_of o (taken_to x)) ≡ (member k (set_of o x) || (member k taken && member k marks))
      unfolding after take_events
      takes_sets x e =
          subst (λ (es : List Event). member k (set_of o (after (course_by pr) x es)) ≡ z) (append-nil takes)
          (at_task k taken (λ j. Takes j t (member j marks)) (λ j. take_events j taken marks t) refl (λ j. refl) P
          (λ b j f es h x e i. h (course_by pr x (Takes j t (member j marks))) e (joins x j (member j marks) e ∙ rw f (others (member j marks) (member k (set_of o x))) ∙ i))
          (member k (set_of o x)) (member k marks || member k (set_of o x))
          (λ f es h x e i. h (course_by pr x (Takes k t (member k marks))) e (joins x k (member k marks) e ∙ rw (same_task k) (this (member k marks) (member k (set_of o x)) ∙ ap (λ (b : Bool). member k marks || b) i)))
          32 small [] (λ x e i. i) x e refl)
          ∙ last (member k taken) (member k marks) (member k (set_of o x))
        where
          z : Bool
          z = cond (member k taken) (member k marks || member k (set_of o x)) (member k (set_of o x))

          P : Bool → List Event → Type 0
          P b es = (y : Course) → y.is_open ≡ o → member k (set_of o y) ≡ b → member k (set_of o (after (course_by pr) y es)) ≡ z

          others : (m b : Bool) → ((m && false) || b) ≡ b
          others true b = refl
          others false b = refl

          this : (m b : Bool) → ((m && true) || b) ≡ (m || b)
          this true b = refl
          this false b = refl

          last : (n m b : Bool) → cond n (m || b) b ≡ (b || (n && m))
          last true true true = refl
          last true true false = refl
          last true false true = refl
          last true false false = refl
          last false m true = refl
          last false m false = refl

  -- the origins of a course are those that a walk for each task finds
  origins_after : (es : List Event) (x : Course) (k : ℕ) → (after (course_by pr) x es).origins k ≡ after (origin_by k) (x.origins k) es
  unfolding after
  origins_after [] x k = refl
  origins_after (e ∷ es) x k = origins_after es (course_by pr x e) k

  -- releases that wait change nothing but these
  abbrev with_origins : Course → (ℕ → Origin) → Course
  with_origins x o =
      record {
        is_open = x.is_open;
        half = x.half;
        begin = x.begin;
        task = x.task;
        work = x.work;
        copiedout = x.copiedout;
        chosen = x.chosen;
        fate = x.fate;
        own = x.own;
        next = x.next;
        origins = o;
        decided = x.decided;
      }

  with_others : (s ready : ℕ) (x : Course) (o : ℕ → Origin) (p : Phase) → AgreesAt s x ready p → AgreesAt s (with_origins x o) ready p
  with_others s ready x o (Between next outgoing) h = record { is_shut = h.is_shut; executes = h.executes; works = h.works; next_is = h.next_is; able = h.able }
  with_others s ready x o (Within i) h = record {
    is_open = h.is_open;
    begin_is = h.begin_is;
    task_is = h.task_is;
    work_is = h.work_is;
    out_is = h.out_is;
    shown = h.shown;
    own_is = h.own_is;
    none_next = h.none_next;
    able = h.able;
  }

  module _ (deferred t : ℕ) where
    none_begins_deferred : NoneBegins (defer_events 32 deferred t)
    unfolding NoneBegins
    none_begins_deferred = subst NoneBegins (append-nil (defer_events 32 deferred t))
        (by_defers NoneBegins 32 deferred t (λ n l m es h. (record { begins_not = refl; ends_not = refl; finishes_not = refl; gives_not = refl }, h)) [] tt)

    deferred_same : (x : Course) → after (course_by pr) x (defer_events 32 deferred t) ≡ with_origins x (after (course_by pr) x (defer_events 32 deferred t)).origins
    unfolding after
    deferred_same =
        subst (λ (es : List Event). (x : Course) → after (course_by pr) x es ≡ with_origins x (after (course_by pr) x es).origins) (append-nil (defer_events 32 deferred t))
        (by_defers (λ es. (x : Course) → after (course_by pr) x es ≡ with_origins x (after (course_by pr) x es).origins) 32 deferred t
        (λ n l m es h x. h (course_by pr x (Defers n t))) [] (λ x. refl))

  c_follows : (l : List IntervalEntry) (d : State) (t taken deferred : ℕ) (ys : List Event)
      → ((x : Course) → Agrees (intersection (held_over d.phase taken) d.marked) x (step_c d t taken deferred) (step_c d t taken deferred).phase → Follows l x ys)
      → (x : Course) → Agrees 0 x d d.phase → Follows l x (take_events 32 taken d.marked t ++ (defer_events 32 deferred t ++ ys))
  c_follows l d t taken deferred ys k x a =
      follows_all l (take_events 32 taken d.marked t) x (defer_events 32 deferred t ++ ys) (none_begins taken d.marked t)
      (follows_all l (defer_events 32 deferred t) y ys (none_begins_deferred deferred t)
      (k z (subst (λ (w : Course). Agrees (intersection (held_over d.phase taken) d.marked) w (step_c d t taken deferred) (step_c d t taken deferred).phase) (sym (deferred_same deferred t y)) agrees)))
    where
      y : Course
      y = taken_to taken d.marked t x

      z : Course
      z = after (course_by pr) (taken_to taken d.marked t x) (defer_events 32 deferred t)

      same : SameButSets x (taken_to taken d.marked t x)
      same = takes_same taken d.marked t x

      origin_is : (j : ℕ) (m : j < 32) → z.origins j ≡ deferred_origin j m deferred t (taken_origin j m taken t (x.origins j))
      origin_is j m =
          origins_after (defer_events 32 deferred t) (taken_to taken d.marked t x) j
          ∙ defers_origin j m deferred t ((taken_to taken d.marked t x).origins j)
          ∙ ap (deferred_origin j m deferred t) (origins_after (take_events 32 taken d.marked t) x j ∙ takes_origin j m taken d.marked t (x.origins j))

      go : (p : Phase) → AgreesAt 0 x d.jobs.ready p
          → AgreesAt (intersection (held_over p taken) d.marked) (taken_to taken d.marked t x) (union d.jobs.ready taken) (with_candidates d taken p)
      go (Between next outgoing) h = unfold with_candidates in record {
        is_shut = same.interval.is_open ∙ h.is_shut;
        executes = h.executes ∙ sym same.decided_same;
        works = h.works ∙ ap (λ (f : ℕ). work_by f (next_task next)) (sym same.fate_same);
        next_is = λ j m.
            takes_sets taken d.marked t false j m x h.is_shut ∙ ap (λ (b : Bool). b || (member j taken && member j d.marked)) (h.next_is j m ∙ none j) ∙ sym (intersection_member taken d.marked j m);
        able = λ j m z. union_right d.jobs.ready taken j m (intersection_left taken d.marked j z);
      }
      go (Within i) h = unfold with_candidates in record {
        is_open = same.interval.is_open ∙ h.is_open;
        begin_is = same.interval.begin_same ∙ h.begin_is;
        task_is = same.interval.task_same ∙ h.task_is;
        work_is = same.interval.work_same ∙ h.work_is;
        out_is = same.interval.out_same ∙ h.out_is;
        shown = shown_same i.copyin same.chosen_same same.fate_same h.shown;
        own_is = λ j m.
            takes_sets taken d.marked t true j m x h.is_open ∙ ap (λ (b : Bool). b || (member j taken && member j d.marked)) (h.own_is j m)
            ∙ sym (united i.candidates (intersection taken d.marked) j m ∙ ap (λ (b : Bool). member j i.candidates || b) (intersection_member taken d.marked j m));
        none_next = λ j m. ap (member j) (takes_other taken d.marked t true x h.is_open) ∙ h.none_next j m;
        able = λ j m z.
            ⊎_elim (λ c. more (member j d.jobs.ready) (member j taken) (copyin_bit j i.copyin) (member j (union d.jobs.ready taken)) (united d.jobs.ready taken j m) (h.able j m c))
            (λ c. omega (arith, ap bit (union_right d.jobs.ready taken j m (intersection_left taken d.marked j c))))
            (union_out i.candidates (intersection taken d.marked) j z);
      }
        where
          shown_same : (c : CopyIn) {a a' : Option ℕ} {f f' : ℕ} → a' ≡ a → f' ≡ f → Shown a f c → Shown a' f' c
          shown_same c e1 e2 h = rw (e1, e2) h

          more : (r n : Bool) (c : ℕ) (u : Bool) → u ≡ (r || n) → 1 ≤ bit r + c → 1 ≤ bit u + c
          more true n c u e l = rw e (omega arith)
          more false n c u e l = omega arith

      agrees : Agrees (intersection (held_over d.phase taken) d.marked) (with_origins (taken_to taken d.marked t x) z.origins) (step_c d t taken deferred) (step_c d t taken deferred).phase
      agrees = unfold step_c in record {
        table_is = a.table_is;
        half_is = same.interval.half_same ∙ a.half_is;
        origins_are = λ j m.
            subst (λ (o : Origin). OriginIs j o (step_c d t taken deferred).jobs.release (step_c d t taken deferred).waiting) (sym (origin_is j m))
            (c_origin j m d t taken deferred (x.origins j) (a.origins_are j m));
        phase = with_others (intersection (held_over d.phase taken) d.marked) (union d.jobs.ready taken) (taken_to taken d.marked t x) z.origins (with_candidates d taken d.phase) (go d.phase a.phase);
      }

  -- ---- d, e

  pub gives_same : (p : Phase) → giving_events_in p p ≡ []
  unfolding giving_events_in
  gives_same (Between next outgoing) = refl
  gives_same (Within i) = go (given_way i.copyin)
    where
      go : (g : Option ℕ) → giving_events g g ≡ []
      go None = unfold giving_events in refl
      go (Some n) = unfold giving_events in refl

  pub c_gives : (d : State) (taken : ℕ) (p q : Phase) → giving_events_in (with_candidates d taken p) q ≡ giving_events_in p q
  unfolding giving_events_in with_candidates
  c_gives d taken (Between next outgoing) q = refl
  c_gives d taken (Within i) (Between next outgoing) = refl
  c_gives d taken (Within i) (Within j) = refl

  -- from a phase to a state: no copy-in gives way, or one does
  abbrev Gave : ℕ → Course → Phase → State → Type 0
  Gave s x p y =
      ((giving_events_in p y.phase ≡ []) × Agrees s x y y.phase)
      ⊎ ((n : ℕ) × (giving_events_in p y.phase ≡ GivesWay n ∷ []) × Agrees s (course_by pr x (GivesWay n)) y y.phase
      × (x.is_open ≡ true) × ((x.fate ≡ 0) ⊎ ((x.fate ≡ 1) × (x.chosen ≡ Some n))))

  gives_on : (l : List IntervalEntry) (s : ℕ) (x : Course) (p : Phase) (y : State) (ys : List Event) → Gave s x p y
      → ((z : Course) → Agrees s z y y.phase → Follows l z ys) → Follows l x (giving_events_in p y.phase ++ ys)
  gives_on l s x p y ys g k =
      ⊎_elim (λ h. rw h.0 (k x h.1)) (λ h. rw h.1 (follows_gives l x h.0 ys h.3 h.4 (k (course_by pr x (GivesWay h.0)) h.2))) g

  -- an interval with another copy-in, where what the course shows of it and who is able are said anew
  with_other_copy : {x y : Course} {ready ready' : ℕ} (i : Interval) (c : CopyIn) → SameButCopy x y → InCourse x ready i → Shown y.chosen y.fate c
      → ((k : ℕ) → k < 32 → 1 ≤ bit (member k ready) + copyin_bit k i.copyin → 1 ≤ bit (member k ready') + copyin_bit k c)
      → InCourse y ready' (with_copyin i c)
  with_other_copy i c same h shown able = record {
    is_open = same.interval.is_open ∙ h.is_open;
    begin_is = same.interval.begin_same ∙ h.begin_is;
    task_is = same.interval.task_same ∙ h.task_is;
    work_is = same.interval.work_same ∙ h.work_is;
    out_is = same.interval.out_same ∙ h.out_is;
    shown = shown;
    own_is = λ k l. ap (member k) same.own_same ∙ h.own_is k l;
    none_next = λ k l. ap (member k) same.next_same ∙ h.none_next k l;
    able = λ k l m. able k l (h.able k l m);
  }

  cancel_gave : (s : ℕ) (x : Course) (d : State) (i : Interval) (n fate : ℕ) → HeldFor i.copyin n fate → Agrees s x d (Within i) → Gave s x (Within i) (cancel d i n fate true)
  unfolding cancel giving_events_in giving_events
  cancel_gave s x d i n fate h a = inr (
    n,
    gives,
    record {
      table_is = a.table_is;
      half_is = a.half_is;
      origins_are = a.origins_are;
      phase = with_other_copy i (Cancelled n fate) gives_same_but a.phase
          (refl, fate_is, ⊎_elim (λ z. ap (λ (f : ℕ). eqb f 1) z.2) (λ z. ap (λ (f : ℕ). eqb f 1) z.1) h) able;
    },
    a.phase.is_open,
    under_way,
  )
    where
      gives_same_but : SameButCopy x (course_by pr x (GivesWay n))
      gives_same_but = record { interval = record { is_open = refl; begin_same = refl; half_same = refl; task_same = refl; work_same = refl; out_same = refl }; own_same = refl; next_same = refl; origins_same = refl }

      gives : giving_events (given_way i.copyin) (Some n) ≡ GivesWay n ∷ []
      gives = unfold giving_events in ⊎_elim (λ z. ap (λ (c : CopyIn). giving_events (given_way c) (Some n)) z.1) (λ z. ap (λ (c : CopyIn). giving_events (given_way c) (Some n)) z.0) h

      fate_is : cond (eqb x.fate 1) 3 2 ≡ fate
      fate_is =
          ⊎_elim
          (λ z. let y : (x.chosen ≡ None) × (x.fate ≡ 0) = subst (Shown x.chosen x.fate) z.1 a.phase.shown in ap (λ (f : ℕ). cond (eqb f 1) 3 2) y.1 ∙ sym z.2)
          (λ z. let y : (x.chosen ≡ Some n) × (x.fate ≡ 1) = subst (Shown x.chosen x.fate) z.0 a.phase.shown in ap (λ (f : ℕ). cond (eqb f 1) 3 2) y.1 ∙ sym z.1)
          h

      under_way : (x.fate ≡ 0) ⊎ ((x.fate ≡ 1) × (x.chosen ≡ Some n))
      under_way =
          ⊎_elim
          (λ z. let y : (x.chosen ≡ None) × (x.fate ≡ 0) = subst (Shown x.chosen x.fate) z.1 a.phase.shown in inl y.1)
          (λ z. let y : (x.chosen ≡ Some n) × (x.fate ≡ 1) = subst (Shown x.chosen x.fate) z.0 a.phase.shown in inr (y.1, y.0))
          h

      bit_is : (k : ℕ) → copyin_bit k i.copyin ≡ bit (eqb k n)
      bit_is k = ⊎_elim (λ z. ap (copyin_bit k) z.1) (λ z. ap (copyin_bit k) z.0) h

      able : (k : ℕ) → k < 32 → 1 ≤ bit (member k d.jobs.ready) + copyin_bit k i.copyin → 1 ≤ bit (member k (insert n d.jobs.ready)) + 0
      able k l m = rw (inserted n d.jobs.ready k l) (go (eqb k n) (member k d.jobs.ready) (omega (arith, bit_is k)))
        where
          go : (a b : Bool) → 1 ≤ bit b + bit a → 1 ≤ bit (a || b) + 0
          go true b l = omega arith
          go false b l = omega arith

  d_gave : (s : ℕ) (x : Course) (d : State) (taken : ℕ) → Agrees s x d d.phase → Gave s x d.phase (step_d d taken d.phase)
  d_gave s x d taken a =
      d_fates (Gave s x d.phase) d taken (inl (gives_same d.phase, a))
      (λ i n fate e h b. subst (λ (p : Phase). Gave s x p (cancel d i n fate true)) (sym e) (cancel_gave s x d i n fate h (subst (Agrees s x d) e a)))

  -- the choice leaves what agrees
  record Chooses (s : ℕ) (d y : State) : Type 0 where
    gives : (p : Phase) → giving_events_in p y.phase ≡ giving_events_in p d.phase
    agrees : (x : Course) → Agrees s x d d.phase → Agrees s x y y.phase

  chose : (s : ℕ) (d : State) (t : ℕ) (i : Interval) (q : Option ℕ) → i.copyin ≡ Unchosen → (x : Course) → Agrees s x d (Within i) → Agrees s x (choose d t i q) (choose d t i q).phase
  unfolding choose
  chose s d t i None e x a = record {
    table_is = a.table_is;
    half_is = a.half_is;
    origins_are = a.origins_are;
    phase = with_other_copy i NoneChosen (unchanged x) a.phase (subst (Shown x.chosen x.fate) e a.phase.shown) (λ k l m. omega (arith, m, ap (copyin_bit k) e));
  }
  chose s d t i (Some q) e x a = record {
    table_is = a.table_is;
    half_is = a.half_is;
    origins_are = a.origins_are;
    phase = with_other_copy i _ (unchanged x) a.phase (subst (Shown x.chosen x.fate) e a.phase.shown)
        (λ k l m. rw (removed q d.jobs.ready k l) (go (eqb k q) (member k d.jobs.ready) (omega (arith, m, ap (copyin_bit k) e))));
  }
    where
      go : (a b : Bool) → 1 ≤ bit b + 0 → 1 ≤ bit (not a && b) + bit a
      go true b l = omega arith
      go false b l = omega arith

  pub choose_gives : (d : State) (t : ℕ) (i : Interval) (q : Option ℕ) (p : Phase) → i.copyin ≡ Unchosen → giving_events_in p (choose d t i q).phase ≡ giving_events_in p (Within i)
  unfolding choose giving_events_in
  choose_gives d t i None (Between next outgoing) e = refl
  choose_gives d t i None (Within j) e = ap (λ (c : CopyIn). giving_events (given_way j.copyin) (given_way c)) (sym e)
  choose_gives d t i (Some q) (Between next outgoing) e = refl
  choose_gives d t i (Some q) (Within j) e = ap (λ (c : CopyIn). giving_events (given_way j.copyin) (given_way c)) (sym e)

  e_chooses : (s : ℕ) (d : State) (t : ℕ) → Chooses s d (step_e d t d.phase)
  e_chooses s d t =
      e_cases (Chooses s d) d t (record { gives = λ p. refl; agrees = λ x a. a })
      (λ i e c u. record {
        gives = λ p. choose_gives d t i (highest_of d d.jobs.ready) p c ∙ ap (giving_events_in p) (sym e);
        agrees = λ x a. chose s d t i (highest_of d d.jobs.ready) c x (subst (Agrees s x d) e a);
      })

  e_gave : (s : ℕ) (x : Course) (d : State) (t taken deferred : ℕ) → let c : State = step_c d t taken deferred in let y : State = step_d c taken c.phase in
      Agrees s x c c.phase → Gave s x d.phase (step_e y t y.phase)
  e_gave s x d t taken deferred a =
      let c : State = step_c d t taken deferred in
      let y : State = step_d c taken c.phase in
      let e : Chooses s y (step_e y t y.phase) = e_chooses s y t in
      ⊎_elim
      (λ h. inl (sym (gives_c (step_e y t y.phase).phase) ∙ e.gives c.phase ∙ h.0, e.agrees x h.1))
      (λ h. inr (h.0, sym (gives_c (step_e y t y.phase).phase) ∙ e.gives c.phase ∙ h.1, e.agrees (course_by pr x (GivesWay h.0)) h.2, h.3, h.4))
      (d_gave s x c taken a)
    where
      gives_c : (q : Phase) → giving_events_in (step_c d t taken deferred).phase q ≡ giving_events_in d.phase q
      gives_c q = unfold step_c in c_gives d taken d.phase q

  -- ---- g

  opens_follows : (l : List IntervalEntry) (table : Table) (t : ℕ) (next : Next) (outgoing : Outgoing) (q : Phase) (x : Course) (ys : List Event)
      → Both table.columns t (begin_processor table t next) (begin_copyout table t outgoing) q → x.is_open ≡ false → next_task next ≡ x.decided
      → Follows l (course_by pr x (Begins t (processor_task (begin_processor table t next)) (copyout_task (begin_copyout table t outgoing)))) ys
      → Follows l x (begin_events t (Between next outgoing) q ++ (start_events t (Between next outgoing) q ++ ys))
  opens_follows l table t next outgoing (Between y z) x ys b o e h = absurd b
  opens_follows l table t next outgoing (Within j) x ys b o e h =
      unfold begin_events in
      follows_begins l x t (processor_task j.processor) (copyout_task j.copyout) (start_events t (Between next outgoing) (Within j) ++ ys) o
      (ap processor_task b.0 ∙ runs table t next ∙ e)
      (by_starts (Follows l y) t (λ k es z. follows_on l y (Starts k t) es (record { begins_not = refl; ends_not = refl; finishes_not = refl; gives_not = refl }) z) (Between next outgoing) (Within j) ys
      (subst (λ (o : Option ℕ). Follows l (course_by pr x (Begins t (processor_task j.processor) o)) ys) (ap copyout_task (sym b.1))
      (subst (λ (r : Option ℕ). Follows l (course_by pr x (Begins t r (copyout_task (begin_copyout table t outgoing)))) ys) (ap processor_task (sym b.0)) h)))
    where
      y : Course
      y = course_by pr x (Begins t (processor_task j.processor) (copyout_task j.copyout))

  shut_follows : (l : List IntervalEntry) (t : ℕ) (x : Course) (next : Next) (outgoing : Outgoing) (q : Phase) (ys : List Event) → q ≡ Between next outgoing → Follows l x ys
      → Follows l x (begin_events t (Between next outgoing) q ++ (start_events t (Between next outgoing) q ++ ys))
  unfolding begin_events start_events
  shut_follows l t x next outgoing q ys e h = rw e h

  g_follows : (l : List IntervalEntry) (s : ℕ) (f : State) (t taken : ℕ) (p : Phase) (ys : List Event) → f.phase ≡ p
      → ((k : ℕ) → k < 32 → member k s ≡ member k (intersection taken f.marked))
      → ((x : Course) → Agrees 0 x (step_g f t taken p) (step_g f t taken p).phase → Follows l x ys)
      → (x : Course) → Agrees s x f p → Follows l x (begin_events t p (step_g f t taken p).phase ++ (start_events t p (step_g f t taken p).phase ++ ys))
  unfolding step_g begin_events start_events
  g_follows l s f t taken (Within i) ys e m k x a =
      k x (subst (Agrees 0 x f) (sym e) (record { table_is = a.table_is; half_is = a.half_is; origins_are = a.origins_are; phase = a.phase }))
  g_follows l s f t taken (Between next outgoing) ys e m k x a = go (wanted next outgoing f.jobs.ready) refl k
    where
      b : State
      b = begin f t taken next outgoing

      y : Course
      y = course_by pr x (Begins t (processor_task (begin_processor f.table t next)) (copyout_task (begin_copyout f.table t outgoing)))

      begun : Agrees 0 (course_by pr x (Begins t (processor_task (begin_processor f.table t next)) (copyout_task (begin_copyout f.table t outgoing)))) (begin f t taken next outgoing) (begin f t taken next outgoing).phase
      begun = unfold begin in record {
        table_is = a.table_is;
        half_is = ap (λ (h : ℕ). 1 - h) a.half_is;
        origins_are = a.origins_are;
        phase = record {
          is_open = refl;
          begin_is = refl;
          task_is = refl;
          work_is = ap (work_by x.fate) (runs f.table t next) ∙ sym a.phase.works;
          out_is = refl;
          shown = (refl, refl);
          own_is = λ j l. a.phase.next_is j l ∙ m j l;
          none_next = λ j l. none j;
          able = λ j l c. omega (arith, ap bit (a.phase.able j l (m j l ∙ c)));
        };
      }

      go : (w : Bool) → wanted next outgoing f.jobs.ready ≡ w
          → ((x : Course) → Agrees 0 x (cond w (step_e b t b.phase) f) (cond w (step_e b t b.phase) f).phase → Follows l x ys)
          → Follows l x (begin_events t (Between next outgoing) (cond w (step_e b t b.phase) f).phase ++ (start_events t (Between next outgoing) (cond w (step_e b t b.phase) f).phase ++ ys))
      go true w k =
          opens_follows l f.table t next outgoing (step_e b t b.phase).phase x ys
          (begun_both f.table.columns t b (begin_processor f.table t next) (begin_copyout f.table t outgoing) (unfold begin in (refl, refl)))
          a.phase.is_shut a.phase.executes (k y ((e_chooses 0 b t).agrees y begun))
      go false w k =
          shut_follows l t x next outgoing f.phase ys e
          (k x (subst (Agrees 0 x f) (sym e) (record {
            table_is = a.table_is;
            half_is = a.half_is;
            origins_are = a.origins_are;
            phase = record {
              is_shut = a.phase.is_shut;
              executes = a.phase.executes;
              works = a.phase.works;
              next_is = λ j l. a.phase.next_is j l ∙ idle j l ∙ sym (none j);
              able = λ j l c. clash (member j 0) c (none j);
            };
          })))
        where
          idle : (j : ℕ) → j < 32 → member j s ≡ false
          idle j l =
              by-test (member j s)
              (λ c. clash (member j 0) (ap (member j) (sym (unwanted next outgoing f.jobs.ready w).2) ∙ a.phase.able j l c) (none j)) (λ c. c)

  -- ---- an instant

  module _ (l : List IntervalEntry) (d : State) (t set : ℕ) (ys : List Event) (k : (x : Course) → Agrees 0 x (at_g d t set) (at_g d t set).phase → Follows l x ys) where
    abbrev B : State
    B = (at_b d t).state

    abbrev since : ℕ
    since = intersection (held_over B.phase (taken_at d t set)) B.marked

    marked_f : (at_f d t set).state.marked ≡ B.marked
    unfolding at_f step_c
    marked_f = ap (λ (x : Frame). x.marked) (b_frame (fresh_stage (at_e d t set)) t) ∙ ap (λ (x : Frame). x.marked) (frame_e d t set)

    -- where an interval is still open, none was taken since its end
    none_since : (i : Interval) → (at_e d t set).phase ≡ Within i → (j : ℕ) → j < 32 → member j since ≡ false
    none_since i e j m = go B.phase (sym (situation_e d t set) ∙ ap situation_of e)
      where
        go : (p : Phase) → situation_of p ≡ situation_of (Within i) → member j (intersection (held_over p (taken_at d t set)) B.marked) ≡ false
        go (Between next outgoing) h = absurd (let z : ◌≡◌ {A = ℕ} 0 1 = cc in omega arith)
        go (Within n) h = intersection_member 0 B.marked j m ∙ ap (λ (b : Bool). b && member j B.marked) (none j)

    rest_follows : (x : Course) → Agrees since x (at_e d t set) (at_e d t set).phase
        → Follows (closed_of (at_f d t set).closed ++ l) x (end_events t (at_e d t set).phase (at_f d t set).state.phase
        ++ (begin_events t (at_f d t set).state.phase (at_g d t set).phase ++ (start_events t (at_f d t set).state.phase (at_g d t set).phase ++ ys)))
    unfolding at_f at_g
    rest_follows =
        let f : State = (at_f d t set).state in
        b_follows l since (fresh_stage (at_e d t set)) t (at_e d t set).phase _ refl refl none_since
        (g_follows l since f t (held_at d t set) f.phase ys refl (λ j m. ap (λ (s : ℕ). member j (intersection (held_at d t set) s)) (sym marked_f)) k)

    tail_follows : (x : Course) → Agrees 0 x B B.phase
        → Follows (closed_of (at_f d t set).closed ++ l) x (take_events 32 (taken_at d t set) d.marked t ++ (tail_of d t set ++ ys))
    unfolding at_e
    tail_follows x a =
        let m : List IntervalEntry = closed_of (at_f d t set).closed ++ l in
        subst (λ (z : ℕ). Follows m x (take_events 32 (taken_at d t set) z t ++ (tail_of d t set ++ ys))) (marked_b d t)
        (rw (tail_parts d t set ys)
        (c_follows m B t (taken_at d t set) (deferred_at d t set) _
        (λ y h. gives_on m since y B.phase (at_e d t set) _ (e_gave since y B t (taken_at d t set) (deferred_at d t set) h) rest_follows) x a))

    instant_follows : (x : Course) → Agrees 0 x d d.phase → Follows (closed_in (occurred d t set).closed ++ l) x (happens d t set ++ ys)
    instant_follows x a =
        rw (happens_parts d t set ys, front_parts d t later)
        (subst (λ (m : List IntervalEntry). Follows m x (Comes t ∷ whole)) (closing_is (at_b d t).closed (at_f d t set).closed (one_closes d t set) l ∙ closing_so)
        (follows_on all x (Comes t) whole (record { begins_not = refl; ends_not = refl; finishes_not = refl; gives_not = refl })
        (by_processor_at (Follows all x) t (λ n es z. follows_on all x (Starts n t) es (record { begins_not = refl; ends_not = refl; finishes_not = refl; gives_not = refl }) z)
        (λ n es z. follows_on all x (Stops n t) es (record { begins_not = refl; ends_not = refl; finishes_not = refl; gives_not = refl }) z) d.phase _
        (front x (record { table_is = a.table_is; half_is = a.half_is; origins_are = a.origins_are; phase = a.phase })))))
      where
        later : List Event
        later = take_events 32 (taken_at d t set) d.marked t ++ (tail_of d t set ++ ys)

        whole : List Event
        whole =
            processor_events_in t d.phase
            ++ (finish_events_in t d.phase ++ (completion_events (at_a d t).done ++ (end_events t (at_a d t).state.phase (at_b d t).state.phase ++ later)))

        all : List IntervalEntry
        all = closed_of (at_b d t).closed ++ (closed_of (at_f d t set).closed ++ l)

        closing_so : closed_in (closing (at_b d t).closed (at_f d t set).closed) ++ l ≡ closed_in (occurred d t set).closed ++ l
        closing_so = unfold occurred in refl

        front : (x : Course) → Agrees 0 x (at_clock d t) d.phase
            → Follows (closed_of (at_b d t).closed ++ (closed_of (at_f d t set).closed ++ l)) x (finish_events_in t d.phase ++ (completion_events (at_a d t).done
            ++ (end_events t (at_a d t).state.phase (at_b d t).state.phase ++ (take_events 32 (taken_at d t set) d.marked t ++ (tail_of d t set ++ ys)))))
        front = unfold at_b at_a in
            a_follows all 0 (at_clock d t) t d.phase _ refl
            (b_follows (closed_of (at_f d t set).closed ++ l) 0 (at_a d t) t (at_a d t).state.phase later refl (a_none (at_clock d t) t d.phase) (λ i e j m. none j) tail_follows)

-- ---- along the calls

module _ (table : Table) (marks : ℕ) where
  abbrev pr : List ℕ
  pr = table.priority

  along : (cs : List Call) (d : State) (x : Course) → Agrees table.priority 0 x d d.phase → Follows table.priority (closed (all_occurred d cs)) x (history d cs)
  along =
      walk_told (λ d os h. (x : Course) → Agrees pr 0 x d d.phase → Follows pr (closed os) x h)
      (λ d x a. record { executing = unfold Executing-so in tt; says = unfold ended closed in refl })
      (λ d t set cs e k x a. unfold closed in instant_follows pr (closed (all_occurred (at_g d t set) cs)) d t set (history (at_g d t set) cs) k x a)
      (λ d m os h k x a. k x (record { table_is = a.table_is; half_is = a.half_is; origins_are = a.origins_are; phase = a.phase }))

  -- every list of calls from the state that opening returned
  pub courses : (calls : List Call) → Follows table.priority (closed (all_occurred (opened table marks) calls)) no_course (history (opened table marks) calls)
  courses calls =
      along calls (opened table marks) no_course
      (unfold opened in record {
        table_is = refl;
        half_is = refl;
        origins_are = λ k l. unfold opened in opened_origin table marks k l;
        phase = record {
          is_shut = refl;
          executes = refl;
          works = refl;
          next_is = λ j l. refl;
          able = λ j l c. clash (member j 0) c (none j);
        };
      })
