-- The order, along a history: the claim on each release, from what the states say of the intervals to come (Waiting).
use Rattle.std.proofs.Common.{◌≡◌, ◌∷◌, ◌++◌, ◌≤◌, ◌<◌}
use Rattle.guarantees.specs.Types.{refl, sym, ap, ◌∙◌, subst, Bool, true, false, cond, false≢true, List, [], ℕ, zero, suc, Table, Option, None, Some, CopyIn, Unchosen, NoneChosen, Copying, Loaded, Cancelled, Processor, Interval, Next, NoneNext, LoadedNext, PromotedNext, Outgoing, NoneOutgoing, AwaitsCopyOut, Phase, Between, Within, State, Stage, Call}
use native.Mathlib.Omega.{arith}
use native.Mathlib.Nat.{not-suc-le-zero, le_of_suc-le-suc}
use borrow.Author.Tests.{eqb-true, ltb-false}
use lib.Dec.{eqb}
use lib.ListN.{get_or, length}
use Rattle.sets.specs.Sets.{member, intersection, insert, union}
use Rattle.sets.proofs.Laws.{by-test, clash, none, union_right, intersection_in, insert_other}
use Rattle.guarantees.proofs.Highest.{Best}
use Rattle.guarantees.proofs.Walk.{walk}
use Rattle.guarantees.specs.History.{history, Event, Starts, Stops, Comes, Takes, Defers, GivesWay, Begins, Completes, Finishes, Ends, happens, finish_events_in, completion_events, end_events, take_events, defer_events, giving_events_in, begin_events, start_events}
use Rattle.rules.specs.Instant.{step_a, step_b, step_c, step_d, step_e, step_g, close, close_stage, over, with_candidates, cancel, cancel_by, choose, begin, begin_processor, wanted, taken, ended, processor_task, at_a, at_b, at_e, at_f, at_g, taken_at, deferred_at, fresh_stage}
use Rattle.rules.specs.With.{at_clock}
use Rattle.rules.specs.Order.{highest_of, outranks}
use Rattle.guarantees.specs.Queries.{is_task, Situation, NoneOpen, Open, situation, intervals, begin_tick, after, each, first, upto, met}
use Rattle.guarantees.specs.Claim.{NotLower}
use Rattle.guarantees.proofs.Frames.{table_b, marked_b, table_g}
use Rattle.guarantees.proofs.Cases.{held_at, d_cases, e_cases}
use Rattle.guarantees.proofs.Waiting.{Waiting, Fate, Rule, Rival, Bound, Old, Ahead, Then, rule_old, rule_none, e_waiting, from_c, to_come, ahead, soon}
use Rattle.guarantees.proofs.Steps.{processor_task_same, Opened, e_opens, NewIn, NewAt, c_new, best_of}
use Rattle.guarantees.proofs.Events.{by_processor, by_finishes, by_gives, by_completes, by_takes, by_defers, by_starts, tail_of, tail_intervals, front_of, happens_parts, front_parts, tail_parts}

-- the situation in a phase
abbrev pub situation_of : Phase → Situation
situation_of (Between next outgoing) = NoneOpen
situation_of (Within i) = Open (processor_task i.processor)

-- ---- the situation, step by step

pub c_situation : (d : State) (taken : ℕ) (p : Phase) → situation_of (with_candidates d taken p) ≡ situation_of p
unfolding with_candidates
c_situation d taken (Between next outgoing) = refl
c_situation d taken (Within i) = refl

pub d_situation : (d : State) (taken : ℕ) → situation_of (step_d d taken d.phase).phase ≡ situation_of d.phase
unfolding cancel
d_situation d taken = d_cases (λ x. situation_of x.phase ≡ situation_of d.phase) d taken refl (λ i n fate e s b. rw e)

choose_situation : (d : State) (t : ℕ) (i : Interval) (q : Option ℕ) → situation_of (choose d t i q).phase ≡ Open (processor_task i.processor)
unfolding choose
choose_situation d t i None = refl
choose_situation d t i (Some q) = refl

pub e_situation : (d : State) (t : ℕ) → situation_of (step_e d t d.phase).phase ≡ situation_of d.phase
e_situation d t = e_cases (λ x. situation_of x.phase ≡ situation_of d.phase) d t refl (λ i e s u. choose_situation d t i (highest_of d d.jobs.ready) ∙ rw e)

pub situation_e : (d : State) (t set : ℕ) → situation_of (at_e d t set).phase ≡ situation_of (at_b d t).state.phase
unfolding at_e step_c
situation_e d t set =
    let b : State = (at_b d t).state in
    let taken : ℕ = taken_at d t set in
    let deferred : ℕ = deferred_at d t set in
    let c : State = step_c b t taken deferred in
    let x : State = step_d c taken c.phase in
    e_situation x t ∙ d_situation c taken ∙ c_situation b taken b.phase

module _ (pr : List ℕ) where
  -- the claim on a release of task n, marked or not, where rs are the intervals that begin after it
  pub record Waits (n : ℕ) (marked : Bool) (at : Situation) (rs : List (Option ℕ)) : Type 0 where
    pub third : (i : ℕ) → 2 ≤ i → i < length (met n at rs) → NotLower pr n (get_or (met n at rs) i None)
    pub later : marked ≡ true → (i : ℕ) → 1 ≤ i → i < length (met n at rs) → NotLower pr n (get_or (met n at rs) i None)

  -- an interval begins at t, if none is open
  abbrev pub AtOnce : ℕ → Situation → Option ℕ → Type 0
  AtOnce t at b = at ≡ NoneOpen → b ≡ Some t

  -- and on each release, along a history
  unfoldable pub Kept : Situation → List Event → Type 0
  Kept s [] = Unit {0}
  Kept s (Comes t ∷ es) = Kept s es
  Kept s (Takes n t m ∷ es) = (Waits n m s (intervals es) × AtOnce t s (begin_tick es)) × Kept s es
  Kept s (Finishes n ∷ es) = Kept s es
  Kept s (Defers n t ∷ es) = Kept s es
  Kept s (GivesWay n ∷ es) = Kept s es
  Kept s (Completes n t ∷ es) = Kept s es
  Kept s (Starts n t ∷ es) = Kept s es
  Kept s (Stops n t ∷ es) = Kept s es
  Kept s (Ends t ∷ es) = Kept NoneOpen es
  Kept s (Begins t r l ∷ es) = Kept (Open r) es

  split : (s : Situation) (before after : List Event) (n t : ℕ) (m : Bool) → Kept s (before ++ (Takes n t m ∷ after))
      → Waits n m (situation s before) (intervals after) × AtOnce t (situation s before) (begin_tick after)
  unfolding Kept after
  split s [] after n t m k = k.0
  split s (Comes t' ∷ es) after n t m k = split s es after n t m k
  split s (Takes n' t' m' ∷ es) after n t m k = split s es after n t m k.1
  split s (Finishes n' ∷ es) after n t m k = split s es after n t m k
  split s (Defers n' t' ∷ es) after n t m k = split s es after n t m k
  split s (GivesWay n' ∷ es) after n t m k = split s es after n t m k
  split s (Completes n' t' ∷ es) after n t m k = split s es after n t m k
  split s (Starts n' t' ∷ es) after n t m k = split s es after n t m k
  split s (Stops n' t' ∷ es) after n t m k = split s es after n t m k
  split s (Ends t' ∷ es) after n t m k = split NoneOpen es after n t m k
  split s (Begins t' r l ∷ es) after n t m k = split (Open r) es after n t m k

  -- so the claim holds of each release
  pub released_in : (h before after : List Event) (n t : ℕ) (m : Bool) → Kept NoneOpen h → h ≡ before ++ (Takes n t m ∷ after)
      → Waits n m (situation NoneOpen before) (intervals after) × AtOnce t (situation NoneOpen before) (begin_tick after)
  released_in h before after n t m k e = split NoneOpen before after n t m (subst (λ (x : List Event). Kept NoneOpen x) e k)

  -- ---- from the walk along the intervals to the claim

  module _ (n : ℕ) where
    -- past the first interval of a list
    past : (X : Option ℕ → Type 0) (r : Option ℕ) (rs : List (Option ℕ)) (i : ℕ) → suc i < length (upto n (r ∷ rs))
        → (is_task n r ≡ false → i < length (upto n rs) → X (get_or (upto n rs) i None)) → X (get_or (upto n (r ∷ rs)) (suc i) None)
    unfolding upto
    past X r rs i l h = go (is_task n r) refl l
      where
        go : (b : Bool) → is_task n r ≡ b → suc i < length (r ∷ cond b [] (upto n rs)) → X (get_or (cond b [] (upto n rs)) i None)
        go true e l = absurd (not-suc-le-zero (le_of_suc-le-suc l))
        go false e l = h e (le_of_suc-le-suc l)

    ahead_at : (rs : List (Option ℕ)) → Ahead pr n rs → (i : ℕ) → i < length (upto n rs) → NotLower pr n (get_or (upto n rs) i None)
    unfolding Ahead upto
    ahead_at [] a i l = absurd (not-suc-le-zero l)
    ahead_at (r ∷ rs) a zero l = a.0
    ahead_at (r ∷ rs) a (suc i) l = past (NotLower pr n) r rs i l (λ e m. ahead_at rs (a.1 e) i m)

    then_map : (P Q : Option ℕ → Type 0) → ((r : Option ℕ) → P r → Q r) → (rs : List (Option ℕ)) → Then pr n P rs → Then pr n Q rs
    unfolding Then
    then_map P Q f [] a = tt
    then_map P Q f (r ∷ rs) a = (f r a.0, a.1)

    then_at : (Q : Option ℕ → Type 0) (rs : List (Option ℕ)) → Then pr n Q rs → (i : ℕ) → suc i < length (upto n rs) → NotLower pr n (get_or (upto n rs) (suc i) None)
    unfolding Then upto
    then_at Q [] a i l = absurd (not-suc-le-zero l)
    then_at Q (r ∷ rs) a i l = past (NotLower pr n) r rs i l (λ e m. ahead_at rs (a.1 e) i m)

    then_first : (Q : Option ℕ → Type 0) (rs : List (Option ℕ)) → Then pr n Q rs → 0 < length (upto n rs) → Q (get_or (upto n rs) 0 None)
    unfolding Then upto
    then_first Q [] a l = absurd (not-suc-le-zero l)
    then_first Q (r ∷ rs) a l = a.0

    -- what the interval after the open one runs, for a job that is marked or not
    abbrev Second : Bool → Option ℕ → Type 0
    Second m r = m ≡ true → NotLower pr n r

    waits_open : (m : Bool) (r : Option ℕ) (rs : List (Option ℕ)) → Then pr n (Second m) rs → Waits n m (Open r) rs
    waits_open m r rs a = record { third = third; later = later }
      where
        third : (i : ℕ) → 2 ≤ i → i < length (r ∷ upto n rs) → NotLower pr n (get_or (r ∷ upto n rs) i None)
        third zero h l = absurd (omega arith)
        third (suc zero) h l = absurd (omega arith)
        third (suc (suc i)) h l = then_at (Second m) rs a i (le_of_suc-le-suc l)

        later : m ≡ true → (i : ℕ) → 1 ≤ i → i < length (r ∷ upto n rs) → NotLower pr n (get_or (r ∷ upto n rs) i None)
        later e zero h l = absurd (omega arith)
        later e (suc zero) h l = then_first (Second m) rs a (le_of_suc-le-suc l) e
        later e (suc (suc i)) h l = then_at (Second m) rs a i (le_of_suc-le-suc l)

    waits_none_open : (m : Bool) (rs : List (Option ℕ)) → Then pr n (λ r. Unit {0}) rs → Waits n m NoneOpen rs
    waits_none_open m rs a = record { third = λ i h. from i (omega arith); later = λ e i h. from i h }
      where
        from : (i : ℕ) → 1 ≤ i → i < length (upto n rs) → NotLower pr n (get_or (upto n rs) i None)
        from zero h l = absurd (omega arith)
        from (suc i) h l = then_at (λ r. Unit {0}) rs a i l

    -- ---- the releases of an instant

    module _ (small : n < 32) where
      -- a marked release
      not_outranked : (d : State) (taken c : ℕ) (q : Option ℕ) → member n taken ≡ true → member n d.marked ≡ true
          → Best d.table.priority (intersection taken d.marked) q → outranks d c q ≡ false → get_or d.table.priority c 0 ≤ get_or d.table.priority n 0
      not_outranked d taken c None h m b e = clash (member n (intersection taken d.marked)) (intersection_in taken d.marked n small h m) (b n small)
      not_outranked d taken c (Some q) h m b e =
          omega (arith, b.2 n small (intersection_in taken d.marked n small h m), ltb-false (get_or d.table.priority q 0) (get_or d.table.priority c 0) e)

      d_marked : (d : State) (taken : ℕ) (i : Interval) (c : CopyIn) → i.copyin ≡ c → d.phase ≡ Within i → d.table.priority ≡ pr → NewIn d taken i
          → member n taken ≡ true → member n d.marked ≡ true → Old pr n (cancel_by d taken i c)
      unfolding cancel_by cancel
      d_marked d taken i c s e t f h m = go c s
        where
          r : member n d.jobs.ready ≡ true
          r = f.ready n small h

          rival : (ready : ℕ) → member n ready ≡ true → Rival pr n ready i.candidates
          rival ready y = record { who = n; task = small; is_ready = y; is_candidate = f.candidates n small h m; high = omega arith }

          stays : Bound pr n d.jobs.ready i.candidates i.copyin → Old pr n d
          stays b = record { table = t; ready = λ y. r; fate = subst (Fate pr n (Bound pr n) (NotLower pr n) d.jobs.ready) (sym e) b }

          -- what the engine holds gives way, or it is not lower
          held : (c fate : ℕ) → (get_or pr c 0 ≤ get_or pr n 0 → Bound pr n d.jobs.ready i.candidates i.copyin)
              → Old pr n (cancel d i c fate (outranks d c (highest_of d (intersection taken d.marked))))
          held c fate k =
              by-test (outranks d c (highest_of d (intersection taken d.marked)))
              (λ b. rw b (record { table = t; ready = λ y. insert_other c d.jobs.ready n small r; fate = rival (insert c d.jobs.ready) (insert_other c d.jobs.ready n small r) }))
              (λ b. rw b (stays (k (rw t at (not_outranked d taken c (highest_of d (intersection taken d.marked)) h m (best_of d (intersection taken d.marked)) b)))))

          go : (c : CopyIn) → i.copyin ≡ c → Old pr n (cancel_by d taken i c)
          go Unchosen s = stays (rw s tt)
          go NoneChosen s = stays (rw s (rival d.jobs.ready r))
          go (Copying c until) s = held c 2 (λ l. rw s l)
          go (Loaded c) s = held c 3 (λ l. rw s l)
          go (Cancelled c fate) s = stays (rw s (rival d.jobs.ready r))

      module _ (d : State) (t set : ℕ) (cs : List Call) (tab : d.table.priority ≡ pr) (n-taken : member n (taken_at d t set) ≡ true) where
        c : State
        c = step_c (at_b d t).state t (taken_at d t set) (deferred_at d t set)

        tab_c : c.table.priority ≡ pr
        unfolding c step_c
        tab_c = ap (λ (x : Table). x.priority) (table_b d t) ∙ tab

        ready_c : member n c.jobs.ready ≡ true
        unfolding c step_c
        ready_c = union_right (at_b d t).state.jobs.ready (taken_at d t set) n small n-taken

        marked_c : member n d.marked ≡ true → member n c.marked ≡ true
        unfolding c step_c
        marked_c m = ap (member n) (marked_b d t) ∙ m

        -- the open interval, with its new candidates
        with_new : Interval → Interval
        with_new i = record {
          begin = i.begin;
          work = i.work;
          processor = i.processor;
          copyout = i.copyout;
          copyin = i.copyin;
          candidates = union i.candidates (intersection (taken_at d t set) (at_b d t).state.marked);
        }

        within_c : (i : Interval) → (at_b d t).state.phase ≡ Within i → c.phase ≡ Within (with_new i)
        unfolding c step_c with_candidates with_new
        within_c i e = ap (with_candidates (at_b d t).state (taken_at d t set)) e

        -- what is to come after step e
        soon_later : (F : ℕ → ℕ → CopyIn → Type 0) (Q : Option ℕ → Type 0) → Rule pr n F Q → Waiting pr n F Q (at_e d t set)
            → Then pr n Q (intervals (tail_of d t set ++ history (at_g d t set) cs))
        soon_later F Q rule h =
            rw (tail_intervals d t set (history (at_g d t set) cs))
            (to_come pr n F Q rule small d t set (history (at_g d t set) cs) h (soon pr n small F Q rule (at_g d t set) cs) (ahead pr n small (at_g d t set) cs))

        none_shown : (ready : ℕ) (p : Phase) → Fate pr n (λ ready candidates c. Unit {0}) (λ r. Unit {0}) ready p
        none_shown ready (Between next outgoing) = tt
        none_shown ready (Within i) = tt

        any_later : Then pr n (λ r. Unit {0}) (intervals (tail_of d t set ++ history (at_g d t set) cs))
        unfolding c
        any_later =
            soon_later (λ ready candidates c. Unit {0}) (λ r. Unit {0}) (rule_none pr n)
            (from_c pr n (λ ready candidates c. Unit {0}) (λ r. Unit {0}) (rule_none pr n) small d t set
            (record { table = tab_c; ready = λ y. ready_c; fate = none_shown c.jobs.ready c.phase }))

        -- a marked one in an open interval is to be waited for by none that is lower
        old_c : member n d.marked ≡ true → (i : Interval) → c.phase ≡ Within i → Old pr n (at_e d t set)
        unfolding at_e c
        old_c m i e =
            let taken : ℕ = taken_at d t set in
            let deferred : ℕ = deferred_at d t set in
            e_waiting pr n (Bound pr n) (NotLower pr n) (rule_old pr n small) small t (step_d c taken c.phase)
            (subst (λ (p : Phase). Old pr n (step_d c taken p)) (sym e)
            (unfold step_d in d_marked c taken i i.copyin refl e tab_c (subst (NewAt c taken) e (c_new (at_b d t).state t taken deferred)) n-taken (marked_c m)))

        amid : (i : Interval) → c.phase ≡ Within i → (m : Bool) → member n d.marked ≡ m
            → Then pr n (Second m) (intervals (tail_of d t set ++ history (at_g d t set) cs))
        amid i e false m = then_map (λ r. Unit {0}) (Second false) (λ r h x. absurd (false≢true x)) (intervals (tail_of d t set ++ history (at_g d t set) cs)) any_later
        amid i e true m =
            then_map (NotLower pr n) (Second true) (λ r h x. h) (intervals (tail_of d t set ++ history (at_g d t set) cs))
            (soon_later (Bound pr n) (NotLower pr n) (rule_old pr n small) (old_c m i e))

        pub released : (p : Phase) → (at_b d t).state.phase ≡ p → Waits n (member n d.marked) (situation_of p) (intervals (tail_of d t set ++ history (at_g d t set) cs))
        released (Between next outgoing) e = waits_none_open (member n d.marked) (intervals (tail_of d t set ++ history (at_g d t set) cs)) any_later
        released (Within i) e =
            waits_open (member n d.marked) (processor_task i.processor) (intervals (tail_of d t set ++ history (at_g d t set) cs))
            (amid (with_new i) (within_c i e) (member n d.marked) refl)

  -- ---- a release that comes while no interval is open

  module _ (n : ℕ) (small : n < 32) where
    abbrev Ready : State → Type 0
    Ready d = member n d.jobs.ready ≡ true

    -- steps d to f leave a state in which none is open
    pub open_no_more : (c : State) (t taken : ℕ) (p : Phase) (next : Next) (outgoing : Outgoing) → c.phase ≡ p → p ≡ Between next outgoing
        → let x : State = step_d c taken p in let e : State = step_e x t x.phase in
        ((step_b (fresh_stage e) t e.phase).state ≡ c) × (e.phase ≡ Between next outgoing)
    unfolding step_d step_e step_b
    open_no_more c t taken (Between next' outgoing') next outgoing e f = rw e (refl, f)
    open_no_more c t taken (Within i) next outgoing e f = absurd (let z : ◌≡◌ {A = ℕ} 0 1 = cc in omega arith)

    wanted_ready : (next : Next) (outgoing : Outgoing) (ready : ℕ) → member n ready ≡ true → wanted next outgoing ready ≡ true
    wanted_ready (LoadedNext k) outgoing ready h = refl
    wanted_ready (PromotedNext k) outgoing ready h = refl
    wanted_ready NoneNext (AwaitsCopyOut k s) ready h = refl
    wanted_ready NoneNext NoneOutgoing ready h = by-test (eqb ready 0) (λ e. clash (member n ready) h (ap (member n) (eqb-true ready 0 e) ∙ none n)) (λ e. rw e)

    begins_tick : (t : ℕ) (next : Next) (outgoing : Outgoing) (q : Processor) (p : Phase) (ys : List Event) → Opened q p → begin_tick (begin_events t (Between next outgoing) p ++ ys) ≡ Some t
    unfolding begin_events first
    begins_tick t next outgoing q (Between x y) ys o = absurd o
    begins_tick t next outgoing q (Within j) ys o = refl

    begins_so : (f : State) (t taken : ℕ) (next : Next) (outgoing : Outgoing) (ys : List Event) → Ready f
        → begin_tick (begin_events t (Between next outgoing) (step_g f t taken (Between next outgoing)).phase ++ ys) ≡ Some t
    unfolding step_g begin
    begins_so f t taken next outgoing ys r =
        let b : State = begin f t taken next outgoing in
        rw (wanted_ready next outgoing f.jobs.ready r)
        (begins_tick t next outgoing (begin_processor f.table t next) (step_e b t b.phase).phase ys (e_opens b t (begin_processor f.table t next) refl))

    pub begins_at_once : (d : State) (t set : ℕ) (h : List Event) → member n (taken_at d t set) ≡ true → (p : Phase) → (at_b d t).state.phase ≡ p
        → AtOnce t (situation_of p) (begin_tick (tail_of d t set ++ h))
    begins_at_once d t set h m (Within i) e x = absurd (let z : ◌≡◌ {A = ℕ} 0 1 = cc in omega arith)
    begins_at_once d t set h m (Between next outgoing) e x =
        ap begin_tick (tail_parts d t set h)
        ∙ none_defers
        ∙ ap (λ (y : List Event). begin_tick (y ++ (end_events t (at_e d t set).phase f.phase ++ (begin_events t f.phase (at_g d t set).phase ++ rest)))) none_gives
        ∙ ap (λ (y : List Event). begin_tick (y ++ (begin_events t f.phase (at_g d t set).phase ++ rest))) none_ends
        ∙ (unfold at_g in subst (λ (p : Phase). begin_tick (begin_events t p (step_g f t (held_at d t set) p).phase ++ rest) ≡ Some t) (sym shut_f)
        (begins_so f t (held_at d t set) next outgoing rest ready_f))
      where
        b : State
        b = (at_b d t).state

        taken : ℕ
        taken = taken_at d t set

        deferred : ℕ
        deferred = deferred_at d t set

        c : State
        c = step_c b t taken deferred

        f : State
        f = (at_f d t set).state

        rest : List Event
        rest = start_events t f.phase (at_g d t set).phase ++ h

        shut_c : c.phase ≡ Between next outgoing
        shut_c = unfold step_c with_candidates in ap (with_candidates b taken) e

        left_so : (f ≡ c) × ((at_e d t set).phase ≡ Between next outgoing)
        left_so = unfold at_f at_e in open_no_more c t taken c.phase next outgoing refl shut_c

        shut_f : f.phase ≡ Between next outgoing
        shut_f = ap (λ (x : State). x.phase) left_so.0 ∙ shut_c

        ready_f : Ready f
        ready_f = ap (λ (x : State). member n x.jobs.ready) left_so.0 ∙ (unfold step_c in union_right b.jobs.ready taken n small m)

        after_defers : List Event
        after_defers = giving_events_in b.phase (at_e d t set).phase ++ (end_events t (at_e d t set).phase f.phase ++ (begin_events t f.phase (at_g d t set).phase ++ rest))

        none_defers : begin_tick (defer_events 32 deferred t ++ after_defers) ≡ begin_tick after_defers
        none_defers = by_defers (λ zs. begin_tick zs ≡ begin_tick after_defers) 32 deferred t (λ n l m es k. unfold first in k) after_defers refl

        none_gives : giving_events_in b.phase (at_e d t set).phase ≡ []
        none_gives = unfold giving_events_in in ap (λ (p : Phase). giving_events_in p (at_e d t set).phase) e

        none_ends : end_events t (at_e d t set).phase f.phase ≡ []
        none_ends = unfold end_events in ap (λ (p : Phase). end_events t p f.phase) left_so.1

  -- ---- along an instant

  a_situation : (d : State) (t : ℕ) (p : Phase) → d.phase ≡ p → situation_of (step_a d t p).state.phase ≡ situation_of p
  unfolding step_a ended
  a_situation d t (Between next outgoing) e = ap situation_of e
  a_situation d t (Within i) e = ap Open (processor_task_same d.table t i.processor)

  kept_stays : (t : ℕ) (i : Interval) (q : Phase) (ys : List Event) → q ≡ Within i → Kept (situation_of q) ys → Kept (situation_of (Within i)) (end_events t (Within i) q ++ ys)
  unfolding end_events
  kept_stays t i q ys e k = rw e (rw e at k)

  kept_ends : (s : Stage) (t : ℕ) (p : Phase) (ys : List Event) → s.state.phase ≡ p → Kept (situation_of (step_b s t p).state.phase) ys
      → Kept (situation_of p) (end_events t p (step_b s t p).state.phase ++ ys)
  unfolding step_b close_stage close end_events Kept
  kept_ends s t (Between next outgoing) ys e k = subst (λ (x : Phase). Kept (situation_of x) ys) e k
  kept_ends s t (Within i) ys e k = go (over i) k
    where
      go : (b : Bool) → Kept (situation_of (close_stage s t i b).state.phase) ys → Kept (situation_of (Within i)) (end_events t (Within i) (close_stage s t i b).state.phase ++ ys)
      go true k = k
      go false k = kept_stays t i s.state.phase ys e k

  kept_opens : (t : ℕ) (next : Next) (outgoing : Outgoing) (q : Phase) (ys : List Event) → Kept (situation_of q) ys
      → Kept NoneOpen (begin_events t (Between next outgoing) q ++ ys)
  unfolding begin_events Kept
  kept_opens t next outgoing (Between x y) ys k = k
  kept_opens t next outgoing (Within j) ys k = k

  kept_shut : (t : ℕ) (next : Next) (outgoing : Outgoing) (q : Phase) (ys : List Event) → q ≡ Between next outgoing → Kept (situation_of q) ys
      → Kept NoneOpen (begin_events t (Between next outgoing) q ++ ys)
  unfolding begin_events Kept
  kept_shut t next outgoing q ys e k = rw e (rw e at k)

  kept_begins : (f : State) (t taken : ℕ) (p : Phase) (ys : List Event) → f.phase ≡ p → Kept (situation_of (step_g f t taken p).phase) ys
      → Kept (situation_of p) (begin_events t p (step_g f t taken p).phase ++ ys)
  unfolding step_g begin_events
  kept_begins f t taken (Within i) ys e k = subst (λ (x : Phase). Kept (situation_of x) ys) e k
  kept_begins f t taken (Between next outgoing) ys e k = go (wanted next outgoing f.jobs.ready) k
    where
      b : State
      b = begin f t taken next outgoing

      go : (w : Bool) → Kept (situation_of (cond w (step_e b t b.phase) f).phase) ys → Kept NoneOpen (begin_events t (Between next outgoing) (cond w (step_e b t b.phase) f).phase ++ ys)
      go true k = kept_opens t next outgoing (step_e b t b.phase).phase ys k
      go false k = kept_shut t next outgoing f.phase ys e k

  kept_takes : (taken marked t : ℕ) (s : Situation) (ys : List Event)
      → ((n : ℕ) → n < 32 → member n taken ≡ true → Waits n (member n marked) s (intervals ys) × AtOnce t s (begin_tick ys))
      → Kept s ys → Kept s (take_events 32 taken marked t ++ ys)
  unfolding Kept each first
  kept_takes taken marked t s ys w h =
      (by_takes (λ zs. Kept s zs × (intervals zs ≡ intervals ys) × (begin_tick zs ≡ begin_tick ys)) 32 taken marked t
      (λ n l m es k.
      let x : Waits n (member n marked) s (intervals ys) × AtOnce t s (begin_tick ys) = w n l m in
      (((subst (Waits n (member n marked) s) (sym k.1) x.0, subst (AtOnce t s) (sym k.2) x.1), k.0), k.1, k.2)) ys (h, refl, refl)).0

  kept_front : (d : State) (t : ℕ) (ys : List Event) → Kept (situation_of (at_b d t).state.phase) ys → Kept (situation_of d.phase) (front_of d t ++ ys)
  unfolding at_b at_a Kept
  kept_front d t ys k =
      let a : Stage = at_a d t in
      let e : List Event = end_events t a.state.phase (at_b d t).state.phase in
      rw (front_parts d t ys)
      (by_processor (Kept (situation_of d.phase)) (λ n u es k. k) (λ n u es k. k) t d.phase (finish_events_in t d.phase ++ (completion_events a.done ++ (e ++ ys)))
      (by_finishes (Kept (situation_of d.phase)) (λ n es k. k) t d.phase (completion_events a.done ++ (e ++ ys))
      (by_completes (Kept (situation_of d.phase)) (λ n t es k. k) a.done (e ++ ys)
      (subst (λ (s : Situation). Kept s (e ++ ys)) (a_situation (at_clock d t) t d.phase refl) (kept_ends a t a.state.phase ys refl k)))))

  kept_tail : (d : State) (t set : ℕ) (ys : List Event) → Kept (situation_of (at_g d t set).phase) ys → Kept (situation_of (at_e d t set).phase) (tail_of d t set ++ ys)
  unfolding at_f at_g Kept
  kept_tail d t set ys k =
      let e : State = at_e d t set in
      let f : State = (at_f d t set).state in
      let z : List Event = start_events t f.phase (at_g d t set).phase ++ ys in
      let y : List Event = begin_events t f.phase (at_g d t set).phase ++ z in
      rw (tail_parts d t set ys)
      (by_defers (Kept (situation_of e.phase)) 32 (deferred_at d t set) t (λ n l m es k. k) (giving_events_in (at_b d t).state.phase e.phase ++ (end_events t e.phase f.phase ++ y))
      (by_gives (Kept (situation_of e.phase)) (λ n es k. k) (at_b d t).state.phase e.phase (end_events t e.phase f.phase ++ y)
      (kept_ends (fresh_stage e) t e.phase y refl
      (kept_begins f t (held_at d t set) f.phase z refl
      (by_starts (Kept (situation_of (at_g d t set).phase)) t (λ n es k. k) f.phase (at_g d t set).phase ys k)))))

  kept_instant : (d : State) (t set : ℕ) (cs : List Call) → d.table.priority ≡ pr
      → Kept (situation_of (at_g d t set).phase) (history (at_g d t set) cs) → Kept (situation_of d.phase) (happens d t set ++ history (at_g d t set) cs)
  kept_instant d t set cs p k =
      let h : List Event = history (at_g d t set) cs in
      rw (happens_parts d t set h)
      (kept_front d t (take_events 32 (taken_at d t set) d.marked t ++ (tail_of d t set ++ h))
      (kept_takes (taken_at d t set) d.marked t (situation_of (at_b d t).state.phase) (tail_of d t set ++ h)
      (λ n l m. (released n l d t set cs p m (at_b d t).state.phase refl, begins_at_once n l d t set h m (at_b d t).state.phase refl))
      (subst (λ (s : Situation). Kept s (tail_of d t set ++ h)) (situation_e d t set) (kept_tail d t set h k))))

  pub kept : (d : State) (cs : List Call) → d.table.priority ≡ pr → Kept (situation_of d.phase) (history d cs)
  unfolding Kept
  kept d cs =
      walk (λ d h. d.table.priority ≡ pr → Kept (situation_of d.phase) h)
      (λ d p. tt)
      (λ d t set cs e k p. kept_instant d t set cs p (k (ap (λ (x : Table). x.priority) (table_g d t set) ∙ p)))
      (λ d m e h k p. k p)
      cs d
