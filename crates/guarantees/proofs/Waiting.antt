-- The order, by the states: a job that waits, and what the next interval will run. For each waiting job of task n one of two rules holds of
-- the copy-in of the open interval, and each step keeps it. A job of an earlier interval: the copy-in is not chosen yet, or is of a task
-- not lower than n, or, where none was chosen or it was cancelled, some task released and marked in this interval and ready is not lower
-- than n. An unmarked job of this interval: nothing is shown of the next one.
use Rattle.std.proofs.Common.{◌≡◌, ◌∷◌, ◌++◌, ◌≤◌, ◌<◌}
use Rattle.guarantees.specs.Types.{Table, refl, sym, ap, ◌∙◌, subst, ⊎_elim, true, false, false≢true, List, [], ℕ, Option, None, Some, Processor, CopyIn, Unchosen, NoneChosen, Copying, Loaded, Cancelled, Interval, Next, NoneNext, LoadedNext, PromotedNext, Outgoing, Phase, Between, Within, State, Stage, Call}
use native.Mathlib.Omega.{arith}
use borrow.Author.Tests.{ltb-true}
use lib.Dec.{eqb}
use lib.ListN.{get_or}
use Rattle.table.specs.Table.{copyin_length}
use Rattle.sets.specs.Sets.{member, union, intersection, insert, remove}
use Rattle.sets.proofs.Laws.{by-test, clash, union_left, intersection_in, intersection_left, intersection_right, insert_same, insert_other, remove_in}
use Rattle.guarantees.proofs.Highest.{Best}
use Rattle.guarantees.proofs.Walk.{walk}
use Rattle.guarantees.specs.History.{history, Event, begin_events, happens}
use Rattle.rules.specs.Instant.{settled, step_a, step_b, step_c, step_d, step_e, step_g, promoted, next_of, without_promoted, close, with_candidates, cancel, choose, begin, begin_processor, without_done, ended, processor_task, at_a, at_b, at_e, at_f, at_g, taken_at, deferred_at, fresh_stage}
use Rattle.rules.specs.With.{at_clock, later}
use Rattle.rules.specs.Order.{highest_of, outranks}
use Rattle.guarantees.specs.Queries.{is_task, intervals, each}
use Rattle.guarantees.specs.Claim.{NotLower}
use Rattle.guarantees.proofs.Steps.{Sub, NewIn, NewAt, c_new, best_of, settles, Opened, e_opens}
use Rattle.guarantees.proofs.Events.{happens_intervals}
use Rattle.guarantees.proofs.Cases.{held_at, Held, copyin_cases, a_cases, b_cases, d_cases, e_cases, g_cases}

-- ---- the job that the next interval executes, as far as it is chosen
abbrev pub held_task : CopyIn → Option ℕ
held_task Unchosen = None
held_task NoneChosen = None
held_task (Copying c until) = Some c
held_task (Loaded c) = Some c
held_task (Cancelled c fate) = None

pub held_is : (k : CopyIn) (c : ℕ) → Held k c → held_task k ≡ Some c
held_is k c s = ⊎_elim (λ x. ap held_task x.1) (λ x. ap held_task x) s

abbrev pub next_task : Next → Option ℕ
next_task NoneNext = None
next_task (LoadedNext c) = Some c
next_task (PromotedNext c) = Some c

abbrev pub up_next : Phase → Option ℕ
up_next (Between next outgoing) = next_task next
up_next (Within i) = held_task i.copyin

-- an interval that begins runs it
pub runs : (table : Table) (t : ℕ) (next : Next) → processor_task (begin_processor table t next) ≡ next_task next
runs table t NoneNext = refl
runs table t (LoadedNext c) = refl
runs table t (PromotedNext c) = refl

module _ (pr : List ℕ) (n : ℕ) where
  -- What holds of the copy-in of the open interval, F, so that what the next interval runs has Q.
  pub record Rule (F : ℕ → ℕ → CopyIn → Type 0) (Q : Option ℕ → Type 0) : Type 0 where
    pub load : (ready candidates c until : ℕ) → F ready candidates (Copying c until) → F ready candidates (Loaded c)
    pub run : (ready candidates c : ℕ) → F ready candidates (Loaded c) → Q (Some c)
    pub none : (ready candidates : ℕ) (q : Option ℕ) → Best pr (intersection candidates ready) q → F ready candidates NoneChosen → Q q
    pub lost : (ready candidates c fate : ℕ) (q : Option ℕ) → Best pr (intersection candidates ready) q → F ready candidates (Cancelled c fate) → Q q
    pub more : (ready candidates ready' candidates' : ℕ) (c : CopyIn) → Sub ready ready' → Sub candidates candidates' → F ready candidates c → F ready' candidates' c
    pub cancel : (ready candidates c fate q : ℕ) → q < 32 → member q ready ≡ true → member q candidates ≡ true → get_or pr q 0 < get_or pr c 0
        → F ready candidates (Loaded c) → F (insert c ready) candidates (Cancelled c fate)
    pub pass : (ready candidates : ℕ) → member n ready ≡ true → Best pr ready None → F ready candidates Unchosen → F ready candidates NoneChosen
    pub choose : (ready candidates q until : ℕ) → member n ready ≡ true → Best pr ready (Some q) → F ready candidates Unchosen → F (remove q ready) candidates (Copying q until)

  module _ (F : ℕ → ℕ → CopyIn → Type 0) (Q : Option ℕ → Type 0) where
    abbrev pub Fate : ℕ → Phase → Type 0
    Fate ready (Between next outgoing) = Q (next_task next)
    Fate ready (Within i) = F ready i.candidates i.copyin

    -- n's job awaits its execution, and F holds of what the next interval will run
    pub record Waiting (d : State) : Type 0 where
      pub table : d.table.priority ≡ pr
      pub ready : is_task n (up_next d.phase) ≡ false → member n d.jobs.ready ≡ true
      pub fate : Fate d.jobs.ready d.phase

    module _ (rule : Rule F Q) (small : n < 32) where
      pub ready_at : (d : State) {p : Phase} → d.phase ≡ p → Waiting d → is_task n (up_next p) ≡ false → member n d.jobs.ready ≡ true
      ready_at d e h = subst (λ (x : Phase). is_task n (up_next x) ≡ false → member n d.jobs.ready ≡ true) e h.ready

      pub fate_at : (d : State) {p : Phase} → d.phase ≡ p → Waiting d → Fate d.jobs.ready p
      fate_at d e h = subst (Fate d.jobs.ready) e h.fate

      best_at : (d : State) (s : ℕ) → Waiting d → Best pr s (highest_of d s)
      best_at d s h = subst (λ (x : List ℕ). Best x s (highest_of d s)) h.table (best_of d s)

      pub a_waiting : (t : ℕ) (d : State) → Waiting d → Waiting (step_a d t d.phase).state
      unfolding without_done ended
      a_waiting t d h =
          a_cases Waiting d t (λ next outgoing e. h)
          (λ i e. record {
            table = h.table;
            ready = copyin_cases t (λ c. is_task n (held_task c) ≡ false → member n d.jobs.ready ≡ true) i.copyin (ready_at d e h) (λ c u x y. rw x at (ready_at d e h));
            fate = copyin_cases t (F d.jobs.ready i.candidates) i.copyin (fate_at d e h)
                (λ c u x y. rule.load d.jobs.ready i.candidates c u (subst (F d.jobs.ready i.candidates) x (fate_at d e h)));
          })

      -- what an interval that is over leaves
      unfoldable pub Left : State → CopyIn → Option ℕ → Type 0
      Left d c q = (is_task n (next_task (next_of c q)) ≡ false → member n (without_promoted d.jobs.ready q) ≡ true) × Q (next_task (next_of c q))

      pub closed : (d : State) (i : Interval) (c : CopyIn) → settled c ≡ true → Waiting d
          → (is_task n (held_task c) ≡ false → member n d.jobs.ready ≡ true) → F d.jobs.ready i.candidates c → Left d c (promoted d i c)
      unfolding promoted Left
      closed d i Unchosen s h w f = absurd (false≢true s)
      closed d i (Copying c until) s h w f = absurd (false≢true s)
      closed d i (Loaded c) s h w f = (w, rule.run d.jobs.ready i.candidates c f)
      closed d i NoneChosen s h w f = go (highest_of d (intersection i.candidates d.jobs.ready)) (rule.none d.jobs.ready i.candidates (highest_of d (intersection i.candidates d.jobs.ready)) (best_at d (intersection i.candidates d.jobs.ready) h) f)
        where
          go : (q : Option ℕ) → Q q → Left d NoneChosen q
          go None x = (w, x)
          go (Some q) x = (λ e. remove_in q d.jobs.ready n small e (w refl), x)
      closed d i (Cancelled c fate) s h w f = go (highest_of d (intersection i.candidates d.jobs.ready)) (rule.lost d.jobs.ready i.candidates c fate (highest_of d (intersection i.candidates d.jobs.ready)) (best_at d (intersection i.candidates d.jobs.ready) h) f)
        where
          go : (q : Option ℕ) → Q q → Left d (Cancelled c fate) q
          go None x = (w, x)
          go (Some q) x = (λ e. remove_in q d.jobs.ready n small e (w refl), x)

      pub b_waiting : (t : ℕ) (s : Stage) → Waiting s.state → Waiting (step_b s t s.state.phase).state
      unfolding close Left
      b_waiting t s h =
          b_cases Waiting s t (λ i e o. h) (λ next outgoing e. h)
          (λ i e o.
          let z : Left s.state i.copyin (promoted s.state i i.copyin) = closed s.state i i.copyin (settles i o) h (ready_at s.state e h) (fate_at s.state e h) in
          record { table = h.table; ready = z.0; fate = z.1 })

      pub c_waiting : (t taken deferred : ℕ) (d : State) → Waiting d → Waiting (step_c d t taken deferred)
      unfolding step_c
      c_waiting t taken deferred d h = record {
        table = h.table;
        ready = λ e. union_left d.jobs.ready taken n small (h.ready (same d.phase ∙ e));
        fate = go d.phase h.fate;
      }
        where
          same : (p : Phase) → is_task n (up_next p) ≡ is_task n (up_next (with_candidates d taken p))
          same (Between next outgoing) = unfold with_candidates in refl
          same (Within i) = unfold with_candidates in refl

          go : (p : Phase) → Fate d.jobs.ready p → Fate (union d.jobs.ready taken) (with_candidates d taken p)
          go (Between next outgoing) f = unfold with_candidates in f
          go (Within i) f = unfold with_candidates in
              rule.more d.jobs.ready i.candidates (union d.jobs.ready taken) (union i.candidates (intersection taken d.marked)) i.copyin
              (λ k l m. union_left d.jobs.ready taken k l m) (λ k l m. union_left i.candidates (intersection taken d.marked) k l m) f

      pub d_waiting : (taken : ℕ) (d : State) → NewAt d taken d.phase → Waiting d → Waiting (step_d d taken d.phase)
      unfolding cancel
      d_waiting taken d new_in h =
          d_cases Waiting d taken h
          (λ i c fate e s b. record {
            table = h.table;
            ready = λ x. by-test (eqb n c) (λ y. insert_same c d.jobs.ready n small y) (λ y. insert_other c d.jobs.ready n small (ready_at d e h (ap (is_task n) (held_is i.copyin c s) ∙ y)));
            fate = go i c fate (subst (NewAt d taken) e new_in) (as_loaded d.jobs.ready i.candidates i.copyin c s (fate_at d e h)) (highest_of d (intersection taken d.marked)) (best_at d (intersection taken d.marked) h) b;
          })
        where
          -- a copy-in that is under way gives way as a finished one does
          as_loaded : (ready candidates : ℕ) (k : CopyIn) (c : ℕ) → Held k c → F ready candidates k → F ready candidates (Loaded c)
          as_loaded ready candidates k c s f =
              ⊎_elim (λ x. rule.load ready candidates c x.0 (subst (F ready candidates) x.1 f)) (λ x. subst (F ready candidates) x f) s

          go : (i : Interval) (c fate : ℕ) → NewIn d taken i → F d.jobs.ready i.candidates (Loaded c)
              → (q : Option ℕ) → Best pr (intersection taken d.marked) q → outranks d c q ≡ true → F (insert c d.jobs.ready) i.candidates (Cancelled c fate)
          go i c fate k f None x b = absurd (false≢true b)
          go i c fate k f (Some q) x b =
              let m : member q taken ≡ true = intersection_left taken d.marked q x.1 in
              rule.cancel d.jobs.ready i.candidates c fate q x.0 (k.ready q x.0 m) (k.candidates q x.0 m (intersection_right taken d.marked q x.1))
              (less h.table b) f
            where
              less : d.table.priority ≡ pr → outranks d c (Some q) ≡ true → get_or pr q 0 < get_or pr c 0
              less e b = rw e at (ltb-true (get_or d.table.priority q 0) (get_or d.table.priority c 0) b)

      pub e_waiting : (t : ℕ) (d : State) → Waiting d → Waiting (step_e d t d.phase)
      unfolding choose
      e_waiting t d h =
          e_cases Waiting d t h
          (λ i e s u. go i (rw s at (ready_at d e h)) (subst (F d.jobs.ready i.candidates) s (fate_at d e h)) (highest_of d d.jobs.ready) (best_at d d.jobs.ready h))
        where
          go : (i : Interval) → (false ≡ false → member n d.jobs.ready ≡ true) → F d.jobs.ready i.candidates Unchosen → (q : Option ℕ) → Best pr d.jobs.ready q → Waiting (choose d t i q)
          go i w f None b = record { table = h.table; ready = w; fate = rule.pass d.jobs.ready i.candidates (w refl) b f }
          go i w f (Some q) b = record {
            table = h.table;
            ready = λ x. remove_in q d.jobs.ready n small x (w refl);
            fate = rule.choose d.jobs.ready i.candidates q (later t (copyin_length d.table.columns q)) (w refl) b f;
          }

-- ---- two rules

module _ (pr : List ℕ) (n : ℕ) where
  -- a ready job, released and marked in the open interval, that is not lower than n's
  pub record Rival (ready candidates : ℕ) : Type 0 where
    pub who : ℕ
    pub task : who < 32
    pub is_ready : member who ready ≡ true
    pub is_candidate : member who candidates ≡ true
    pub high : get_or pr who 0 ≤ get_or pr n 0

  -- a job that was released before the open interval: the next runs none that is lower
  abbrev pub Bound : ℕ → ℕ → CopyIn → Type 0
  Bound ready candidates Unchosen = Unit {0}
  Bound ready candidates NoneChosen = Rival ready candidates
  Bound ready candidates (Copying c until) = get_or pr c 0 ≤ get_or pr n 0
  Bound ready candidates (Loaded c) = get_or pr c 0 ≤ get_or pr n 0
  Bound ready candidates (Cancelled c fate) = Rival ready candidates

  rival_heads : (ready candidates : ℕ) (q : Option ℕ) → Best pr (intersection candidates ready) q → Rival ready candidates → NotLower pr n q
  rival_heads ready candidates None b r =
      clash (member r.who (intersection candidates ready)) (intersection_in candidates ready r.who r.task r.is_candidate r.is_ready) (b r.who r.task)
  rival_heads ready candidates (Some q) b r =
      omega (arith, r.high, b.2 r.who r.task (intersection_in candidates ready r.who r.task r.is_candidate r.is_ready))

  bound_more : (ready candidates ready' candidates' : ℕ) (c : CopyIn) → Sub ready ready' → Sub candidates candidates' → Bound ready candidates c → Bound ready' candidates' c
  bound_more ready candidates ready' candidates' c r f b = go c b
    where
      rival : Rival ready candidates → Rival ready' candidates'
      rival h = record { who = h.who; task = h.task; is_ready = r h.who h.task h.is_ready; is_candidate = f h.who h.task h.is_candidate; high = h.high }

      go : (c : CopyIn) → Bound ready candidates c → Bound ready' candidates' c
      go Unchosen b = tt
      go NoneChosen b = rival b
      go (Copying c until) b = b
      go (Loaded c) b = b
      go (Cancelled c fate) b = rival b

  pub rule_old : n < 32 → Rule pr n Bound (NotLower pr n)
  rule_old small = record {
    load = λ ready candidates c until h. h;
    run = λ ready candidates c h. h;
    none = rival_heads;
    lost = λ ready candidates c fate q b h. rival_heads ready candidates q b h;
    more = bound_more;
    cancel = λ ready candidates c fate q l m f less h. record { who = q; task = l; is_ready = insert_other c ready q l m; is_candidate = f; high = omega arith };
    pass = λ ready candidates m b h. clash (member n ready) m (b n small);
    choose = λ ready candidates q until m b h. b.2 n small m;
  }

  -- any other job: nothing is shown
  pub rule_none : Rule pr n (λ ready candidates c. Unit {0}) (λ r. Unit {0})
  rule_none = record {
    load = λ ready candidates c until h. tt;
    run = λ ready candidates c h. tt;
    none = λ ready candidates q b h. tt;
    lost = λ ready candidates c fate q b h. tt;
    more = λ ready candidates ready' candidates' c r f h. tt;
    cancel = λ ready candidates c fate q l m f less h. tt;
    pass = λ ready candidates m b h. tt;
    choose = λ ready candidates q until m b h. tt;
  }

  abbrev pub Old : State → Type 0
  Old d = Waiting pr n Bound (NotLower pr n) d

  -- the intervals to come run none that is lower, up to the one that executes n's job
  unfoldable pub Ahead : List (Option ℕ) → Type 0
  Ahead [] = Unit {0}
  Ahead (r ∷ rs) = NotLower pr n r × (is_task n r ≡ false → Ahead rs)

  -- the next interval has Q, and those after it run none that is lower
  unfoldable pub Then : (Option ℕ → Type 0) → List (Option ℕ) → Type 0
  Then Q [] = Unit {0}
  Then Q (r ∷ rs) = Q r × (is_task n r ≡ false → Ahead rs)

  -- ---- an interval begins, and the calls to come

  module _ (F : ℕ → ℕ → CopyIn → Type 0) (Q : Option ℕ → Type 0) (rule : Rule pr n F Q) (small : n < 32) where
    abbrev W : State → Type 0
    W d = Waiting pr n F Q d

    unfoldable pub Forth : List (Option ℕ) → State → Type 0
    Forth [] d = W d
    Forth (r ∷ rs) d = (rs ≡ []) × Q r × (is_task n r ≡ false → Old d)

    begins_same : (t : ℕ) (p : Phase) → begin_events t p p ≡ []
    unfolding begin_events
    begins_same t (Between next outgoing) = refl
    begins_same t (Within i) = refl

    stays : (t : ℕ) (d : State) → W d → Forth (intervals (begin_events t d.phase d.phase)) d
    stays t d h = rw (begins_same t d.phase) (unfold each Forth in h)

    begun : (t : ℕ) (p q : Phase) (next : Next) (outgoing : Outgoing) (x : Processor) (d : State) → p ≡ Between next outgoing → Opened x q
        → Q (processor_task x) → (is_task n (processor_task x) ≡ false → Old d) → Forth (intervals (begin_events t p q)) d
    unfolding begin_events each Forth
    begun t p (Between y z) next outgoing x d e o h k = absurd o
    begun t p (Within j) next outgoing x d e o h k = subst (λ (p : Phase). Forth (intervals (begin_events t p (Within j))) d) (sym e) (refl, rw o h, λ y. k (rw o at y))

    g_waiting : (t taken : ℕ) (f : State) → W f → Forth (intervals (begin_events t f.phase (step_g f t taken f.phase).phase)) (step_g f t taken f.phase)
    unfolding begin
    g_waiting t taken f h =
        g_cases (λ x. Forth (intervals (begin_events t f.phase x.phase)) x) f t taken (λ i e. stays t f h) (λ next outgoing e w. stays t f h)
        (λ next outgoing e w.
        let b : State = begin f t taken next outgoing in
        let r : processor_task (begin_processor f.table t next) ≡ next_task next = runs f.table t next in
        begun t f.phase (step_e b t b.phase).phase next outgoing (begin_processor f.table t next) (step_e b t b.phase) e
        (e_opens b t (begin_processor f.table t next) refl)
        (rw r (fate_at pr n F Q rule small f e h))
        (λ y. e_waiting pr n Bound (NotLower pr n) (rule_old small) small t b
        (record { table = h.table; ready = λ z. ready_at pr n F Q rule small f e h (rw r at y); fate = tt })))

    -- the steps together
    from_e : (d : State) (t set : ℕ) → W (at_e d t set) → Forth (intervals (begin_events t (at_f d t set).state.phase (at_g d t set).phase)) (at_g d t set)
    unfolding at_f at_g
    from_e d t set h =
        g_waiting t (held_at d t set) (at_f d t set).state (b_waiting pr n F Q rule small t (fresh_stage (at_e d t set)) h)

    pub from_c : (d : State) (t set : ℕ) → W (step_c (at_b d t).state t (taken_at d t set) (deferred_at d t set)) → W (at_e d t set)
    unfolding at_e
    from_c d t set h =
        let taken : ℕ = taken_at d t set in
        let deferred : ℕ = deferred_at d t set in
        let c : State = step_c (at_b d t).state t taken deferred in
        e_waiting pr n F Q rule small t (step_d c taken c.phase) (d_waiting pr n F Q rule small taken c (c_new (at_b d t).state t taken deferred) h)

    instant : (d : State) (t set : ℕ) → W d → Forth (intervals (begin_events t (at_f d t set).state.phase (at_g d t set).phase)) (at_g d t set)
    unfolding at_b at_a
    instant d t set h =
        from_e d t set (from_c d t set (c_waiting pr n F Q rule small t (taken_at d t set) (deferred_at d t set) (at_b d t).state
        (b_waiting pr n F Q rule small t (at_a d t) (a_waiting pr n F Q rule small t (at_clock d t) (record { table = h.table; ready = h.ready; fate = h.fate })))))

    join : (rs later : List (Option ℕ)) (g : State) → Forth rs g → (W g → Then Q later) → (Old g → Ahead later) → Then Q (rs ++ later)
    unfolding Forth Then
    join [] later g h k a = k h
    join (r ∷ rs) later g h k a = (h.1, λ e. subst (λ (x : List (Option ℕ)). Ahead (x ++ later)) (sym h.0) (a (h.2 e)))

    pub to_come : (d : State) (t set : ℕ) (rest : List Event) → W (at_e d t set) → (W (at_g d t set) → Then Q (intervals rest)) → (Old (at_g d t set) → Ahead (intervals rest))
        → Then Q (intervals (begin_events t (at_f d t set).state.phase (at_g d t set).phase) ++ intervals rest)
    to_come d t set rest h k a = join (intervals (begin_events t (at_f d t set).state.phase (at_g d t set).phase)) (intervals rest) (at_g d t set) (from_e d t set h) k a

    step : (d : State) (t set : ℕ) (rest : List Event) → W d → (W (at_g d t set) → Then Q (intervals rest)) → (Old (at_g d t set) → Ahead (intervals rest))
        → Then Q (intervals (happens d t set ++ rest))
    step d t set rest h k a =
        rw (happens_intervals d t set rest)
        (join (intervals (begin_events t (at_f d t set).state.phase (at_g d t set).phase)) (intervals rest) (at_g d t set) (instant d t set h) k a)

  module _ (small : n < 32) where
    then_ahead : (rs : List (Option ℕ)) → Then (NotLower pr n) rs → Ahead rs
    unfolding Then Ahead
    then_ahead [] h = tt
    then_ahead (r ∷ rs) h = h

    ahead_then : (rs : List (Option ℕ)) → Ahead rs → Then (NotLower pr n) rs
    unfolding Then Ahead
    ahead_then [] h = tt
    ahead_then (r ∷ rs) h = h

    old_step : (d : State) (t set : ℕ) (rest : List Event) → (Old (at_g d t set) → Ahead (intervals rest)) → Old d → Ahead (intervals (happens d t set ++ rest))
    old_step d t set rest k o =
        then_ahead (intervals (happens d t set ++ rest))
        (step Bound (NotLower pr n) (rule_old small) small d t set rest o (λ g. ahead_then (intervals rest) (k g)) k)

    -- a job that was released in an interval before the open one
    pub ahead : (d : State) (cs : List Call) → Old d → Ahead (intervals (history d cs))
    ahead d cs =
        walk (λ d h. Old d → Ahead (intervals h)) (λ d o. unfold Ahead each in tt)
        (λ d t set cs e k o. old_step d t set (history (at_g d t set) cs) k o)
        (λ d m e h k o. k (record { table = o.table; ready = o.ready; fate = o.fate }))
        cs d

    -- and one of the open interval
    pub soon : (F : ℕ → ℕ → CopyIn → Type 0) (Q : Option ℕ → Type 0) (rule : Rule pr n F Q) (d : State) (cs : List Call) → Waiting pr n F Q d → Then Q (intervals (history d cs))
    soon F Q rule d cs =
        walk (λ d h. Waiting pr n F Q d → Then Q (intervals h)) (λ d o. unfold Then each in tt)
        (λ d t set cs e k o. step F Q rule small d t set (history (at_g d t set) cs) o k (ahead (at_g d t set) cs))
        (λ d m e h k o. k (record { table = o.table; ready = o.ready; fate = o.fate }))
        cs d
