-- How long an interval lasts: while one is open, what is under way in it ends at most M after its begin; the processor by its task's own L + C, the
-- engine by a copy-out and then a copy-in. Each step keeps that; and since an instant is never after a due time, none comes later.
use Rattle.std.proofs.Common.{◌≡◌, ◌&&◌, ◌+◌, ◌^◌, ◌≤◌, ◌<◌}
use Rattle.guarantees.specs.Types.{refl, sym, ap, ◌∙◌, subst, true, false, cond, not, true≢false, false≢true, ℕ, zero, suc, Table, Option, None, Some, Processor, Idle, CopyingIn, Executing, Finished, CopyOut, NoCopyOut, CopyingOut, CopiedOut, CopyIn, Unchosen, NoneChosen, Copying, Loaded, Cancelled, Interval, Next, NoneNext, LoadedNext, PromotedNext, Outgoing, NoneOutgoing, AwaitsCopyOut, Phase, Between, Within, State, Stage}
use Prim.Native.Nat.{max}
use native.Mathlib.Omega.{arith}
use native.Mathlib.Nat.{not-suc-le-zero}
use borrow.Author.Tests.{eqb-true, eqb-false}
use lib.Dec.{eqb}
use Rattle.table.specs.Table.{copyin_length, execution_length, copyout_length}
use Rattle.sets.specs.Sets.{member}
use Rattle.sets.proofs.Laws.{by-test, member_task}
use Rattle.guarantees.proofs.Highest.{Best}
use Rattle.rules.specs.Instant.{resting, copying_out, settled, step_a, step_b, step_c, step_d, step_e, step_g, close, with_candidates, cancel, choose, begin, begin_processor, begin_copyout, taken, deferred, ended, copyin_at, copyout_at, processor_at, at_a, at_b, at_e, at_f, at_g, taken_at, deferred_at, fresh_stage}
use Rattle.rules.specs.With.{at_clock, later}
use Rattle.rules.specs.Order.{highest_of}
use Rattle.guarantees.specs.Figure.{greatest, greatest_copyin, greatest_copyout, greatest_work, longest_interval}
use Rattle.guarantees.specs.States.{next_known, outgoing_known, phase_known}
use Rattle.guarantees.proofs.Frames.{Frame, at_c, at_d, b_frame, table_b, table_e}
use Rattle.guarantees.proofs.Releases.{passed, passed_known}
use Rattle.guarantees.proofs.Settled.{Decided, DecidedAt, OpenAt}
use Rattle.guarantees.proofs.Times.{Times, processor_times, copyout_times, copyin_times, parted_d, table_d}
use Rattle.guarantees.proofs.Served.{NotBefore}
use Rattle.guarantees.proofs.Steps.{Sub, best_of}
use Rattle.guarantees.proofs.Cases.{held_at, copyin_cases, copyout_cases, processor_cases, b_cases, d_cases, e_cases, g_cases}
use Rattle.guarantees.proofs.Places.{Parted}
use Rattle.guarantees.proofs.Places

-- no task has more than the greatest
pub greatest_most : (k tasks : ℕ) (has : ℕ → ℕ) (n : ℕ) → n < k → member n tasks ≡ true → has n ≤ greatest k tasks has
unfolding greatest
greatest_most zero tasks has n l m = absurd (not-suc-le-zero l)
greatest_most (suc k) tasks has n l m =
    by-test (eqb n k)
    (λ e. subst (λ (j : ℕ). has j ≤ max (greatest k tasks has) (cond (member j tasks) (has j) 0) → has n ≤ max (greatest k tasks has) (cond (member k tasks) (has k) 0))
    (sym (eqb-true n k e)) (λ x. subst (λ (j : ℕ). has j ≤ max (greatest k tasks has) (cond (member k tasks) (has k) 0)) (sym (eqb-true n k e)) x) (rw m (omega arith)))
    (λ e. omega (arith, greatest_most k tasks has n (omega (arith, eqb-false n k e)) m))

-- the begin of the open interval
abbrev pub begun_of : Phase → Option ℕ
begun_of (Between next outgoing) = None
begun_of (Within i) = Some i.begin

-- an interval that began at b, if one is open, is open at t at most M later
abbrev pub in_time : ℕ → Option ℕ → ℕ → Type 0
in_time M None t = Unit {0}
in_time M (Some b) t = t ≤ b + M

module _ (table : Table) (tasks : table.present < 2 ^ 32) where
  abbrev L : ℕ
  L = greatest_copyin table.present table.columns

  abbrev U : ℕ
  U = greatest_copyout table.present table.columns

  abbrev LC : ℕ
  LC = greatest_work table.present table.columns

  abbrev pub M : ℕ
  M = longest_interval table.present table.columns

  -- ---- what is under way in an interval that began at b

  abbrev processor_span : ℕ → Processor → Type 0
  processor_span b Idle = Unit {0}
  processor_span b (CopyingIn n until) = until + execution_length table.columns n ≤ b + LC
  processor_span b (Executing n start until) = until ≤ b + LC
  processor_span b (Finished n start) = Unit {0}

  abbrev copyout_span : ℕ → CopyOut → Type 0
  copyout_span b NoCopyOut = Unit {0}
  copyout_span b (CopyingOut n start until) = until ≤ b + U
  copyout_span b (CopiedOut n) = Unit {0}

  -- while none is chosen, the time has not gone past what a copy-out may take
  abbrev copyin_span : ℕ → ℕ → CopyIn → Type 0
  copyin_span t b Unchosen = t ≤ b + U
  copyin_span t b NoneChosen = Unit {0}
  copyin_span t b (Copying n until) = until ≤ b + U + L
  copyin_span t b (Loaded n) = Unit {0}
  copyin_span t b (Cancelled n fate) = Unit {0}

  abbrev pub Spans : ℕ → Phase → Type 0
  Spans t (Between next outgoing) = Unit {0}
  Spans t (Within i) = processor_span i.begin i.processor × copyout_span i.begin i.copyout × copyin_span t i.begin i.copyin

  -- ---- an instant that is served

  longest : (LC ≤ M) × (U + L ≤ M)
  unfolding longest_interval
  longest = (omega arith, omega arith)

  module _ (t : ℕ) where
    -- it finds something under way, since an interval that is over is not open; so it comes in time
    engine_reached : (x b : ℕ) (o : CopyOut) (k : CopyIn) → Decided k o → (not (copying_out o) && settled k) ≡ false
        → copyout_times (NotBefore t) o → copyin_times (NotBefore t) k → copyout_span b o → copyin_span x b k → t ≤ b + M
    engine_reached x b (CopyingOut n start until) k c e h1 h2 s1 s2 = omega (arith, longest.1, h1, s1)
    engine_reached x b NoCopyOut Unchosen c e h1 h2 s1 s2 = absurd (false≢true c)
    engine_reached x b NoCopyOut NoneChosen c e h1 h2 s1 s2 = absurd (true≢false e)
    engine_reached x b NoCopyOut (Copying n until) c e h1 h2 s1 s2 = omega (arith, longest.1, h2, s2)
    engine_reached x b NoCopyOut (Loaded n) c e h1 h2 s1 s2 = absurd (true≢false e)
    engine_reached x b NoCopyOut (Cancelled n fate) c e h1 h2 s1 s2 = absurd (true≢false e)
    engine_reached x b (CopiedOut m) Unchosen c e h1 h2 s1 s2 = absurd (false≢true c)
    engine_reached x b (CopiedOut m) NoneChosen c e h1 h2 s1 s2 = absurd (true≢false e)
    engine_reached x b (CopiedOut m) (Copying n until) c e h1 h2 s1 s2 = omega (arith, longest.1, h2, s2)
    engine_reached x b (CopiedOut m) (Loaded n) c e h1 h2 s1 s2 = absurd (true≢false e)
    engine_reached x b (CopiedOut m) (Cancelled n fate) c e h1 h2 s1 s2 = absurd (true≢false e)

    units_reached : (x b : ℕ) (q : Processor) (o : CopyOut) (k : CopyIn) → Decided k o → (resting q && (not (copying_out o) && settled k)) ≡ false
        → processor_times (NotBefore t) q → copyout_times (NotBefore t) o → copyin_times (NotBefore t) k
        → processor_span b q → copyout_span b o → copyin_span x b k → t ≤ b + M
    units_reached x b Idle o k c e h0 h1 h2 s0 s1 s2 = engine_reached x b o k c e h1 h2 s1 s2
    units_reached x b (CopyingIn n until) o k c e h0 h1 h2 s0 s1 s2 = omega (arith, longest.0, h0, s0)
    units_reached x b (Executing n start until) o k c e h0 h1 h2 s0 s1 s2 = omega (arith, longest.0, h0, s0)
    units_reached x b (Finished n start) o k c e h0 h1 h2 s0 s1 s2 = engine_reached x b o k c e h1 h2 s1 s2

    pub reached : (x : ℕ) (p : Phase) → DecidedAt p → OpenAt p → Times (NotBefore t) p → Spans x p → in_time M (begun_of p) t
    reached x (Between next outgoing) c o h s = tt
    reached x (Within i) c o h s = units_reached x i.begin i.processor i.copyout i.copyin c o h.0 h.1 h.2 s.0 s.1 s.2

    -- and while none is chosen the copy-out is under way, so that the time is not past what it may take
    opens_free : (x b : ℕ) (o : CopyOut) (k : CopyIn) → Decided k o → copyout_times (NotBefore t) o → copyout_span b o → copyin_span x b k → copyin_span t b k
    opens_free x b (CopyingOut n start until) Unchosen c h s1 s2 = omega (arith, h, s1)
    opens_free x b NoCopyOut Unchosen c h s1 s2 = absurd (false≢true c)
    opens_free x b (CopiedOut n) Unchosen c h s1 s2 = absurd (false≢true c)
    opens_free x b o NoneChosen c h s1 s2 = tt
    opens_free x b o (Copying n until) c h s1 s2 = s2
    opens_free x b o (Loaded n) c h s1 s2 = tt
    opens_free x b o (Cancelled n fate) c h s1 s2 = tt

    at_first : (x : ℕ) (p : Phase) → DecidedAt p → Times (NotBefore t) p → Spans x p → Spans t p
    at_first x (Between next outgoing) c h s = tt
    at_first x (Within i) c h s = (s.0, s.1, opens_free x i.begin i.copyout i.copyin c h.1 s.1 s.2)

    -- ---- step by step

    -- a
    a_processor : (y : Table) (b : ℕ) (q : Processor) → y ≡ table → processor_span b q → processor_span b (processor_at y t q)
    a_processor y b q e s =
        processor_cases t y (processor_span b) q s
        (λ n u c z. executes n u (eqb-true u t z) (subst (processor_span b) c s))
        (λ n v u c z. tt)
      where
        executes : (n u : ℕ) → u ≡ t → u + execution_length table.columns n ≤ b + LC → later t (execution_length y.columns n) ≤ b + LC
        executes n u z h = let w : execution_length y.columns n ≡ execution_length table.columns n = rw e in omega arith

    a_copyout : (b : ℕ) (o : CopyOut) → copyout_span b o → copyout_span b (copyout_at t o)
    a_copyout b o s = copyout_cases t (copyout_span b) o s (λ n v u c z. tt)

    a_copyin : (b : ℕ) (k : CopyIn) → copyin_span t b k → copyin_span t b (copyin_at t k)
    a_copyin b k s = copyin_cases t (copyin_span t b) k s (λ n u c z. tt)

    a_spans : (d : State) (p : Phase) → d.phase ≡ p → d.table ≡ table → Spans t p → Spans t (step_a d t p).state.phase
    unfolding step_a ended
    a_spans d (Between next outgoing) e x h = subst (Spans t) (sym e) tt
    a_spans d (Within i) e x h = (a_processor d.table i.begin i.processor x h.0, a_copyout i.begin i.copyout h.1, a_copyin i.begin i.copyin h.2)

    -- b, f
    b_spans : (z : Stage) → Spans t z.state.phase → Spans t (step_b z t z.state.phase).state.phase
    unfolding close
    b_spans z h = b_cases (λ x. Spans t x.phase) z t (λ i e o. h) (λ next outgoing e. h) (λ i e o. tt)

    -- c
    c_spans : (d : State) (taken : ℕ) (p : Phase) → Spans t p → Spans t (with_candidates d taken p)
    unfolding with_candidates
    c_spans d taken (Between next outgoing) h = tt
    c_spans d taken (Within i) h = h

    -- d
    d_spans : (d : State) (taken : ℕ) → Spans t d.phase → Spans t (step_d d taken d.phase).phase
    unfolding cancel
    d_spans d taken h = d_cases (λ x. Spans t x.phase) d taken h (λ i n u e s b. ((subst (Spans t) e h).0, (subst (Spans t) e h).1, tt))

    -- e
    known_copyin : (n : ℕ) → member n table.present ≡ true → copyin_length table.columns n ≤ L
    known_copyin n m = greatest_most 32 table.present (λ k. copyin_length table.columns k) n (member_task n table.present tasks m) m

    choose_spans : (d : State) (i : Interval) (q : Option ℕ) → d.table ≡ table → Sub d.jobs.ready table.present → Best d.table.priority d.jobs.ready q
        → i.copyin ≡ Unchosen → Spans t (Within i) → Spans t (choose d t i q).phase
    unfolding choose
    choose_spans d i None x k b u h = (h.0, h.1, tt)
    choose_spans d i (Some q) x k b u h =
        (h.0, h.1, copies (subst (copyin_span t i.begin) u h.2))
      where
        copies : t ≤ i.begin + U → later t (copyin_length d.table.columns q) ≤ i.begin + U + L
        copies l =
            let w : copyin_length d.table.columns q ≡ copyin_length table.columns q = rw x in
            omega (arith, known_copyin q (k q b.0 b.1))

    e_spans : (d : State) → d.table ≡ table → Sub d.jobs.ready table.present → Spans t d.phase → Spans t (step_e d t d.phase).phase
    e_spans d x k h =
        e_cases (λ y. Spans t y.phase) d t h
        (λ i e s u. choose_spans d i (highest_of d d.jobs.ready) x k (best_of d d.jobs.ready) s (subst (Spans t) e h))

    -- g
    known_work : (n : ℕ) → member n table.present ≡ true → copyin_length table.columns n + execution_length table.columns n ≤ LC
    known_work n m = greatest_most 32 table.present (λ k. copyin_length table.columns k + execution_length table.columns k) n (member_task n table.present tasks m) m

    known_copyout : (n : ℕ) → member n table.present ≡ true → copyout_length table.columns n ≤ U
    known_copyout n m = greatest_most 32 table.present (λ k. copyout_length table.columns k) n (member_task n table.present tasks m) m

    g_processor : (next : Next) → next_known table.present next → processor_span t (begin_processor table t next)
    g_processor NoneNext k = tt
    g_processor (LoadedNext n) k = omega (arith, known_work n k)
    g_processor (PromotedNext n) k = omega (arith, known_work n k)

    g_copyout : (outgoing : Outgoing) → outgoing_known table.present outgoing → copyout_span t (begin_copyout table t outgoing)
    g_copyout NoneOutgoing k = tt
    g_copyout (AwaitsCopyOut n start) k = omega (arith, known_copyout n k)

    g_spans : (f : State) (taken : ℕ) → f.table ≡ table → Parted table.present tasks f f.phase → Spans t f.phase → Spans t (step_g f t taken f.phase).phase
    unfolding begin
    g_spans f taken x k h =
        g_cases (λ y. Spans t y.phase) f t taken (λ i e. h) (λ next outgoing e w. h)
        (λ next outgoing e w.
        let n : next_known table.present next × outgoing_known table.present outgoing = subst (phase_known table.present) e k.known in
        e_spans (begin f t taken next outgoing) x k.ready (
          subst (λ (y : Table). processor_span t (begin_processor y t next)) (sym x) (g_processor next n.0),
          subst (λ (y : Table). copyout_span t (begin_copyout y t outgoing)) (sym x) (g_copyout outgoing n.1),
          free,
        ))
      where
        free : t ≤ t + U
        free = omega arith

    -- the steps together
    pub instant_spans : (d : State) (set : ℕ) → d.table ≡ table → Sub set table.present → Parted table.present tasks d d.phase → Spans t d.phase
        → Spans t (at_g d t set).phase
    unfolding at_g at_f at_e at_b at_a taken_at deferred_at
    instant_spans d set x f k h =
        let pr : ℕ = table.present in
        let b : State = (at_b d t).state in
        let y : State = at_d d t set in
        let e : State = at_e d t set in
        let z : Stage = fresh_stage e in
        let ff : State = (at_f d t set).state in
        let kb : Parted pr tasks b b.phase = (Places.to_b pr tasks d t k).parted in
        let ky : Parted pr tasks y y.phase = parted_d pr tasks t b (passed d t set) (passed_known d t set pr f) kb in
        let ke : Parted pr tasks e e.phase = (Places.to_e pr tasks d t set f kb).parted in
        let kf : Parted pr tasks ff ff.phase = (Places.b_moves pr tasks z t e.phase refl ke).parted in
        let hb : Spans t b.phase = b_spans (at_a d t) (a_spans (at_clock d t) d.phase refl x h) in
        let he : Spans t e.phase = e_spans y (table_d table t b (passed d t set) (table_b d t ∙ x)) ky.ready (d_spans (at_c d t set) (taken_at d t set) (to_c b (passed d t set) hb)) in
        g_spans ff (held_at d t set) (ap (λ (y : Frame). y.table) (b_frame z t) ∙ table_e d t set ∙ x) kf (b_spans z he)
      where
        to_c : (b : State) (set : ℕ) → Spans t b.phase → Spans t (step_c b t (taken b set) (deferred b set)).phase
        to_c b set h = unfold step_c in c_spans b (taken b set) b.phase h

    pub next_spans : (x : ℕ) (d : State) (set : ℕ) → d.table ≡ table → Sub set table.present → Parted table.present tasks d d.phase → DecidedAt d.phase
        → Times (NotBefore t) d.phase → Spans x d.phase → Spans t (at_g d t set).phase
    next_spans x d set e f k c h s = instant_spans d set e f k (at_first x d.phase c h s)
