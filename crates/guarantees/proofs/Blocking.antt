-- No blocked count goes over 2: a job's first and second interval may each count one, and from the third on none does.
use Rattle.std.proofs.Common.{◌≡◌, ◌&&◌, ◌∷◌, ◌⊎◌, ◌+◌, ◌≤◌, ◌<◌}
use Rattle.guarantees.specs.Queries.{is_task}
use Rattle.guarantees.specs.Types.{refl, sym, ap, ◌∙◌, subst, Bool, true, false, cond, false≢true, List, [], inl, inr, ⊎_elim, ℕ, zero, suc, min, Table, Option, None, Some, CopyIn, Unchosen, NoneChosen, Copying, Loaded, Cancelled, Interval, Next, Outgoing, Phase, Between, Within, State, Stage}
use Rattle.guarantees.specs.Claim.{NotLower}
use native.Mathlib.Omega.{arith}
use native.Mathlib.Nat.{add-zero, zero-add}
use borrow.Author.Tests.{eqb-true, ltb-true}
use lib.Dec.{ltb}
use lib.ListN.{get_or, replicate}
use Rattle.sets.specs.Sets.{member, intersection, bit}
use Rattle.sets.proofs.Laws.{by-test, clash, left, right, none, collect_out, union_out, intersection_right, insert_out, remove_out}
use Rattle.rules.specs.With.{at_clock}
use Rattle.rules.specs.Order.{highest_of, higher, higher_than}
use Rattle.rules.specs.Instant.{step_a, step_b, step_c, step_d, step_e, step_g, over, promoted, without_promoted, next_of, awaiting_execution, blocks, counted, stamped, close, with_candidates, cancel, choose, begin, begin_processor, without_done, ended, copyin_at, processor_task, at_a, at_b, at_e, at_f, at_g, taken_at, deferred_at, fresh_stage}
use Rattle.rules.specs.Calls.{opened}
use Rattle.guarantees.proofs.Highest.{Best}
use Rattle.guarantees.proofs.Walk.{with_marks}
use Rattle.guarantees.proofs.Cases.{held_at, copyin_cases, a_cases, b_cases, d_cases, e_cases, g_cases}
use Rattle.guarantees.proofs.Steps.{best_of, settles, c_new, NewAt, processor_task_same}
use Rattle.guarantees.proofs.Waiting.{Bound, Old, rule_old, held_task, held_is, next_task, up_next, runs, Left, closed, ready_at, fate_at, a_waiting, c_waiting, d_waiting, e_waiting}

-- ---- the counts of a list

pub shift : (k n : ℕ) → suc k + n ≡ k + suc n
shift k n = omega arith

-- one more at most, for a task that is blocked
counted_at : (s k : ℕ) (xs : List ℕ) (n : ℕ) → get_or (counted s k xs) n 0 ≤ get_or xs n 0 + bit (member (k + n) s)
unfolding counted
counted_at s k [] n = omega arith
counted_at s k (x ∷ xs) zero = rw (add-zero k) (go (member k s))
  where
    go : (b : Bool) → cond b (min (x + 1) 255) x ≤ x + bit b
    go true = omega arith
    go false = omega arith
counted_at s k (x ∷ xs) (suc n) = subst (λ (j : ℕ). get_or (counted s (suc k) xs) n 0 ≤ get_or xs n 0 + bit (member j s)) (shift k n) (counted_at s (suc k) xs n)

-- and none for one whose release is taken
stamped_at : (s k : ℕ) (xs : List ℕ) (n : ℕ) → get_or (stamped s (λ j. 0) k xs) n 0 ≤ cond (member (k + n) s) 0 (get_or xs n 0)
unfolding stamped
stamped_at s k [] n = go (member (k + n) s)
  where
    go : (b : Bool) → 0 ≤ cond b 0 0
    go true = omega arith
    go false = omega arith
stamped_at s k (x ∷ xs) zero = rw (add-zero k) (omega arith)
stamped_at s k (x ∷ xs) (suc n) = subst (λ (j : ℕ). get_or (stamped s (λ j. 0) (suc k) xs) n 0 ≤ cond (member j s) 0 (get_or xs n 0)) (shift k n) (stamped_at s (suc k) xs n)

zeros : (k n : ℕ) → ◌≡◌ {A = ℕ} (get_or (replicate k 0) n 0) 0
zeros zero n = refl
zeros (suc k) zero = refl
zeros (suc k) (suc n) = zeros k n

-- ---- how far a job is

-- between intervals, with the job that is to execute next; or in one, with the task that it executes
pub data Place : Type 0 where
  Out : Option ℕ → Place
  In : Option ℕ → Place

abbrev pub place : Phase → Place
place (Between next outgoing) = Out (next_task next)
place (Within i) = In (processor_task i.processor)

pub c_place : (d : State) (taken : ℕ) (p : Phase) → place (with_candidates d taken p) ≡ place p
unfolding with_candidates
c_place d taken (Between next outgoing) = refl
c_place d taken (Within i) = refl

pub c_up_next : (d : State) (taken : ℕ) (p : Phase) → up_next (with_candidates d taken p) ≡ up_next p
unfolding with_candidates
c_up_next d taken (Between next outgoing) = refl
c_up_next d taken (Within i) = refl

module _ (pr : List ℕ) (n : ℕ) (small : n < 32) where
  abbrev pub Waits : State → Type 0
  Waits d = Old pr n d

  -- n's job is to be executed in a later interval
  abbrev pub Awaits : ℕ → Option ℕ → Type 0
  Awaits ready h = (member n ready ≡ true) ⊎ (is_task n h ≡ true)

  abbrev pub AwaitsIn : State → Type 0
  AwaitsIn d = Awaits d.jobs.ready (up_next d.phase)

  -- what its count is at most: in its first interval 0; in the second 1; then 2, where the processor runs none that is lower
  abbrev pub Far : ℕ → Type 0 → Place → Type 0
  Far c old (Out h) = (c ≤ 1) ⊎ ((c ≤ 2) × NotLower pr n h)
  Far c old (In r) = (c ≤ 0) ⊎ (((c ≤ 1) × old) ⊎ ((c ≤ 2) × old × NotLower pr n r))

  far_none : (c : ℕ) (old : Type 0) (p : Place) → c ≤ 0 → Far c old p
  far_none c old (Out h) l = inl (omega arith)
  far_none c old (In r) l = inl l

  far_map : (c c' : ℕ) (old old' : Type 0) (p : Place) → c' ≤ c → (old → old') → Far c old p → Far c' old' p
  far_map c c' old old' (Out h) l f x = ⊎_elim (λ y. inl (omega arith)) (λ y. inr (omega (arith, y.0), y.1)) x
  far_map c c' old old' (In r) l f x =
      ⊎_elim (λ y. inl (omega arith)) (λ y. inr (⊎_elim (λ z. inl (omega (arith, z.0), f z.1)) (λ z. inr (omega (arith, z.0), f z.1, z.2)) y)) x

  far_most : (c : ℕ) (old : Type 0) (p : Place) → Far c old p → c ≤ 2
  far_most c old (Out h) x = ⊎_elim (λ y. omega arith) (λ y. y.0) x
  far_most c old (In r) x = ⊎_elim (λ y. omega arith) (λ y. ⊎_elim (λ z. omega (arith, z.0)) (λ z. z.0) y) x

  abbrev pub count : State → ℕ
  count d = get_or d.jobs.blocked n 0

  pub record Bounded (d : State) : Type 0 where
    pub table : d.table.priority ≡ pr
    pub most : count d ≤ 2
    pub far : AwaitsIn d → Far (count d) (Waits d) (place d.phase)

  -- a step that leaves the place, and raises no count
  pub record Like (d g : State) : Type 0 where
    pub table : g.table.priority ≡ d.table.priority
    pub count : get_or g.jobs.blocked n 0 ≡ get_or d.jobs.blocked n 0
    pub place : place d.phase ≡ place g.phase
    pub awaits : AwaitsIn g → AwaitsIn d

  keeps : (d g : State) → Like d g → (Waits d → Waits g) → Bounded d → Bounded g
  keeps d g l f h = record {
    table = l.table ∙ h.table;
    most = omega (arith, h.most, l.count);
    far = λ x.
        subst (Far (count g) (Waits g)) l.place
        (far_map (count d) (count g) (Waits d) (Waits g) (place d.phase) (omega (arith, l.count)) f (h.far (l.awaits x)));
  }

  -- ---- step by step

  -- a
  pub a_held : (t : ℕ) (c : CopyIn) → held_task (copyin_at t c) ≡ held_task c
  a_held t c = copyin_cases t (λ x. held_task x ≡ held_task c) c refl (λ k u e x. ap held_task (sym e))

  pub a_like : (t : ℕ) (d : State) → Like d (step_a d t d.phase).state
  unfolding without_done ended
  a_like t d =
      a_cases (Like d) d t (λ next outgoing e. record { table = refl; count = refl; place = refl; awaits = λ x. x })
      (λ i e. record {
        table = refl;
        count = refl;
        place = ap place e ∙ ap In (sym (processor_task_same d.table t i.processor));
        awaits = λ x. subst (λ (p : Phase). Awaits d.jobs.ready (up_next p)) (sym e) (subst (Awaits d.jobs.ready) (a_held t i.copyin) x);
      })

  a_bounded : (t : ℕ) (d : State) → Bounded d → Bounded (step_a d t d.phase).state
  a_bounded t d =
      keeps d (step_a d t d.phase).state (a_like t d)
      (a_waiting pr n (Bound pr n) (NotLower pr n) (rule_old pr n small) small t d)

  -- b, f: whom an interval that is over has blocked
  waiting_awaits : (ready : ℕ) (c : CopyIn) → member n (awaiting_execution c ready) ≡ true → Awaits ready (held_task c)
  waiting_awaits ready Unchosen h = inl h
  waiting_awaits ready NoneChosen h = inl h
  waiting_awaits ready (Copying c until) h = inl h
  waiting_awaits ready (Loaded c) h = ⊎_elim (λ e. inr e) (λ m. inl m) (insert_out c ready n h)
  waiting_awaits ready (Cancelled c fate) h = inl h

  higher_lower : (d : State) (s : ℕ) (r : Option ℕ) → member n (higher d r s) ≡ true → (member n s ≡ true) × (NotLower d.table.priority n r → ⊥)
  unfolding higher_than
  higher_lower d s None h = clash (member n 0) h (none n)
  higher_lower d s (Some r) h =
      let x : (member n s && ltb (get_or d.table.priority n 0) (get_or d.table.priority r 0)) ≡ true =
      collect_out (λ k. member k s && ltb (get_or d.table.priority k 0) (get_or d.table.priority r 0)) n h in
      let l : get_or d.table.priority n 0 < get_or d.table.priority r 0 =
      ltb-true (get_or d.table.priority n 0) (get_or d.table.priority r 0) (right (member n s) (ltb (get_or d.table.priority n 0) (get_or d.table.priority r 0)) x) in
      (left (member n s) (ltb (get_or d.table.priority n 0) (get_or d.table.priority r 0)) x, λ y. omega arith)

  -- and who awaits execution after it did before it
  pub promoted_awaits : (ready : ℕ) (c : CopyIn) (q : Option ℕ) → (is_task n q ≡ true → member n ready ≡ true) → Awaits (without_promoted ready q) (next_task (next_of c q)) → Awaits ready (held_task c)
  promoted_awaits ready c (Some q) f x = inl (⊎_elim (λ m. remove_out q ready n m) f x)
  promoted_awaits ready Unchosen None f x = x
  promoted_awaits ready NoneChosen None f x = x
  promoted_awaits ready (Copying c until) None f x = ⊎_elim (λ m. inl m) (λ e. absurd (false≢true e)) x
  promoted_awaits ready (Loaded c) None f x = x
  promoted_awaits ready (Cancelled c fate) None f x = x

  pub promoted_ready : (d : State) (i : Interval) (c : CopyIn) → is_task n (promoted d i c) ≡ true → member n d.jobs.ready ≡ true
  unfolding promoted
  promoted_ready d i c = go c
    where
      s : ℕ
      s = intersection i.candidates d.jobs.ready

      picked : (q : Option ℕ) → Best d.table.priority (intersection i.candidates d.jobs.ready) q → is_task n q ≡ true → member n d.jobs.ready ≡ true
      picked None b e = absurd (false≢true e)
      picked (Some q) b e =
          intersection_right i.candidates d.jobs.ready n
          (ap (λ (k : ℕ). member k (intersection i.candidates d.jobs.ready)) (eqb-true n q e) ∙ b.1)

      go : (c : CopyIn) → is_task n (promoted d i c) ≡ true → member n d.jobs.ready ≡ true
      go Unchosen e = absurd (false≢true e)
      go NoneChosen e = picked (highest_of d (intersection i.candidates d.jobs.ready)) (best_of d (intersection i.candidates d.jobs.ready)) e
      go (Copying m until) e = absurd (false≢true e)
      go (Loaded m) e = absurd (false≢true e)
      go (Cancelled m fate) e = picked (highest_of d (intersection i.candidates d.jobs.ready)) (best_of d (intersection i.candidates d.jobs.ready)) e

  module _ (d : State) (t : ℕ) (i : Interval) (e : d.phase ≡ Within i) (o : over i ≡ true) (h : Bounded d) where
    far_within : Awaits d.jobs.ready (held_task i.copyin) → Far (count d) (Waits d) (In (processor_task i.processor))
    far_within x = subst (λ (p : Phase). Awaits d.jobs.ready (up_next p) → Far (count d) (Waits d) (place p)) e h.far x

    one_more : count (close d i) ≤ count d + bit (member n (blocks d i))
    unfolding close
    one_more = subst (λ (j : ℕ). count (close d i) ≤ count d + bit (member j (blocks d i))) (zero-add n) (counted_at (blocks d i) 0 d.jobs.blocked n)

    -- the next interval runs none that is lower
    next_high : Waits d → NotLower pr n (next_task (next_of i.copyin (promoted d i i.copyin)))
    unfolding Left
    next_high w =
        (closed pr n (Bound pr n) (NotLower pr n) (rule_old pr n small) small d i i.copyin (settles i o) w
        (ready_at pr n (Bound pr n) (NotLower pr n) (rule_old pr n small) small d e w)
        (fate_at pr n (Bound pr n) (NotLower pr n) (rule_old pr n small) small d e w)).1

    -- the count of a job that awaits execution
    closed_far : Far (count d) (Waits d) (In (processor_task i.processor))
        → Far (count (close d i)) (Waits (close d i)) (Out (next_task (next_of i.copyin (promoted d i i.copyin))))
    unfolding blocks
    closed_far x =
        ⊎_elim (λ y. inl (omega (arith, one_more, bit_most (member n (blocks d i)))))
        (λ y. ⊎_elim (λ z. inr (omega (arith, z.0, one_more, bit_most (member n (blocks d i))), next_high z.1))
        (λ z. inr (omega (arith, z.0, one_more, unblocked z.2), next_high z.1)) y) x
      where
        bit_most : (b : Bool) → bit b ≤ 1
        bit_most true = omega arith
        bit_most false = omega arith

        unblocked : NotLower pr n (processor_task i.processor) → bit (member n (blocks d i)) ≡ 0
        unblocked y =
            by-test (member n (blocks d i))
            (λ b. absurd ((higher_lower d (awaiting_execution i.copyin d.jobs.ready) (processor_task i.processor) b).1
            (subst (λ (p : List ℕ). NotLower p n (processor_task i.processor)) (sym h.table) y)))
            (λ b. rw b)

    close_bounded : Bounded (close d i)
    unfolding close blocks
    close_bounded = record {
      table = h.table;
      most =
          by-test (member n (blocks d i))
          (λ b. far_most (count (close d i)) (Waits (close d i)) (Out (next_task (next_of i.copyin (promoted d i i.copyin))))
          (closed_far (far_within (waiting_awaits d.jobs.ready i.copyin
          (higher_lower d (awaiting_execution i.copyin d.jobs.ready) (processor_task i.processor) b).0))))
          (λ b. omega (arith, h.most, one_more, ap bit b));
      far = λ x. closed_far (far_within (promoted_awaits d.jobs.ready i.copyin (promoted d i i.copyin) (promoted_ready d i i.copyin) x));
    }

  b_bounded : (t : ℕ) (s : Stage) → Bounded s.state → Bounded (step_b s t s.state.phase).state
  b_bounded t s h = b_cases Bounded s t (λ i e o. h) (λ next outgoing e. h) (λ i e o. close_bounded s.state t i e o h)

  -- c
  c_bounded : (t taken deferred : ℕ) (d : State) → Bounded d → Bounded (step_c d t taken deferred)
  unfolding step_c
  c_bounded t taken deferred d h =
      by-test (member n taken)
      (λ m.
      let z : count (step_c d t taken deferred) ≤ 0 = omega (arith, fewer, ap (λ (b : Bool). cond b 0 (count d)) m) in
      record { table = h.table; most = omega arith; far = λ x. far_none (count (step_c d t taken deferred)) (Waits (step_c d t taken deferred)) (place (step_c d t taken deferred).phase) z })
      (λ m.
      let z : count (step_c d t taken deferred) ≤ count d = omega (arith, fewer, ap (λ (b : Bool). cond b 0 (count d)) m) in
      record {
        table = h.table;
        most = omega (arith, h.most);
        far = λ x.
            subst (Far (count (step_c d t taken deferred)) (Waits (step_c d t taken deferred))) (sym (c_place d taken d.phase))
            (far_map (count d) (count (step_c d t taken deferred)) (Waits d) (Waits (step_c d t taken deferred)) (place d.phase) z
            (c_waiting pr n (Bound pr n) (NotLower pr n) (rule_old pr n small) small t taken deferred d)
            (h.far (⊎_elim (λ y. inl (⊎_elim (λ z. z) (λ z. clash (member n taken) z m) (union_out d.jobs.ready taken n y)))
            (λ y. inr (ap (is_task n) (sym (c_up_next d taken d.phase)) ∙ y)) x)));
      })
    where
      fewer : count (step_c d t taken deferred) ≤ cond (member n taken) 0 (count d)
      fewer = unfold step_c in subst (λ (j : ℕ). count (step_c d t taken deferred) ≤ cond (member j taken) 0 (count d)) (zero-add n) (stamped_at taken 0 d.jobs.blocked n)

  -- d
  pub d_like : (taken : ℕ) (d : State) → Like d (step_d d taken d.phase)
  unfolding cancel
  d_like taken d =
      d_cases (Like d) d taken (record { table = refl; count = refl; place = refl; awaits = λ x. x })
      (λ i c u e s b. record {
        table = refl;
        count = refl;
        place = ap place e;
        awaits = λ x.
            subst (λ (p : Phase). Awaits d.jobs.ready (up_next p)) (sym e)
            (⊎_elim (λ y. ⊎_elim (λ z. inr (ap (is_task n) (held_is i.copyin c s) ∙ z)) (λ z. inl z) (insert_out c d.jobs.ready n y))
            (λ y. absurd (false≢true y)) x);
      })

  d_bounded : (taken : ℕ) (d : State) → NewAt d taken d.phase → Bounded d → Bounded (step_d d taken d.phase)
  d_bounded taken d k =
      keeps d (step_d d taken d.phase) (d_like taken d)
      (d_waiting pr n (Bound pr n) (NotLower pr n) (rule_old pr n small) small taken d k)

  -- e
  choose_like : (d : State) (t : ℕ) (i : Interval) (q : Option ℕ) → d.phase ≡ Within i → Best d.table.priority d.jobs.ready q → Like d (choose d t i q)
  unfolding choose
  choose_like d t i None e b = record {
    table = refl;
    count = refl;
    place = ap place e;
    awaits = λ x. ⊎_elim (λ y. inl y) (λ y. absurd (false≢true y)) x;
  }
  choose_like d t i (Some q) e b = record {
    table = refl;
    count = refl;
    place = ap place e;
    awaits = λ x. inl (⊎_elim (λ y. remove_out q d.jobs.ready n y) (λ y. ap (λ (k : ℕ). member k d.jobs.ready) (eqb-true n q y) ∙ b.1) x);
  }

  pub e_like : (t : ℕ) (d : State) → Like d (step_e d t d.phase)
  e_like t d =
      e_cases (Like d) d t (record { table = refl; count = refl; place = refl; awaits = λ x. x })
      (λ i e s u. choose_like d t i (highest_of d d.jobs.ready) e (best_of d d.jobs.ready))

  e_bounded : (t : ℕ) (d : State) → Bounded d → Bounded (step_e d t d.phase)
  e_bounded t d =
      keeps d (step_e d t d.phase) (e_like t d)
      (e_waiting pr n (Bound pr n) (NotLower pr n) (rule_old pr n small) small t d)

  -- g
  begin_bounded : (f : State) (t taken : ℕ) (next : Next) (outgoing : Outgoing) → f.phase ≡ Between next outgoing → Bounded f → Bounded (begin f t taken next outgoing)
  unfolding begin
  begin_bounded f t taken next outgoing e h = record {
    table = h.table;
    most = h.most;
    far = λ x. ⊎_elim (λ m. go m) (λ y. absurd (false≢true y)) x;
  }
    where
      b : State
      b = begin f t taken next outgoing

      go : member n f.jobs.ready ≡ true → Far (count f) (Waits (begin f t taken next outgoing)) (In (processor_task (begin_processor f.table t next)))
      go m =
          let w : Waits (begin f t taken next outgoing) = unfold begin in record { table = h.table; ready = λ x. m; fate = tt } in
          rw (runs f.table t next)
          (⊎_elim (λ y. inr (inl (y, w))) (λ y. inr (inr (y.0, w, y.1)))
          (subst (λ (p : Phase). Far (count f) (Waits f) (place p)) e (h.far (inl m))))

  g_bounded : (t taken : ℕ) (f : State) → Bounded f → Bounded (step_g f t taken f.phase)
  g_bounded t taken f h =
      g_cases Bounded f t taken (λ i e. h) (λ next outgoing e w. h)
      (λ next outgoing e w. e_bounded t (begin f t taken next outgoing) (begin_bounded f t taken next outgoing e h))

  -- ---- at an instant

  module _ (d : State) (t set : ℕ) (h : Bounded d) where
    pub bounded_a : Bounded (at_a d t).state
    unfolding at_a
    bounded_a = a_bounded t (at_clock d t) (record { table = h.table; most = h.most; far = λ x. later_clock (h.far x) })
      where
        later_clock : Far (count d) (Waits d) (place d.phase) → Far (count d) (Waits (at_clock d t)) (place d.phase)
        later_clock x =
            far_map (count d) (count d) (Waits d) (Waits (at_clock d t)) (place d.phase) (omega arith) (λ w. record { table = w.table; ready = w.ready; fate = w.fate }) x

    pub bounded_e : Bounded (at_e d t set)
    unfolding at_e at_b
    bounded_e =
        let b : State = (at_b d t).state in
        let taken : ℕ = taken_at d t set in
        let deferred : ℕ = deferred_at d t set in
        let c : State = step_c b t taken deferred in
        e_bounded t (step_d c taken c.phase) (d_bounded taken c (c_new b t taken deferred) (c_bounded t taken deferred b (b_bounded t (at_a d t) bounded_a)))

    pub bounded_g : Bounded (at_g d t set)
    unfolding at_g at_f
    bounded_g =
        g_bounded t (held_at d t set) (at_f d t set).state
        (b_bounded t (fresh_stage (at_e d t set)) bounded_e)

  -- ---- at the opening, and at a call that is no instant

  -- without a job there is nothing to count
  pub bounded_opened : (table : Table) (marks : ℕ) → table.priority ≡ pr → Bounded (opened table marks)
  unfolding opened
  bounded_opened table marks e = record {
    table = e;
    most = omega (arith, zeros 32 n);
    far = λ x. ⊎_elim (λ m. clash (member n 0) m (none n)) (λ y. absurd (false≢true y)) x;
  }

  pub bounded_quiet : (d : State) (marks : ℕ) → Bounded d → Bounded (with_marks d marks)
  bounded_quiet d marks h = record {
    table = h.table;
    most = h.most;
    far = λ x.
        far_map (count d) (count d) (Waits d) (Waits (with_marks d marks)) (place d.phase) (omega arith)
        (λ w. record { table = w.table; ready = w.ready; fate = w.fate }) (h.far x);
  }
