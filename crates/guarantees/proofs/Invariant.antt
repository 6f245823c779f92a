-- The invariant of the states that calls made, and that each call keeps it. Its last part bounds the times: each phase under way ends after
-- the clock, at most 1,000,000 ticks after it, and before a bound that the mass still to come pushes down; so no time comes near the last tick
-- of a u64, since releases come by 1,000,000,000 and every phase that ends after that takes from the mass.
use Rattle.std.proofs.Common.{◌≡◌, ◌+◌, ◌*◌, ◌^◌, ◌≤◌, ◌<◌}
use Rattle.guarantees.specs.Types.{refl, sym, ap, ◌∙◌, subst, false, List, ⊎_elim, ℕ, Table, WaitingReleases, Clock, Processor, Idle, CopyingIn, Executing, Finished, CopyOut, NoCopyOut, CopyingOut, CopiedOut, CopyIn, Unchosen, NoneChosen, Copying, Loaded, Cancelled, Next, NoneNext, LoadedNext, PromotedNext, Outgoing, NoneOutgoing, AwaitsCopyOut, Phase, Between, Within, State, Call}
use native.Mathlib.Omega.{arith}
use borrow.Author.Tests.{eqb-true, eqb-false, eq-eqb, ltb-true, ltb-false}
use lib.Dec.{eqb, ltb}
use Rattle.table.specs.Table.{copyin_length, execution_length, copyout_length}
use Rattle.sets.specs.Sets.{member, difference, bit, size}
use Rattle.sets.proofs.Laws.{none, by-test, clash, size_none, size_most, union_small, union_out}
use Rattle.guarantees.proofs.Walk.{with_marks, MarksKnown, after}
use Rattle.guarantees.proofs.Proper.{Fair}
use Rattle.guarantees.specs.History.{after_calls}
use Rattle.rules.specs.Calls.{opened}
use Rattle.rules.specs.Instant.{taken, deferred, at_b, at_e, at_f, at_g, taken_at, fresh_stage}
use Rattle.rules.specs.With.{later}
use Rattle.guarantees.proofs.Frames.{table_g, clock_g, waiting_b}
use Rattle.guarantees.proofs.Releases.{taken_none, taken_known, passing_none, passed, waits_g, before_g, behind_g, balance_g}
use Rattle.guarantees.proofs.Count.{Sound, weight, rank, rank_small, phase_weight, phase_debt, b_leads, debt_covered, instant_leads, copyin_weight, processor_weight, next_weight, outgoing_weight}
use Rattle.guarantees.proofs.Settled.{Settled, settled_after}
use Rattle.guarantees.proofs.Times.{Times, times_map, processor_times, copyout_times, copyin_times, Starts, Later, drop, processor_drop, copyout_drop, copyin_drop, instant_times, instant_still, still_pending}
use Rattle.guarantees.proofs.Places.{Parted, instant_moves}
use Rattle.guarantees.proofs.Steps.{Sub}
use Rattle.guarantees.proofs.Served.{instant_sinks, last, Served-at, served_at, NotBefore}
use Rattle.guarantees.proofs.Count

-- the weight of a state is bounded
phase_weight_small : (p : Phase) → phase_weight p ≤ 3
phase_weight_small (Between next outgoing) = omega (arith, go next, go_outgoing outgoing)
  where
    go : (n : Next) → next_weight n ≤ 2
    go NoneNext = omega arith
    go (LoadedNext n) = omega arith
    go (PromotedNext n) = omega arith

    go_outgoing : (l : Outgoing) → outgoing_weight l ≤ 1
    go_outgoing NoneOutgoing = omega arith
    go_outgoing (AwaitsCopyOut n start) = omega arith
phase_weight_small (Within i) = omega (arith, go i.copyin, go_processor i.processor)
  where
    go : (c : CopyIn) → copyin_weight c ≤ 2
    go Unchosen = omega arith
    go NoneChosen = omega arith
    go (Copying n until) = omega arith
    go (Loaded n) = omega arith
    go (Cancelled n fate) = omega arith

    go_processor : (q : Processor) → processor_weight q ≤ 1
    go_processor Idle = omega arith
    go_processor (CopyingIn n until) = omega arith
    go_processor (Executing n start until) = omega arith
    go_processor (Finished n start) = omega arith

-- what is still to come: a release that waits weighs what its job will when it is taken, so that its taking adds nothing
unfoldable pub mass : State → ℕ
mass d = 8 * weight d d.phase + rank d.phase + 24 * size d.waiting.tasks

pub debt : State → ℕ
debt d = 8 * phase_debt d.phase

mass_small : (d : State) → mass d ≤ 1564
unfolding mass
mass_small d = omega (arith, size_most d.jobs.ready, size_most d.waiting.tasks, phase_weight_small d.phase, rank_small d.phase)

-- the time at which a phase under way ends: after the clock, not far, and far from the last tick of a clock
pub record Until (clock mass debt u : ℕ) : Type 0 where
  pub after : clock < u
  pub near : u ≤ clock + 1000000
  pub bound : u + 1000000 * mass ≤ 3000000000 + 1000000 * debt

-- ---- times by cases

module _ (X : ℕ → Type 0) (t : ℕ) where
  -- a time at which something ends is one of them
  bit_one : (u : ℕ) → X u → 1 ≤ bit (eqb u t) → X t
  bit_one u x h = by-test (eqb u t) (λ e. subst X (eqb-true u t e) x) (λ e. absurd (let z : 1 ≤ 0 = rw e at h in omega arith))

  processor_one : (q : Processor) → processor_times X q → 1 ≤ processor_drop t q → X t
  processor_one Idle x h = absurd (omega arith)
  processor_one (CopyingIn n until) x h = bit_one until x h
  processor_one (Executing n start until) x h = bit_one until x h
  processor_one (Finished n start) x h = absurd (omega arith)

  copyout_one : (o : CopyOut) → copyout_times X o → 1 ≤ copyout_drop t o → X t
  copyout_one NoCopyOut x h = absurd (omega arith)
  copyout_one (CopyingOut n start until) x h = bit_one until x h
  copyout_one (CopiedOut n) x h = absurd (omega arith)

  copyin_one : (c : CopyIn) → copyin_times X c → 1 ≤ copyin_drop t c → X t
  copyin_one Unchosen x h = absurd (omega arith)
  copyin_one NoneChosen x h = absurd (omega arith)
  copyin_one (Copying n until) x h = bit_one until x h
  copyin_one (Loaded n) x h = absurd (omega arith)
  copyin_one (Cancelled n fate) x h = absurd (omega arith)

  pub drop_one : (p : Phase) → Times X p → 1 ≤ drop t p → X t
  drop_one (Between next outgoing) x h = absurd (omega arith)
  drop_one (Within i) x h =
      by-test (ltb 0 (processor_drop t i.processor))
      (λ e. processor_one i.processor x.0 (ltb-true 0 (processor_drop t i.processor) e))
      (λ e. by-test (ltb 0 (copyout_drop t i.copyout))
      (λ f. copyout_one i.copyout x.1 (ltb-true 0 (copyout_drop t i.copyout) f))
      (λ f. copyin_one i.copyin x.2
      (omega (arith, ltb-false 0 (processor_drop t i.processor) e, ltb-false 0 (copyout_drop t i.copyout) f))))

  -- a time at which nothing ends is none of them
  abbrev Other : ℕ → Type 0
  Other u = X u × (u ≡ t → ⊥)

  bit_none : (u : ℕ) → bit (eqb u t) ≡ 0 → u ≡ t → ⊥
  bit_none u h e = let z : ◌≡◌ {A = ℕ} 1 0 = rw (eq-eqb u t e) at h in omega arith

  processor_none : (q : Processor) → processor_times X q → processor_drop t q ≡ 0 → processor_times Other q
  processor_none Idle x h = tt
  processor_none (CopyingIn n until) x h = (x, bit_none until h)
  processor_none (Executing n start until) x h = (x, bit_none until h)
  processor_none (Finished n start) x h = tt

  copyout_none : (o : CopyOut) → copyout_times X o → copyout_drop t o ≡ 0 → copyout_times Other o
  copyout_none NoCopyOut x h = tt
  copyout_none (CopyingOut n start until) x h = (x, bit_none until h)
  copyout_none (CopiedOut n) x h = tt

  copyin_none : (c : CopyIn) → copyin_times X c → copyin_drop t c ≡ 0 → copyin_times Other c
  copyin_none Unchosen x h = tt
  copyin_none NoneChosen x h = tt
  copyin_none (Copying n until) x h = (x, bit_none until h)
  copyin_none (Loaded n) x h = tt
  copyin_none (Cancelled n fate) x h = tt

  drop_none : (p : Phase) → Times X p → drop t p ≡ 0 → Times Other p
  drop_none (Between next outgoing) x h = tt
  drop_none (Within i) x h =
      (processor_none i.processor x.0 (omega arith), copyout_none i.copyout x.1 (omega arith), copyin_none i.copyin x.2 (omega arith))

-- two properties at once
module _ (X Y : ℕ → Type 0) where
  times_both : (p : Phase) → Times X p → Times Y p → Times (λ u. X u × Y u) p
  times_both (Between next outgoing) x y = tt
  times_both (Within i) x y = (go_processor i.processor x.0 y.0, go_copyout i.copyout x.1 y.1, go_copyin i.copyin x.2 y.2)
    where
      go_processor : (q : Processor) → processor_times X q → processor_times Y q → processor_times (λ u. X u × Y u) q
      go_processor Idle x y = tt
      go_processor (CopyingIn n until) x y = (x, y)
      go_processor (Executing n start until) x y = (x, y)
      go_processor (Finished n start) x y = tt

      go_copyout : (o : CopyOut) → copyout_times X o → copyout_times Y o → copyout_times (λ u. X u × Y u) o
      go_copyout NoCopyOut x y = tt
      go_copyout (CopyingOut n start until) x y = (x, y)
      go_copyout (CopiedOut n) x y = tt

      go_copyin : (c : CopyIn) → copyin_times X c → copyin_times Y c → copyin_times (λ u. X u × Y u) c
      go_copyin Unchosen x y = tt
      go_copyin NoneChosen x y = tt
      go_copyin (Copying n until) x y = (x, y)
      go_copyin (Loaded n) x y = tt
      go_copyin (Cancelled n fate) x y = tt

-- ---- the pieces of an instant

-- of an empty set none is taken while nothing ends: what waits goes on waiting behind its pending job
none_taken : (d : State) (t set : ℕ) → ((k : ℕ) → k < 32 → member k set ≡ false) → Sub d.waiting.tasks d.jobs.pending → drop t d.phase ≡ 0
    → (k : ℕ) → k < 32 → member k (taken_at d t set) ≡ false
unfolding taken_at
none_taken d t set h behind z =
    taken_none (at_b d t).state (passed d t set) (passing_none (at_b d t).state t set h)
    (λ k l m. ap (member k) (still_pending d t z) ∙ behind k l (ap (λ (w : WaitingReleases). member k w.tasks) (sym (waiting_b d t)) ∙ m))

pub few_f : (d : State) (t set : ℕ) → Sound d d.phase → (at_f d t set).state.jobs.ready < 2 ^ 32
unfolding at_f
few_f d t set h =
    let e : State = at_e d t set in
    (b_leads (fresh_stage e) t e.phase refl (Count.to_e d t set (Count.to_b d t h).sound).sound).sound.few

pub sinks : (d : State) (t set : ℕ) → Sound d d.phase → mass (at_g d t set) + debt d + drop t d.phase ≤ mass d + debt (at_g d t set) + 24 * size set
unfolding mass debt
sinks d t set h = omega (arith, instant_sinks d t set h, balance_g d t set)

pub debt_less : (d : State) → Sound d d.phase → debt d ≤ mass d
unfolding mass debt
debt_less d h = omega (arith, debt_covered d d.phase h)

-- ---- the invariant of the states that calls make

module _ (table : Table) (marks : ℕ) (fair : Fair table marks) where
  pub record Good (d : State) : Type 0 where
    pub table_is : d.table ≡ table
    pub sound : Sound d d.phase
    pub parted : Parted table.present fair.present d d.phase
    pub settled : Settled d d.phase
    pub waits_few : d.waiting.tasks < 2 ^ 32
    pub behind : Sub d.waiting.tasks d.jobs.pending
    pub before_few : d.waiting.before < 2 ^ 32
    pub before_known : Sub d.waiting.before table.present
    pub times : Times (Until (last d.clock) (mass d) (debt d)) d.phase

  pub good_opened : Good (opened table marks)
  unfolding opened
  good_opened = record {
    table_is = refl;
    sound = record { few = omega arith; paid = tt };
    parted = record {
      few = omega arith;
      marks = λ k l m. fair.marks k m;
      pending = λ k l h. clash (member k 0) h (none k);
      ready = λ k l h. clash (member k 0) h (none k);
      waits = λ k l h. clash (member k 0) h (none k);
      known = (tt, tt);
      parts = λ k l. rw (none k);
    };
    settled = record { decided = tt; open_yet = tt; rests = (refl, refl, refl) };
    waits_few = omega arith;
    behind = λ k l h. clash (member k 0) h (none k);
    before_few = omega arith;
    before_known = λ k l h. clash (member k 0) h (none k);
    times = tt;
  }

  -- what starts at t ends in time
  starts : (t m e : ℕ) → t + 1000000 + 1000000 * m ≤ 3000000000 + 1000000 * e → t ≤ 3000000000 → Starts table fair.present t (Until t m e)
  starts t m e h l = record {
    copyin = λ n k. soon (copyin_length table.columns n) (fair.copyins n k).0 (fair.copyins n k).1;
    execution = λ n k. soon (execution_length table.columns n) (fair.executions n k).0 (fair.executions n k).1;
    copyout = λ n k. soon (copyout_length table.columns n) (fair.copyouts n k).0 (fair.copyouts n k).1;
  }
    where
      soon : (x : ℕ) → 1 ≤ x → x ≤ 1000000 → Until t m e (later t x)
      soon x p q = record { after = omega arith; near = omega arith; bound = omega arith }

  module _ (d : State) (t set : ℕ) (good : Good d) (served : Served-at d t set) where
    abbrev After : ℕ → Type 0
    After = Until t (mass (at_g d t set)) (debt (at_g d t set))

    abbrev Before : ℕ → Type 0
    Before u = Until (last d.clock) (mass d) (debt d) u × (t ≤ u)

    before : Times Before d.phase
    before = times_both (Until (last d.clock) (mass d) (debt d)) (NotBefore t) d.phase good.times served.due

    known_set : Sub set table.present
    known_set = subst (λ (x : Table). Sub set x.present) good.table_is served.known

    by_starts : Starts table fair.present t After → ((u : ℕ) → Before u → (u ≡ t → ⊥) → After u) → Times After (at_g d t set).phase
    by_starts s f =
        instant_times table fair.present t After s d set good.table_is known_set good.parted
        (times_map Before (Later table fair.present t After) f d.phase before)

    -- releases come early
    times_released : eqb set 0 ≡ false → Times After (at_g d t set).phase
    times_released e =
        let m : mass (at_g d t set) ≤ 1564 = mass_small (at_g d t set) in
        let l : t ≤ 1000000000 = served.early e in
        let o : last d.clock ≤ t = served.onward in
        by_starts (starts t (mass (at_g d t set)) (debt (at_g d t set)) (omega arith) (omega arith))
        (λ u b ne. record { after = omega (arith, b.1); near = omega (arith, b.0.near); bound = omega (arith, b.0.near) })

    times_ended : size set ≡ 0 → 1 ≤ drop t d.phase → Times After (at_g d t set).phase
    times_ended z h =
        let x : Before t = drop_one Before t d.phase before h in
        let y : mass (at_g d t set) + debt d + drop t d.phase ≤ mass d + debt (at_g d t set) + 24 * size set = sinks d t set good.sound in
        let o : last d.clock ≤ t = served.onward in
        by_starts (starts t (mass (at_g d t set)) (debt (at_g d t set)) (omega (arith, x.0.bound)) (omega (arith, x.0.bound, debt_less d good.sound)))
        (λ u b ne. record { after = omega (arith, b.1); near = omega (arith, b.0.near); bound = omega (arith, b.0.bound) })

    times_still : ((k : ℕ) → k < 32 → member k set ≡ false) → size set ≡ 0 → drop t d.phase ≡ 0 → Times After (at_g d t set).phase
    times_still n z h =
        let y : mass (at_g d t set) + debt d + drop t d.phase ≤ mass d + debt (at_g d t set) + 24 * size set = sinks d t set good.sound in
        let o : last d.clock ≤ t = served.onward in
        times_map (Other Before t) After
        (λ u b. record { after = omega (arith, b.0.1, b.1); near = omega (arith, b.0.0.near); bound = omega (arith, b.0.0.bound) })
        (at_g d t set).phase
        (instant_still (Other Before t) t d set h (none_taken d t set n good.behind h)
        (record { times = drop_none Before t d.phase before h; decided = good.settled.decided; open_yet = good.settled.open_yet; rests = good.settled.rests })).times

    times_next : Times After (at_g d t set).phase
    times_next =
        by-test (eqb set 0)
        (λ e.
        let n : (k : ℕ) → k < 32 → member k set ≡ false = λ k l. ap (member k) (eqb-true set 0 e) ∙ none k in
        let z : size set ≡ 0 = ap size (eqb-true set 0 e) ∙ size_none in
        by-test (eqb (drop t d.phase) 0)
        (λ f. times_still n z (eqb-true (drop t d.phase) 0 f))
        (λ f. times_ended z (omega (arith, eqb-false (drop t d.phase) 0 f))))
        (λ e. times_released e)

    pub good_next : Good (at_g d t set)
    good_next = record {
      table_is = table_g d t set ∙ good.table_is;
      sound = (instant_leads d t set good.sound).sound;
      parted = (instant_moves table.present fair.present d t set known_set good.parted).parted;
      settled = settled_after d t set (few_f d t set good.sound);
      waits_few = subst (λ (s : ℕ). s < 2 ^ 32) (sym (waits_g d t set)) (union_small (difference (at_b d t).state.waiting.tasks (taken (at_b d t).state (passed d t set))) (deferred (at_b d t).state (passed d t set)));
      behind = behind_g d t set;
      before_few = subst (λ (s : ℕ). s < 2 ^ 32) (sym (before_g d t set)) (union_small d.waiting.before (taken_at d t set));
      before_known = λ k l h. ⊎_elim (good.before_known k l) (taken_known d t set table.present good.parted.waits known_set k l) (union_out d.waiting.before (taken_at d t set) k (ap (member k) (sym (before_g d t set)) ∙ h));
      times = subst (λ (c : Clock). Times (Until (last c) (mass (at_g d t set)) (debt (at_g d t set))) (at_g d t set).phase) (sym (clock_g d t set)) times_next;
    }

  pub good_quiet : (d : State) (marks : ℕ) → MarksKnown d marks → Good d → Good (with_marks d marks)
  good_quiet d marks known g = record {
    table_is = g.table_is;
    sound = record { few = g.sound.few; paid = g.sound.paid };
    parted = record {
      few = g.parted.few;
      marks = subst (λ (t : Table). Sub d.marked t.present → Sub marks t.present) g.table_is known g.parted.marks;
      pending = g.parted.pending;
      ready = g.parted.ready;
      waits = g.parted.waits;
      known = g.parted.known;
      parts = g.parted.parts;
    };
    settled = record { decided = g.settled.decided; open_yet = g.settled.open_yet; rests = g.settled.rests };
    waits_few = g.waits_few;
    behind = g.behind;
    before_few = g.before_few;
    before_known = g.before_known;
    times = unfold mass debt in g.times;
  }

  -- every list of calls
  pub good_after : (cs : List Call) (d : State) → Good d → Good (after_calls d cs)
  good_after = after Good (λ d t set e g. good_next d t set g (served_at d t set e)) good_quiet
