-- What an instant that is served tells: its set is of the table's tasks, its releases come early, and no phase ends before it; and how far the
-- phases that end at it bring the end nearer.
use Rattle.std.proofs.Common.{◌≡◌, ◌&&◌, ◌⊎◌, ◌+◌, ◌*◌, ◌≤◌, ◌<◌}
use Rattle.guarantees.specs.Types.{refl, sym, ap, ◌∙◌, subst, true, false, not, inl, inr, ⊎_elim, ℕ, min, Table, Clock, Unset, At, Processor, Idle, CopyingIn, Executing, Finished, CopyOut, NoCopyOut, CopyingOut, CopiedOut, CopyIn, Unchosen, NoneChosen, Copying, Loaded, Cancelled, Phase, Between, Within, State, Option, None, Some, Stage}
use native.Mathlib.Omega.{arith}
use borrow.Author.Tests.{eqb-true, eq-eqb, ltb-false, le-ltb, leb-false, leb-true, not-false}
use lib.Dec.{eqb, ltb, leb}
use Rattle.sets.specs.Sets.{member, difference, bit, size}
use Rattle.sets.proofs.Laws.{difference_in, none, by-test, clash}
use Rattle.rules.specs.Calls.{unknown, not_after, before_now, refusal}
use Rattle.rules.specs.Instant.{step_a, without_done, ended, copyin_at, copyout_at, processor_at, due, sooner, processor_due, copyout_due, copyin_due, at_a, at_b, at_e, at_g, taken_at}
use Rattle.rules.specs.With.{at_clock}
use Rattle.guarantees.proofs.Count.{Sound, Leads, weight, rank, phase_debt, a_leads, b_leads, a_weight, a_debt, a_processor, copyin_rank, copyout_rank, processor_rank}
use Rattle.guarantees.proofs.Times.{Times, processor_times, copyout_times, copyin_times, drop, processor_drop, copyout_drop, copyin_drop}
use Rattle.guarantees.proofs.Proper.{none_passed}
use Rattle.guarantees.proofs.Steps.{Sub}
use Rattle.guarantees.proofs.Count
use Rattle.rules.specs.Instant

-- ---- the phases that end at t

processor_sinks : (table : Table) (t : ℕ) (q : Processor) → processor_rank (processor_at table t q) + processor_drop t q ≤ processor_rank q
unfolding processor_at
processor_sinks table t Idle = omega arith
processor_sinks table t (CopyingIn n until) = by-test (eqb until t) (λ e. rw e (omega arith)) (λ e. rw e (omega arith))
processor_sinks table t (Executing n start until) = by-test (eqb until t) (λ e. rw e (omega arith)) (λ e. rw e (omega arith))
processor_sinks table t (Finished n start) = omega arith

copyout_sinks : (t : ℕ) (o : CopyOut) → copyout_rank (copyout_at t o) + copyout_drop t o ≤ copyout_rank o
unfolding copyout_at
copyout_sinks t NoCopyOut = omega arith
copyout_sinks t (CopyingOut n start until) = by-test (eqb until t) (λ e. rw e (omega arith)) (λ e. rw e (omega arith))
copyout_sinks t (CopiedOut n) = omega arith

copyin_sinks : (t : ℕ) (c : CopyIn) → copyin_rank (copyin_at t c) + copyin_drop t c ≤ copyin_rank c
copyin_sinks t Unchosen = omega arith
copyin_sinks t NoneChosen = omega arith
copyin_sinks t (Copying n until) = by-test (eqb until t) (λ e. rw e (omega arith)) (λ e. rw e (omega arith))
copyin_sinks t (Loaded n) = omega arith
copyin_sinks t (Cancelled n fate) = omega arith

a_sinks : (d : State) (t : ℕ) (p : Phase) → d.phase ≡ p
    → 8 * weight (step_a d t p).state (step_a d t p).state.phase + rank (step_a d t p).state.phase + 8 * phase_debt p + drop t p
    ≤ 8 * weight d p + rank p + 8 * phase_debt (step_a d t p).state.phase
unfolding step_a without_done ended
a_sinks d t (Between next outgoing) e =
    subst (λ (x : Phase). 8 * weight d x + rank x + 8 * phase_debt (Between next outgoing) + 0 ≤ 8 * weight d (Between next outgoing) + rank (Between next outgoing) + 8 * phase_debt x) (sym e) (omega arith)
a_sinks d t (Within i) e =
    omega (
      arith,
      a_weight t i.copyin,
      a_debt t i.copyin,
      a_processor d.table t i.processor,
      processor_sinks d.table t i.processor,
      copyout_sinks t i.copyout,
      copyin_sinks t i.copyin,
    )

pub instant_sinks : (d : State) (t set : ℕ) → Sound d d.phase → let g : State = at_g d t set in
    8 * weight g g.phase + rank g.phase + 8 * phase_debt d.phase + drop t d.phase
    ≤ 8 * weight d d.phase + rank d.phase + 8 * phase_debt g.phase + 24 * size (taken_at d t set)
instant_sinks d t set h =
    let b : State = (at_b d t).state in
    let e : State = at_e d t set in
    let hb : Sound b b.phase = (Count.to_b d t h).sound in
    let he : Leads b b.phase e e.phase 0 (size (taken_at d t set)) = Count.to_e d t set hb in
    omega (arith, sinks_b d t h, he.sink, (Count.to_g d t set he.sound).sink)
  where
    sinks_b : (d : State) (t : ℕ) → Sound d d.phase → let b : State = (at_b d t).state in
        8 * weight b b.phase + rank b.phase + 8 * phase_debt d.phase + drop t d.phase ≤ 8 * weight d d.phase + rank d.phase + 8 * phase_debt b.phase
    sinks_b d t h =
        unfold at_b at_a in
        let d0 : State = at_clock d t in
        let a : Stage = at_a d t in
        let b : State = (at_b d t).state in
        let x : Leads d0 d.phase a.state a.state.phase 0 0 = a_leads d0 t d.phase refl (record { few = h.few; paid = h.paid }) in
        let y : Leads a.state a.state.phase b b.phase 0 0 = b_leads a t a.state.phase refl x.sound in
        omega (arith, a_sinks d0 t d.phase refl, y.sink)

-- ---- the next due time

pub sooner_is : (x y : Option ℕ) (t : ℕ) → sooner x y ≡ Some t → (x ≡ Some t) ⊎ (y ≡ Some t)
unfolding sooner
sooner_is None y t h = inr h
sooner_is (Some a) None t h = inl h
sooner_is (Some a) (Some b) t h =
    let e : min a b ≡ t = cc in
    by-test (leb a b)
    (λ l. inl (ap Some (omega (arith, leb-true a b l))))
    (λ l. inr (ap Some (omega (arith, leb-false a b l))))

pub sooner_never : (x y : Option ℕ) → sooner x y ≡ None → (x ≡ None) × (y ≡ None)
unfolding sooner
sooner_never None y h = (refl, h)
sooner_never (Some a) None h = absurd (let z : ◌≡◌ {A = ℕ} 0 1 = cc in omega arith)
sooner_never (Some a) (Some b) h = absurd (let z : ◌≡◌ {A = ℕ} 0 1 = cc in omega arith)

tick_same : (u t : ℕ) → Some u ≡ Some t → bit (eqb u t) ≡ 1
tick_same u t h = let e : u ≡ t = cc in rw (eq-eqb u t e)

never-tick {ℓ} : {A : Type ℓ} (t : ℕ) → None ≡ Some t → A
never-tick t h = absurd (let z : ◌≡◌ {A = ℕ} 0 1 = cc in omega arith)

processor_falls : (t : ℕ) (q : Processor) → processor_due q ≡ Some t → processor_drop t q ≡ 1
processor_falls t Idle h = never-tick t h
processor_falls t (CopyingIn n until) h = tick_same until t h
processor_falls t (Executing n start until) h = tick_same until t h
processor_falls t (Finished n start) h = never-tick t h

copyout_falls : (t : ℕ) (o : CopyOut) → copyout_due o ≡ Some t → copyout_drop t o ≡ 1
copyout_falls t NoCopyOut h = never-tick t h
copyout_falls t (CopyingOut n start until) h = tick_same until t h
copyout_falls t (CopiedOut n) h = never-tick t h

copyin_falls : (t : ℕ) (c : CopyIn) → copyin_due c ≡ Some t → copyin_drop t c ≡ 1
copyin_falls t Unchosen h = never-tick t h
copyin_falls t NoneChosen h = never-tick t h
copyin_falls t (Copying n until) h = tick_same until t h
copyin_falls t (Loaded n) h = never-tick t h
copyin_falls t (Cancelled n fate) h = never-tick t h

pub due_drop : (t : ℕ) (p : Phase) → due p ≡ Some t → 1 ≤ drop t p
unfolding due
due_drop t (Between next outgoing) h = never-tick t h
due_drop t (Within i) h =
    ⊎_elim (λ x. omega (arith, processor_falls t i.processor x))
    (λ y. ⊎_elim (λ x. omega (arith, copyout_falls t i.copyout x)) (λ x. omega (arith, copyin_falls t i.copyin x))
    (sooner_is (copyout_due i.copyout) (copyin_due i.copyin) t y))
    (sooner_is (processor_due i.processor) (sooner (copyout_due i.copyout) (copyin_due i.copyin)) t h)

-- no phase ends before an instant that is served
pub before_sooner : (x y : Option ℕ) (t : ℕ) → before_now (sooner x y) t ≡ false → (before_now x t ≡ false) × (before_now y t ≡ false)
unfolding sooner
before_sooner None y t h = (refl, h)
before_sooner (Some a) None t h = (h, refl)
before_sooner (Some a) (Some b) t h =
    let l : t ≤ min a b = ltb-false (min a b) t h in
    (le-ltb a t (omega arith), le-ltb b t (omega arith))

module _ (t : ℕ) where
  abbrev pub NotBefore : ℕ → Type 0
  NotBefore u = t ≤ u

  processor_after : (q : Processor) → before_now (processor_due q) t ≡ false → processor_times NotBefore q
  processor_after Idle h = tt
  processor_after (CopyingIn n until) h = ltb-false until t h
  processor_after (Executing n start until) h = ltb-false until t h
  processor_after (Finished n start) h = tt

  copyout_after : (o : CopyOut) → before_now (copyout_due o) t ≡ false → copyout_times NotBefore o
  copyout_after NoCopyOut h = tt
  copyout_after (CopyingOut n start until) h = ltb-false until t h
  copyout_after (CopiedOut n) h = tt

  copyin_after : (c : CopyIn) → before_now (copyin_due c) t ≡ false → copyin_times NotBefore c
  copyin_after Unchosen h = tt
  copyin_after NoneChosen h = tt
  copyin_after (Copying n until) h = ltb-false until t h
  copyin_after (Loaded n) h = tt
  copyin_after (Cancelled n fate) h = tt

  times_after : (p : Phase) → before_now (due p) t ≡ false → Times NotBefore p
  unfolding due
  times_after (Between next outgoing) h = tt
  times_after (Within i) h =
      let x : (before_now (processor_due i.processor) t ≡ false) × (before_now (sooner (copyout_due i.copyout) (copyin_due i.copyin)) t ≡ false) =
      before_sooner (processor_due i.processor) (sooner (copyout_due i.copyout) (copyin_due i.copyin)) t h in
      let y : (before_now (copyout_due i.copyout) t ≡ false) × (before_now (copyin_due i.copyin) t ≡ false) = before_sooner (copyout_due i.copyout) (copyin_due i.copyin) t x.1 in
      (processor_after i.processor x.0, copyout_after i.copyout y.0, copyin_after i.copyin y.1)

-- ---- what an instant that is served tells

abbrev pub last : Clock → ℕ
last Unset = 0
last (At t) = t

pub record Served-at (d : State) (t set : ℕ) : Type 0 where
  pub known : Sub set d.table.present
  pub early : eqb set 0 ≡ false → t ≤ 1000000000
  pub onward : last d.clock ≤ t
  pub due : Times (NotBefore t) d.phase

clock_onward : (c : Clock) (t : ℕ) → not_after c t ≡ false → last c ≤ t
clock_onward Unset t h = omega arith
clock_onward (At x) t h = omega (arith, leb-false t x h)

-- it comes after the last one
pub strictly_onward : (d : State) (t set u : ℕ) → eqb (refusal d t set) 0 ≡ true → d.clock ≡ At u → u < t
unfolding refusal unknown
strictly_onward d t set u h e =
    let f : (not (eqb (difference set d.table.present) 0) ≡ false) × ((not (eqb set 0) && ltb 1000000000 t) ≡ false) × (not_after d.clock t ≡ false) × (before_now (Instant.due d.phase) t ≡ false) =
    none_passed 15 9 13 14 (not (eqb (difference set d.table.present) 0)) (not (eqb set 0) && ltb 1000000000 t) (not_after d.clock t) (before_now (Instant.due d.phase) t) (eqb-true (refusal d t set) 0 h) in
    leb-false t u (subst (λ (c : Clock). not_after c t ≡ false) e f.2)

pub served_at : (d : State) (t set : ℕ) → eqb (refusal d t set) 0 ≡ true → Served-at d t set
unfolding refusal unknown
served_at d t set h =
    let f : (not (eqb (difference set d.table.present) 0) ≡ false) × ((not (eqb set 0) && ltb 1000000000 t) ≡ false) × (not_after d.clock t ≡ false) × (before_now (Instant.due d.phase) t ≡ false) =
    none_passed 15 9 13 14 (not (eqb (difference set d.table.present) 0)) (not (eqb set 0) && ltb 1000000000 t) (not_after d.clock t) (before_now (Instant.due d.phase) t) (eqb-true (refusal d t set) 0 h) in
    record {
      known = λ k l m. by-test (member k d.table.present) (λ x. x)
          (λ x. clash (member k 0)
          (ap (member k) (sym (eqb-true (difference set d.table.present) 0 (not-false (eqb (difference set d.table.present) 0) f.0))) ∙ difference_in set d.table.present k l m x)
          (none k));
      early = λ e. ltb-false 1000000000 t (rw e at f.1);
      onward = clock_onward d.clock t f.2;
      due = times_after t d.phase f.3;
    }
