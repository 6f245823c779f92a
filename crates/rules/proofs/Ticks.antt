-- What is never due; and a due time as a plain number, where the last tick stands for none: the smaller of two stands for the sooner.
use Rattle.std.proofs.Common.{◌≡◌, ◌⊎◌, ◌-◌, ◌^◌, ◌≤◌}
use Rattle.rules.specs.Types.{Bool, true, false, cond, refl, sym, ap, ◌∙◌, subst, inl, inr, ⊎_elim, ℕ, min, Idle, Finished, NoCopyOut, CopiedOut, Unchosen, NoneChosen, Loaded, Cancelled, Option, None, Some, Registers}
use native.Mathlib.Omega.{arith}
use mathlib.Core.Bool.{true≢false}
use borrow.Author.Tests.{eqb-true, eq-eqb, ne_eqb}
use lib.Dec.{eqb}
use Rattle.sets.proofs.Laws.{by-test}
use Rattle.rules.specs.Instant.{sooner, processor_due, copyout_due, copyin_due, due}
use Rattle.rules.specs.Registers.{processor_in, copyout_in, copyin_in, interval_in, phase_in}
use Rattle.rules.specs.Steps.{IsDue, Stands}

-- ---- what is never due

pub resting_due : (n start : ℕ) (idle : Bool) → processor_due (cond idle Idle (Finished n start)) ≡ None
resting_due n start true = refl
resting_due n start false = refl

pub no_copyout_due : (n : ℕ) (none : Bool) → copyout_due (cond none NoCopyOut (CopiedOut n)) ≡ None
no_copyout_due n true = refl
no_copyout_due n false = refl

pub no_copyin_due : (n fate : ℕ) (unchosen none loaded : Bool) → copyin_due (cond unchosen Unchosen (cond none NoneChosen (cond loaded (Loaded n) (Cancelled n fate)))) ≡ None
no_copyin_due n fate true none loaded = refl
no_copyin_due n fate false true loaded = refl
no_copyin_due n fate false false true = refl
no_copyin_due n fate false false false = refl

-- ---- a due time as a plain number

pub stands : (x : ℕ) → x ≤ 2 ^ 64 - 1 → Stands x (Some x)
stands x l = record { is = inl refl; small = l }

pub never_stands : (p : Option ℕ) → p ≡ None → Stands (2 ^ 64 - 1) p
never_stands p e = record { is = inr (refl, e); small = omega arith }

pub both : (a b : ℕ) (p q : Option ℕ) → Stands a p → Stands b q → Stands (min a b) (sooner p q)
unfolding sooner
both a b None q s r =
    ⊎_elim (λ e. absurd (let z : ◌≡◌ {A = ℕ} 0 1 = cc in omega arith))
    (λ w. subst (λ (x : ℕ). Stands x q) (right w.0) r)
    s.is
  where
    right : a ≡ 2 ^ 64 - 1 → b ≡ min a b
    right e = omega (arith, r.small)
both a b (Some u) None s r =
    ⊎_elim (λ e. absurd (let z : ◌≡◌ {A = ℕ} 0 1 = cc in omega arith))
    (λ w. subst (λ (x : ℕ). Stands x (Some u)) (left w.0) s)
    r.is
  where
    left : b ≡ 2 ^ 64 - 1 → a ≡ min a b
    left e = omega (arith, s.small)
both a b (Some u) (Some v) s r = record { is = inl (ap Some (same (tick u a s) (tick v b r))); small = omega (arith, s.small) }
  where
    tick : (n x : ℕ) → Stands x (Some n) → n ≡ x
    tick n x h = ⊎_elim (λ e. cc) (λ w. absurd (let f = w.1 in let z : ◌≡◌ {A = ℕ} 0 1 = cc in omega arith)) h.is

    same : u ≡ a → v ≡ b → min u v ≡ min a b
    same e f = omega arith

-- what is never due is not the sooner
pub never_sooner : {x : ℕ} {p : Option ℕ} (q : Option ℕ) → q ≡ None → Stands x p → Stands x (sooner p q)
unfolding sooner
never_sooner {p = None} q e s = rw e s
never_sooner {p = Some u} q e s = rw e s

pub sooner_never : {x : ℕ} {q : Option ℕ} (p : Option ℕ) → p ≡ None → Stands x q → Stands x (sooner p q)
unfolding sooner
sooner_never p e s = rw e s

-- ---- whether there is a due time

some_due : {p : Option ℕ} (t : ℕ) → p ≡ Some t → IsDue true p
some_due t e = record { some = λ h n. absurd (let z : ◌≡◌ {A = ℕ} 0 1 = cc in omega arith); none = λ h. absurd (true≢false h) }

no_due : {p : Option ℕ} → p ≡ None → IsDue false p
no_due e = record { some = λ h. absurd (true≢false (sym h)); none = λ h. e }

soonest : (p q o : Option ℕ) → (p ≡ None → ⊥) ⊎ ((q ≡ None → ⊥) ⊎ (o ≡ None → ⊥)) → sooner p (sooner q o) ≡ None → ⊥
unfolding sooner
soonest None None None h e = ⊎_elim (λ f. f refl) (λ g. ⊎_elim (λ f. f refl) (λ f. f refl) g) h
soonest None None (Some o) h e = absurd (let z : ◌≡◌ {A = ℕ} 0 1 = cc in omega arith)
soonest None (Some q) None h e = absurd (let z : ◌≡◌ {A = ℕ} 0 1 = cc in omega arith)
soonest None (Some q) (Some o) h e = absurd (let z : ◌≡◌ {A = ℕ} 0 1 = cc in omega arith)
soonest (Some p) None None h e = absurd (let z : ◌≡◌ {A = ℕ} 0 1 = cc in omega arith)
soonest (Some p) None (Some o) h e = absurd (let z : ◌≡◌ {A = ℕ} 0 1 = cc in omega arith)
soonest (Some p) (Some q) None h e = absurd (let z : ◌≡◌ {A = ℕ} 0 1 = cc in omega arith)
soonest (Some p) (Some q) (Some o) h e = absurd (let z : ◌≡◌ {A = ℕ} 0 1 = cc in omega arith)

tick_some : (t : ℕ) → ◌≡◌ {A = (Option ℕ)} (Some t) None → ⊥
tick_some t e = absurd (let z : ◌≡◌ {A = ℕ} 0 1 = cc in omega arith)

is_some : {p : Option ℕ} → (p ≡ None → ⊥) → IsDue true p
is_some f = record { some = λ h. f; none = λ h. absurd (true≢false h) }

module _ (r : Registers) where
  pub none_is_due : r.copyin ≡ 6 → IsDue false (due (phase_in r))
  unfolding due phase_in
  none_is_due e = no_due (simp (eq-eqb _ _ e))

  abbrev units_due : Option ℕ
  units_due = sooner (processor_due (processor_in r)) (sooner (copyout_due (copyout_in r)) (copyin_due (copyin_in r)))

  in_interval : (r.copyin ≡ 6 → ⊥) → due (phase_in r) ≡ units_due
  unfolding due phase_in interval_in
  in_interval ne = simp (ne_eqb _ _ ne)

  by_units : (r.copyin ≡ 6 → ⊥) → (processor_due (processor_in r) ≡ None → ⊥) ⊎ ((copyout_due (copyout_in r) ≡ None → ⊥) ⊎ (copyin_due (copyin_in r) ≡ None → ⊥))
      → IsDue true (due (phase_in r))
  by_units ne h = is_some (λ e. soonest (processor_due (processor_in r)) (copyout_due (copyout_in r)) (copyin_due (copyin_in r)) h (sym (in_interval ne) ∙ e))

  pub copyin_is_due : r.copyin ≡ 2 → IsDue true (due (phase_in r))
  copyin_is_due e =
      by_units (λ s. absurd (omega (arith, e, s)))
      (inr (inr (λ s. tick_some r.inuntil (sym is ∙ s))))
    where
      is : copyin_due (copyin_in r) ≡ Some r.inuntil
      is = simp e

  pub copyout_is_due : (r.copyin ≡ 6 → ⊥) → r.copyout ≡ 1 → IsDue true (due (phase_in r))
  copyout_is_due ne e = by_units ne (inr (inl (λ s. tick_some r.outuntil (sym is ∙ s))))
    where
      is : copyout_due (copyout_in r) ≡ Some r.outuntil
      is = simp e

  pub executing_is_due : (r.copyin ≡ 6 → ⊥) → r.processor ≡ 2 → IsDue true (due (phase_in r))
  executing_is_due ne e = by_units ne (inl (λ s. tick_some r.until (sym is ∙ s)))
    where
      is : processor_due (processor_in r) ≡ Some r.until
      is = simp e

  copying_is_due : (r.copyin ≡ 6 → ⊥) → r.processor ≡ 1 → IsDue true (due (phase_in r))
  copying_is_due ne e = by_units ne (inl (λ s. tick_some r.until (sym is ∙ s)))
    where
      is : processor_due (processor_in r) ≡ Some r.until
      is = simp e

  -- where neither copy is under way and the processor does not execute
  pub the_processor_is_due : (r.copyin ≡ 6 → ⊥) → (r.copyin ≡ 2 → ⊥) → (r.copyout ≡ 1 → ⊥) → (r.processor ≡ 2 → ⊥) → IsDue (eqb r.processor 1) (due (phase_in r))
  unfolding sooner
  the_processor_is_due ne i o p =
      by-test (eqb r.processor 1)
      (λ e. rw e (copying_is_due ne (eqb-true r.processor 1 e)))
      (λ e. rw e (no_due (in_interval ne ∙ simp (e, ne_eqb _ _ p, resting_due, ne_eqb _ _ o, no_copyout_due, ne_eqb _ _ i, no_copyin_due))))
