-- The next due time as a plain number: whether it is before a time, and what is told of it. Assumes nothing.
use Rattle.std.proofs.Common.{◌≡◌, ℕ, ◌-◌, ◌^◌, ◌<◌, ◌≤◌, Bool, true, false, List, set, sym, ap, ◌∙◌, ⊎_elim, arith, le-ltb, lt-ltb}
use Rattle.rules.specs.Calls.{before_now}
use Rattle.rules.specs.Steps.{Stands, IsDue}
use Rattle.dispatcher.specs.Types.{Option, Some}
use Rattle.dispatcher.specs.Telling.{due_told, due_number}
use Rattle.dispatcher.specs.Promises.{DueTold}

-- a phase ends before a time, or none does
pub due_before : {x : ℕ} (p : Option ℕ) (t : ℕ) → Stands x p → x < t → t < 2 ^ 64 → before_now p t ≡ true
due_before {x} p t s l f =
    ⊎_elim
    (λ e. ap (λ (q : Option ℕ). before_now q t) e ∙ lt-ltb x t l)
    (λ w. absurd (omega (arith, w.0, l, f)))
    s.is

pub due_not_before : {x : ℕ} (p : Option ℕ) (t : ℕ) → Stands x p → t ≤ x → before_now p t ≡ false
due_not_before {x} p t s l =
    ⊎_elim
    (λ e. ap (λ (q : Option ℕ). before_now q t) e ∙ le-ltb x t l)
    (λ w. ap (λ (q : Option ℕ). before_now q t) w.1)
    s.is

-- ---- what is told

module _ (p : Option ℕ) (told : List ℕ) where
  tells : {x : ℕ} → p ≡ Some x → DueTold p told (set (set told 0 x) 4 1)
  tells e = sym (ap (λ (q : Option ℕ). set (due_told q told) 4 (due_number q)) e)

  pub tells_tick : {x : ℕ} → Stands x p → (x ≡ 2 ^ 64 - 1 → ⊥) → DueTold p told (set (set told 0 x) 4 1)
  tells_tick s ne = ⊎_elim (λ e. tells e) (λ w. absurd (ne w.0)) s.is

  pub tells_some : {x : ℕ} {some : Bool} → Stands x p → IsDue some p → some ≡ true → DueTold p told (set (set told 0 x) 4 1)
  tells_some s i h = ⊎_elim (λ e. tells e) (λ w. absurd (i.some h w.1)) s.is

  pub tells_none : {some : Bool} → IsDue some p → some ≡ false → DueTold p told (set told 4 0)
  tells_none i h = sym (ap (λ (q : Option ℕ). set (due_told q told) 4 (due_number q)) (i.none h))
