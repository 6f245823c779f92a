-- `guarantees::planning::longest_interval` meets its contract: the greatest of the tasks that the loop has passed. Assumes nothing.
use Rattle.std.proofs.Common.{◌≡◌, ◌+◌, ◌^◌, ◌≤◌, ◌<◌}
use Rattle.guarantees.specs.Types.{refl, sym, ap, ◌∙◌, Bool, true, false, cond, List, ℕ, suc}
use Prim.Native.Nat.{max}
use borrow.Author.Rules.{rules}
use native.Mathlib.Omega.{arith}
use Rattle.sets.specs.Sets.{member}
use Rattle.table.specs.Table.{copyin_length, execution_length, copyout_length}
use Rattle.guarantees.specs.Figure.{greatest, longest_interval}
use Rattle.guarantees.proofs.planning.longest_interval.Invariants.{Passed}
use Rattle.guarantees.proofs.planning.longest_interval.Goals as goal

-- of the tasks below k
none_passed : (columns : List ℕ) (present : ℕ) → Passed columns present 0 0 0 0
unfolding greatest
none_passed columns present = record { copyins = refl; copyouts = refl; works = refl; short_copyin = omega arith; short_copyout = omega arith; tasks = omega arith }

-- one task more
greatest_more : (k present : ℕ) (has : ℕ → ℕ) → greatest (k + 1) present has ≡ max (greatest k present has) (cond (member k present) (has k) 0)
unfolding greatest
greatest_more k present has = ap (λ (j : ℕ). greatest j present has) (let z : k + 1 ≡ suc k = omega arith in z)

both_of : (b : Bool) (x y : ℕ) → cond b x 0 + cond b y 0 ≡ cond b (x + y) 0
both_of true x y = refl
both_of false x y = refl

module _ (columns : List ℕ) (present copyin copyout work k : ℕ) (h : Passed columns present copyin copyout work k) where
  -- its lengths, those that are counted of them, and the greatest then
  pass : (there : Bool) (L C U l c u copyin' copyout' work' : ℕ) → there ≡ member k present
      → L ≡ copyin_length columns k → C ≡ execution_length columns k → U ≡ copyout_length columns k
      → (l ≡ cond there L 0) × (l < 2 ^ 32) → (c ≡ cond there C 0) × (c < 2 ^ 32) → (u ≡ cond there U 0) × (u < 2 ^ 32)
      → copyin' ≡ max copyin l → copyout' ≡ max copyout u → work' ≡ max work (l + c) → k < 32
      → Passed columns present copyin' copyout' work' (k + 1)
  pass there L C U l c u copyin' copyout' work' e eL eC eU el ec eu x y z m = record {
    copyins = x ∙ larger copyin l (λ n. copyin_length columns n) h.copyins (el.0 ∙ counted L (copyin_length columns k) eL);
    copyouts = y ∙ larger copyout u (λ n. copyout_length columns n) h.copyouts (eu.0 ∙ counted U (copyout_length columns k) eU);
    works = z ∙ larger work (l + c) (λ n. copyin_length columns n + execution_length columns n) h.works
        (omega (arith, el.0, ec.0, both_of there L C) ∙ counted (L + C) (copyin_length columns k + execution_length columns k) (omega (arith, eL, eC)));
    short_copyin = omega (arith, h.short_copyin, el.1);
    short_copyout = omega (arith, h.short_copyout, eu.1);
    tasks = omega arith;
  }
    where
      larger : (old new : ℕ) (has : ℕ → ℕ) → old ≡ greatest k present has → new ≡ cond (member k present) (has k) 0 → max old new ≡ greatest (k + 1) present has
      larger old new has a b = rw (a, b) (sym (greatest_more k present has))

      counted : (x y : ℕ) → x ≡ y → cond there x 0 ≡ cond (member k present) y 0
      counted x y a = rw (a, e)

all_passed : (columns : List ℕ) (present copyin copyout work k r : ℕ) → Passed columns present copyin copyout work k → 32 ≤ k → r ≡ max work (copyin + copyout)
    → r ≡ longest_interval present columns
unfolding longest_interval
all_passed columns present copyin copyout work k r h l e =
    let z : k ≡ 32 = omega (arith, h.tasks) in
    e ∙ rw (h.copyins, h.copyouts, h.works, z)

pub loop-k-init : goal.loop-k-init
loop-k-init c = none_passed _ _

pub overflow_add-l : goal.overflow_add-l
overflow_add-l c = record { fits = omega (arith, c.counted-l.ensures.1, c.counted-c.ensures.1) }

pub loop-k-preserved : goal.loop-k-preserved
loop-k-preserved c =
    let w = c.loop-k in
    let a = c.args in
    let x : c.max-copyin.result ≡ max w.copyin c.counted-l.result = search rules in
    let y : c.max-copyout.result ≡ max w.copyout c.counted-u.result = search rules in
    let z : c.max-work.result ≡ max w.work (c.counted-l.result + c.counted-c.result) = search rules in
    pass a.columns.now a.present w.copyin w.copyout w.work w.k w.invariant _ _ _ _ _ _ _ _ _ _
    c.contains-there.ensures
    c.copyin_length.ensures c.execution_length.ensures c.copyout_length.ensures
    c.counted-l.ensures c.counted-c.ensures c.counted-u.ensures
    x y z c.loop-k-test.true

pub overflow_add-copyin : goal.overflow_add-copyin
overflow_add-copyin c = record { fits = omega (arith, c.loop-k.invariant.short_copyin, c.loop-k.invariant.short_copyout) }

pub returns : goal.returns
returns c =
    let w = c.loop-k in
    let a = c.args in
    let e : c.max.result ≡ max w.work (w.copyin + w.copyout) = search rules in
    all_passed a.columns.now a.present w.copyin w.copyout w.work w.k _ w.invariant (omega arith) e
