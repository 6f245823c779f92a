-- `rules::order::first` meets its contract: the best so far is the highest of the tasks below the lowest that is left. Assumes nothing.
use Rattle.std.proofs.Common.{◌≤◌, ◌<◌, ◌≡◌}
use Rattle.rules.specs.Types.{Bool, true, false, cond, List, ℕ, zero, suc, Option, None, Some, refl, sym, ap, ◌∙◌, ⊎_elim}
use native.Mathlib.Omega.{arith}
use native.Mathlib.Nat.{eq-or-lt_of_le, le_of_suc-le-suc}
use borrow.Author.Tests.{lt-ltb}
use lib.Dec.{eqb, ltb}
use lib.ListN.{get_or}
use Rattle.sets.specs.Sets.{member, lowest}
use Rattle.sets.proofs.Laws.{lowest_first, lowest_none}
use Rattle.rules.specs.Order.{better, highest_below, highest}
use Rattle.rules.specs.Registers.{as_task}
use Rattle.rules.proofs.Members.{Turn, start, turn, onward, ended}
use Rattle.rules.proofs.order.first.Goals as goal

-- task n beside the best so far, by what the test of their priorities and times says
module _ (ps : List ℕ) (since : ℕ → ℕ) (n : ℕ) where
  alone : better ps since None n ≡ Some n
  unfolding better
  alone = refl

  beside : (m : ℕ) {least p : ℕ} (b : Bool) → least ≡ get_or ps m 0 → p ≡ get_or ps n 0 → cond (eqb p least) (ltb (since n) (since m)) (ltb p least) ≡ b
      → better ps since (Some m) n ≡ cond b (Some n) (Some m)
  unfolding better
  beside m b e f x = ap (λ (z : Bool). cond z (Some n) (Some m)) (rw (f, e) at x)

module _ (ps : List ℕ) (since : ℕ → ℕ) (s : ℕ) where
  with_one : (k : ℕ) → member k s ≡ true → highest_below (suc k) ps since s ≡ better ps since (highest_below k ps since s) k
  unfolding highest_below
  with_one k e = rw e

  -- tasks that are not in the set change nothing
  skips : (i j : ℕ) → i ≤ j → ((k : ℕ) → i ≤ k → k < j → member k s ≡ false) → highest_below j ps since s ≡ highest_below i ps since s
  unfolding highest_below
  skips i zero l h = let e : i ≡ 0 = omega arith in rw e
  skips i (suc j) l h =
      ⊎_elim (λ e. ap (λ x. highest_below x ps since s) (sym e))
      (λ m. rw (h j (le_of_suc-le-suc m) (omega arith)) (skips i j (le_of_suc-le-suc m) (λ k a b. h k a (omega arith))))
      (eq-or-lt_of_le l)

  at_start : highest_below (lowest s) ps since s ≡ None
  unfolding highest_below
  at_start = skips 0 (lowest s) (omega arith) (λ k l m. lowest_first s k m)

  at_turn : {left n after : ℕ} → Turn s left n after → highest_below (lowest after) ps since s ≡ better ps since (highest_below (lowest left) ps since s) n
  at_turn {left} {n} {after} t =
      skips (suc n) (lowest after) t.rises (λ k l m. t.between k l m)
      ∙ with_one n t.there
      ∙ ap (λ x. better ps since (highest_below x ps since s) n) (sym t.lowest_left)

  at_end : {left : ℕ} → left ≡ 0 → highest_below (lowest left) ps since s ≡ highest ps since s
  unfolding highest
  at_end z = rw (z, lowest_none)

pub returns-then-set-eq0 : goal.returns-then-set-eq0
returns-then-set-eq0 c =
    let s = c.args in
    let since : ℕ → ℕ = λ k. get_or s.release.now k 0 in
    sym (at_start s.priority.now since s.set) ∙ at_end s.priority.now since s.set c.if-set-eq0.true

pub bounds-priority-from : goal.bounds-priority-from
bounds-priority-from c =
    omega (arith, (turn (start c.ranges.set.fits) c.if-set-eq0.false c.lowest-best.ensures refl).task, c.from.ensures)

pub loop-n-init : goal.loop-n-init
loop-n-init c =
    let s = c.args in
    let since : ℕ → ℕ = λ k. get_or s.release.now k 0 in
    let t = turn (start c.ranges.set.fits) c.if-set-eq0.false c.lowest-best.ensures c.rest.ensures in
    rw (c.into_iter-n-iterator.ensures.into_iter_gives, c.members-n-items.ensures) (
      t.next,
      t.task,
      rw c.from.ensures at c.from-least.ensures,
      at_turn s.priority.now since s.set t
          ∙ ap (λ (r : Option ℕ). better s.priority.now since r c.lowest-best.result) (at_start s.priority.now since s.set) ∙ alone s.priority.now since c.lowest-best.result,
    )

pub bounds-priority-from-in-loop-n : goal.bounds-priority-from-in-loop-n
bounds-priority-from-in-loop-n c =
    let t = onward c.loop-n.n-iterator.left c.in-Some.n c.next.new.self.left c.loop-n.invariant.0 c.in-Some.ensures.steps in
    omega (arith, t.task, c.from-in-loop-n.ensures)

pub loop-n-preserved-then-goes_before : goal.loop-n-preserved-then-goes_before
loop-n-preserved-then-goes_before c =
    let w = c.loop-n in
    let s = c.args in
    let ps = s.priority.now in
    let since : ℕ → ℕ = λ k. get_or s.release.now k 0 in
    let n = c.in-Some.n in
    let t = onward w.n-iterator.left n c.next.new.self.left w.invariant.0 c.in-Some.ensures.steps in
    let p = rw c.from-in-loop-n.ensures at c.from-p.ensures in
    let on = at_turn ps since s.set t ∙ ap (λ (r : Option ℕ). better ps since r n) w.invariant.3 in
    (t.next, t.task, p, on ∙ beside ps since n w.best true w.invariant.2 p (sym c.goes_before.ensures ∙ c.if-goes_before.true))

pub loop-n-preserved : goal.loop-n-preserved
loop-n-preserved c =
    let w = c.loop-n in
    let s = c.args in
    let ps = s.priority.now in
    let since : ℕ → ℕ = λ k. get_or s.release.now k 0 in
    let n = c.in-Some.n in
    let t = onward w.n-iterator.left n c.next.new.self.left w.invariant.0 c.in-Some.ensures.steps in
    let p = rw c.from-in-loop-n.ensures at c.from-p.ensures in
    let on = at_turn ps since s.set t ∙ ap (λ (r : Option ℕ). better ps since r n) w.invariant.3 in
    (t.next, w.invariant.1, w.invariant.2, on ∙ beside ps since n w.best false w.invariant.2 p (sym c.goes_before.ensures ∙ c.if-goes_before.false))

pub returns : goal.returns
returns c =
    let v = c.loop-n in
    let s = c.args in
    let z = ended v.n-iterator.left v.invariant.0 c.in-None.ensures.steps.0.0 in
    is_best v.best v.invariant.1 ∙ sym v.invariant.3 ∙ at_end s.priority.now (λ k. get_or s.release.now k 0) s.set z
  where
    is_best : (n : ℕ) → n < 32 → as_task n ≡ Some n
    is_best n l = rw (lt-ltb n 32 l)
