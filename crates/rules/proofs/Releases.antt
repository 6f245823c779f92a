-- Steps c and d: what gives way to the releases that are taken, and that without releases nothing changes.
use Rattle.std.proofs.Common.{◌&&◌, ◌||◌, ◌^◌, ◌<◌, ◌≡◌}
use Rattle.rules.specs.Types.{Bool, true, false, cond, not, List, ℕ, zero, suc, refl, sym, ap, ◌∙◌, Option, None, CopyIn, Unchosen, NoneChosen, Copying, Loaded, Cancelled, Interval, Phase, Between, Within, State, Registers}
use mathlib.Core.Path.{ap₂}
use mathlib.Core.Bool.{true≢false}
use borrow.Author.Tests.{eqb-true}
use lib.Dec.{eqb}
use Rattle.sets.specs.Sets.{member, union, difference, intersection}
use Rattle.sets.proofs.Laws.{none, empty, by-test, clash, ext, united, difference_member, union_small, union_none, intersection_none, difference_small, difference_left, difference_in}
use lib.ListN.{get_or}
use Rattle.rules.specs.Order.{highest_below, highest, highest_of, outranks}
use Rattle.rules.specs.Instant.{original, step_c, cancel, cancel_by, step_d, steps_c_d}
use Rattle.rules.specs.Registers.{is_held, interval_in, phase_in, arrays, waits, Memory, state_in}
use Rattle.rules.proofs.ByTask.{stamped_none}
use Rattle.rules.proofs.Fields.{with_kept, taken_with}

-- where the engine holds no job nothing changes
pub stays : (d : State) (taken : ℕ) (r : Registers) → is_held r.copyin ≡ false → d ≡ step_d d taken (phase_in r)
unfolding cancel_by step_d interval_in phase_in
stays d taken r h =
    let k : ℕ = r.copyin in
    by-test (eqb k 6)
    (λ e. simp e)
    (λ f.
    by-test (eqb k 0)
    (λ e. simp (f, e))
    (λ g.
    by-test (eqb k 1)
    (λ e. simp (f, g, e))
    (λ e. simp (f, g, e, (neither (eqb k 2) (eqb k 3) h).0, (neither (eqb k 2) (eqb k 3) h).1))))
  where
    neither : (a b : Bool) → (a || b) ≡ false → (a ≡ false) × (b ≡ false)
    neither true b e = absurd (true≢false e)
    neither false b e = (refl, e)

-- where it holds one, this gives way, or does not
pub cancels : {by : Option ℕ} {b : Bool} (d : State) (taken : ℕ) (r : Registers)
    → is_held r.copyin ≡ true → by ≡ highest_of d (intersection taken d.marked) → b ≡ outranks d r.intask by
    → step_d d taken (phase_in r) ≡ cancel d (interval_in r) r.intask (cond (eqb r.copyin 3) 3 2) b
unfolding cancel_by step_d interval_in phase_in
cancels d taken r h e q =
    by-test (eqb r.copyin 3)
    (λ t. let z : r.copyin ≡ 3 = eqb-true r.copyin 3 t in rw (z, q, e))
    (λ f. let z : r.copyin ≡ 2 = eqb-true r.copyin 2 (other (eqb r.copyin 2) (eqb r.copyin 3) h f) in rw (z, q, e))
  where
    other : (a b : Bool) → (a || b) ≡ true → b ≡ false → a ≡ true
    other true b h f = refl
    other false b h f = sym f ∙ h

pub steps : {x y : State} (d : State) (t taken deferred : ℕ) → x ≡ step_c d t taken deferred → y ≡ step_d x taken x.phase → y ≡ steps_c_d d t taken deferred
unfolding steps_c_d
steps d t taken deferred e f = rw (f, e)

-- ---- no release

none_below : (k : ℕ) (priority : List ℕ) (since : ℕ → ℕ) → highest_below k priority since 0 ≡ None
unfolding highest_below
none_below zero priority since = refl
none_below (suc k) priority since = rw (none k, none_below k priority since)

highest_none : (d : State) → highest_of d 0 ≡ None
unfolding highest
highest_none d = none_below 32 d.table.priority (λ k. get_or d.jobs.release k 0)

none_cancelled_by : (d : State) (i : Interval) (c : CopyIn) → d ≡ cancel_by d 0 i c
unfolding cancel cancel_by
none_cancelled_by d i Unchosen = refl
none_cancelled_by d i NoneChosen = refl
none_cancelled_by d i (Copying n until) = sym (ap (λ x. cancel d i n 2 (outranks d n x)) (ap (λ s. highest_of d s) (intersection_none d.marked) ∙ highest_none d))
none_cancelled_by d i (Loaded n) = sym (ap (λ x. cancel d i n 3 (outranks d n x)) (ap (λ s. highest_of d s) (intersection_none d.marked) ∙ highest_none d))
none_cancelled_by d i (Cancelled n fate) = refl

none_cancelled : (d : State) (x : Phase) → d ≡ step_d d 0 x
unfolding step_d
none_cancelled d (Between next outgoing) = refl
none_cancelled d (Within i) = none_cancelled_by d i i.copyin

-- of two sets without a task neither has one
pub union_empty : (s t : ℕ) → s < 2 ^ 32 → t < 2 ^ 32 → union s t ≡ 0 → (s ≡ 0) × (t ≡ 0)
union_empty s t f g e = (empty s f (λ k l. first (member k s) (member k t) (none_in k l)), empty t g (λ k l. second (member k s) (member k t) (none_in k l)))
  where
    none_in : (k : ℕ) → k < 32 → (member k s || member k t) ≡ false
    none_in k l = sym (united s t k l) ∙ ap (member k) e ∙ none k

    first : (a b : Bool) → (a || b) ≡ false → a ≡ false
    first true b h = h
    first false b h = refl

    second : (a b : Bool) → (a || b) ≡ false → b ≡ false
    second true b h = absurd (true≢false h)
    second false b h = h

difference_none : (s : ℕ) → s < 2 ^ 32 → difference s 0 ≡ s
difference_none s f =
    ext 32 (difference s 0) s (difference_small s 0) f
    (λ k l. by-test (member k s)
    (λ e. difference_in s 0 k l e (none k) ∙ sym e)
    (λ e. by-test (member k (difference s 0)) (λ x. clash (member k s) (difference_left s 0 k x) e) (λ x. x ∙ sym e)))

-- the memory after releases, piece by piece
pub same_memory : {a a' b b' u u' : List ℕ} {w w' v v' : ℕ} (m : Memory) (r : Registers) → a ≡ a' → b ≡ b' → w ≡ w' → u ≡ u' → v ≡ v'
    → state_in (with_kept m (arrays a b) (waits w u v)) r ≡ state_in (with_kept m (arrays a' b') (waits w' u' v')) r
same_memory m r e f g h i = rw (e, f, g, h, i)

none_taken : (m : Memory) (r : Registers) (t : ℕ) → r.pending < 2 ^ 32 → r.ready < 2 ^ 32 → r.candidates < 2 ^ 32 → m.waiting.tasks < 2 ^ 32 → m.waiting.before < 2 ^ 32
    → state_in m r ≡ step_c (state_in m r) t 0 0
none_taken m r t p q c w b =
    sym (same_memory m r (stamped_none (original m.waiting t) 0 m.arrays.release) (stamped_none (λ k. 0) 0 m.arrays.blocked)
    (ap (λ s. union s 0) (difference_none m.waiting.tasks w) ∙ union_none m.waiting.tasks w) (stamped_none (λ k. t) 0 m.waiting.times) (union_none m.waiting.before b))
    ∙ taken_with m r t 0 0 r.pending r.ready 0 r.candidates
    (sym (union_none r.pending p)) (sym (union_none r.ready q)) (sym (intersection_none r.marked)) (sym (union_none r.candidates c))

pub none_released : (m : Memory) (r : Registers) (t taken deferred : ℕ) → r.pending < 2 ^ 32 → r.ready < 2 ^ 32 → r.candidates < 2 ^ 32 → m.waiting.tasks < 2 ^ 32 → m.waiting.before < 2 ^ 32
    → taken ≡ 0 → deferred ≡ 0 → state_in m r ≡ steps_c_d (state_in m r) t taken deferred
none_released m r t taken deferred p q c w b e f =
    steps (state_in m r) t 0 0 (none_taken m r t p q c w b) (none_cancelled (state_in m r) (state_in m r).phase)
    ∙ sym (ap₂ (λ x y. steps_c_d (state_in m r) t x y) e f)

-- ---- what becomes of the releases

-- a task in s or w and not in p: one that waits, or, where none does, one that is handed in
same_task : (p w s : Bool) → ((s || w) && not p) ≡ ((w && not p) || (s && not (p || (w && not p))))
same_task true true true = refl
same_task true true false = refl
same_task true false true = refl
same_task true false false = refl
same_task false true true = refl
same_task false true false = refl
same_task false false true = refl
same_task false false false = refl

pub same_set : (set p w : ℕ) → difference (union set w) p ≡ union (difference w p) (difference set (union p (difference w p)))
same_set set p w =
    ext 32 (difference (union set w) p) (union (difference w p) (difference set (union p (difference w p))))
    (difference_small (union set w) p) (union_small (difference w p) (difference set (union p (difference w p))))
    (λ k l.
    rw (
      difference_member (union set w) p k l,
      united set w k l,
      united (difference w p) (difference set (union p (difference w p))) k l,
      difference_member set (union p (difference w p)) k l,
      united p (difference w p) k l,
      difference_member w p k l,
    ) (same_task (member k p) (member k w) (member k set)))
