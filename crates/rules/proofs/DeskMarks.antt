-- 10/13: what is said of marks for a set of tasks. Assumes nothing.
use Rattle.std.proofs.Common.{◌≡◌, ◌&&◌, ◌||◌, ◌∷◌}
use Rattle.rules.specs.Types.{refl, sym, ap, ◌∙◌, subst, Bool, true, false, cond, not, List, [], ℕ, State}
use mathlib.Core.Bool.{true≢false, false≢true}
use Prim.Native.Nat.{◌<◌, ◌^◌}
use native.Mathlib.Omega.{arith}
use borrow.Author.Tests.{eqb-true, eqb-false, lt-ltb, le-ltb, ltb-true, ltb-false}
use lib.Dec.{eqb, ltb}
use Rattle.sets.specs.Sets.{member, union, intersection, difference, insert, lowest}
use Rattle.sets.proofs.Laws.{by-test, clash, none, ext, united, difference_member, inserted, difference_in, intersection_in, difference_left, difference_right, intersection_left, intersection_right, insert_same, union_small, difference_small, intersection_small, same_task, member_task, lowest_task, lowest_member, either_left}
use Rattle.rules.specs.Calls.{unknown, mark_refusal, mark, remarked, with_marks, with_mark, marks_refusal}
use Rattle.rules.specs.DeskMarks.{AnyUnknown, AnyBusy, stands_in, Orders, single_marks, DeskMarks}

-- ---- sets that have a task, and those that have none

has_some : (n s : ℕ) → member n s ≡ true → eqb s 0 ≡ false
has_some n s h = by-test (eqb s 0) (λ e. clash (member n 0) (subst (λ (x : ℕ). member n x ≡ true) (eqb-true s 0 e) h) (none n)) (λ e. e)

has_none : (n s : ℕ) → eqb s 0 ≡ true → member n s ≡ false
has_none n s e = ap (member n) (eqb-true s 0 e) ∙ none n

of_some : (s : ℕ) → s < 2 ^ 32 → eqb s 0 ≡ false → (lowest s < 32) × (member (lowest s) s ≡ true)
of_some s l e = let x : lowest s < 32 = lowest_task s l (eqb-false s 0 e) in (x, lowest_member s x)

-- ---- the marks after a change, task by task

pub remarked_member : (k : ℕ) → k < 32 → (marked set m : ℕ) → member k (remarked marked set m) ≡ cond (member k set) (eqb m 1) (member k marked)
remarked_member k l marked set m =
    by-test (eqb set 0)
    (λ e. rw (e, has_none k set e))
    (λ e. rw e (by-test (eqb m 1)
    (λ f. rw f (united marked set k l ∙ on (member k marked) (member k set)))
    (λ f. rw f (difference_member marked set k l ∙ off (member k marked) (member k set)))))
  where
    on : (a b : Bool) → (a || b) ≡ cond b true a
    on true true = refl
    on true false = refl
    on false true = refl
    on false false = refl

    off : (a b : Bool) → (a && not b) ≡ cond b false a
    off true true = refl
    off true false = refl
    off false true = refl
    off false false = refl

module _ (marked set m : ℕ) where
  changed_small : eqb set 0 ≡ false → remarked marked set m < 2 ^ 32
  changed_small e = rw e (by-test (eqb m 1) (λ f. rw f (union_small marked set)) (λ f. rw f (difference_small marked set)))

  stays_small : marked < 2 ^ 32 → remarked marked set m < 2 ^ 32
  stays_small l = by-test (eqb set 0) (λ e. rw e l) changed_small

alone : (k n : ℕ) → k < 32 → member k (insert n 0) ≡ eqb k n
alone k n l = inserted n 0 k l ∙ rw (none k) (or_false (eqb k n))
  where
    or_false : (a : Bool) → (a || false) ≡ a
    or_false true = refl
    or_false false = refl

-- ---- single changes, one after the other

unfoldable remarks : ℕ → ℕ → List ℕ → ℕ
remarks marked m [] = marked
remarks marked m (n ∷ ns) = remarks (remarked marked (insert n 0) m) m ns

remarks_small : (ns : List ℕ) (marked m : ℕ) → marked < 2 ^ 32 → remarks marked m ns < 2 ^ 32
unfolding remarks
remarks_small [] marked m l = l
remarks_small (n ∷ ns) marked m l = remarks_small ns (remarked marked (insert n 0) m) m (stays_small marked (insert n 0) m l)

remarks_member : (k : ℕ) → k < 32 → (ns : List ℕ) (marked m : ℕ) → member k (remarks marked m ns) ≡ cond (stands_in k ns) (eqb m 1) (member k marked)
unfolding remarks stands_in
remarks_member k l [] marked m = refl
remarks_member k l (n ∷ ns) marked m =
    remarks_member k l ns (remarked marked (insert n 0) m) m
    ∙ rw (remarked_member k l marked (insert n 0) m, alone k n l) (either (eqb k n) (stands_in k ns) (eqb m 1) (member k marked))
  where
    either : (a b x y : Bool) → cond b x (cond a x y) ≡ cond (a || b) x y
    either true true x y = refl
    either true false x y = refl
    either false true x y = refl
    either false false x y = refl

first_stands : (n : ℕ) (ns : List ℕ) → stands_in n (n ∷ ns) ≡ true
unfolding stands_in
first_stands n ns = either_left (eqb n n) (stands_in n ns) (same_task n)

first_small : (n : ℕ) (ns : List ℕ) (marked m : ℕ) → n < 32 → remarks marked m (n ∷ ns) < 2 ^ 32
unfolding remarks
first_small n ns marked m l =
    remarks_small ns (remarked marked (insert n 0) m) m (changed_small marked (insert n 0) m (has_some n (insert n 0) (insert_same n 0 n l (same_task n))))

-- a task that can be marked now
record Free (d : State) (n : ℕ) : Type 0 where
  known : member n d.table.present ≡ true
  idle : member n (union d.jobs.pending d.waiting.tasks) ≡ false

with_marked : State → ℕ → State
with_marked d w = record { table = d.table; marked = w; clock = d.clock; half = d.half; jobs = d.jobs; waiting = d.waiting; phase = d.phase }

single : (d : State) (n m : ℕ) → Free d n → ltb 1 m ≡ false → (mark d n m).state ≡ with_mark d n m
unfolding mark mark_refusal
single d n m f e = rw (mark, mark_refusal, f.known, e, f.idle)

singles : (ns : List ℕ) (d : State) (m : ℕ) → ((n : ℕ) → stands_in n ns ≡ true → Free d n) → ltb 1 m ≡ false → single_marks d m ns ≡ with_marked d (remarks d.marked m ns)
unfolding single_marks remarks stands_in with_marked
singles [] d m f e = refl
singles (n ∷ ns) d m f e =
    ap (λ (x : State). single_marks x m ns) (single d n m (f n (either_left (eqb n n) (stands_in n ns) (same_task n))) e)
    ∙ singles ns (with_mark d n m) m (λ k h. let x : Free d k = f k (or_right (eqb k n) (stands_in k ns) h) in record { known = x.known; idle = x.idle }) e
  where
    or_right : (a b : Bool) → b ≡ true → (a || b) ≡ true
    or_right true b h = refl
    or_right false b h = h

-- ---- why a call is refused

by_16 : (a b c : Bool) → ◌≡◌ {A = ℕ} (cond (not a) 16 (cond b 6 (cond (not c) 17 0))) 16 → a ≡ false
by_16 true true c h = absurd (omega (arith, h))
by_16 true false true h = absurd (omega (arith, h))
by_16 true false false h = absurd (omega (arith, h))
by_16 false b c h = refl

by_6 : (a b c : Bool) → ◌≡◌ {A = ℕ} (cond (not a) 16 (cond b 6 (cond (not c) 17 0))) 6 → (a ≡ true) × (b ≡ true)
by_6 true true c h = (refl, refl)
by_6 true false true h = absurd (omega (arith, h))
by_6 true false false h = absurd (omega (arith, h))
by_6 false b c h = absurd (omega (arith, h))

by_17 : (a b c : Bool) → ◌≡◌ {A = ℕ} (cond (not a) 16 (cond b 6 (cond (not c) 17 0))) 17 → (a ≡ true) × (b ≡ false) × (c ≡ false)
by_17 true true c h = absurd (omega (arith, h))
by_17 true false true h = absurd (omega (arith, h))
by_17 true false false h = (refl, refl, refl)
by_17 false b c h = absurd (omega (arith, h))

by_0 : (a b c : Bool) → ◌≡◌ {A = ℕ} (cond (not a) 16 (cond b 6 (cond (not c) 17 0))) 0 → (a ≡ true) × (b ≡ false) × (c ≡ true)
by_0 true true c h = absurd (omega (arith, h))
by_0 true false true h = (refl, refl, refl)
by_0 true false false h = absurd (omega (arith, h))
by_0 false b c h = absurd (omega (arith, h))

module _ (d : State) (set m : ℕ) where
  abbrev busy_tasks : ℕ
  busy_tasks = union d.jobs.pending d.waiting.tasks

  pub known_all : eqb (difference set d.table.present) 0 ≡ true → (n : ℕ) → n < 32 → member n set ≡ true → member n d.table.present ≡ true
  known_all e n l h =
      by-test (member n d.table.present) (λ f. f)
      (λ f. clash (eqb (difference set d.table.present) 0) e (has_some n (difference set d.table.present) (difference_in set d.table.present n l h f)))

  pub idle_all : eqb (intersection set (union d.jobs.pending d.waiting.tasks)) 0 ≡ true → (n : ℕ) → n < 32 → member n set ≡ true
      → member n (union d.jobs.pending d.waiting.tasks) ≡ false
  idle_all e n l h =
      by-test (member n busy_tasks)
      (λ f. clash (eqb (intersection set busy_tasks) 0) e (has_some n (intersection set busy_tasks) (intersection_in set busy_tasks n l h f)))
      (λ f. f)

  -- what is asked, and its answer as a test of a set
  any_unknown : eqb (difference set d.table.present) 0 ≡ false → AnyUnknown d set
  any_unknown e =
      let s : ℕ = difference set d.table.present in
      let x = of_some s (difference_small set d.table.present) e in
      (lowest s, difference_left set d.table.present (lowest s) x.1, difference_right set d.table.present (lowest s) x.1)

  none_unknown : (AnyUnknown d set → ⊥) → eqb (difference set d.table.present) 0 ≡ true
  none_unknown f = by-test (eqb (difference set d.table.present) 0) (λ e. e) (λ e. absurd (f (any_unknown e)))

  some_unknown : set < 2 ^ 32 → AnyUnknown d set → eqb (difference set d.table.present) 0 ≡ false
  some_unknown l x = has_some x.0 (difference set d.table.present) (difference_in set d.table.present x.0 (member_task x.0 set l x.1) x.1 x.2)

  not_unknown : set < 2 ^ 32 → eqb (difference set d.table.present) 0 ≡ true → AnyUnknown d set → ⊥
  not_unknown l e x = true≢false (sym e ∙ some_unknown l x)

  some_busy : set < 2 ^ 32 → AnyBusy d set → eqb (intersection set (union d.jobs.pending d.waiting.tasks)) 0 ≡ false
  some_busy l x =
      let n : x.0 < 32 = member_task x.0 set l x.1 in
      has_some x.0 (intersection set busy_tasks) (intersection_in set busy_tasks x.0 n x.1 (united d.jobs.pending d.waiting.tasks x.0 n ∙ x.2))

  any_busy : eqb (intersection set (union d.jobs.pending d.waiting.tasks)) 0 ≡ false → AnyBusy d set
  any_busy e =
      let x = of_some (intersection set busy_tasks) (intersection_small set busy_tasks) e in
      let n : ℕ = lowest (intersection set busy_tasks) in
      (n, intersection_left set busy_tasks n x.1, sym (united d.jobs.pending d.waiting.tasks n x.0) ∙ intersection_right set busy_tasks n x.1)

  none_busy : (AnyBusy d set → ⊥) → eqb (intersection set (union d.jobs.pending d.waiting.tasks)) 0 ≡ true
  none_busy f = by-test (eqb (intersection set busy_tasks) 0) (λ e. e) (λ e. absurd (f (any_busy e)))

  not_busy : set < 2 ^ 32 → eqb (intersection set (union d.jobs.pending d.waiting.tasks)) 0 ≡ true → AnyBusy d set → ⊥
  not_busy l e x = true≢false (sym e ∙ some_busy l x)

  -- ---- single changes in any order

  module _ (order : List ℕ) (o : Orders order set) (served : marks_refusal d set m ≡ 0) where
    tests : (eqb (difference set d.table.present) 0 ≡ true) × (ltb 1 m ≡ false) × (eqb (intersection set (union d.jobs.pending d.waiting.tasks)) 0 ≡ true)
    unfolding marks_refusal unknown
    tests = by_0 (eqb (difference set d.table.present) 0) (ltb 1 m) (eqb (intersection set busy_tasks) 0) served

    free : (n : ℕ) → stands_in n order ≡ true → Free d n
    free n h =
        let l : n < 32 = o.tasks n h in
        let i : member n set ≡ true = sym (o.each n l) ∙ h in
        record { known = known_all tests.0 n l i; idle = idle_all tests.2 n l i }

    -- where some task is named the marks are those of a set
    some_named : (n : ℕ) (ns : List ℕ) → order ≡ n ∷ ns → remarks d.marked m order ≡ remarked d.marked set m
    some_named n ns e =
        let stands : stands_in n order ≡ true = ap (stands_in n) e ∙ first_stands n ns in
        let l : n < 32 = o.tasks n stands in
        ext 32 (remarks d.marked m order) (remarked d.marked set m)
        (subst (λ (x : List ℕ). remarks d.marked m x < 2 ^ 32) (sym e) (first_small n ns d.marked m l))
        (changed_small d.marked set m (has_some n set (sym (o.each n l) ∙ stands)))
        (λ k j. remarks_member k j order d.marked m ∙ ap (λ (b : Bool). cond b (eqb m 1) (member k d.marked)) (o.each k j) ∙ sym (remarked_member k j d.marked set m))

    -- and where none is they stay
    none_named : order ≡ [] → remarks d.marked m order ≡ remarked d.marked set m
    none_named e =
        by-test (eqb set 0)
        (λ f. rw f (ap (remarks d.marked m) e ∙ unfold remarks in refl))
        (λ f.
        let x = of_some set o.is_set f in
        absurd (false≢true (sym (ap (stands_in (lowest set)) e ∙ unfold stands_in in refl) ∙ o.each (lowest set) x.0 ∙ x.1)))

    named : (ns : List ℕ) → order ≡ ns → remarks d.marked m order ≡ remarked d.marked set m
    named [] e = none_named e
    named (n ∷ ns) e = some_named n ns e

    in_order : single_marks d m order ≡ with_marks d set m
    unfolding with_marked
    in_order = singles order d m free tests.1 ∙ ap (with_marked d) (named order refl)

  -- ---- one task

  module _ (n : ℕ) (l : n < 32) where
    one_known : eqb (difference (insert n 0) d.table.present) 0 ≡ member n d.table.present
    one_known =
        by-test (member n d.table.present)
        (λ e. all_known e ∙ sym e)
        (λ e. has_some n (difference (insert n 0) d.table.present) (difference_in (insert n 0) d.table.present n l (insert_same n 0 n l (same_task n)) e) ∙ sym e)
      where
        all_known : member n d.table.present ≡ true → eqb (difference (insert n 0) d.table.present) 0 ≡ true
        all_known e =
            by-test (eqb (difference (insert n 0) d.table.present) 0) (λ f. f)
            (λ f.
            let s : ℕ = difference (insert n 0) d.table.present in
            let x = of_some s (difference_small (insert n 0) d.table.present) f in
            let k : lowest s ≡ n = eqb-true (lowest s) n (sym (alone (lowest s) n x.0) ∙ difference_left (insert n 0) d.table.present (lowest s) x.1) in
            clash (member n d.table.present) e (ap (λ (j : ℕ). member j d.table.present) (sym k) ∙ difference_right (insert n 0) d.table.present (lowest s) x.1))

    one_busy : eqb (intersection (insert n 0) (union d.jobs.pending d.waiting.tasks)) 0 ≡ not (member n (union d.jobs.pending d.waiting.tasks))
    one_busy =
        by-test (member n busy_tasks)
        (λ e. has_some n (intersection (insert n 0) busy_tasks) (intersection_in (insert n 0) busy_tasks n l (insert_same n 0 n l (same_task n)) e) ∙ ap not (sym e))
        (λ e. all_idle e ∙ ap not (sym e))
      where
        all_idle : member n (union d.jobs.pending d.waiting.tasks) ≡ false → eqb (intersection (insert n 0) (union d.jobs.pending d.waiting.tasks)) 0 ≡ true
        all_idle e =
            by-test (eqb (intersection (insert n 0) busy_tasks) 0) (λ f. f)
            (λ f.
            let s : ℕ = intersection (insert n 0) busy_tasks in
            let x = of_some s (intersection_small (insert n 0) busy_tasks) f in
            let k : lowest s ≡ n = eqb-true (lowest s) n (sym (alone (lowest s) n x.0) ∙ intersection_left (insert n 0) busy_tasks (lowest s) x.1) in
            clash (member n busy_tasks) (ap (λ (j : ℕ). member j busy_tasks) (sym k) ∙ intersection_right (insert n 0) busy_tasks (lowest s) x.1) e)

    one : mark_refusal d n m ≡ marks_refusal d (insert n 0) m
    unfolding mark_refusal marks_refusal unknown
    one = rw (one_known, one_busy) (twice (member n busy_tasks))
      where
        twice : (b : Bool) → ◌≡◌ {A = ℕ} (cond (not (member n d.table.present)) 16 (cond (ltb 1 m) 6 (cond b 17 0)))
            (cond (not (member n d.table.present)) 16 (cond (ltb 1 m) 6 (cond (not (not b)) 17 0)))
        twice true = refl
        twice false = refl

  -- ---- each number

  abbrev known_test : Bool
  known_test = eqb (difference set d.table.present) 0

  abbrev idle_test : Bool
  idle_test = eqb (intersection set (union d.jobs.pending d.waiting.tasks)) 0

  pub desk_marks : DeskMarks d set m
  unfolding marks_refusal unknown
  desk_marks = record {
    unknown = λ l. (λ h. any_unknown (by_16 known_test (ltb 1 m) idle_test h), λ x. rw (some_unknown l x));
    bad_mark = λ l. (
      λ h. let x = by_6 known_test (ltb 1 m) idle_test h in (not_unknown l x.0, ltb-true 1 m x.1),
      λ x. rw (none_unknown x.0, lt-ltb 1 m x.1),
    );
    busy = λ l. (
      λ h. let x = by_17 known_test (ltb 1 m) idle_test h in (not_unknown l x.0, ltb-false 1 m x.1, any_busy x.2),
      λ x. rw (none_unknown x.0, le-ltb 1 m x.1, some_busy l x.2),
    );
    served = λ l. (
      λ h. let x = by_0 known_test (ltb 1 m) idle_test h in (not_unknown l x.0, ltb-false 1 m x.1, not_busy l x.2),
      λ x. rw (none_unknown x.0, le-ltb 1 m x.1, none_busy x.2),
    );
    in_any_order = in_order;
    one_task = one;
  }
