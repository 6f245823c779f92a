-- 7/13: the number of a job's intervals by h, that the other readings of h are not smaller, and the claim on each history.
use Rattle.std.proofs.Common.{◌≡◌, ◌∷◌, ◌++◌, ◌+◌, ◌*◌, ◌^◌, ◌≤◌, ◌<◌}
use Rattle.guarantees.specs.Types.{refl, sym, ap, ◌∙◌, subst, Bool, true, false, cond, List, [], ℕ, zero, suc, Table, Option, None, Some}
use native.Mathlib.Omega.{arith}
use Prim.Native.Nat.{max}
use native.Mathlib.Nat.{not-suc-le-zero, le_of_suc-le-suc, mul-le-mul, mul-le-mul_right}
use borrow.Author.Tests.{le-leb}
use lib.Dec.{eqb}
use lib.ListN.{get_or, length}
use Rattle.sets.specs.Sets.{member, bit}
use Rattle.sets.proofs.Laws.{by-test, same_task}
use Rattle.table.specs.Table.{copyin_length, execution_length, copyout_length}
use Rattle.guarantees.specs.History.{Event, Comes, Starts, Stops, Finishes, Completes, Ends, Takes, Defers, GivesWay, Begins}
use Rattle.guarantees.specs.Queries.{is_task, Situation, NoneOpen, Open, situation, intervals, completion, each, total, upto, until, met, waited}
use Rattle.guarantees.specs.Claim.{NotLower}
use Rattle.guarantees.specs.Figure.{greatest, longest_interval, intervals_by, completes_after, PlainFigure, before_start, is_not_lower, not_lower_in, past_first, overtaking, started_between, stopped_between, SmallestReading, Planned, Figure}
use Rattle.guarantees.proofs.Proper.{Fair}
use Rattle.guarantees.proofs.Order.{Waits, Kept, released_in}
use Rattle.guarantees.proofs.Engine.{Free, Leaving}
use Rattle.guarantees.proofs.Processing.{Doing, Shut, ToStart, Runs, Rests, Working, started_to, stopped_to, opened_to}
use Rattle.guarantees.proofs.Turns.{View, view_by, nothing, Turning}
use Rattle.guarantees.proofs.Lasting.{Lasting, ended_in_time, open_in_time, completes_in}

module _ (pr : List ℕ) (n : ℕ) where
  -- ---- the number of a job's intervals

  not_lower_is : (r : Option ℕ) → NotLower pr n r → is_not_lower pr n r ≡ true
  not_lower_is None h = absurd h
  not_lower_is (Some k) h = le-leb (get_or pr k 0) (get_or pr n 0) h

  -- where every one of some intervals executes a job that is not lower, they are counted
  all_counted : (xs : List (Option ℕ)) → ((i : ℕ) → i < length xs → is_not_lower pr n (get_or xs i None) ≡ true) → length xs ≤ not_lower_in pr n xs
  unfolding not_lower_in
  all_counted [] f = omega arith
  all_counted (x ∷ xs) f = omega (arith, ap bit (f 0 (omega arith)), all_counted xs (λ i l. f (suc i) (omega arith)))

  -- and all but the first, if only the first may be lower
  rest_counted : (xs : List (Option ℕ)) → ((i : ℕ) → i < length (past_first xs) → is_not_lower pr n (get_or (past_first xs) i None) ≡ true) → length xs ≤ not_lower_in pr n xs + 1
  unfolding not_lower_in
  rest_counted [] f = omega arith
  rest_counted (x ∷ xs) f = omega (arith, all_counted xs f)

  -- those up to the executing one, and those before it
  pub record Same (xs ys : List (Option ℕ)) : Type 0 where
    pub fewer : length xs ≤ length ys
    pub one_more : length ys ≤ length xs + 1
    pub at : (i : ℕ) → i < length xs → get_or xs i None ≡ get_or ys i None

  more : (r : Option ℕ) (xs ys : List (Option ℕ)) → Same xs ys → Same (r ∷ xs) (r ∷ ys)
  more r xs ys s = record { fewer = omega (arith, s.fewer); one_more = omega (arith, s.one_more); at = go }
    where
      go : (i : ℕ) → i < length (r ∷ xs) → get_or (r ∷ xs) i None ≡ get_or (r ∷ ys) i None
      go zero l = refl
      go (suc i) l = s.at i (le_of_suc-le-suc l)

  until_upto : (rs : List (Option ℕ)) → Same (until n rs) (upto n rs)
  unfolding until upto
  until_upto [] = record { fewer = omega arith; one_more = omega arith; at = λ i l. refl }
  until_upto (r ∷ rs) = go (is_task n r) (until_upto rs)
    where
      go : (b : Bool) → Same (until n rs) (upto n rs) → Same (cond b [] (r ∷ until n rs)) (r ∷ cond b [] (upto n rs))
      go true s = record { fewer = omega arith; one_more = omega arith; at = λ i l. absurd (not-suc-le-zero l) }
      go false s = more r (until n rs) (upto n rs) s

  waited_met : (at : Situation) (rs : List (Option ℕ)) → Same (waited n at rs) (met n at rs)
  waited_met NoneOpen rs = until_upto rs
  waited_met (Open r) rs = more r (until n rs) (upto n rs) (until_upto rs)

  past_first_at : (xs : List (Option ℕ)) (i : ℕ) → i < length (past_first xs) → (suc i < length xs) × (get_or (past_first xs) i None ≡ get_or xs (suc i) None)
  past_first_at [] i l = absurd (not-suc-le-zero l)
  past_first_at (x ∷ xs) i l = (omega arith, refl)

  past_first_length : (xs : List (Option ℕ)) → length xs ≤ length (past_first xs) + 1
  past_first_length [] = omega arith
  past_first_length (x ∷ xs) = omega arith

  -- a place strictly between the first and the executing one is one of the job's intervals
  between_at : (at : Situation) (rs : List (Option ℕ)) (i : ℕ) → i < length (past_first (waited n at rs))
      → (suc i < length (met n at rs)) × (get_or (past_first (waited n at rs)) i None ≡ get_or (met n at rs) (suc i) None)
  between_at at rs i l =
      let x : (suc i < length (waited n at rs)) × (get_or (past_first (waited n at rs)) i None ≡ get_or (waited n at rs) (suc i) None) = past_first_at (waited n at rs) i l in
      (omega (arith, x.0, (waited_met at rs).fewer), x.1 ∙ (waited_met at rs).at (suc i) x.0)

  module _ (m : Bool) (at : Situation) (rs : List (Option ℕ)) (w : Waits pr n m at rs) where
    pub second_on : m ≡ true → (i : ℕ) → 1 ≤ i → i < length (met n at rs) → is_not_lower pr n (get_or (met n at rs) i None) ≡ true
    second_on e i a l = not_lower_is (get_or (met n at rs) i None) (w.later e i a l)

    lengths : length (met n at rs) ≤ length (past_first (waited n at rs)) + 2
    lengths = omega (arith, (waited_met at rs).one_more, past_first_length (waited n at rs))

    pub marked_most : m ≡ true → length (met n at rs) ≤ overtaking pr n at rs + 2
    marked_most e =
        omega (
          arith,
          lengths,
          all_counted (past_first (waited n at rs))
              (λ i l. ap (is_not_lower pr n) (between_at at rs i l).1 ∙ second_on e (suc i) (omega arith) (between_at at rs i l).0),
        )

    pub most : length (met n at rs) ≤ overtaking pr n at rs + 3
    most = omega (arith, lengths, rest_counted (past_first (waited n at rs)) third)
      where
        third : (i : ℕ) → i < length (past_first (past_first (waited n at rs))) → is_not_lower pr n (get_or (past_first (past_first (waited n at rs))) i None) ≡ true
        third i l =
            let x : (suc i < length (past_first (waited n at rs))) × (get_or (past_first (past_first (waited n at rs))) i None ≡ get_or (past_first (waited n at rs)) (suc i) None) =
            past_first_at (past_first (waited n at rs)) i l in
            let y : (suc (suc i) < length (met n at rs)) × (get_or (past_first (waited n at rs)) (suc i) None ≡ get_or (met n at rs) (suc (suc i)) None) = between_at at rs (suc i) x.0 in
            ap (is_not_lower pr n) (x.1 ∙ y.1) ∙ not_lower_is (get_or (met n at rs) (suc (suc i)) None) (w.third (suc (suc i)) (omega arith) y.0)

  -- ---- the other readings of h

  first_counted : (xs : List (Option ℕ)) → not_lower_in pr n (past_first xs) ≤ not_lower_in pr n xs
  unfolding not_lower_in
  first_counted [] = omega arith
  first_counted (x ∷ xs) = omega arith

  -- an execution that is still to start, or to stop, in the open interval
  abbrev to_start : Doing → ℕ
  to_start Shut = 0
  to_start (ToStart k u) = bit (is_not_lower pr n (Some k))
  to_start (Runs k u) = 0
  to_start (Rests r) = 0

  abbrev to_stop : Doing → ℕ
  to_stop Shut = 0
  to_stop (ToStart k u) = bit (is_not_lower pr n (Some k))
  to_stop (Runs k u) = bit (is_not_lower pr n (Some k))
  to_stop (Rests r) = 0

  -- the job itself is not on the processor
  abbrev NotOwn : Doing → Type 0
  NotOwn Shut = Unit {0}
  NotOwn (ToStart k u) = eqb n k ≡ false
  NotOwn (Runs k u) = eqb n k ≡ false
  NotOwn (Rests r) = Unit {0}

  -- each interval before the job's own that executes a job has its start and its end before it
  abbrev Before : Doing → List Event → Type 0
  Before s es =
      (not_lower_in pr n (until n (intervals es)) + to_start s ≤ started_between pr n es) × (not_lower_in pr n (until n (intervals es)) + to_stop s ≤ stopped_between pr n es)

  module _ (columns : List ℕ) where
    opened_other : (t : ℕ) (l r : Option ℕ) → is_task n r ≡ false → NotOwn (opened_to columns t l r)
    opened_other t l None e = tt
    opened_other t l (Some k) e = e

    counted : (es : List Event) (now : ℕ) (s : Doing) (l : Option ℕ) → NotOwn s → Working columns now s l es → length (until n (intervals es)) < length (upto n (intervals es)) → Before s es
    unfolding Working each total before_start until upto not_lower_in
    counted [] now s l o h x = absurd (not-suc-le-zero x)
    counted (Comes t ∷ es) now s l o h x = let y : Before s es = counted es t s l o h.1 x in (omega (arith, y.0), omega (arith, y.1))
    counted (Starts k t ∷ es) now Shut l o h x = absurd h.0
    counted (Starts k t ∷ es) now (ToStart m u) l o h x =
        let y : Before (Runs m 0) es = counted es now (started_to columns t (ToStart m u)) l o h.1 x in
        let z : bit (is_not_lower pr n (Some k)) ≡ bit (is_not_lower pr n (Some m)) = ap (λ (j : ℕ). bit (is_not_lower pr n (Some j))) h.0.0 in
        rw (ap (eqb n) h.0.0 ∙ o) (omega (arith, y.0), omega (arith, y.1))
    counted (Starts k t ∷ es) now (Runs m u) l o h x = absurd h.0
    counted (Starts k t ∷ es) now (Rests r) l o h x = absurd h.0
    counted (Stops k t ∷ es) now Shut l o h x = absurd h.0
    counted (Stops k t ∷ es) now (ToStart m u) l o h x = absurd h.0
    counted (Stops k t ∷ es) now (Runs m u) l o h x =
        let y : Before (Rests (Some m)) es = counted es now (Rests (Some m)) l tt h.1 x in
        let z : bit (is_not_lower pr n (Some k)) ≡ bit (is_not_lower pr n (Some m)) = ap (λ (j : ℕ). bit (is_not_lower pr n (Some j))) h.0.0 in
        (omega (arith, y.0), omega (arith, y.1))
    counted (Stops k t ∷ es) now (Rests r) l o h x = absurd h.0
    counted (Finishes k ∷ es) now s l o h x = let y : Before s es = counted es now s (Some k) o h x in (omega (arith, y.0), omega (arith, y.1))
    counted (GivesWay k ∷ es) now s l o h x = let y : Before s es = counted es now s None o h x in (omega (arith, y.0), omega (arith, y.1))
    counted (Completes k t ∷ es) now s l o h x = let y : Before s es = counted es now s l o h x in (omega (arith, y.0), omega (arith, y.1))
    counted (Defers k t ∷ es) now s l o h x = let y : Before s es = counted es now s l o h x in (omega (arith, y.0), omega (arith, y.1))
    counted (Takes k t m ∷ es) now s l o h x = let y : Before s es = counted es now s l o h x in (omega (arith, y.0), omega (arith, y.1))
    counted (Ends t ∷ es) now Shut l o h x = absurd h.0
    counted (Ends t ∷ es) now (ToStart m u) l o h x = absurd h.0
    counted (Ends t ∷ es) now (Runs m u) l o h x = absurd h.0
    counted (Ends t ∷ es) now (Rests r) l o h x = let y : Before Shut es = counted es now Shut l tt h.1 x in (omega (arith, y.0), omega (arith, y.1))
    counted (Begins t r q ∷ es) now (ToStart m u) l o h x = absurd h.0
    counted (Begins t r q ∷ es) now (Runs m u) l o h x = absurd h.0
    counted (Begins t r q ∷ es) now (Rests p) l o h x = absurd h.0
    counted (Begins t r q ∷ es) now Shut l o h x =
        by-test (is_task n r) (λ e. rw e (omega arith, omega arith))
        (λ e. rw e (another r (counted es now (opened_to columns t l r) None (opened_other t l r e) h.1 (le_of_suc-le-suc (rw e at x)))))
      where
        another : (r : Option ℕ) → Before (opened_to columns t l r) es
            → (bit (is_not_lower pr n r) + not_lower_in pr n (until n (intervals es)) + 0 ≤ 0 + started_between pr n es)
            × (bit (is_not_lower pr n r) + not_lower_in pr n (until n (intervals es)) + 0 ≤ 0 + stopped_between pr n es)
        another None y = (omega (arith, y.0), omega (arith, y.1))
        another (Some k) y = (omega (arith, y.0), omega (arith, y.1))

    -- ---- at the taking the job is not on the processor: its task has no job then

    -- while the processor has a job of task n, that one has been taken and its interval has begun
    abbrev Placed : ℕ → Doing → Type 0
    Placed p Shut = Unit {0}
    Placed p (ToStart k u) = eqb n k ≡ true → p ≡ 2
    Placed p (Runs k u) = eqb n k ≡ true → p ≡ 2
    Placed p (Rests r) = Unit {0}

    -- where none is at place 2 it has none, whatever the place is then
    placed_other : (p q : ℕ) (s : Doing) → (p ≡ 2 → ⊥) → Placed p s → Placed q s
    placed_other p q Shut f a = tt
    placed_other p q (ToStart k u) f a = λ e. absurd (f (a e))
    placed_other p q (Runs k u) f a = λ e. absurd (f (a e))
    placed_other p q (Rests r) f a = tt

    placed_by : (b : Bool) (p q x : ℕ) (s : Doing) → (x ≡ 2 → ⊥) → (b ≡ true → p ≡ x) → Placed p s → Placed (cond b q p) s
    placed_by true p q x s f a h = placed_other p q s (λ e. f (sym (a refl) ∙ e)) h
    placed_by false p q x s f a h = h

    placed_started : (t p : ℕ) (s : Doing) → Placed p s → Placed p (started_to columns t s)
    placed_started t p Shut a = tt
    placed_started t p (ToStart k u) a = a
    placed_started t p (Runs k u) a = a
    placed_started t p (Rests r) a = tt

    placed_stopped : (p : ℕ) (s : Doing) → Placed p s → Placed p (stopped_to s)
    placed_stopped p Shut a = tt
    placed_stopped p (ToStart k u) a = a
    placed_stopped p (Runs k u) a = tt
    placed_stopped p (Rests r) a = tt

    placed_opened : (t p : ℕ) (l r : Option ℕ) → Placed (cond (is_task n r) 2 p) (opened_to columns t l r)
    placed_opened t p l None = tt
    placed_opened t p l (Some k) = λ e. rw e refl

    record Meets (now : ℕ) (s : Doing) (l : Option ℕ) (v : View) (e : Event) (after : List Event) : Type 0 where
      works : Working columns now s l (e ∷ after)
      turns : Turning n v (e ∷ after)
      placed : Placed v.place s

    meets : (before : List Event) (e : Event) (after : List Event) (now : ℕ) (s : Doing) (l : Option ℕ) (v : View) → Working columns now s l (before ++ (e ∷ after))
        → Turning n v (before ++ (e ∷ after)) → Placed v.place s → (now' : ℕ) × (s' : Doing) × (l' : Option ℕ) × (v' : View) × Meets now' s' l' v' e after
    unfolding Working Turning
    meets [] e after now s l v h k a = (now, s, l, v, record { works = h; turns = k; placed = a })
    meets (Comes t ∷ es) e after now s l v h k a = meets es e after t s l (view_by n v (Comes t)) h.1 k.1 a
    meets (Starts j t ∷ es) e after now s l v h k a = meets es e after now (started_to columns t s) l v h.1 k.1 (placed_started t v.place s a)
    meets (Stops j t ∷ es) e after now s l v h k a = meets es e after now (stopped_to s) l v h.1 k.1 (placed_stopped v.place s a)
    meets (Finishes j ∷ es) e after now s l v h k a = meets es e after now s (Some j) v h k.1 a
    meets (GivesWay j ∷ es) e after now s l v h k a = meets es e after now s None v h k.1 a
    meets (Completes j t ∷ es) e after now s l v h k a =
        meets es e after now s l (view_by n v (Completes j t)) h k.1 (placed_by (eqb n j) v.place 0 3 s (λ e. omega arith) k.0.1 a)
    meets (Defers j t ∷ es) e after now s l v h k a = meets es e after now s l (view_by n v (Defers j t)) h k.1 a
    meets (Ends t ∷ es) e after now s l v h k a = meets es e after now Shut l v h.1 k.1 tt
    meets (Takes j t m ∷ es) e after now s l v h k a =
        meets es e after now s l (view_by n v (Takes j t m)) h k.1 (placed_by (eqb n j) v.place 1 0 s (λ e. omega arith) k.0.1 a)
    meets (Begins t r q ∷ es) e after now s l v h k a =
        meets es e after now (opened_to columns t l r) None (view_by n v (Begins t r q)) h.1 k.1 (placed_opened t (cond (is_task n q) 3 v.place) l r)

    none_own : (s : Doing) (p : ℕ) → p ≡ 0 → Placed p s → NotOwn s
    none_own Shut p e a = tt
    none_own (ToStart k u) p e a = by-test (eqb n k) (λ x. absurd (let z : p ≡ 2 = a x in omega arith)) (λ x. x)
    none_own (Runs k u) p e a = by-test (eqb n k) (λ x. absurd (let z : p ≡ 2 = a x in omega arith)) (λ x. x)
    none_own (Rests r) p e a = tt

    smallest : (at : Situation) (after : List Event) (now : ℕ) (s : Doing) (l : Option ℕ) → NotOwn s → Working columns now s l after → SmallestReading pr n at after
    smallest at after now s l o h = record {
      with_first = first_counted (waited n at (intervals after));
      by_starts = λ x. omega (arith, fewer at, (counted after now s l o h (executed at x)).0);
      by_stops = λ x. omega (arith, fewer at, (counted after now s l o h (executed at x)).1);
    }
      where
        executed : (at : Situation) → length (waited n at (intervals after)) < length (met n at (intervals after)) → length (until n (intervals after)) < length (upto n (intervals after))
        executed NoneOpen x = x
        executed (Open r) x = le_of_suc-le-suc x

        fewer : (at : Situation) → overtaking pr n at (intervals after) ≤ not_lower_in pr n (until n (intervals after))
        fewer NoneOpen = first_counted (until n (intervals after))
        fewer (Open r) = omega arith

    pub smallest_in : (h before after : List Event) (t : ℕ) (m : Bool) → Working columns 0 Shut None h → Turning n nothing h → h ≡ before ++ (Takes n t m ∷ after)
        → SmallestReading pr n (situation NoneOpen before) after
    unfolding Working Turning
    smallest_in h before after t m w k x =
        let y : (now : ℕ) × (s : Doing) × (l : Option ℕ) × (v : View) × Meets now s l v (Takes n t m) after =
        meets before (Takes n t m) after 0 Shut None nothing (subst (Working columns 0 Shut None) x w) (subst (Turning n nothing) x k) tt in
        smallest (situation NoneOpen before) after y.0 y.1 y.2 (none_own y.1 y.3.place (y.4.turns.0.1 (same_task n)) y.4.placed) y.4.works

-- ---- the figure of a table that opening serves

greatest_least : (k tasks : ℕ) (has : ℕ → ℕ) (x : ℕ) → ((n : ℕ) → member n tasks ≡ true → has n ≤ x) → greatest k tasks has ≤ x
unfolding greatest
greatest_least zero tasks has x f = omega arith
greatest_least (suc k) tasks has x f = go (member k tasks) (f k) (greatest_least k tasks has x f)
  where
    go : (b : Bool) → (b ≡ true → has k ≤ x) → greatest k tasks has ≤ x → max (greatest k tasks has) (cond b (has k) 0) ≤ x
    go true g l = omega (arith, g refl)
    go false g l = omega arith

module _ (table : Table) (marks : ℕ) (fair : Fair table marks) where
  short_interval : longest_interval table.present table.columns ≤ 2000000
  unfolding longest_interval
  short_interval =
      omega (
        arith,
        greatest_least 32 table.present (λ n. copyin_length table.columns n) 1000000 (λ n m. (fair.copyins n m).1),
        greatest_least 32 table.present (λ n. copyout_length table.columns n) 1000000 (λ n m. (fair.copyouts n m).1),
        greatest_least 32 table.present (λ n. copyin_length table.columns n + execution_length table.columns n) 2000000
            (λ n m. omega (arith, (fair.copyins n m).1, (fair.executions n m).1)),
      )

  most_intervals : (marked : Bool) (h : ℕ) → h < 2 ^ 32 → intervals_by marked h ≤ 4294967298
  most_intervals true h l = omega arith
  most_intervals false h l = omega arith

  pub plain_figure : PlainFigure table
  plain_figure = record { short = short_interval; exact = exact }
    where
      exact : (n h : ℕ) (marked : Bool) → member n table.present ≡ true → h < 2 ^ 32 → completes_after table.present table.columns n marked h
          ≡ intervals_by marked h * longest_interval table.present table.columns + copyout_length table.columns n
      exact n h marked m l =
          let x : intervals_by marked h * longest_interval table.present table.columns ≤ 4294967298 * 2000000 = mul-le-mul (most_intervals marked h l) short_interval in
          omega (arith, (fair.copyouts n m).1)

-- ---- the claim of each history

-- so many intervals of at most M
times : (M U t c x k : ℕ) → x ≤ k → c ≤ t + x * M + U → c ≤ t + k * M + U
times M U t c x k l h = omega (arith, mul-le-mul_right M l)

module _ (table : Table) (h : List Event) where
  abbrev M : ℕ
  M = longest_interval table.present table.columns

  pub figure : Kept table.priority NoneOpen h → Leaving table.columns 0 Free h → Working table.columns 0 Shut None h
      → ((n : ℕ) → n < 32 → Turning n nothing h) → ((n : ℕ) → n < 32 → Lasting M n 0 None false h)
      → ((before after : List Event) (n t : ℕ) (m : Bool) → h ≡ before ++ (Takes n t m ∷ after) → n < 32) → Figure table h
  figure kept leaving working turning lasting small = record {
    each_job = λ before after n t m e. planned before after n t m e;
    each_reading = λ before after n t m e. smallest_in table.priority n table.columns h before after t m working (turning n (small before after n t m e)) e;
    marked_second_on = λ before after n t e.
        second_on table.priority n true (situation NoneOpen before) (intervals after) (released_in table.priority h before after n t true kept e).0 refl;
    each_end = λ before after b e x y. ended_in_time M 0 h (lasting 0 (omega arith)) before after b e x y;
    each_instant = λ before after b t r x o y. open_in_time M 0 h (lasting 0 (omega arith)) before after b t r x o y;
  }
    where
      planned : (before after : List Event) (n t : ℕ) (m : Bool) → h ≡ before ++ (Takes n t m ∷ after) → let at : Situation = situation NoneOpen before in
          Planned M (copyout_length table.columns n) n t m (met n at (intervals after)) (overtaking table.priority n at (intervals after)) after
      planned before after n t m e =
          let at : Situation = situation NoneOpen before in
          let pr : List ℕ = table.priority in
          let rs : List (Option ℕ) = intervals after in
          let w : Waits pr n m at rs = (released_in pr h before after n t m kept e).0 in
          let U : ℕ = copyout_length table.columns n in
          let x : ℕ = overtaking pr n at rs in
          let by : (c : ℕ) → completion n after ≡ Some c → c ≤ t + length (met n at rs) * M + U =
          completes_in M n h (lasting n (small before after n t m e)) before after table.columns (turning n (small before after n t m e)) leaving t m e in
          record {
            intervals_at_most = most pr n m at rs w;
            marked_at_most = marked_most pr n m at rs w;
            completes_within = by;
            completes_by = λ c y. times M U t c (length (met n at rs)) (x + 3) (most pr n m at rs w) (by c y);
            marked_completes_by = λ z c y. times M U t c (length (met n at rs)) (x + 2) (marked_most pr n m at rs w z) (by c y);
          }
