-- What becomes of releases at step c, by the tasks with a pending job (p), those with a waiting release (w) and those of the set that is handed in
-- (s): which are taken, wait from now on or are skipped, and which wait after it. Each of these sets is said member by member, in the two cases of p;
-- what the proofs use of them follows by cases. At an instant the set is what passes the spacings (8/13): the rest of what was handed in came too soon.
use Rattle.std.proofs.Common.{◌≡◌, ◌&&◌, ◌||◌, ◌⊎◌, ◌+◌, ◌<◌}
use Rattle.guarantees.specs.Types.{refl, sym, ap, ◌∙◌, Bool, true, false, cond, not, false≢true, inl, inr, ⊎_elim, ℕ, zero, suc, WaitingReleases, State}
use native.Mathlib.Omega.{arith}
use Rattle.sets.specs.Sets.{member, union, intersection, difference, bit, count, size}
use Rattle.sets.proofs.Laws.{united, intersection_member, intersection_left, difference_member, difference_left, difference_right, collected, member_task, union_small, difference_small, count_none, count_sum, size_union_apart}
use Rattle.table.specs.Table.{spacing}
use Rattle.rules.specs.Instant.{previous_release, comes_sooner, too_soon, passing, resumed, found_pending, found_waiting, taken, deferred, skipped, step_c, at_b, at_g, taken_at, deferred_at, skipped_at}
use Rattle.guarantees.proofs.Steps.{Sub}
use Rattle.guarantees.proofs.Frames.{waiting_b, waiting_g, pending_g}

-- the tasks with a waiting release after step c, where this set is handed in
abbrev pub waits_after : State → ℕ → ℕ
waits_after d set = union (difference d.waiting.tasks (taken d set)) (deferred d set)

-- ---- member by member, as Boolean formulas

abbrev pub is_taken : Bool → Bool → Bool → Bool
is_taken p w s = cond p false (w || s)

abbrev pub is_deferred : Bool → Bool → Bool → Bool
is_deferred p w s = cond p (s && not w) (s && w)

abbrev pub is_skipped : Bool → Bool → Bool → Bool
is_skipped p w s = cond p (s && w) false

-- waits after step c
abbrev pub is_waiting : Bool → Bool → Bool → Bool
is_waiting p w s = cond p (w || s) (w && s)

taken_formula : (p w s : Bool) → ((w && not p) || (s && not (p || (w && not p)))) ≡ is_taken p w s
taken_formula true true true = refl
taken_formula true true false = refl
taken_formula true false true = refl
taken_formula true false false = refl
taken_formula false true s = refl
taken_formula false false true = refl
taken_formula false false false = refl

deferred_formula : (p w s : Bool) → ((s && (p || (w && not p))) && not (w && not (w && not p))) ≡ is_deferred p w s
deferred_formula true true true = refl
deferred_formula true true false = refl
deferred_formula true false true = refl
deferred_formula true false false = refl
deferred_formula false true true = refl
deferred_formula false true false = refl
deferred_formula false false true = refl
deferred_formula false false false = refl

skipped_formula : (p w s : Bool) → (s && (w && not (w && not p))) ≡ is_skipped p w s
skipped_formula true true true = refl
skipped_formula true true false = refl
skipped_formula true false true = refl
skipped_formula true false false = refl
skipped_formula false true true = refl
skipped_formula false true false = refl
skipped_formula false false true = refl
skipped_formula false false false = refl

waiting_formula : (p w s : Bool) → ((w && not (is_taken p w s)) || is_deferred p w s) ≡ is_waiting p w s
waiting_formula true true s = refl
waiting_formula true false true = refl
waiting_formula true false false = refl
waiting_formula false true true = refl
waiting_formula false true false = refl
waiting_formula false false true = refl
waiting_formula false false false = refl

module _ (d : State) (set k : ℕ) (l : k < 32) where
  abbrev P : Bool
  P = member k d.jobs.pending

  abbrev W : Bool
  W = member k d.waiting.tasks

  abbrev S : Bool
  S = member k set

  resumed_member : member k (resumed d.jobs.pending d.waiting.tasks) ≡ (W && not P)
  resumed_member = difference_member d.waiting.tasks d.jobs.pending k l

  found_pending_member : member k (found_pending d.jobs.pending d.waiting.tasks) ≡ (P || (W && not P))
  found_pending_member = united d.jobs.pending (resumed d.jobs.pending d.waiting.tasks) k l ∙ ap (λ (x : Bool). P || x) resumed_member

  found_waiting_member : member k (found_waiting d.jobs.pending d.waiting.tasks) ≡ (W && not (W && not P))
  found_waiting_member = difference_member d.waiting.tasks (resumed d.jobs.pending d.waiting.tasks) k l ∙ ap (λ (x : Bool). W && not x) resumed_member

  -- taken: no job of the task is pending, and one waits or is handed in
  pub taken_member : member k (taken d set) ≡ is_taken P W S
  unfolding taken
  taken_member =
      united (resumed d.jobs.pending d.waiting.tasks) (difference set (found_pending d.jobs.pending d.waiting.tasks)) k l
      ∙ rw (resumed_member, difference_member set (found_pending d.jobs.pending d.waiting.tasks) k l, found_pending_member) (taken_formula P W S)

  -- waits from now on: handed in, behind a pending job where none waits, or behind a waiting one that is taken
  pub deferred_member : member k (deferred d set) ≡ is_deferred P W S
  unfolding deferred
  deferred_member =
      difference_member (intersection set (found_pending d.jobs.pending d.waiting.tasks)) (found_waiting d.jobs.pending d.waiting.tasks) k l
      ∙ rw (intersection_member set (found_pending d.jobs.pending d.waiting.tasks) k l, found_pending_member, found_waiting_member) (deferred_formula P W S)

  -- skipped: handed in while one waits behind a pending job
  pub skipped_member : member k (skipped d set) ≡ is_skipped P W S
  unfolding skipped
  skipped_member = intersection_member set (found_waiting d.jobs.pending d.waiting.tasks) k l ∙ rw found_waiting_member (skipped_formula P W S)

  -- waits after step c: with a pending job the one that waited or the one handed in, without one the one handed in behind the one that waited
  pub waits_member : member k (waits_after d set) ≡ is_waiting P W S
  waits_member =
      united (difference d.waiting.tasks (taken d set)) (deferred d set) k l
      ∙ rw (difference_member d.waiting.tasks (taken d set) k l, taken_member, deferred_member) (waiting_formula P W S)

-- ---- a member of one of these sets is a task

module _ (d : State) (set k : ℕ) where
  pub taken_task : member k (taken d set) ≡ true → k < 32
  unfolding taken
  taken_task h = member_task k (taken d set) (union_small (resumed d.jobs.pending d.waiting.tasks) (difference set (found_pending d.jobs.pending d.waiting.tasks))) h

  pub deferred_task : member k (deferred d set) ≡ true → k < 32
  unfolding deferred
  deferred_task h = member_task k (deferred d set) (difference_small (intersection set (found_pending d.jobs.pending d.waiting.tasks)) (found_waiting d.jobs.pending d.waiting.tasks)) h

  -- ---- what a member says

  -- a task whose release is taken has no pending job
  pub taken_not_pending : member k (taken d set) ≡ true → member k d.jobs.pending ≡ false
  taken_not_pending h = go (member k d.jobs.pending) (member k d.waiting.tasks) (member k set) (sym (taken_member d set k (taken_task h)) ∙ h)
    where
      go : (p w s : Bool) → is_taken p w s ≡ true → p ≡ false
      go true w s e = absurd (false≢true e)
      go false w s e = refl

  -- and it waited or is handed in: so that it is one of the table's
  pub taken_from : member k (taken d set) ≡ true → (member k d.waiting.tasks ≡ true) ⊎ (member k set ≡ true)
  taken_from h = go (member k d.jobs.pending) (member k d.waiting.tasks) (member k set) (sym (taken_member d set k (taken_task h)) ∙ h)
    where
      go : (p w s : Bool) → is_taken p w s ≡ true → (w ≡ true) ⊎ (s ≡ true)
      go true w s e = absurd (false≢true e)
      go false true s e = inl refl
      go false false s e = inr e

  -- one that waits from now on is handed in
  pub deferred_from : member k (deferred d set) ≡ true → member k set ≡ true
  deferred_from h = go (member k d.jobs.pending) (member k d.waiting.tasks) (member k set) (sym (deferred_member d set k (deferred_task h)) ∙ h)
    where
      go : (p w s : Bool) → is_deferred p w s ≡ true → s ≡ true
      go true w true e = refl
      go true w false e = e
      go false w true e = refl
      go false w false e = e

-- what waits after step c waits behind a job that is then pending: for any state before it
pub waits_behind : (d : State) (set : ℕ) → Sub (waits_after d set) (union d.jobs.pending (taken d set))
waits_behind d set k l h =
    united d.jobs.pending (taken d set) k l
    ∙ rw (taken_member d set k l)
    (go (member k d.jobs.pending) (member k d.waiting.tasks) (member k set) (sym (waits_member d set k l) ∙ h))
  where
    go : (p w s : Bool) → is_waiting p w s ≡ true → (p || is_taken p w s) ≡ true
    go true w s e = refl
    go false true s e = refl
    go false false s e = absurd (false≢true e)

-- ---- how many

-- the sum of two tests against that of three others
count_balance : (k : ℕ) (a b x y z : ℕ → Bool) → ((n : ℕ) → n < k → bit (a n) + bit (b n) ≡ bit (x n) + bit (y n) + bit (z n))
    → count k a + count k b ≡ count k x + count k y + count k z
unfolding count
count_balance zero a b x y z h = refl
count_balance (suc k) a b x y z h = omega (arith, count_balance k a b x y z (λ n l. h n (omega arith)), h k (omega arith))

bit_balance : (p w s : Bool) → bit w + bit s ≡ bit (is_taken p w s) + bit (is_waiting p w s) + bit (is_skipped p w s)
bit_balance true true true = refl
bit_balance true true false = refl
bit_balance true false true = refl
bit_balance true false false = refl
bit_balance false true true = refl
bit_balance false true false = refl
bit_balance false false true = refl
bit_balance false false false = refl

-- each release that waited or is handed in is taken, waits after step c or is skipped: for any state before it
pub balance : (d : State) (set : ℕ) → size d.waiting.tasks + size set ≡ size (taken d set) + size (waits_after d set) + size (skipped d set)
unfolding size
balance d set =
    count_balance 32 (λ k. member k d.waiting.tasks) (λ k. member k set) (λ k. member k (taken d set)) (λ k. member k (waits_after d set)) (λ k. member k (skipped d set))
    (λ k l. rw (taken_member d set k l, waits_member d set k l, skipped_member d set k l)
    (bit_balance (member k d.jobs.pending) (member k d.waiting.tasks) (member k set)))

-- ---- where none is handed in

-- none is skipped,
pub skipped_none : (d : State) (set : ℕ) → ((k : ℕ) → k < 32 → member k set ≡ false) → size (skipped d set) ≡ 0
unfolding size
skipped_none d set h =
    count_none 32 (λ k. member k (skipped d set))
    (λ k l. skipped_member d set k l ∙ rw (h k l) (go (member k d.jobs.pending)))
  where
    go : (p : Bool) → cond p false false ≡ false
    go true = refl
    go false = refl

-- and none is taken while all that wait do so behind a pending job
pub taken_none : (d : State) (set : ℕ) → ((k : ℕ) → k < 32 → member k set ≡ false) → Sub d.waiting.tasks d.jobs.pending
    → (k : ℕ) → k < 32 → member k (taken d set) ≡ false
taken_none d set h behind k l =
    taken_member d set k l ∙ rw (h k l) (go (member k d.jobs.pending) (member k d.waiting.tasks) (behind k l))
  where
    go : (p w : Bool) → (w ≡ true → p ≡ true) → is_taken p w false ≡ false
    go true w f = refl
    go false true f = absurd (false≢true (f refl))
    go false false f = refl

-- ---- what comes too soon, and what passes

-- a release of task k at t would come too soon
abbrev pub soon_at : State → ℕ → ℕ → Bool
soon_at d t k = member k d.table.spaced && comes_sooner t (spacing d.table.columns k) (previous_release d k)

-- a set without some of its members, as a formula
left_over : (s x : Bool) → (s && not (s && x)) ≡ (s && not x)
left_over true x = refl
left_over false x = refl

module _ (d : State) (t set k : ℕ) (l : k < 32) where
  pub too_soon_member : member k (too_soon d t set) ≡ (member k set && soon_at d t k)
  unfolding too_soon
  too_soon_member = collected (λ n. member n set && (member n d.table.spaced && comes_sooner t (spacing d.table.columns n) (previous_release d n))) k l

  pub passing_member : member k (passing d t set) ≡ (member k set && not (soon_at d t k))
  unfolding passing
  passing_member = difference_member set (too_soon d t set) k l ∙ rw too_soon_member (left_over (member k set) (soon_at d t k))

-- what passes was handed in
pub passing_from : (d : State) (t set k : ℕ) → member k (passing d t set) ≡ true → member k set ≡ true
unfolding passing
passing_from d t set k h = difference_left set (too_soon d t set) k h

pub passing_none : (d : State) (t set : ℕ) → ((k : ℕ) → k < 32 → member k set ≡ false) → (k : ℕ) → k < 32 → member k (passing d t set) ≡ false
passing_none d t set h k l = passing_member d t set k l ∙ rw (h k l)

-- each release that is handed in passes or comes too soon
passes_or_not : (d : State) (t set : ℕ) → size set ≡ size (passing d t set) + size (too_soon d t set)
unfolding size
passes_or_not d t set =
    count_sum 32 (λ k. member k set) (λ k. member k (passing d t set)) (λ k. member k (too_soon d t set))
    (λ k l. rw (passing_member d t set k l, too_soon_member d t set k l) (go (member k set) (soon_at d t k)))
  where
    go : (s x : Bool) → bit s ≡ bit (s && not x) + bit (s && x)
    go true true = refl
    go true false = refl
    go false x = refl

-- and what is skipped comes too soon, or passes and finds one waiting
skipped_apart : (d : State) (t set : ℕ) → size (union (too_soon d t set) (skipped d (passing d t set))) ≡ size (too_soon d t set) + size (skipped d (passing d t set))
unfolding skipped passing
skipped_apart d t set =
    size_union_apart (too_soon d t set) (skipped d (passing d t set))
    (λ k h. difference_right set (too_soon d t set) k (intersection_left (passing d t set) (found_waiting d.jobs.pending d.waiting.tasks) k h))

-- ---- at an instant, whose step c finds what its steps a and b leave

module _ (d : State) (t set : ℕ) where
  abbrev B : State
  B = (at_b d t).state

  -- what is handed in and passes
  abbrev pub passed : ℕ
  passed = passing (at_b d t).state t set

  pub passed_known : (present : ℕ) → Sub set present → Sub passed present
  passed_known present f k l h = f k l (passing_from B t set k h)

  -- what is taken waited, or is handed in
  pub taken_known : (present : ℕ) → Sub d.waiting.tasks present → Sub set present → Sub (taken_at d t set) present
  unfolding taken_at
  taken_known present w f k l h =
      ⊎_elim (λ x. w k l (ap (λ (y : WaitingReleases). member k y.tasks) (sym (waiting_b d t)) ∙ x)) (passed_known present f k l) (taken_from B passed k h)

  pub waits_g : (at_g d t set).waiting.tasks ≡ waits_after B passed
  unfolding step_c taken_at deferred_at
  waits_g = ap (λ (w : WaitingReleases). w.tasks) (waiting_g d t set)

  -- the tasks that had a release taken
  pub before_g : (at_g d t set).waiting.before ≡ union d.waiting.before (taken_at d t set)
  unfolding step_c
  before_g = ap (λ (w : WaitingReleases). w.before) (waiting_g d t set) ∙ ap (λ (w : WaitingReleases). union w.before (taken_at d t set)) (waiting_b d t)

  -- for any state before it, what waits after an instant does so behind a pending job
  pub behind_g : Sub (at_g d t set).waiting.tasks (at_g d t set).jobs.pending
  unfolding taken_at
  behind_g k l h =
      ap (member k) (pending_g d t set) ∙ waits_behind B passed k l (ap (member k) (sym waits_g) ∙ h)

  -- and each release is taken, waits or is skipped
  pub balance_g : size d.waiting.tasks + size set ≡ size (taken_at d t set) + size (at_g d t set).waiting.tasks + size (skipped_at d t set)
  unfolding taken_at skipped_at
  balance_g =
      omega (
        arith,
        ap (λ (w : WaitingReleases). size w.tasks) (waiting_b d t),
        balance B passed,
        ap size waits_g,
        passes_or_not B t set,
        skipped_apart B t set,
      )

  -- what is skipped came too soon, or passes and is behind a waiting one
  pub skipped_at_member : (k : ℕ) → k < 32 → member k (skipped_at d t set)
      ≡ ((member k set && soon_at B t k) || is_skipped (member k B.jobs.pending) (member k B.waiting.tasks) (member k passed))
  unfolding skipped_at
  skipped_at_member k l = united (too_soon B t set) (skipped B passed) k l ∙ rw (too_soon_member B t set k l, skipped_member B passed k l)

  -- where none is handed in none is skipped
  pub none_skipped_g : ((k : ℕ) → k < 32 → member k set ≡ false) → size (skipped_at d t set) ≡ 0
  unfolding skipped_at
  none_skipped_g h =
      omega (arith, skipped_apart B t set, skipped_none B passed (passing_none B t set h), none_soon)
    where
      none_soon : size (too_soon (at_b d t).state t set) ≡ 0
      none_soon = unfold size in count_none 32 (λ k. member k (too_soon (at_b d t).state t set)) (λ k l. too_soon_member (at_b d t).state t set k l ∙ rw (h k l))
