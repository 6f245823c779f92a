-- The releases that wait, by the history: one waits from its event until the next taking of its task, and the state's set says the same; none begins
-- to wait while one of its task waits.
use Rattle.std.proofs.Common.{◌≡◌, ◌&&◌, ◌||◌, ◌∷◌, ◌++◌, ◌≤◌, ◌<◌}
use Rattle.guarantees.specs.Types.{refl, sym, ap, ◌∙◌, subst, Bool, true, false, cond, true≢false, false≢true, List, [], append_assoc, ℕ, zero, suc, Option, State, Call, None}
use native.Mathlib.Omega.{arith}
use native.Mathlib.Nat.{not-suc-le-zero}
use borrow.Author.Tests.{eqb-true, eqb-false, ne_eqb}
use lib.Dec.{eqb}
use Rattle.sets.specs.Sets.{member}
use Rattle.sets.proofs.Laws.{by-test, none, same_task}
use Rattle.rules.specs.Instant.{taken, deferred, at_b, at_e, at_f, at_g, taken_at, deferred_at}
use Rattle.guarantees.specs.History.{Event, Comes, Starts, Stops, Finishes, Completes, Ends, Takes, Defers, GivesWay, Begins, happens, history, after_calls, take_events, defer_events, giving_events_in, end_events, begin_events, start_events}
use Rattle.guarantees.specs.Queries.{details, is_task, takes, defers, after, first, taking}
use Rattle.guarantees.proofs.Walk.{walk, walk_to}
use Rattle.guarantees.proofs.Events.{by_front, by_takes, by_defers, by_gives, by_ends, by_begins, by_starts, front_of, tail_of, happens_parts, tail_parts}
use Rattle.guarantees.proofs.Releases.{is_taken, is_deferred, is_waiting, taken_member, deferred_member, waits_member, waits_after, passed, waits_g}
use Rattle.guarantees.proofs.Frames.{waiting_b}

-- ---- the events of the tasks of a set, one for each: of these only task n's changes what is kept of task n

module _ (n s : ℕ) (make : ℕ → Event) (events : ℕ → List Event) (at_first : events 0 ≡ [])
    (one_more : (k : ℕ) → events (suc k) ≡ events k ++ cond (member k s) (make k ∷ []) [])
    {S : Type 0} (P : S → List Event → Type 0) (other : (x : S) (k : ℕ) → eqb n k ≡ false → (es : List Event) → P x es → P x (make k ∷ es)) where
  one_other : (x : S) (k : ℕ) (b : Bool) (es : List Event) → eqb n k ≡ false → P x es → P x (cond b (make k ∷ []) [] ++ es)
  one_other x k true es e h = other x k e es h
  one_other x k false es e h = h

  others : (k : ℕ) → k ≤ n → (x : S) (es : List Event) → P x es → P x (events k ++ es)
  others zero l x es h = rw at_first h
  others (suc k) l x es h =
      rw (one_more k, append_assoc (events k) (cond (member k s) (make k ∷ []) []) es)
      (others k (omega arith) x (cond (member k s) (make k ∷ []) [] ++ es) (one_other x k (member k s) es (ne_eqb n k (omega arith)) h))

  one_this : (x y : S) (b : Bool) (es : List Event) → (b ≡ true → P y es → P x (make n ∷ es)) → P (cond b y x) es → P x (cond b (make n ∷ []) [] ++ es)
  one_this x y true es f h = f refl h
  one_this x y false es f h = h

  pub at_task : (x y : S) → (member n s ≡ true → (es : List Event) → P y es → P x (make n ∷ es)) → (k : ℕ) → n < k
      → (es : List Event) → P (cond (member n s) y x) es → P x (events k ++ es)
  at_task x y f zero l es h = absurd (not-suc-le-zero l)
  at_task x y f (suc k) l es h =
      rw (one_more k, append_assoc (events k) (cond (member k s) (make k ∷ []) []) es)
      (by-test (eqb n k)
      (λ e. others k (omega (arith, eqb-true n k e)) x (cond (member k s) (make k ∷ []) [] ++ es)
      (subst (λ (j : ℕ). P x (cond (member j s) (make j ∷ []) [] ++ es)) (eqb-true n k e) (one_this x y (member n s) es (λ m. f m es) h)))
      (λ e. at_task x y f k (omega (arith, eqb-false n k e)) (cond (member k s) (make k ∷ []) [] ++ es) (one_other (cond (member n s) y x) k (member k s) es e h)))

-- what each event behind the releases keeps
pub by_rest : (P : List Event → Type 0) → ((n : ℕ) (es : List Event) → P es → P (GivesWay n ∷ es)) → ((t : ℕ) (es : List Event) → P es → P (Ends t ∷ es))
    → ((t : ℕ) (r l : Option ℕ) (es : List Event) → P es → P (Begins t r l ∷ es)) → ((n t : ℕ) (es : List Event) → P es → P (Starts n t ∷ es))
    → (d : State) (t set : ℕ) (es : List Event) → P es
    → P (giving_events_in (at_b d t).state.phase (at_e d t set).phase
    ++ (end_events t (at_e d t set).phase (at_f d t set).state.phase
    ++ (begin_events t (at_f d t set).state.phase (at_g d t set).phase
    ++ (start_events t (at_f d t set).state.phase (at_g d t set).phase ++ es))))
by_rest P w x y z d t set es h =
    let begun : List Event = begin_events t (at_f d t set).state.phase (at_g d t set).phase in
    let started : List Event = start_events t (at_f d t set).state.phase (at_g d t set).phase in
    let closed : List Event = end_events t (at_e d t set).phase (at_f d t set).state.phase in
    by_gives P w (at_b d t).state.phase (at_e d t set).phase (closed ++ (begun ++ (started ++ es)))
    (by_ends P t (x t) (at_e d t set).phase (at_f d t set).state.phase (begun ++ (started ++ es))
    (by_begins P t (y t) (at_f d t set).state.phase (at_g d t set).phase (started ++ es)
    (by_starts P t (λ n. z n t) (at_f d t set).state.phase (at_g d t set).phase es h)))

-- ---- the tasks whose releases are taken or wait are below 32

unfoldable Small : List Event → Type 0
Small [] = Unit {0}
Small (e ∷ es) = ((n : ℕ) → ((takes e || defers e) && is_task n (details e).task) ≡ true → n < 32) × Small es

small_other : (e : Event) → (takes e || defers e) ≡ false → (es : List Event) → Small es → Small (e ∷ es)
unfolding Small
small_other e x es h = (λ n y. absurd (false≢true (sym (ap (λ (b : Bool). b && is_task n (details e).task) x) ∙ y)), h)

small_at : (before : List Event) (e : Event) (after : List Event) → Small (before ++ (e ∷ after)) → (n : ℕ) → ((takes e || defers e) && is_task n (details e).task) ≡ true → n < 32
unfolding Small
small_at [] e after h = h.0
small_at (x ∷ before) e after h = small_at before e after h.1

instant_small : (d : State) (t set : ℕ) (es : List Event) → Small es → Small (happens d t set ++ es)
unfolding Small
instant_small d t set es h =
    rw (happens_parts d t set es)
    (by_front Small (λ u. small_other (Comes u) refl) (λ k u. small_other (Starts k u) refl) (λ k u. small_other (Stops k u) refl) (λ k. small_other (Finishes k) refl)
    (λ k u. small_other (Completes k u) refl) (λ u. small_other (Ends u) refl) d t (take_events 32 (taken_at d t set) d.marked t ++ (tail_of d t set ++ es))
    (by_takes Small 32 (taken_at d t set) d.marked t (λ k l m es x. (λ n e. omega (arith, eqb-true n k e), x)) (tail_of d t set ++ es)
    (rw (tail_parts d t set es)
    (by_defers Small 32 (deferred_at d t set) t (λ k l m es x. (λ n e. omega (arith, eqb-true n k e), x)) _
    (by_rest Small (λ k. small_other (GivesWay k) refl) (λ u. small_other (Ends u) refl) (λ u r l. small_other (Begins u r l) refl) (λ k u. small_other (Starts k u) refl) d t set es h)))))

small : (d : State) (cs : List Call) → Small (history d cs)
small d cs = walk (λ d h. Small h) (λ d. unfold Small in tt) (λ d t set cs e. instant_small d t set (history (at_g d t set) cs)) (λ d m e h k. k) cs d

pub taken_small : (d : State) (cs : List Call) (before after : List Event) (n t : ℕ) (m : Bool) → history d cs ≡ before ++ (Takes n t m ∷ after) → n < 32
taken_small d cs before after n t m e = small_at before (Takes n t m) after (subst Small e (small d cs)) n (same_task n)

pub deferred_small : (d : State) (cs : List Call) (before after : List Event) (n t : ℕ) → history d cs ≡ before ++ (Defers n t ∷ after) → n < 32
deferred_small d cs before after n t e = small_at before (Defers n t) after (subst Small e (small d cs)) n (same_task n)

-- ---- what waits, by the history

module _ (n : ℕ) where
  abbrev pub takes_it : Event → Bool
  takes_it e = takes e && is_task n (details e).task

  abbrev pub defers_it : Event → Bool
  defers_it e = defers e && is_task n (details e).task

  -- whether a release of task n waits
  abbrev pub waits_by : Bool → Event → Bool
  waits_by b e = cond (defers_it e) true (cond (takes_it e) false b)

  abbrev pub waits_in : Bool → List Event → Bool
  waits_in = after waits_by

  -- from whether one waits to whether one does at the end, along events by which none begins to wait while one waits
  unfoldable pub Alone : Bool → Bool → List Event → Type 0
  Alone last b [] = b ≡ last
  Alone last b (e ∷ es) = (defers_it e ≡ true → b ≡ false) × Alone last (waits_by b e) es

  -- at the end
  pub alone_end : (es : List Event) (last b : Bool) → Alone last b es → waits_in b es ≡ last
  unfolding Alone after
  alone_end [] last b h = h
  alone_end (e ∷ es) last b h = alone_end es last (waits_by b e) h.1

  -- at some event
  alone_at : (before : List Event) (e : Event) (es : List Event) (last b : Bool) → Alone last b (before ++ (e ∷ es)) → Alone last (waits_in b before) (e ∷ es)
  unfolding Alone after
  alone_at [] e es last b h = h
  alone_at (x ∷ before) e es last b h = alone_at before e es last (waits_by b x) h.1

  -- a release that waits and at the end does not was taken, as the next of its task
  record NextTaken (es : List Event) : Type 0 where
    between : List Event
    later : List Event
    tick : ℕ
    marked : Bool
    is : es ≡ between ++ (Takes n tick marked ∷ later)
    next : taking n between ≡ None

  not_yet : (e : Event) (es : List Event) → takes_it e ≡ false → NextTaken es → NextTaken (e ∷ es)
  unfolding first
  not_yet e es x h = record {
    between = e ∷ h.between;
    later = h.later;
    tick = h.tick;
    marked = h.marked;
    is = ap (λ (l : List Event). e ∷ l) h.is;
    next = rw x h.next;
  }

  now : (k t : ℕ) (m : Bool) (es : List Event) → eqb n k ≡ true → NextTaken (Takes k t m ∷ es)
  unfolding first
  now k t m es e =
      record { between = []; later = es; tick = t; marked = m; is = ap (λ (j : ℕ). Takes j t m ∷ es) (sym (eqb-true n k e)); next = refl }

  next_taken : (es : List Event) → Alone false true es → NextTaken es
  unfolding Alone
  next_taken [] h = absurd (true≢false h)
  next_taken (Comes t ∷ es) h = not_yet (Comes t) es refl (next_taken es h.1)
  next_taken (Starts k t ∷ es) h = not_yet (Starts k t) es refl (next_taken es h.1)
  next_taken (Stops k t ∷ es) h = not_yet (Stops k t) es refl (next_taken es h.1)
  next_taken (Finishes k ∷ es) h = not_yet (Finishes k) es refl (next_taken es h.1)
  next_taken (Completes k t ∷ es) h = not_yet (Completes k t) es refl (next_taken es h.1)
  next_taken (Ends t ∷ es) h = not_yet (Ends t) es refl (next_taken es h.1)
  next_taken (Takes k t m ∷ es) h =
      by-test (eqb n k) (λ e. now k t m es e) (λ e. not_yet (Takes k t m) es e (next_taken es (subst (λ (b : Bool). Alone false (cond b false true) es) e h.1)))
  next_taken (Defers k t ∷ es) h =
      by-test (eqb n k) (λ e. absurd (true≢false (h.0 e))) (λ e. not_yet (Defers k t) es refl (next_taken es (subst (λ (b : Bool). Alone false (cond b true true) es) e h.1)))
  next_taken (GivesWay k ∷ es) h = not_yet (GivesWay k) es refl (next_taken es h.1)
  next_taken (Begins t r l ∷ es) h = not_yet (Begins t r l) es refl (next_taken es h.1)

  -- ---- the events of an instant

  module _ (last : Bool) where
    -- an event that takes no release of task n and sets none of it waiting
    quiet : (b : Bool) (e : Event) → defers_it e ≡ false → waits_by b e ≡ b → (es : List Event) → Alone last b es → Alone last b (e ∷ es)
    unfolding Alone
    quiet b e x y es h = (λ z. absurd (true≢false (sym z ∙ x)), rw y h)

    front_alone : (d : State) (t : ℕ) (b : Bool) (es : List Event) → Alone last b es → Alone last b (front_of d t ++ es)
    front_alone d t b es h =
        by_front (Alone last b) (λ u. quiet b (Comes u) refl refl) (λ k u. quiet b (Starts k u) refl refl) (λ k u. quiet b (Stops k u) refl refl)
        (λ k. quiet b (Finishes k) refl refl) (λ k u. quiet b (Completes k u) refl refl) (λ u. quiet b (Ends u) refl refl) d t es h

    takes_alone : n < 32 → (taken marked t : ℕ) (b : Bool) (es : List Event) → Alone last (cond (member n taken) false b) es → Alone last b (take_events 32 taken marked t ++ es)
    unfolding take_events Alone
    takes_alone l taken marked t b es h =
        at_task n taken (λ k. Takes k t (member k marked)) (λ k. take_events k taken marked t) refl (λ k. refl) (Alone last)
        (λ x k e. quiet x (Takes k t (member k marked)) refl (rw e)) b false
        (λ m es z. (λ y. absurd (false≢true y), rw (same_task n) z)) 32 l es h

    defers_alone : n < 32 → (deferred t : ℕ) (b : Bool) (es : List Event) → (member n deferred ≡ true → b ≡ false)
        → Alone last (cond (member n deferred) true b) es → Alone last b (defer_events 32 deferred t ++ es)
    unfolding defer_events Alone
    defers_alone l deferred t b es f h =
        at_task n deferred (λ k. Defers k t) (λ k. defer_events k deferred t) refl (λ k. refl) (Alone last)
        (λ x k e. quiet x (Defers k t) e (rw e)) b true
        (λ m es z. (λ y. f m, rw (same_task n) z)) 32 l es h

    rest_alone : (d : State) (t set : ℕ) (b : Bool) (es : List Event) → n < 32 → (member n (deferred_at d t set) ≡ true → b ≡ false)
        → Alone last (cond (member n (deferred_at d t set)) true b) es → Alone last b (tail_of d t set ++ es)
    rest_alone d t set b es l f h =
        let c : Bool = cond (member n (deferred_at d t set)) true b in
        rw (tail_parts d t set es)
        (defers_alone l (deferred_at d t set) t b _ f
        (by_rest (Alone last c) (λ k. quiet c (GivesWay k) refl refl) (λ u. quiet c (Ends u) refl refl) (λ u r q. quiet c (Begins u r q) refl refl) (λ k u. quiet c (Starts k u) refl refl) d t set es h))

-- ---- what waits, by the state

-- at step c, with what waits before it
module _ (d : State) (set n : ℕ) (small : n < 32) where
  -- behind those that are taken none of task n waits, where one is to wait from now on
  pub free : member n (deferred d set) ≡ true → cond (member n (taken d set)) false (member n d.waiting.tasks) ≡ false
  free =
      rw (taken_member d set n small, deferred_member d set n small)
      (go (member n d.jobs.pending) (member n d.waiting.tasks) (member n set))
    where
      go : (p w s : Bool) → is_deferred p w s ≡ true → cond (is_taken p w s) false w ≡ false
      go true true true e = sym e
      go true true false e = sym e
      go true false s e = refl
      go false true s e = refl
      go false false true e = refl
      go false false false e = refl

  -- what is taken waits no more, and what waits from now on does
  pub moves : cond (member n (deferred d set)) true (cond (member n (taken d set)) false (member n d.waiting.tasks)) ≡ member n (waits_after d set)
  moves =
      rw (waits_member d set n small, taken_member d set n small, deferred_member d set n small)
      (go (member n d.jobs.pending) (member n d.waiting.tasks) (member n set))
    where
      go : (p w s : Bool) → cond (is_deferred p w s) true (cond (is_taken p w s) false w) ≡ is_waiting p w s
      go true true true = refl
      go true true false = refl
      go true false true = refl
      go true false false = refl
      go false true true = refl
      go false true false = refl
      go false false true = refl
      go false false false = refl

instant_alone : (n : ℕ) → n < 32 → (d : State) (t set : ℕ) (last : Bool) (es : List Event) → Alone n last (member n (at_g d t set).waiting.tasks) es
    → Alone n last (member n d.waiting.tasks) (happens d t set ++ es)
unfolding taken_at deferred_at
instant_alone n small d t set last es h =
    let b : State = (at_b d t).state in
    let w : Bool = member n b.waiting.tasks in
    subst (λ x. Alone n last (member n x.tasks) (happens d t set ++ es)) (waiting_b d t)
    (rw (happens_parts d t set es)
    (front_alone n last d t w (take_events 32 (taken_at d t set) d.marked t ++ (tail_of d t set ++ es))
    (takes_alone n last small (taken_at d t set) d.marked t w (tail_of d t set ++ es)
    (rest_alone n last d t set (cond (member n (taken b (passed d t set))) false w) es small (free b (passed d t set) n small)
    (subst (λ (x : Bool). Alone n last x es) (ap (member n) (waits_g d t set) ∙ sym (moves b (passed d t set) n small)) h)))))

-- along the calls, from any state
pub alone : (n : ℕ) → n < 32 → (d : State) (cs : List Call) → Alone n (member n (after_calls d cs).waiting.tasks) (member n d.waiting.tasks) (history d cs)
alone n small d cs =
    walk_to (λ d h g. Alone n (member n g.waiting.tasks) (member n d.waiting.tasks) h)
    (λ d. unfold Alone in refl)
    (λ d t set cs e k. instant_alone n small d t set (member n (after_calls (at_g d t set) cs).waiting.tasks) (history (at_g d t set) cs) k)
    (λ d m e h g k. k)
    cs d

-- a release that is set waiting, where nothing waits after the calls, is taken later
pub taken_later : (d : State) (calls : List Call) → (after_calls d calls).waiting.tasks ≡ 0 → (before after : List Event) (n t : ℕ) → n < 32
    → history d calls ≡ before ++ (Defers n t ∷ after)
    → (between later : List Event) × (tick : ℕ) × (marked : Bool) × (after ≡ between ++ (Takes n tick marked ∷ later)) × (taking n between ≡ None)
unfolding Alone
taken_later d calls z before after n t small e =
    let last : Bool = member n (after_calls d calls).waiting.tasks in
    let b : Bool = member n d.waiting.tasks in
    let x : Alone n last (waits_in n b before) (Defers n t ∷ after) = alone_at n before (Defers n t) after last b (subst (Alone n last b) e (alone n small d calls)) in
    let y : Alone n last true after = subst (λ (c : Bool). Alone n last (cond c true (waits_in n b before)) after) (same_task n) x.1 in
    let h : NextTaken n after = next_taken n after (subst (λ (c : Bool). Alone n c true after) (ap (member n) z ∙ none n) y) in
    (h.between, h.later, h.tick, h.marked, h.is, h.next)
