-- Walks along the calls: each call is an instant that is served, or leaves all but the marks as it is; and what holds through both holds
-- through a list of them. A new call that leaves table, clock, jobs, waiting releases and phase as they are needs a line in `each_call` alone.
use Rattle.std.proofs.Common.{◌≡◌, ◌⊎◌, ◌∷◌, ◌++◌}
use Rattle.guarantees.specs.Types.{refl, sym, ap, ◌∙◌, subst, append_assoc, Bool, true, false, cond, not, false≢true, inl, inr, ⊎_elim, List, [], ℕ, State, Call, Instant, Mark, Marks, Err, Occurred}
use borrow.Author.Tests.{eqb-true}
use lib.Dec.{eqb, ltb}
use Rattle.sets.specs.Sets.{member, union, intersection, difference, insert}
use Rattle.sets.proofs.Laws.{by-test, clash, none, insert_out}
use Rattle.rules.specs.Instant.{at_g, occurred}
use Rattle.rules.specs.Calls.{refusal, instant as instant_step, unknown, mark_refusal, marks_refusal, remarked, row, serves, after_call}
use Rattle.rules.proofs.DeskMarks.{remarked_member, known_all}
use Rattle.guarantees.proofs.Steps.{Sub}
use Rattle.guarantees.specs.History.{Event, happens, by_call, after_calls, history}
use Rattle.guarantees.specs.Entries.{answer_of, all_occurred}

-- ---- the state after a call, served or refused

module _ (d : State) (c : Call) where
  pub call_served : eqb ((row c).number d) 0 ≡ true → after_call d c ≡ (row c).leaves d
  unfolding after_call
  call_served e = rw (after_call, e)

  pub call_refused : eqb ((row c).number d) 0 ≡ false → after_call d c ≡ d
  unfolding after_call
  call_refused e = rw (after_call, e)

-- of an instant, and what it answers
module _ (d : State) (t set : ℕ) where
  pub served : eqb (refusal d t set) 0 ≡ true → after_call d (Instant t set) ≡ at_g d t set
  served = call_served d (Instant t set)

  pub refused : eqb (refusal d t set) 0 ≡ false → after_call d (Instant t set) ≡ d
  refused = call_refused d (Instant t set)

  pub refused_answer : eqb (refusal d t set) 0 ≡ false → (instant_step d t set).answer ≡ Err (refusal d t set)
  unfolding instant_step
  refused_answer e = rw (instant_step, e)

-- ---- every call is an instant that is served, or leaves all but the marks as it is

-- the state with other marks
abbrev pub with_marks : State → ℕ → State
with_marks d marks = record { table = d.table; marked = marks; clock = d.clock; half = d.half; jobs = d.jobs; waiting = d.waiting; phase = d.phase }

-- the marks are of tasks of the table, if those before were
abbrev pub MarksKnown : State → ℕ → Type 0
MarksKnown d marks = Sub d.marked d.table.present → Sub marks d.table.present

-- a call by which nothing occurs, and that leaves table, clock, jobs, waiting releases and phase as they are
pub record Quiet (d : State) (c : Call) : Type 0 where
  pub marks : ℕ
  pub known : MarksKnown d marks
  pub leaves : after_call d c ≡ with_marks d marks
  pub unserved : serves d c ≡ false

-- an instant that is served
pub record Serves (d : State) (c : Call) : Type 0 where
  pub time : ℕ
  pub set : ℕ
  pub is : c ≡ Instant time set
  pub no_row : eqb (refusal d time set) 0 ≡ true

-- a call that leaves the marks too
same : (d : State) (c : Call) → after_call d c ≡ d → serves d c ≡ false → Quiet d c
same d c e f = record { marks = d.marked; known = λ h. h; leaves = e; unserved = f }

-- a mark call that is served names tasks of the table
module _ (d : State) (n m : ℕ) where
  mark_known : eqb (mark_refusal d n m) 0 ≡ true → Sub (insert n 0) d.table.present
  unfolding mark_refusal
  mark_known h k l x =
      let e : eqb k n ≡ true = ⊎_elim (λ y. y) (λ y. clash (member k 0) y (none k)) (insert_out n 0 k x) in
      ap (λ (j : ℕ). member j d.table.present) (eqb-true k n e)
      ∙ go (member n d.table.present) (ltb 1 m) (member n (union d.jobs.pending d.waiting.tasks)) h
    where
      go : (a b c : Bool) → eqb (cond (not a) 16 (cond b 6 (cond c 17 0))) 0 ≡ true → a ≡ true
      go true b c h = refl
      go false b c h = absurd (false≢true h)

module _ (d : State) (set m : ℕ) where
  desk_known : eqb (marks_refusal d set m) 0 ≡ true → Sub set d.table.present
  unfolding marks_refusal unknown
  desk_known h k l x =
      known_all d set m (go (eqb (difference set d.table.present) 0) (ltb 1 m) (not (eqb (intersection set (union d.jobs.pending d.waiting.tasks)) 0)) h) k l x
    where
      go : (a b c : Bool) → eqb (cond (not a) 16 (cond b 6 (cond c 17 0))) 0 ≡ true → a ≡ true
      go true b c h = refl
      go false b c h = absurd (false≢true h)

  marks_known : Sub set d.table.present → MarksKnown d (remarked d.marked set m)
  marks_known e h k l x =
      by-test (member k set) (λ y. e k l y)
      (λ y. h k l (sym (ap (λ (b : Bool). cond b (eqb m 1) (member k d.marked)) y) ∙ sym (remarked_member k l d.marked set m) ∙ x))

-- and nothing occurs by it
quiet_marks : (d : State) (c : Call) (set m : ℕ) → serves d c ≡ false → (row c).leaves d ≡ with_marks d (remarked d.marked set m)
    → (eqb ((row c).number d) 0 ≡ true → Sub set d.table.present) → Quiet d c
quiet_marks d c set m u e s =
    by-test (eqb ((row c).number d) 0)
    (λ f. record { marks = remarked d.marked set m; known = marks_known d set m (s f); leaves = call_served d c f ∙ e; unserved = u })
    (λ f. same d c (call_refused d c f) u)

pub each_call : (d : State) (c : Call) → Serves d c ⊎ Quiet d c
each_call d (Instant t set) =
    by-test (eqb (refusal d t set) 0)
    (λ e. inl (record { time = t; set = set; is = refl; no_row = e }))
    (λ e. inr (same d (Instant t set) (refused d t set e) e))
each_call d (Mark n m) = inr (quiet_marks d (Mark n m) (insert n 0) m refl refl (mark_known d n m))
each_call d (Marks set m) = inr (quiet_marks d (Marks set m) set m refl refl (desk_known d set m))

-- ---- a property of a state, of what occurs by calls from it, and of the state that they leave

module _ (P : State → List Event → State → Type 0)
    (none : (d : State) → P d [] d)
    (more : (d : State) (t set : ℕ) (cs : List Call) → eqb (refusal d t set) 0 ≡ true → let g : State = at_g d t set in
    P g (history g cs) (after_calls g cs) → P d (happens d t set ++ history g cs) (after_calls g cs))
    (quiet : (d : State) (marks : ℕ) → MarksKnown d marks → (h : List Event) (g : State) → P (with_marks d marks) h g → P d h g) where
  at_served : (d : State) (t set : ℕ) (cs : List Call) → eqb (refusal d t set) 0 ≡ true → ((g : State) → P g (history g cs) (after_calls g cs))
      → let g : State = after_call d (Instant t set) in P d (by_call d (Instant t set) ++ history g cs) (after_calls g cs)
  unfolding by_call
  at_served d t set cs e k = rw (e, served d t set e) (more d t set cs e (k (at_g d t set)))

  at_quiet : (d : State) (c : Call) (cs : List Call) → Quiet d c → ((g : State) → P g (history g cs) (after_calls g cs))
      → let g : State = after_call d c in P d (by_call d c ++ history g cs) (after_calls g cs)
  unfolding by_call
  at_quiet d c cs q k =
      let g : State = with_marks d q.marks in
      rw (q.unserved, q.leaves) (quiet d q.marks q.known (history g cs) (after_calls g cs) (k g))

  pub walk_to : (cs : List Call) (d : State) → P d (history d cs) (after_calls d cs)
  unfolding history after_calls
  walk_to [] d = none d
  walk_to (c ∷ cs) d =
      ⊎_elim
      (λ s. subst (λ (c : Call). P d (by_call d c ++ history (after_call d c) cs) (after_calls (after_call d c) cs)) (sym s.is)
      (at_served d s.time s.set cs s.no_row (λ g. walk_to cs g)))
      (λ q. at_quiet d c cs q (λ g. walk_to cs g))
      (each_call d c)

-- the same where the state that they leave does not matter
module _ (P : State → List Event → Type 0)
    (none : (d : State) → P d [])
    (more : (d : State) (t set : ℕ) (cs : List Call) → eqb (refusal d t set) 0 ≡ true → let g : State = at_g d t set in
    P g (history g cs) → P d (happens d t set ++ history g cs))
    (quiet : (d : State) (marks : ℕ) → MarksKnown d marks → (h : List Event) → P (with_marks d marks) h → P d h) where
  pub walk : (cs : List Call) (d : State) → P d (history d cs)
  walk = walk_to (λ d h g. P d h) none more (λ d m e h g. quiet d m e h)

-- a property of the states that calls make
module _ (R : State → Type 0)
    (instant : (d : State) (t set : ℕ) → eqb (refusal d t set) 0 ≡ true → R d → R (at_g d t set))
    (quiet : (d : State) (marks : ℕ) → MarksKnown d marks → R d → R (with_marks d marks)) where
  pub after : (cs : List Call) (d : State) → R d → R (after_calls d cs)
  after = walk_to (λ d h g. R d → R g) (λ d h. h) (λ d t set cs e k h. k (instant d t set e h)) (λ d m e h g k x. k (quiet d m e x))

-- a property of a state, of what calls from it answer, and of what occurs by them
module _ (P : State → List Occurred → List Event → Type 0)
    (none : (d : State) → P d [] [])
    (more : (d : State) (t set : ℕ) (cs : List Call) → eqb (refusal d t set) 0 ≡ true → let g : State = at_g d t set in
    P g (all_occurred g cs) (history g cs) → P d (occurred d t set ∷ all_occurred g cs) (happens d t set ++ history g cs))
    (quiet : (d : State) (marks : ℕ) (os : List Occurred) (h : List Event) → P (with_marks d marks) os h → P d os h) where
  told_served : (d : State) (t set : ℕ) (cs : List Call) → eqb (refusal d t set) 0 ≡ true → ((g : State) → P g (all_occurred g cs) (history g cs))
      → let g : State = after_call d (Instant t set) in P d (answer_of d (Instant t set) ++ all_occurred g cs) (by_call d (Instant t set) ++ history g cs)
  unfolding by_call answer_of
  told_served d t set cs e k = rw (e, served d t set e) (more d t set cs e (k (at_g d t set)))

  told_quiet : (d : State) (c : Call) (cs : List Call) → Quiet d c → ((g : State) → P g (all_occurred g cs) (history g cs))
      → let g : State = after_call d c in P d (answer_of d c ++ all_occurred g cs) (by_call d c ++ history g cs)
  unfolding by_call answer_of
  told_quiet d c cs q k =
      let g : State = with_marks d q.marks in rw (q.unserved, q.leaves) (quiet d q.marks (all_occurred g cs) (history g cs) (k g))

  pub walk_told : (cs : List Call) (d : State) → P d (all_occurred d cs) (history d cs)
  unfolding all_occurred history
  walk_told [] d = none d
  walk_told (c ∷ cs) d =
      ⊎_elim
      (λ s. subst (λ (c : Call). P d (answer_of d c ++ all_occurred (after_call d c) cs) (by_call d c ++ history (after_call d c) cs)) (sym s.is)
      (told_served d s.time s.set cs s.no_row (λ g. walk_told cs g)))
      (λ q. told_quiet d c cs q (λ g. walk_told cs g))
      (each_call d c)

-- ---- one list of calls after another

pub after_append : (cs more : List Call) (d : State) → after_calls d (cs ++ more) ≡ after_calls (after_calls d cs) more
unfolding after_calls
after_append [] more d = refl
after_append (c ∷ cs) more d = after_append cs more (after_call d c)

pub history_append : (cs more : List Call) (d : State) → history d (cs ++ more) ≡ history d cs ++ history (after_calls d cs) more
unfolding history after_calls
history_append [] more d = refl
history_append (c ∷ cs) more d =
    ap (λ (h : List Event). by_call d c ++ h) (history_append cs more (after_call d c))
    ∙ sym (append_assoc (by_call d c) (history (after_call d c) cs) (history (after_calls (after_call d c) cs) more))
