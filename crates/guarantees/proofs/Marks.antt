-- The mark of a job is that of its task at the taking: as opening read it, or as mark calls have changed it.
use Rattle.std.proofs.Common.{◌≡◌, ◌&&◌, ◌||◌, ◌∷◌, ◌++◌, ◌<◌}
use Rattle.guarantees.specs.Types.{refl, sym, ap, ◌∙◌, subst, Bool, true, false, cond, not, true≢false, false≢true, List, [], ℕ, State, Call, Instant, Mark, Marks, ⊎_elim}
use mathlib.Core.List.{append-nil}
use native.Mathlib.Omega.{arith}
use borrow.Author.Tests.{eqb-true}
use lib.Dec.{eqb, ltb}
use Rattle.sets.specs.Sets.{member, union, intersection, difference, insert}
use Rattle.sets.proofs.Laws.{by-test, clash, none, united, insert_out}
use Rattle.rules.specs.Instant.{taken_at, deferred_at}
use Rattle.rules.specs.Calls.{refusal, unknown, mark_refusal, marks_refusal, row, after_call}
use Rattle.rules.proofs.DeskMarks.{remarked_member, idle_all}
use Rattle.guarantees.specs.History.{Event, Comes, Starts, Stops, Finishes, Completes, Ends, Takes, Defers, GivesWay, Begins, happens, by_call, after_calls, take_events}
use Rattle.guarantees.specs.Queries.{details, is_task, takes}
use Rattle.guarantees.specs.Entries.{marked_by}
use Rattle.guarantees.proofs.Proper.{none_passed}
use Rattle.guarantees.proofs.Walk.{call_served, call_refused}
use Rattle.guarantees.proofs.Events.{by_front, by_takes, by_defers, tail_of, happens_parts, tail_parts}
use Rattle.guarantees.proofs.Frames.{marked_g}
use Rattle.guarantees.proofs.Deferred.{by_rest}

-- ---- the takings of an instant

module _ (marks : ℕ) where
  -- each has its task's mark, and is a task's
  unfoldable Marked : List Event → Type 0
  Marked [] = Unit {0}
  Marked (e ∷ es) = ((n : ℕ) → (takes e && is_task n (details e).task) ≡ true → (n < 32) × ((details e).mark ≡ member n marks)) × Marked es

  other : (e : Event) → takes e ≡ false → (es : List Event) → Marked es → Marked (e ∷ es)
  unfolding Marked
  other e x es h = (λ n y. absurd (false≢true (sym (ap (λ (b : Bool). b && is_task n (details e).task) x) ∙ y)), h)

  marked_at : (xs : List Event) (n u : ℕ) (m : Bool) (ys : List Event) → Marked (xs ++ (Takes n u m ∷ ys)) → eqb n n ≡ true → (n < 32) × (m ≡ member n marks)
  unfolding Marked
  marked_at [] n u m ys h s = h.0 n s
  marked_at (x ∷ xs) n u m ys h s = marked_at xs n u m ys h.1 s

happens_marked : (d : State) (t set : ℕ) (es : List Event) → Marked d.marked es → Marked d.marked (happens d t set ++ es)
unfolding Marked
happens_marked d t set es h =
    rw (happens_parts d t set es)
    (by_front (Marked w) (λ u. other w (Comes u) refl) (λ k u. other w (Starts k u) refl) (λ k u. other w (Stops k u) refl) (λ k. other w (Finishes k) refl)
    (λ k u. other w (Completes k u) refl) (λ u. other w (Ends u) refl) d t (take_events 32 (taken_at d t set) w t ++ (tail_of d t set ++ es))
    (by_takes (Marked w) 32 (taken_at d t set) w t
    (λ k l m es x. (λ n e. (omega (arith, eqb-true n k e), ap (λ (j : ℕ). member j w) (sym (eqb-true n k e))), x)) (tail_of d t set ++ es)
    (rw (tail_parts d t set es)
    (by_defers (Marked w) 32 (deferred_at d t set) t (λ k l m. other w (Defers k t) refl) _
    (by_rest (Marked w) (λ k. other w (GivesWay k) refl) (λ u. other w (Ends u) refl) (λ u r l. other w (Begins u r l) refl) (λ k u. other w (Starts k u) refl) d t set es h)))))
  where
    w : ℕ
    w = d.marked

call_marked : (d : State) (t set : ℕ) → Marked d.marked (by_call d (Instant t set))
unfolding by_call Marked
call_marked d t set =
    by-test (eqb (refusal d t set) 0)
    (λ e. rw e (subst (Marked d.marked) (append-nil (happens d t set)) (happens_marked d t set [] tt)))
    (λ e. rw e tt)

-- ---- the marks along the calls

module _ (n : ℕ) (small : n < 32) where
  -- the marks after a call, by the tasks that it names
  leaves_member : (c : Call) (d : State) → member n ((row c).leaves d).marked ≡ cond (member n (row c).names) (eqb (row c).mark 1) (member n d.marked)
  leaves_member (Instant t set) d = rw (none n) (ap (member n) (marked_g d t set))
  leaves_member (Mark k m) d = remarked_member n small d.marked (insert k 0) m
  leaves_member (Marks set m) d = remarked_member n small d.marked set m

  call_member : (c : Call) (d : State)
      → member n (after_call d c).marked ≡ cond (member n (row c).names && eqb ((row c).number d) 0) (eqb (row c).mark 1) (member n d.marked)
  call_member c d =
      by-test (eqb ((row c).number d) 0)
      (λ e. ap (λ (x : State). member n x.marked) (call_served d c e) ∙ leaves_member c d ∙ rw e (both (member n (row c).names)))
      (λ e. ap (λ (x : State). member n x.marked) (call_refused d c e) ∙ rw e (neither (member n (row c).names)))
    where
      both : (a : Bool) → cond a (eqb (row c).mark 1) (member n d.marked) ≡ cond (a && true) (eqb (row c).mark 1) (member n d.marked)
      both true = refl
      both false = refl

      neither : (a : Bool) → member n d.marked ≡ cond (a && false) (eqb (row c).mark 1) (member n d.marked)
      neither true = refl
      neither false = refl

  marks_along : (cs : List Call) (d : State) (b : Bool) → member n d.marked ≡ b → member n (after_calls d cs).marked ≡ marked_by n b d cs
  unfolding after_calls marked_by
  marks_along [] d b e = e
  marks_along (c ∷ cs) d b e =
      let by : Bool → Bool = λ b. cond (member n (row c).names && eqb ((row c).number d) 0) (eqb (row c).mark 1) b in
      marks_along cs (after_call d c) (by b) (call_member c d ∙ ap by e)

pub taken_marked : (d : State) (cs : List Call) (t set n u : ℕ) (m : Bool) (xs ys : List Event) → eqb n n ≡ true
    → by_call (after_calls d cs) (Instant t set) ≡ xs ++ (Takes n u m ∷ ys) → m ≡ marked_by n (member n d.marked) d cs
taken_marked d cs t set n u m xs ys s e =
    let g : State = after_calls d cs in
    let x : (n < 32) × (m ≡ member n g.marked) = marked_at g.marked xs n u m ys (subst (Marked g.marked) e (call_marked g t set)) s in
    x.1 ∙ marks_along n x.0 cs d (member n d.marked) refl

-- ---- a mark call that is served: nothing waits of the tasks that it names

module _ (d : State) (n : ℕ) (l : n < 32) where
  second : (a b : Bool) → (a || b) ≡ false → b ≡ false
  second true b e = absurd (true≢false e)
  second false b e = e

  unwaiting : member n (union d.jobs.pending d.waiting.tasks) ≡ false → member n d.waiting.tasks ≡ false
  unwaiting e = second (member n d.jobs.pending) (member n d.waiting.tasks) (sym (united d.jobs.pending d.waiting.tasks n l) ∙ e)

  pub names_free : (c : Call) → (row c).number d ≡ 0 → member n (row c).names ≡ true → member n d.waiting.tasks ≡ false
  unfolding mark_refusal marks_refusal unknown
  names_free (Instant t set) h x = clash (member n 0) x (none n)
  names_free (Mark k m) h x =
      let e : n ≡ k = ⊎_elim (λ y. eqb-true n k y) (λ y. clash (member n 0) y (none n)) (insert_out k 0 n x) in
      let f = none_passed 15 5 16 0 (not (member k d.table.present)) (ltb 1 m) (member k (union d.jobs.pending d.waiting.tasks)) false h in
      unwaiting (ap (λ (j : ℕ). member j (union d.jobs.pending d.waiting.tasks)) e ∙ f.2)
  names_free (Marks set m) h x =
      let f = none_passed 15 5 16 0 (not (eqb (difference set d.table.present) 0)) (ltb 1 m) (not (eqb (intersection set (union d.jobs.pending d.waiting.tasks)) 0)) false h in
      unwaiting (idle_all d set m (is_so (eqb (intersection set (union d.jobs.pending d.waiting.tasks)) 0) f.2) n l x)
    where
      is_so : (b : Bool) → not b ≡ false → b ≡ true
      is_so true e = refl
      is_so false e = absurd (true≢false e)
