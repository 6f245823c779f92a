-- The pending jobs, by the history: a job is pending from its release until its completion, and the state's set says the same.
use Rattle.std.proofs.Common.{◌≡◌, ◌&&◌, ◌||◌, ◌∷◌, ◌++◌, ◌≤◌, ◌<◌}
use Rattle.guarantees.specs.Types.{refl, sym, ap, ◌∙◌, subst, Bool, true, false, cond, not, true≢false, List, [], append_assoc, ℕ, zero, suc, State, Option, JobEntry, None, Some, Call}
use native.Mathlib.Omega.{arith}
use native.Mathlib.Nat.{not-suc-le-zero}
use borrow.Author.Tests.{eqb-true, eqb-false, eq-eqb, ne_eqb}
use lib.Dec.{eqb}
use Rattle.sets.specs.Sets.{member, union}
use Rattle.sets.proofs.Laws.{by-test, united, removed}
use Rattle.rules.specs.Instant.{after_done, at_a, at_b, at_e, at_f, at_g, taken_at, deferred_at}
use Rattle.guarantees.specs.History.{Event, Starts, Stops, Comes, Finishes, Completes, Ends, Takes, Defers, GivesWay, Begins, history, after_calls, happens, processor_events_in, finish_events_in, completion_events, end_events, take_events, giving_events_in, begin_events, start_events}
use Rattle.guarantees.specs.Queries.{completion, first}
use Rattle.guarantees.proofs.Walk.{walk_to}
use Rattle.guarantees.proofs.Frames.{pending_b, pending_g}
use Rattle.guarantees.proofs.Events.{by_processor, by_finishes, by_gives, by_ends, by_takes, by_defers, by_begins, by_starts, tail_of, happens_parts, front_parts, tail_parts}

-- ---- by the history

abbrev pub pending_by : ℕ → Bool → Event → Bool
pending_by n b (Comes t) = b
pending_by n b (Finishes k) = b
pending_by n b (Defers k t) = b
pending_by n b (GivesWay k) = b
pending_by n b (Starts k v) = b
pending_by n b (Stops k v) = b
pending_by n b (Completes k t) = cond (eqb n k) false b
pending_by n b (Ends t) = b
pending_by n b (Takes k t m) = cond (eqb n k) true b
pending_by n b (Begins t r l) = b

-- whether task n has a pending job after some events
unfoldable pub pending_in : ℕ → Bool → List Event → Bool
pending_in n b [] = b
pending_in n b (e ∷ es) = pending_in n (pending_by n b e) es

-- a job that is pending and later is not has completed
has_completed : (n : ℕ) (es : List Event) → pending_in n true es ≡ false → (u : ℕ) × (completion n es ≡ Some u)
unfolding pending_in first
has_completed n [] h = absurd (true≢false h)
has_completed n (Comes t ∷ es) h = has_completed n es h
has_completed n (Finishes k ∷ es) h = has_completed n es h
has_completed n (Defers k t ∷ es) h = has_completed n es h
has_completed n (GivesWay k ∷ es) h = has_completed n es h
has_completed n (Starts k v ∷ es) h = has_completed n es h
has_completed n (Stops k v ∷ es) h = has_completed n es h
has_completed n (Completes k t ∷ es) h =
    by-test (eqb n k) (λ e. (t, rw e)) (λ e. let x : (u : ℕ) × (completion n es ≡ Some u) = has_completed n es (rw e at h) in (x.0, rw e x.1))
has_completed n (Ends t ∷ es) h = has_completed n es h
has_completed n (Takes k t m ∷ es) h =
    has_completed n es (by-test (eqb n k) (λ e. rw e at h) (λ e. rw e at h))
has_completed n (Begins t r l ∷ es) h = has_completed n es h

pub completes_after : (before after : List Event) (n t : ℕ) (m b : Bool) → pending_in n b (before ++ (Takes n t m ∷ after)) ≡ false
    → (u : ℕ) × (completion n after ≡ Some u)
unfolding pending_in
completes_after [] after n t m b h = has_completed n after (subst (λ (x : Bool). pending_in n (cond x true b) after ≡ false) (eq-eqb n n refl) h)
completes_after (e ∷ es) after n t m b h = completes_after es after n t m (pending_by n b e) h

-- ---- the events of an instant

module _ (n : ℕ) where
  abbrev As : Bool → List Event → List Event → Type 0
  As b ys zs = pending_in n b zs ≡ pending_in n b ys

  tail_pending : (d : State) (t set : ℕ) (b : Bool) (ys : List Event) → pending_in n b (tail_of d t set ++ ys) ≡ pending_in n b ys
  unfolding pending_in
  tail_pending d t set b ys =
      let x : List Event = begin_events t (at_f d t set).state.phase (at_g d t set).phase in
      let y : List Event = start_events t (at_f d t set).state.phase (at_g d t set).phase ++ ys in
      let z : List Event = end_events t (at_e d t set).phase (at_f d t set).state.phase ++ (x ++ y) in
      ap (pending_in n b) (tail_parts d t set ys)
      ∙ by_defers (As b ys) 32 (deferred_at d t set) t (λ k l m es e. e) (giving_events_in (at_b d t).state.phase (at_e d t set).phase ++ z)
      (by_gives (As b ys) (λ k es e. e) (at_b d t).state.phase (at_e d t set).phase z
      (by_ends (As b ys) t (λ es e. e) (at_e d t set).phase (at_f d t set).state.phase (x ++ y)
      (by_begins (As b ys) t (λ r l es e. e) (at_f d t set).state.phase (at_g d t set).phase y
      (by_starts (As b ys) t (λ k es e. e) (at_f d t set).state.phase (at_g d t set).phase ys refl))))

  module _ (small : n < 32) where
    completes_pending : (s : ℕ) (o : Option JobEntry) (ys : List Event) → pending_in n (member n s) (completion_events o ++ ys) ≡ pending_in n (member n (after_done s o)) ys
    unfolding completion_events pending_in
    completes_pending s None ys = refl
    completes_pending s (Some e) ys =
        ap (λ (b : Bool). pending_in n b ys) (go (eqb n e.task) (member n s) ∙ sym (removed e.task s n small))
      where
        go : (x b : Bool) → cond x false b ≡ (not x && b)
        go true b = refl
        go false b = refl

    one_other : (k t : ℕ) (m x b : Bool) (ys : List Event) → eqb n k ≡ false → pending_in n b (cond x (Takes k t m ∷ []) [] ++ ys) ≡ pending_in n b ys
    unfolding pending_in
    one_other k t m true b ys e = rw e
    one_other k t m false b ys e = refl

    one_this : (k t : ℕ) (m x b : Bool) (ys : List Event) → eqb n k ≡ true → pending_in n b (cond x (Takes k t m ∷ []) [] ++ ys) ≡ pending_in n (b || x) ys
    unfolding pending_in
    one_this k t m true true ys e = rw e
    one_this k t m true false ys e = rw e
    one_this k t m false true ys e = refl
    one_this k t m false false ys e = refl

    takes_others : (k taken marked t : ℕ) (b : Bool) (ys : List Event) → k ≤ n → pending_in n b (take_events k taken marked t ++ ys) ≡ pending_in n b ys
    unfolding pending_in
    takes_others k taken marked t b ys l = by_takes (As b ys) k taken marked t (λ j m x es e. rw (ne_eqb n j (omega arith)) e) ys refl

    takes_this : (k taken marked t : ℕ) (b : Bool) (ys : List Event) → n < k → pending_in n b (take_events k taken marked t ++ ys) ≡ pending_in n (b || member n taken) ys
    unfolding take_events
    takes_this zero taken marked t b ys l = absurd (not-suc-le-zero l)
    takes_this (suc k) taken marked t b ys l =
        ap (pending_in n b) (append_assoc (take_events k taken marked t) (cond (member k taken) (Takes k t (member k marked) ∷ []) []) ys)
        ∙ by-test (eqb n k)
        (λ e. takes_others k taken marked t b (cond (member k taken) (Takes k t (member k marked) ∷ []) [] ++ ys) (omega (arith, eqb-true n k e))
        ∙ one_this k t (member k marked) (member k taken) b ys e ∙ ap (λ (j : ℕ). pending_in n (b || member j taken) ys) (sym (eqb-true n k e)))
        (λ e. takes_this k taken marked t b (cond (member k taken) (Takes k t (member k marked) ∷ []) [] ++ ys) (omega (arith, eqb-false n k e))
        ∙ one_other k t (member k marked) (member k taken) (b || member n taken) ys e)

    happens_pending : (d : State) (t set : ℕ) (ys : List Event)
        → pending_in n (member n d.jobs.pending) (happens d t set ++ ys) ≡ pending_in n (member n (union (after_done d.jobs.pending (at_a d t).done) (taken_at d t set))) ys
    happens_pending d t set ys =
        let taken : ℕ = taken_at d t set in
        let rest : List Event = take_events 32 taken d.marked t ++ (tail_of d t set ++ ys) in
        let e : List Event = end_events t (at_a d t).state.phase (at_b d t).state.phase in
        let c : List Event = completion_events (at_a d t).done in
        let p : ℕ = d.jobs.pending in
        let s : ℕ = after_done d.jobs.pending (at_a d t).done in
        ap (pending_in n (member n p)) (happens_parts d t set ys ∙ front_parts d t rest)
        ∙ comes t (processor_events_in t d.phase ++ (finish_events_in t d.phase ++ (c ++ (e ++ rest))))
        ∙ skips_processor (member n p) (finish_events_in t d.phase ++ (c ++ (e ++ rest)))
        ∙ skips_finishes (member n p) (c ++ (e ++ rest))
        ∙ completes_pending p (at_a d t).done (e ++ rest)
        ∙ skips_ends (member n s) rest
        ∙ takes_this 32 taken d.marked t (member n s) (tail_of d t set ++ ys) small
        ∙ tail_pending d t set (member n s || member n taken) ys
        ∙ ap (λ (b : Bool). pending_in n b ys) (sym (united s taken n small))
      where
        comes : (t : ℕ) (zs : List Event) → pending_in n (member n d.jobs.pending) (Comes t ∷ zs) ≡ pending_in n (member n d.jobs.pending) zs
        comes t zs = unfold pending_in in refl

        skips_processor : (b : Bool) (zs : List Event) → pending_in n b (processor_events_in t d.phase ++ zs) ≡ pending_in n b zs
        skips_processor b zs = unfold pending_in in by_processor (As b zs) (λ k u es e. e) (λ k u es e. e) t d.phase zs refl

        skips_finishes : (b : Bool) (zs : List Event) → pending_in n b (finish_events_in t d.phase ++ zs) ≡ pending_in n b zs
        skips_finishes b zs = unfold pending_in in by_finishes (As b zs) (λ k es e. e) t d.phase zs refl

        skips_ends : (b : Bool) (zs : List Event) → pending_in n b (end_events t (at_a d t).state.phase (at_b d t).state.phase ++ zs) ≡ pending_in n b zs
        skips_ends b zs = unfold pending_in in by_ends (As b zs) t (λ es e. e) (at_a d t).state.phase (at_b d t).state.phase zs refl

-- ---- the state's set

pending_after : (d : State) (t set : ℕ) → (at_g d t set).jobs.pending ≡ union (after_done d.jobs.pending (at_a d t).done) (taken_at d t set)
pending_after d t set = pending_g d t set ∙ ap (λ (s : ℕ). union s (taken_at d t set)) (pending_b d t)

-- ---- along the calls

pub pending_same : (n : ℕ) → n < 32 → (d : State) (cs : List Call)
    → pending_in n (member n d.jobs.pending) (history d cs) ≡ member n (after_calls d cs).jobs.pending
pending_same n small d cs =
    walk_to (λ d h g. pending_in n (member n d.jobs.pending) h ≡ member n g.jobs.pending)
    (λ d. unfold pending_in in refl)
    (λ d t set cs e k.
    happens_pending n small d t set (history (at_g d t set) cs)
    ∙ ap (λ (s : ℕ). pending_in n (member n s) (history (at_g d t set) cs)) (sym (pending_after d t set)) ∙ k)
    (λ d m e h g k. k)
    cs d
