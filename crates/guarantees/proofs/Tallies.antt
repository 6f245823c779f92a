-- The walk of Tally over the events of each step, and the arrays by task number.
use Rattle.std.proofs.Common.{◌≡◌, ◌&&◌, ◌||◌, ◌∷◌, ◌++◌, ◌+◌, ◌<◌}
use Rattle.guarantees.specs.Types.{refl, sym, ap, ◌∙◌, subst, Bool, true, false, cond, List, [], ℕ, zero, suc, min, Table, Option, JobEntry, None, Some, Processor, Idle, CopyingIn, Executing, Finished, CopyIn, Unchosen, NoneChosen, Copying, Loaded, Cancelled, Next, NoneNext, LoadedNext, PromotedNext, Outgoing, Phase, Between, Within}
use native.Mathlib.Omega.{arith}
use native.Mathlib.Nat.{add-zero, not-suc-le-zero, le_of_suc-le-suc}
use borrow.Author.Tests.{eqb-true, eqb-false, ne_eqb, lt-ltb, le-ltb, ltb-true, ltb-false}
use lib.Dec.{eqb, ltb}
use lib.ListN.{get_or, length}
use Rattle.sets.specs.Sets.{member}
use Rattle.sets.proofs.Laws.{by-test}
use Rattle.rules.specs.Instant.{counted, stamped, begin_processor, processor_task, copyout_task}
use Rattle.guarantees.specs.History.{Starts, Stops, Finishes, Takes, Defers, Begins, processor_events, finish_events, completion_events, take_events, defer_events, given_way, giving_events, giving_events_in, begin_events, start_events, execution_events}
use Rattle.guarantees.specs.Queries.{is_task, Open}
use Rattle.guarantees.proofs.Steps.{Opened}
use Rattle.guarantees.proofs.Waiting.{next_task}
use Rattle.guarantees.proofs.Blocking.{shift}
use Rattle.guarantees.proofs.Tally.{Tally, or_else, grown, tally_by, tally, tally_append}

-- ---- the arrays by task number

pub counted_length : (s k : ℕ) (xs : List ℕ) → length (counted s k xs) ≡ length xs
unfolding counted
counted_length s k [] = refl
counted_length s k (x ∷ xs) = ap suc (counted_length s (suc k) xs)

pub counted_exact : (s k : ℕ) (xs : List ℕ) (n : ℕ) → n < length xs → get_or (counted s k xs) n 0 ≡ cond (member (k + n) s) (min (get_or xs n 0 + 1) 255) (get_or xs n 0)
unfolding counted
counted_exact s k [] n l = absurd (not-suc-le-zero l)
counted_exact s k (x ∷ xs) zero l = rw (add-zero k)
counted_exact s k (x ∷ xs) (suc n) l =
    counted_exact s (suc k) xs n (le_of_suc-le-suc l) ∙ ap (λ (j : ℕ). cond (member j s) (min (get_or xs n 0 + 1) 255) (get_or xs n 0)) (shift k n)

pub stamped_length : (s : ℕ) (f : ℕ → ℕ) (k : ℕ) (xs : List ℕ) → length (stamped s f k xs) ≡ length xs
unfolding stamped
stamped_length s f k [] = refl
stamped_length s f k (x ∷ xs) = ap suc (stamped_length s f (suc k) xs)

pub stamped_exact : (s : ℕ) (f : ℕ → ℕ) (k : ℕ) (xs : List ℕ) (n : ℕ) → n < length xs → get_or (stamped s f k xs) n 0 ≡ cond (member (k + n) s) (f (k + n)) (get_or xs n 0)
unfolding stamped
stamped_exact s f k [] n l = absurd (not-suc-le-zero l)
stamped_exact s f k (x ∷ xs) zero l = rw (add-zero k)
stamped_exact s f k (x ∷ xs) (suc n) l = stamped_exact s f (suc k) xs n (le_of_suc-le-suc l) ∙ ap (λ (j : ℕ). cond (member j s) (f j) (get_or xs n 0)) (shift k n)

-- ---- the walk of Tally over the events of each step

module _ (n : ℕ) where
  abbrev pub with_started : Tally → Option ℕ → Tally
  with_started x s = record { at = x.at; held = x.held; release = x.release; waits = x.waits; executed = x.executed; started = s }

  abbrev pub with_held : Tally → Option ℕ → Tally
  with_held x h = record { at = x.at; held = h; release = x.release; waits = x.waits; executed = x.executed; started = x.started }

  -- a
  abbrev pub started_after : ℕ → Processor → Option ℕ → Option ℕ
  started_after t Idle s = s
  started_after t (CopyingIn m until) s = cond (eqb until t) (cond (eqb n m) (or_else s (Some t)) s) s
  started_after t (Executing m start until) s = s
  started_after t (Finished m start) s = s

  pub processor_tally : (t : ℕ) (q : Processor) (x : Tally) → tally n x (processor_events t q) ≡ with_started x (started_after t q x.started)
  unfolding tally processor_events
  processor_tally t Idle x = refl
  processor_tally t (CopyingIn m until) x = go (eqb until t)
    where
      go : (b : Bool) → tally n x (cond b (Starts m t ∷ []) []) ≡ with_started x (cond b (cond (eqb n m) (or_else x.started (Some t)) x.started) x.started)
      go true = refl
      go false = refl
  processor_tally t (Executing m start until) x = go (eqb until t)
    where
      go : (b : Bool) → tally n x (cond b (Stops m t ∷ []) []) ≡ with_started x x.started
      go true = refl
      go false = refl
  processor_tally t (Finished m start) x = refl

  pub finish_tally : (t : ℕ) (c : CopyIn) (x : Tally) → tally n x (finish_events t c) ≡ x
  unfolding tally finish_events
  finish_tally t Unchosen x = refl
  finish_tally t NoneChosen x = refl
  finish_tally t (Copying m until) x = go (eqb until t)
    where
      go : (b : Bool) → tally n x (cond b (Finishes m ∷ []) []) ≡ x
      go true = refl
      go false = refl
  finish_tally t (Loaded m) x = refl
  finish_tally t (Cancelled m fate) x = refl

  pub completion_tally : (o : Option JobEntry) (x : Tally) → tally n x (completion_events o) ≡ x
  unfolding tally completion_events
  completion_tally None x = refl
  completion_tally (Some e) x = refl

  -- c
  take_other : (k t : ℕ) (m b : Bool) (x : Tally) → eqb n k ≡ false → tally n x (cond b (Takes k t m ∷ []) []) ≡ x
  unfolding tally
  take_other k t m true x e = rw e
  take_other k t m false x e = refl

  pub takes_others : (k taken marks t : ℕ) (x : Tally) → ((j : ℕ) → j < k → member j taken ≡ true → eqb n j ≡ false) → tally n x (take_events k taken marks t) ≡ x
  unfolding take_events
  takes_others zero taken marks t x h = unfold tally in refl
  takes_others (suc k) taken marks t x h =
      tally_append n (take_events k taken marks t) (cond (member k taken) (Takes k t (member k marks) ∷ []) []) x
      ∙ ap (λ (y : Tally). tally n y (cond (member k taken) (Takes k t (member k marks) ∷ []) [])) (takes_others k taken marks t x (λ j l. h j (omega arith)))
      ∙ go (member k taken) refl
    where
      go : (b : Bool) → member k taken ≡ b → tally n x (cond b (Takes k t (member k marks) ∷ []) []) ≡ x
      go true e = take_other k t (member k marks) true x (h k (omega arith) e)
      go false e = unfold tally in refl

  pub takes_this : (k taken marks t : ℕ) (x : Tally) → n < k → member n taken ≡ true → tally n x (take_events k taken marks t) ≡ tally_by n x (Takes n t (member n marks))
  unfolding take_events
  takes_this zero taken marks t x l m = absurd (not-suc-le-zero l)
  takes_this (suc k) taken marks t x l m =
      tally_append n (take_events k taken marks t) (cond (member k taken) (Takes k t (member k marks) ∷ []) []) x
      ∙ by-test (eqb n k)
      (λ e.
      let z : n ≡ k = eqb-true n k e in
      ap (λ (y : Tally). tally n y (cond (member k taken) (Takes k t (member k marks) ∷ []) [])) (takes_others k taken marks t x (λ j l m. ne_eqb n j (omega arith)))
      ∙ subst (λ (j : ℕ). tally n x (cond (member j taken) (Takes j t (member j marks) ∷ []) []) ≡ tally_by n x (Takes n t (member n marks))) z
      (rw m (unfold tally in refl)))
      (λ e.
      ap (λ (y : Tally). tally n y (cond (member k taken) (Takes k t (member k marks) ∷ []) [])) (takes_this k taken marks t x (omega (arith, eqb-false n k e)) m)
      ∙ take_other k t (member k marks) (member k taken) (tally_by n x (Takes n t (member n marks))) e)

  one_defers : (k t : ℕ) (b : Bool) (x : Tally) → tally n x (cond b (Defers k t ∷ []) []) ≡ with_held x (cond b (cond (eqb n k) (Some t) x.held) x.held)
  unfolding tally
  one_defers k t true x = refl
  one_defers k t false x = refl

  -- the release of the task waits from now on, if it is among them
  abbrev held_below : ℕ → ℕ → ℕ → Option ℕ → Option ℕ
  held_below k deferred t h = cond (ltb n k && member n deferred) (Some t) h

  held_step : (k deferred t : ℕ) (h : Option ℕ) → cond (member k deferred) (cond (eqb n k) (Some t) (held_below k deferred t h)) (held_below k deferred t h) ≡ held_below (suc k) deferred t h
  held_step k deferred t h =
      by-test (eqb n k)
      (λ e.
      let z : n ≡ k = eqb-true n k e in
      rw (e, le-ltb n k (omega arith), lt-ltb n (suc k) (omega arith)) (subst (λ (j : ℕ). cond (member j deferred) (Some t) h ≡ cond (member n deferred) (Some t) h) z refl))
      (λ e. rw (e, same_below (eqb-false n k e)) (go (member k deferred) (held_below (suc k) deferred t h)))
    where
      go : (b : Bool) (w : Option ℕ) → cond b w w ≡ w
      go true w = refl
      go false w = refl

      same_below : (n ≡ k → ⊥) → ltb n k ≡ ltb n (suc k)
      same_below f =
          by-test (ltb n k)
          (λ e. e ∙ sym (lt-ltb n (suc k) (omega (arith, ltb-true n k e))))
          (λ e. e ∙ sym (le-ltb n (suc k) (omega (arith, ltb-false n k e))))

  defers_below : (k deferred t : ℕ) (x : Tally) → tally n x (defer_events k deferred t) ≡ with_held x (held_below k deferred t x.held)
  unfolding defer_events
  defers_below zero deferred t x = unfold tally in ap (λ (b : Bool). with_held x (cond (b && member n deferred) (Some t) x.held)) (sym (le-ltb n 0 (omega arith)))
  defers_below (suc k) deferred t x =
      tally_append n (defer_events k deferred t) (cond (member k deferred) (Defers k t ∷ []) []) x
      ∙ ap (λ (y : Tally). tally n y (cond (member k deferred) (Defers k t ∷ []) [])) (defers_below k deferred t x)
      ∙ one_defers k t (member k deferred) (with_held x (held_below k deferred t x.held))
      ∙ ap (with_held x) (held_step k deferred t x.held)

  pub defers_tally : n < 32 → (deferred t : ℕ) (x : Tally) → tally n x (defer_events 32 deferred t) ≡ with_held x (cond (member n deferred) (Some t) x.held)
  defers_tally small deferred t x = defers_below 32 deferred t x ∙ ap (λ (b : Bool). with_held x (cond (b && member n deferred) (Some t) x.held)) (lt-ltb n 32 small)

  -- d
  pub gives_tally : (p q : Phase) (x : Tally) → tally n x (giving_events_in p q) ≡ x
  unfolding tally giving_events_in giving_events
  gives_tally (Between next outgoing) q x = refl
  gives_tally (Within i) (Between next outgoing) x = refl
  gives_tally (Within i) (Within j) x = go (given_way i.copyin) (given_way j.copyin)
    where
      go : (a b : Option ℕ) → tally n x (giving_events a b) ≡ x
      go None None = refl
      go None (Some m) = refl
      go (Some m) b = refl

  -- g
  abbrev pub started_next : ℕ → Next → Option ℕ → Option ℕ
  started_next t NoneNext s = s
  started_next t (LoadedNext m) s = cond (eqb n m) (or_else s (Some t)) s
  started_next t (PromotedNext m) s = s

  abbrev pub begun : ℕ → Next → Tally → Tally
  begun t next x = record {
    at = Open (next_task next);
    held = x.held;
    release = x.release;
    waits = grown x.executed (is_task n (next_task next)) x.waits (next_task next);
    executed = x.executed || is_task n (next_task next);
    started = started_next t next x.started;
  }

  begin_tally : (table : Table) (t : ℕ) (next : Next) (o : Option ℕ) (x : Tally)
      → tally n x (Begins t (processor_task (begin_processor table t next)) o ∷ execution_events t (begin_processor table t next)) ≡ begun t next x
  unfolding tally execution_events
  begin_tally table t NoneNext o x = refl
  begin_tally table t (LoadedNext m) o x = refl
  begin_tally table t (PromotedNext m) o x = refl

  pub opened_tally : (table : Table) (t : ℕ) (next : Next) (outgoing : Outgoing) (q : Phase) (x : Tally) → Opened (begin_processor table t next) q
      → tally n x (begin_events t (Between next outgoing) q ++ start_events t (Between next outgoing) q) ≡ begun t next x
  unfolding begin_events start_events
  opened_tally table t next outgoing (Between a b) x h = absurd h
  opened_tally table t next outgoing (Within j) x h =
      subst (λ (q : Processor). tally n x (Begins t (processor_task q) (copyout_task j.copyout) ∷ execution_events t q) ≡ begun t next x) (sym h)
      (begin_tally table t next (copyout_task j.copyout) x)
