-- What a history says of the last job of a task: a walk along the events, and that what it finds is what the claim on the entries asks for.
use Rattle.std.proofs.Common.{◌≡◌, ◌||◌, ◌⊎◌, ◌∷◌, ◌++◌}
use Rattle.guarantees.specs.Types.{refl, sym, ap, ◌∙◌, subst, Bool, true, false, cond, inl, inr, ⊎_elim, List, [], append_assoc, ℕ, Option, None, Some}
use mathlib.Core.List.{append-nil}
use native.Mathlib.Omega.{arith}
use borrow.Author.Tests.{eqb-true}
use lib.Dec.{eqb}
use Rattle.sets.proofs.Laws.{by-test, same_task}
use Rattle.guarantees.specs.History.{Event, Comes, Starts, Stops, Finishes, Completes, Ends, Takes, Defers, GivesWay, Begins}
use Rattle.guarantees.specs.Queries.{is_task, Situation, NoneOpen, Open, situation, after_event, waiting, original, intervals, taking, start, until, waited, after, each, first}

-- ---- the walk

-- what is open; of a task the tick of the release that waits; and of its last job: the original tick of its release, its intervals so far before the
-- one that executes it, whether that one has begun, and the tick on which its execution has started
pub record Tally : Type 0 where
  pub at : Situation
  pub held : Option ℕ
  pub release : Option ℕ
  pub waits : List (Option ℕ)
  pub executed : Bool
  pub started : Option ℕ

abbrev pub nothing : Tally
nothing = record { at = NoneOpen; held = None; release = None; waits = []; executed = false; started = None }

abbrev pub first_of : Situation → List (Option ℕ)
first_of NoneOpen = []
first_of (Open r) = r ∷ []

abbrev pub or_else : Option ℕ → Option ℕ → Option ℕ
or_else None b = b
or_else (Some a) b = Some a

-- where an interval with r begins: executed before, or now
abbrev pub grown : Bool → Bool → List (Option ℕ) → Option ℕ → List (Option ℕ)
grown true c w r = w
grown false true w r = w
grown false false w r = w ++ (r ∷ [])

module _ (n : ℕ) where
  abbrev pub tally_by : Tally → Event → Tally
  tally_by x (Comes t) = x
  tally_by x (Starts k t) =
      record { at = x.at; held = x.held; release = x.release; waits = x.waits; executed = x.executed; started = cond (eqb n k) (or_else x.started (Some t)) x.started }
  tally_by x (Stops k t) = x
  tally_by x (Finishes k) = x
  tally_by x (Defers k t) =
      record { at = x.at; held = cond (eqb n k) (Some t) x.held; release = x.release; waits = x.waits; executed = x.executed; started = x.started }
  tally_by x (GivesWay k) = x
  tally_by x (Completes k t) = x
  tally_by x (Ends t) = record { at = NoneOpen; held = x.held; release = x.release; waits = x.waits; executed = x.executed; started = x.started }
  tally_by x (Takes k t m) = record {
    at = x.at;
    held = cond (eqb n k) None x.held;
    release = cond (eqb n k) (Some (original x.held t)) x.release;
    waits = cond (eqb n k) (first_of x.at) x.waits;
    executed = cond (eqb n k) false x.executed;
    started = cond (eqb n k) None x.started;
  }
  tally_by x (Begins t r l) = record {
    at = Open r;
    held = x.held;
    release = x.release;
    waits = grown x.executed (is_task n r) x.waits r;
    executed = x.executed || is_task n r;
    started = x.started;
  }

  unfoldable pub tally : Tally → List Event → Tally
  tally x [] = x
  tally x (e ∷ es) = tally (tally_by x e) es

  pub tally_append : (xs ys : List Event) (x : Tally) → tally x (xs ++ ys) ≡ tally (tally x xs) ys
  unfolding tally
  tally_append [] ys x = refl
  tally_append (e ∷ xs) ys x = tally_append xs ys (tally_by x e)

  tally_at : (x : Tally) (e : Event) → (tally_by x e).at ≡ after_event x.at e
  tally_at x (Comes t) = refl
  tally_at x (Starts k t) = refl
  tally_at x (Stops k t) = refl
  tally_at x (Finishes k) = refl
  tally_at x (Defers k t) = refl
  tally_at x (GivesWay k) = refl
  tally_at x (Completes k t) = refl
  tally_at x (Ends t) = refl
  tally_at x (Takes k t m) = refl
  tally_at x (Begins t r l) = refl

  either_way : (b : Bool) (w : Option ℕ) → cond b w w ≡ w
  either_way true w = refl
  either_way false w = refl

  -- what waits, before an event and behind it
  tally_held : (x : Tally) (e : Event) (es : List Event) → waiting n x.held (e ∷ es) ≡ waiting n (tally_by x e).held es
  unfolding after
  tally_held x (Comes t) es = refl
  tally_held x (Starts k t) es = ap (λ (w : Option ℕ). waiting n w es) (either_way (eqb n k) x.held)
  tally_held x (Stops k t) es = ap (λ (w : Option ℕ). waiting n w es) (either_way (eqb n k) x.held)
  tally_held x (Finishes k) es = ap (λ (w : Option ℕ). waiting n w es) (either_way (eqb n k) x.held)
  tally_held x (Defers k t) es = refl
  tally_held x (GivesWay k) es = ap (λ (w : Option ℕ). waiting n w es) (either_way (eqb n k) x.held)
  tally_held x (Completes k t) es = ap (λ (w : Option ℕ). waiting n w es) (either_way (eqb n k) x.held)
  tally_held x (Ends t) es = refl
  tally_held x (Takes k t m) es = refl
  tally_held x (Begins t r l) es = ap (λ (w : Option ℕ). waiting n w es) (either_way (is_task n r) x.held)

  -- ---- events among which none is a taking of the task

  record Since (x : Tally) (es : List Event) (y : Tally) : Type 0 where
    release : y.release ≡ x.release
    waits : y.waits ≡ cond x.executed x.waits (x.waits ++ until n (intervals es))
    started : y.started ≡ or_else x.started (start n es)

  no_more : (b : Bool) (w : List (Option ℕ)) → w ≡ cond b w (w ++ [])
  no_more true w = refl
  no_more false w = sym (append-nil w)

  no_start : (s : Option ℕ) → s ≡ or_else s None
  no_start None = refl
  no_start (Some a) = refl

  starts_once : (b : Bool) (s z : Option ℕ) (t : ℕ) → or_else (cond b (or_else s (Some t)) s) z ≡ or_else s (cond b (Some t) z)
  starts_once true None z t = refl
  starts_once true (Some a) z t = refl
  starts_once false s z t = refl

  one_more : (b c : Bool) (w : List (Option ℕ)) (r : Option ℕ) (u : List (Option ℕ))
      → cond (b || c) (grown b c w r) (grown b c w r ++ u) ≡ cond b w (w ++ cond c [] (r ∷ u))
  one_more true c w r u = refl
  one_more false true w r u = sym (append-nil w)
  one_more false false w r u = append_assoc w (r ∷ []) u

  never-tick {ℓ} : {A : Type ℓ} (t : ℕ) → Some t ≡ None → A
  never-tick t h = absurd (let z : ◌≡◌ {A = ℕ} 0 1 = cc in omega arith)

  since : (es : List Event) (x : Tally) → taking n es ≡ None → Since x es (tally x es)
  unfolding tally each first until
  since [] x h = record { release = refl; waits = no_more x.executed x.waits; started = no_start x.started }
  since (Comes t ∷ es) x h = let i : Since x es (tally x es) = since es x h in record { release = i.release; waits = i.waits; started = i.started }
  since (Stops k t ∷ es) x h = let i : Since x es (tally x es) = since es x h in record { release = i.release; waits = i.waits; started = i.started }
  since (Completes k t ∷ es) x h = let i : Since x es (tally x es) = since es x h in record { release = i.release; waits = i.waits; started = i.started }
  since (Starts k t ∷ es) x h =
      let y : Tally = tally_by x (Starts k t) in
      let i : Since y es (tally y es) = since es y h in
      record { release = i.release; waits = i.waits; started = i.started ∙ starts_once (eqb n k) x.started (start n es) t }
  since (Finishes k ∷ es) x h = let i : Since x es (tally x es) = since es x h in record { release = i.release; waits = i.waits; started = i.started }
  since (Defers k t ∷ es) x h =
      let y : Tally = tally_by x (Defers k t) in
      let i : Since y es (tally y es) = since es y h in record { release = i.release; waits = i.waits; started = i.started }
  since (GivesWay k ∷ es) x h = let i : Since x es (tally x es) = since es x h in record { release = i.release; waits = i.waits; started = i.started }
  since (Ends t ∷ es) x h =
      let y : Tally = tally_by x (Ends t) in
      let i : Since y es (tally y es) = since es y h in record { release = i.release; waits = i.waits; started = i.started }
  since (Takes k t m ∷ es) x h =
      by-test (eqb n k)
      (λ e. never-tick t (rw e at h))
      (λ e.
      let y : Tally = tally_by x (Takes k t m) in
      let i : Since y es (tally y es) = since es y (rw e at h) in
      record {
        release = i.release ∙ ap (λ (b : Bool). cond b (Some (original x.held t)) x.release) e;
        waits =
            i.waits
            ∙ ap (λ (b : Bool). cond (cond b false x.executed) (cond b (first_of x.at) x.waits) (cond b (first_of x.at) x.waits ++ until n (intervals es))) e;
        started = i.started ∙ ap (λ (b : Bool). or_else (cond b None x.started) (start n es)) e;
      })
  since (Begins t r l ∷ es) x h =
      let y : Tally = tally_by x (Begins t r l) in
      let i : Since y es (tally y es) = since es y h in
      record { release = i.release; waits = i.waits ∙ one_more x.executed (is_task n r) x.waits r (until n (intervals es)); started = i.started }

  -- ---- the last taking

  pub record Split (x : Tally) (es : List Event) (y : Tally) : Type 0 where
    pub before : List Event
    pub after : List Event
    pub tick : ℕ
    pub marked : Bool
    pub is : es ≡ before ++ (Takes n tick marked ∷ after)
    pub last : taking n after ≡ None
    pub release : y.release ≡ Some (original (waiting n x.held before) tick)
    pub waits : y.waits ≡ waited n (situation x.at before) (intervals after)
    pub started : y.started ≡ start n after

  first_waited : (s : Situation) (rs : List (Option ℕ)) → first_of s ++ until n rs ≡ waited n s rs
  first_waited NoneOpen rs = refl
  first_waited (Open r) rs = refl

  -- what the walk finds behind a taking, up to the next, where t is the original tick of its release
  pub record Found (t : ℕ) (at : Situation) (es : List Event) (y : Tally) : Type 0 where
    pub release : y.release ≡ Some t
    pub waits : y.waits ≡ waited n at (intervals es)
    pub started : y.started ≡ start n es

  found_after : (k t : ℕ) (m : Bool) (es : List Event) (x : Tally) → eqb n k ≡ true → taking n es ≡ None
      → Found (original x.held t) x.at es (tally x (Takes k t m ∷ es))
  unfolding tally
  found_after k t m es x e h =
      let y : Tally = tally_by x (Takes k t m) in
      let i : Since y es (tally y es) = since es y h in
      record {
        release = i.release ∙ ap (λ (b : Bool). cond b (Some (original x.held t)) x.release) e;
        waits =
            i.waits
            ∙ ap (λ (b : Bool). cond (cond b false x.executed) (cond b (first_of x.at) x.waits) (cond b (first_of x.at) x.waits ++ until n (intervals es))) e
            ∙ first_waited x.at (intervals es);
        started = i.started ∙ ap (λ (b : Bool). or_else (cond b None x.started) (start n es)) e;
      }

  taken_now : (k t : ℕ) (m : Bool) (es : List Event) (x : Tally) → eqb n k ≡ true → taking n es ≡ None → Split x (Takes k t m ∷ es) (tally x (Takes k t m ∷ es))
  unfolding after
  taken_now k t m es x e h =
      let f : Found (original x.held t) x.at es (tally x (Takes k t m ∷ es)) = found_after k t m es x e h in
      record {
        before = [];
        after = es;
        tick = t;
        marked = m;
        is = ap (λ (j : ℕ). Takes j t m ∷ es) (sym (eqb-true n k e));
        last = h;
        release = f.release;
        waits = f.waits;
        started = f.started;
      }

  split_first : (e : Event) (es : List Event) (x : Tally) → taking n es ≡ None → (taking n (e ∷ es) ≡ None) ⊎ Split x (e ∷ es) (tally x (e ∷ es))
  unfolding first
  split_first (Comes t) es x h = inl h
  split_first (Starts k t) es x h = inl h
  split_first (Stops k t) es x h = inl h
  split_first (Finishes k) es x h = inl h
  split_first (Defers k t) es x h = inl h
  split_first (GivesWay k) es x h = inl h
  split_first (Completes k t) es x h = inl h
  split_first (Ends t) es x h = inl h
  split_first (Begins t r l) es x h = inl h
  split_first (Takes k t m) es x h = by-test (eqb n k) (λ e. inr (taken_now k t m es x e h)) (λ e. inl (rw e h))

  split_of : (es : List Event) (x : Tally) → (taking n es ≡ None) ⊎ Split x es (tally x es)
  unfolding tally after first
  split_of [] x = inl refl
  split_of (e ∷ es) x =
      ⊎_elim (λ h. split_first e es x h)
      (λ s. inr (record {
        before = e ∷ s.before;
        after = s.after;
        tick = s.tick;
        marked = s.marked;
        is = ap (λ (l : List Event). e ∷ l) s.is;
        last = s.last;
        release = s.release ∙ ap (λ (w : Option ℕ). Some (original w s.tick)) (sym (tally_held x e s.before));
        waits = s.waits ∙ ap (λ (p : Situation). waited n (situation p s.before) (intervals s.after)) (tally_at x e);
        started = s.started;
      }))
      (split_of es (tally_by x e))

  -- where the walk has found a taking
  pub last_job : (es : List Event) (r : ℕ) → (tally nothing es).release ≡ Some r → Split nothing es (tally nothing es)
  last_job es r h = ⊎_elim (λ z. never-tick r (sym h ∙ (since es nothing z).release)) (λ s. s) (split_of es nothing)

  tally_situation : (es : List Event) (x : Tally) → (tally x es).at ≡ situation x.at es
  unfolding tally after
  tally_situation [] x = refl
  tally_situation (e ∷ es) x = tally_situation es (tally_by x e) ∙ ap (λ (s : Situation). situation s es) (tally_at x e)

  tally_waiting : (es : List Event) (x : Tally) → (tally x es).held ≡ waiting n x.held es
  unfolding tally after
  tally_waiting [] x = refl
  tally_waiting (e ∷ es) x = tally_waiting es (tally_by x e) ∙ sym (tally_held x e es)

  -- a history has one last taking, so that there is one entry that tells the truth of it
  pub found : (before after : List Event) (t : ℕ) (m : Bool) → taking n after ≡ None
      → Found (original (waiting n None before) t) (situation NoneOpen before) after (tally nothing (before ++ (Takes n t m ∷ after)))
  found before after t m h =
      let y : Tally = tally nothing (before ++ (Takes n t m ∷ after)) in
      subst (λ (w : Option ℕ). Found (original w t) (situation NoneOpen before) after y) (tally_waiting before nothing)
      (subst (λ (s : Situation). Found (original (tally nothing before).held t) s after y) (tally_situation before nothing)
      (subst (Found (original (tally nothing before).held t) (tally nothing before).at after) (sym (tally_append before (Takes n t m ∷ after) nothing))
      (found_after n t m after (tally nothing before) (same_task n) h)))
