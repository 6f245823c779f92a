-- A task's last release that was taken or set waiting (8/13): what a walk along a history finds is what the state has, step c keeps that, and what
-- passes at an instant comes at least the task's spacing after it.
use Rattle.std.proofs.Common.{◌≡◌, ◌&&◌, ◌||◌, ◌⊎◌, ◌∷◌, ◌++◌, ◌+◌, ◌-◌, ◌≤◌, ◌<◌}
use Rattle.guarantees.specs.Types.{refl, sym, ap, ◌∙◌, subst, Bool, true, false, cond, not, false≢true, inl, inr, ⊎_elim, List, [], ℕ, Table, WaitingReleases, State, Clock, At, Option, None, Some, Call}
use mathlib.Core.Path.{ap₂}
use native.Mathlib.Omega.{arith}
use borrow.Author.Tests.{ltb-true, ltb-false, lt-ltb}
use lib.Dec.{eqb}
use lib.ListN.{get_or, length}
use Rattle.table.specs.Table.{spacing}
use Rattle.sets.specs.Sets.{member, difference}
use Rattle.sets.proofs.Laws.{by-test, both, right, none, same_task, united, difference_member}
use Rattle.rules.specs.Instant.{previous_release, comes_sooner, step_c, original as stamps, at_b, at_g, taken_at, deferred_at}
use Rattle.rules.specs.Calls.{opened}
use Rattle.guarantees.specs.History.{Event, Comes, Starts, Stops, Finishes, Completes, Ends, Takes, Defers, GivesWay, Begins, take_events, defer_events, happens, history, after_calls}
use Rattle.guarantees.specs.Queries.{details, takes, defers, after, waiting, LastRelease, no_last, last_by, last_released}
use Rattle.guarantees.specs.Releases.{Spaced}
use Rattle.guarantees.proofs.Proper.{Fair}
use Rattle.guarantees.proofs.Tallies.{stamped_length}
use Rattle.guarantees.proofs.Served.{strictly_onward}
use Rattle.guarantees.proofs.Walk.{walk_to}
use Rattle.guarantees.proofs.Frames.{table_b, release_b, waiting_b, release_g, waiting_g, table_g, clock_g}
use Rattle.guarantees.proofs.Events.{by_front, front_of, tail_of, happens_parts, tail_parts}
use Rattle.guarantees.proofs.Releases.{is_taken, is_deferred, taken_member, deferred_member, passing_member, soon_at, passed}
use Rattle.guarantees.proofs.Deferred.{at_task, by_rest, takes_it, defers_it, waits_by, waits_in}
use Rattle.guarantees.proofs.Turns.{stands, held_is}
use Rattle.guarantees.proofs.Origins.{stamp}

-- ---- a release at t, a spacing and the last one

-- one that passes comes at least the spacing after it: where there is a spacing, so that a tick before the last one is too soon
pub passes_after : (t gap u : ℕ) (l : Option ℕ) → 1 ≤ gap → comes_sooner t gap l ≡ false → l ≡ Some u → u + gap ≤ t
passes_after t gap u None some h e = absurd (let z : ◌≡◌ {A = ℕ} 0 1 = cc in omega arith)
passes_after t gap u (Some v) some h e = let z : v ≡ u = cc in omega (arith, ltb-false (t - v) gap h)

-- one that does not pass comes sooner
pub sooner_than : (t gap : ℕ) (l : Option ℕ) → comes_sooner t gap l ≡ true → (u : ℕ) × (l ≡ Some u) × (t < u + gap)
sooner_than t gap None h = absurd (false≢true h)
sooner_than t gap (Some u) h = (u, refl, omega (arith, ltb-true (t - u) gap h))

-- and each that does is too soon
pub is_sooner : (t gap u : ℕ) (l : Option ℕ) → 1 ≤ gap → l ≡ Some u → t < u + gap → comes_sooner t gap l ≡ true
is_sooner t gap u None some e h = absurd (let z : ◌≡◌ {A = ℕ} 0 1 = cc in omega arith)
is_sooner t gap u (Some v) some e h = let z : v ≡ u = cc in lt-ltb (t - v) gap (omega arith)

module _ (n : ℕ) where
  -- ---- along a history

  -- a release that is set waiting, or taken without having waited: so that it is the last one from here on
  abbrev Comes-now : LastRelease → Event → Bool
  Comes-now x e = defers_it n e || (takes_it n e && not x.waits)

  -- what step c makes of the last one, where one is taken (b) or not, and one is set waiting (c) or not
  abbrev taken_by : Bool → ℕ → LastRelease → LastRelease
  taken_by b t x = cond b (record { waits = false; tick = cond x.waits x.tick (Some t) }) x

  abbrev then_by : Bool → Bool → ℕ → LastRelease → LastRelease
  then_by b c t x = cond c (record { waits = true; tick = Some t }) (taken_by b t x)

  -- from what is known of the last one to what is known of it at the end, along events by which none comes before it may (`Passes`)
  module _ (Passes : Option ℕ → ℕ → Type 0) (End : LastRelease → Type 0) where
    unfoldable pub Apart : LastRelease → List Event → Type 0
    Apart x [] = End x
    Apart x (e ∷ es) = (Comes-now x e ≡ true → Passes x.tick (details e).tick) × Apart (last_by n x e) es

    -- at the end
    pub apart_end : (es : List Event) (x : LastRelease) → Apart x es → End (after (last_by n) x es)
    unfolding Apart after
    apart_end [] x h = h
    apart_end (e ∷ es) x h = apart_end es (last_by n x e) h.1

    -- at some event
    pub apart_at : (before : List Event) (e : Event) (es : List Event) (x : LastRelease) → Apart x (before ++ (e ∷ es))
        → let y : LastRelease = after (last_by n) x before in Comes-now y e ≡ true → Passes y.tick (details e).tick
    unfolding Apart after
    apart_at [] e es x h = h.0
    apart_at (k ∷ before) e es x h = apart_at before e es (last_by n x k) h.1

    -- an event of another kind
    quiet : (x : LastRelease) (e : Event) → takes e ≡ false → defers e ≡ false → (es : List Event) → Apart x es → Apart x (e ∷ es)
    unfolding Apart
    quiet x e a b es h = rw (a, b) (λ z. absurd (false≢true z), h)

    front_apart : (d : State) (t : ℕ) (x : LastRelease) (es : List Event) → Apart x es → Apart x (front_of d t ++ es)
    front_apart d t x es h =
        by_front (Apart x) (λ u. quiet x (Comes u) refl refl) (λ k u. quiet x (Starts k u) refl refl) (λ k u. quiet x (Stops k u) refl refl)
        (λ k. quiet x (Finishes k) refl refl) (λ k u. quiet x (Completes k u) refl refl) (λ u. quiet x (Ends u) refl refl) d t es h

    module _ (small : n < 32) where
      takes_apart : (taken marks t : ℕ) (x : LastRelease) (es : List Event) → (member n taken ≡ true → x.waits ≡ false → Passes x.tick t)
          → Apart (taken_by (member n taken) t x) es → Apart x (take_events 32 taken marks t ++ es)
      unfolding take_events Apart
      takes_apart taken marks t x es f h =
          at_task n taken (λ k. Takes k t (member k marks)) (λ k. take_events k taken marks t) refl (λ k. refl) Apart
          (λ x k e es h. rw e (λ z. absurd (false≢true z), h)) x (record { waits = false; tick = cond x.waits x.tick (Some t) })
          (λ m es h. rw (same_task n) (λ z. f m (not_so x.waits z), h)) 32 small es h
        where
          not_so : (b : Bool) → not b ≡ true → b ≡ false
          not_so true z = absurd (false≢true z)
          not_so false z = refl

      defers_apart : (deferred t : ℕ) (x : LastRelease) (es : List Event) → (member n deferred ≡ true → Passes x.tick t)
          → Apart (cond (member n deferred) (record { waits = true; tick = Some t }) x) es → Apart x (defer_events 32 deferred t ++ es)
      unfolding defer_events Apart
      defers_apart deferred t x es f h =
          at_task n deferred (λ k. Defers k t) (λ k. defer_events k deferred t) refl (λ k. refl) Apart
          (λ x k e es h. rw e (λ z. absurd (false≢true z), h)) x (record { waits = true; tick = Some t })
          (λ m es h. rw (same_task n) (λ z. f m, h)) 32 small es h

      -- what an instant makes of the last one
      abbrev last_then : State → ℕ → ℕ → LastRelease → LastRelease
      last_then d t set x = then_by (member n (taken_at d t set)) (member n (deferred_at d t set)) t x

      happens_apart : (d : State) (t set : ℕ) (x : LastRelease) (es : List Event) → (member n (taken_at d t set) ≡ true → x.waits ≡ false → Passes x.tick t)
          → (member n (deferred_at d t set) ≡ true → Passes (taken_by (member n (taken_at d t set)) t x).tick t) → Apart (last_then d t set x) es → Apart x (happens d t set ++ es)
      happens_apart d t set x es f g h =
          let y : LastRelease = taken_by (member n (taken_at d t set)) t x in
          let z : LastRelease = last_then d t set x in
          rw (happens_parts d t set es)
          (front_apart d t x (take_events 32 (taken_at d t set) d.marked t ++ (tail_of d t set ++ es))
          (takes_apart (taken_at d t set) d.marked t x (tail_of d t set ++ es) f
          (rw (tail_parts d t set es)
          (defers_apart (deferred_at d t set) t y _ g
          (by_rest (Apart z) (λ k. quiet z (GivesWay k) refl refl) (λ u. quiet z (Ends u) refl refl) (λ u r l. quiet z (Begins u r l) refl refl) (λ k u. quiet z (Starts k u) refl refl) d t set es h)))))

  -- ---- what the state has

  abbrev last_in : List ℕ → WaitingReleases → Option ℕ
  last_in release w = cond (member n w.tasks) (Some (get_or w.times n 0)) (cond (member n w.before) (Some (get_or release n 0)) None)

  pub record LastIs (x : LastRelease) (release : List ℕ) (w : WaitingReleases) : Type 0 where
    pub releases : n < length release
    pub times : n < length w.times
    pub waits_is : x.waits ≡ member n w.tasks
    pub tick_is : x.tick ≡ last_in release w

  -- step c, where one waits (w)
  then_waits : (b c w : Bool) (t : ℕ) (l : Option ℕ) → (then_by b c t (record { waits = w; tick = l })).waits ≡ ((w && not b) || c)
  then_waits true true true t l = refl
  then_waits true true false t l = refl
  then_waits true false true t l = refl
  then_waits true false false t l = refl
  then_waits false true true t l = refl
  then_waits false true false t l = refl
  then_waits false false true t l = refl
  then_waits false false false t l = refl

  -- since a, and one was taken before (f), the last of them released at r
  then_tick : (b c w f : Bool) (a r t : ℕ) → (then_by b c t (record { waits = w; tick = cond w (Some a) (cond f (Some r) None) })).tick
      ≡ cond ((w && not b) || c) (Some (cond c t a)) (cond (f || b) (Some (cond b (cond w a t) r)) None)
  then_tick true true true f a r t = refl
  then_tick true true false f a r t = refl
  then_tick true false true true a r t = refl
  then_tick true false true false a r t = refl
  then_tick true false false true a r t = refl
  then_tick true false false false a r t = refl
  then_tick false true true f a r t = refl
  then_tick false true false f a r t = refl
  then_tick false false true f a r t = refl
  then_tick false false false true a r t = refl
  then_tick false false false false a r t = refl

  module _ (small : n < 32) where
    c_last : (d : State) (t taken deferred : ℕ) (x : LastRelease) → LastIs x d.jobs.release d.waiting
        → let c : State = step_c d t taken deferred in LastIs (then_by (member n taken) (member n deferred) t x) c.jobs.release c.waiting
    unfolding step_c
    c_last d t taken deferred x h = record {
      releases = omega (arith, h.releases, stamped_length taken (stamps d.waiting t) 0 d.jobs.release);
      times = omega (arith, h.times, stamped_length deferred (λ j. t) 0 d.waiting.times);
      waits_is =
          ap (λ (y : LastRelease). (then_by B C t y).waits) same ∙ then_waits B C W t L
          ∙ sym (united (difference d.waiting.tasks taken) deferred n small ∙ ap (λ (b : Bool). b || C) (difference_member d.waiting.tasks taken n small));
      tick_is =
          ap (λ (y : LastRelease). (then_by B C t y).tick) same
          ∙ then_tick B C W (member n d.waiting.before) (get_or d.waiting.times n 0) (get_or d.jobs.release n 0) t
          ∙ sym (rw (
            united (difference d.waiting.tasks taken) deferred n small,
            difference_member d.waiting.tasks taken n small,
            united d.waiting.before taken n small,
            stamp n deferred (λ j. t) d.waiting.times h.times,
            stamp n taken (stamps d.waiting t) d.jobs.release h.releases,
          ));
    }
      where
        B : Bool
        B = member n taken

        C : Bool
        C = member n deferred

        W : Bool
        W = member n d.waiting.tasks

        L : Option ℕ
        L = last_in d.jobs.release d.waiting

        same : x ≡ record { waits = W; tick = L }
        same = ap₂ (λ (w : Bool) (l : Option ℕ). record { waits = w; tick = l }) h.waits_is h.tick_is

    then_is : (d : State) (t set : ℕ) (x : LastRelease) → LastIs x d.jobs.release d.waiting
        → let g : State = at_g d t set in LastIs (then_by (member n (taken_at d t set)) (member n (deferred_at d t set)) t x) g.jobs.release g.waiting
    then_is d t set x h =
        rw (release_g d t set, waiting_g d t set)
        (c_last (at_b d t).state t (taken_at d t set) (deferred_at d t set) x (rw (release_b d t, waiting_b d t) h))

    -- the last one of the state is that of the walk, also after steps a and b
    pub last_is : (d : State) (x : LastRelease) → LastIs x d.jobs.release d.waiting → previous_release d n ≡ x.tick
    unfolding previous_release
    last_is d x h = sym h.tick_is

    pub last_b : (d : State) (t : ℕ) → previous_release (at_b d t).state n ≡ previous_release d n
    unfolding previous_release
    last_b d t = rw (release_b d t, waiting_b d t)

    -- ---- what passes at an instant comes late enough

    -- the task has a spacing only if that is one
    abbrev Gap : Table → Type 0
    Gap table = member n table.spaced ≡ true → 1 ≤ spacing table.columns n

    abbrev FarFrom : Table → Option ℕ → ℕ → Type 0
    FarFrom table l t = member n table.spaced ≡ true → (u : ℕ) → l ≡ Some u → u + spacing table.columns n ≤ t

    -- it comes after the last one, with a spacing or without
    abbrev Behind : Option ℕ → ℕ → Type 0
    Behind l t = (u : ℕ) → l ≡ Some u → u < t

    abbrev PassesBy : Table → Option ℕ → ℕ → Type 0
    PassesBy table l t = FarFrom table l t × Behind l t

    -- the last one is no later than the clock: what comes after the clock comes after it
    abbrev Past : Clock → LastRelease → Type 0
    Past c x = (t : ℕ) → ((u : ℕ) → c ≡ At u → u < t) → Behind x.tick t

    then_past : (b c : Bool) (t : ℕ) (x : LastRelease) → Behind x.tick t → Past (At t) (then_by b c t x)
    then_past b c t x f v o u e =
        ⊎_elim
        (λ i. let z : Some t ≡ Some u = sym i ∙ e in let y : t ≡ u = cc in omega (arith, o t refl))
        (λ i. omega (arith, o t refl, f u (sym i ∙ e)))
        (go b c x.waits refl)
      where
        go : (b c w : Bool) → x.waits ≡ w → ((then_by b c t x).tick ≡ Some t) ⊎ ((then_by b c t x).tick ≡ x.tick)
        go b true w k = inl refl
        go true false true k = inr (rw k)
        go true false false k = inl (rw k)
        go false false w k = inr refl

    module _ (d : State) (t set : ℕ) (x : LastRelease) (gap : Gap d.table) (h : LastIs x d.jobs.release d.waiting) where
      passed_far : member n (passed d t set) ≡ true → FarFrom d.table x.tick t
      passed_far m s u e =
          passes_after t (spacing d.table.columns n) u (previous_release (at_b d t).state n) (gap s)
          (not_soon (member n d.table.spaced) (comes_sooner t (spacing d.table.columns n) (previous_release (at_b d t).state n)) s
          (subst (λ (y : Table). not (member n y.spaced && comes_sooner t (spacing y.columns n) (previous_release (at_b d t).state n)) ≡ true) (table_b d t)
          (right (member n set) (not (soon_at (at_b d t).state t n)) (sym (passing_member (at_b d t).state t set n small) ∙ m))))
          (last_b d t ∙ last_is d x h ∙ e)
        where
          not_soon : (a b : Bool) → a ≡ true → not (a && b) ≡ true → b ≡ false
          not_soon true true e k = absurd (false≢true k)
          not_soon true false e k = refl
          not_soon false b e k = absurd (false≢true e)

      waits_b : member n (at_b d t).state.waiting.tasks ≡ x.waits
      waits_b = ap (λ (w : WaitingReleases). member n w.tasks) (waiting_b d t) ∙ sym h.waits_is

      taken_far : member n (taken_at d t set) ≡ true → x.waits ≡ false → FarFrom d.table x.tick t
      unfolding taken_at
      taken_far m w =
          passed_far (go (member n (at_b d t).state.jobs.pending) (member n (passed d t set))
          (subst (λ (y : Bool). is_taken (member n (at_b d t).state.jobs.pending) y (member n (passed d t set)) ≡ true) (waits_b ∙ w)
          (sym (taken_member (at_b d t).state (passed d t set) n small) ∙ m)))
        where
          go : (p s : Bool) → is_taken p false s ≡ true → s ≡ true
          go true s e = absurd (false≢true e)
          go false s e = e

      -- where one is taken and another set waiting, the first had waited; F is what is said of the last one
      deferred_so : (F : Option ℕ → Type 0) → (FarFrom d.table x.tick t → F x.tick) → member n (deferred_at d t set) ≡ true → F (taken_by (member n (taken_at d t set)) t x).tick
      unfolding taken_at deferred_at
      deferred_so F so m =
          subst F
          (sym (rw (taken_member (at_b d t).state (passed d t set) n small, waits_b) (stays (member n (at_b d t).state.jobs.pending) x.waits (member n (passed d t set)) refl found)))
          (so (passed_far (handed (member n (at_b d t).state.jobs.pending) x.waits (member n (passed d t set)) found)))
        where
          found : is_deferred (member n (at_b d t).state.jobs.pending) x.waits (member n (passed d t set)) ≡ true
          found =
              subst (λ (y : Bool). is_deferred (member n (at_b d t).state.jobs.pending) y (member n (passed d t set)) ≡ true) waits_b
              (sym (deferred_member (at_b d t).state (passed d t set) n small) ∙ m)

          handed : (p w s : Bool) → is_deferred p w s ≡ true → s ≡ true
          handed p w true e = refl
          handed true w false e = e
          handed false w false e = e

          stays : (p w s : Bool) → x.waits ≡ w → is_deferred p w s ≡ true
              → (taken_by (is_taken p w s) t x).tick ≡ x.tick
          stays true w s k e = refl
          stays false true s k e = rw k
          stays false false true k e = absurd (false≢true e)
          stays false false false k e = absurd (false≢true e)

      deferred_far : member n (deferred_at d t set) ≡ true → FarFrom d.table (taken_by (member n (taken_at d t set)) t x).tick t
      deferred_far m = deferred_so (λ l. FarFrom d.table l t) (λ f. f) m

      deferred_passes : member n (deferred_at d t set) ≡ true → Behind x.tick t → PassesBy d.table (taken_by (member n (taken_at d t set)) t x).tick t
      deferred_passes m later = deferred_so (λ l. PassesBy d.table l t) (λ f. (f, later)) m

    -- ---- along the calls

    pub apart : (table : Table) → Gap table → (cs : List Call) (d : State) → d.table ≡ table → (x : LastRelease) → LastIs x d.jobs.release d.waiting
        → let g : State = after_calls d cs in Apart (FarFrom table) (λ y. LastIs y g.jobs.release g.waiting) x (history d cs)
    apart table gap =
        walk_to
        (λ d h g. d.table ≡ table → (x : LastRelease) → LastIs x d.jobs.release d.waiting → Apart (FarFrom table) (λ y. LastIs y g.jobs.release g.waiting) x h)
        (λ d i x k. unfold Apart in k)
        (λ d t set cs e f i x k.
        let b : Bool = member n (taken_at d t set) in
        happens_apart (FarFrom table) (λ y. LastIs y (after_calls (at_g d t set) cs).jobs.release (after_calls (at_g d t set) cs).waiting) small d t set x (history (at_g d t set) cs)
        (λ m w. subst (λ (y : Table). FarFrom y x.tick t) i (taken_far d t set x (subst Gap (sym i) gap) k m w))
        (λ m. subst (λ (y : Table). FarFrom y (taken_by b t x).tick t) i (deferred_far d t set x (subst Gap (sym i) gap) k m))
        (f (table_g d t set ∙ i) (then_by b (member n (deferred_at d t set)) t x) (then_is d t set x k)))
        (λ d m e h g f i x k. f i x k)

    -- the same with what comes before, from a clock on that the last one is not behind
    pub passing : (table : Table) → Gap table → (cs : List Call) (d : State) → d.table ≡ table → (x : LastRelease) → LastIs x d.jobs.release d.waiting → Past d.clock x
        → let g : State = after_calls d cs in Apart (PassesBy table) (λ y. LastIs y g.jobs.release g.waiting) x (history d cs)
    passing table gap =
        walk_to
        (λ d h g. d.table ≡ table → (x : LastRelease) → LastIs x d.jobs.release d.waiting → Past d.clock x → Apart (PassesBy table) (λ y. LastIs y g.jobs.release g.waiting) x h)
        (λ d i x k p. unfold Apart in k)
        (λ d t set cs e f i x k p.
        let b : Bool = member n (taken_at d t set) in
        let y : LastRelease = then_by b (member n (deferred_at d t set)) t x in
        let later : Behind x.tick t = p t (λ u c. strictly_onward d t set u e c) in
        happens_apart (PassesBy table) (λ y. LastIs y (after_calls (at_g d t set) cs).jobs.release (after_calls (at_g d t set) cs).waiting) small d t set x (history (at_g d t set) cs)
        (λ m w. (subst (λ (y : Table). FarFrom y x.tick t) i (taken_far d t set x (subst Gap (sym i) gap) k m w), later))
        (λ m. subst (λ (y : Table). PassesBy y (taken_by b t x).tick t) i (deferred_passes d t set x (subst Gap (sym i) gap) k m later))
        (f (table_g d t set ∙ i) y (then_is d t set x k)
        (subst (λ (c : Clock). Past c y) (sym (clock_g d t set)) (then_past b (member n (deferred_at d t set)) t x later))))
        (λ d m e h g f i x k p. f i x k p)

  -- ---- the claim's words

  -- whether the last one waits, by either walk
  waits_alike : (x : LastRelease) (e : Event) → (last_by n x e).waits ≡ waits_by n x.waits e
  waits_alike x (Comes t) = refl
  waits_alike x (Starts k t) = refl
  waits_alike x (Stops k t) = refl
  waits_alike x (Finishes k) = refl
  waits_alike x (Completes k t) = refl
  waits_alike x (Ends t) = refl
  waits_alike x (Takes k t m) = by-test (eqb n k) (λ e. rw e) (λ e. rw e)
  waits_alike x (Defers k t) = by-test (eqb n k) (λ e. rw e) (λ e. rw e)
  waits_alike x (GivesWay k) = refl
  waits_alike x (Begins t r l) = refl

  walked_alike : (es : List Event) (x : LastRelease) → (after (last_by n) x es).waits ≡ waits_in n x.waits es
  unfolding after
  walked_alike [] x = refl
  walked_alike (e ∷ es) x = walked_alike es (last_by n x e) ∙ ap (λ (b : Bool). waits_in n b es) (waits_alike x e)

  -- none waits where the claim's walk finds none
  none_waits : (before : List Event) → waiting n None before ≡ None → (after (last_by n) no_last before).waits ≡ false
  none_waits before w = walked_alike before no_last ∙ sym (held_is n before None) ∙ ap (stands n) w

  -- what is known of a release that is set waiting
  pub deferral_so : (small : n < 32) (table : Table) (End : LastRelease → Type 0) (h : List Event) → Apart (PassesBy small table) End no_last h
      → (before after : List Event) (t : ℕ) → h ≡ before ++ (Defers n t ∷ after) → PassesBy small table (last_released n before) t
  deferral_so small table End h a before after t e =
      apart_at (PassesBy small table) End before (Defers n t) after no_last (subst (Apart (PassesBy small table) End no_last) e a) (rw (same_task n))

  pub spaced_so : (small : n < 32) (table : Table) (End : LastRelease → Type 0) (h : List Event) → member n table.spaced ≡ true
      → Apart (FarFrom small table) End no_last h → Spaced n table h
  spaced_so small table End h s a = record {
    at_taking = λ before after t u m e w l.
        apart_at (FarFrom small table) End before (Takes n t m) after no_last (subst (Apart (FarFrom small table) End no_last) e a)
        (both (eqb n n) (not (After before).waits) (same_task n) (ap not (none_waits before w))) s u l;
    at_waiting = λ before after t u e l.
        apart_at (FarFrom small table) End before (Defers n t) after no_last (subst (Apart (FarFrom small table) End no_last) e a)
        (rw (same_task n)) s u l;
  }
    where
      After : List Event → LastRelease
      After before = after (last_by n) no_last before

-- at the opening none has been taken or set waiting
pub opened_last : (table : Table) (marks k : ℕ) → k < 32 → LastIs k no_last (opened table marks).jobs.release (opened table marks).waiting
unfolding opened
opened_last table marks k l = record { releases = l; times = l; waits_is = sym (none k); tick_is = rw (none k) }

module _ (table : Table) (marks : ℕ) (fair : Fair table marks) (n : ℕ) (small : n < 32) (calls : List Call) where
  abbrev d : State
  d = opened table marks

  abbrev g : State
  g = after_calls (opened table marks) calls

  opened_table : (opened table marks).table ≡ table
  unfolding opened
  opened_table = refl

  all_apart : Apart n (FarFrom n small table) (λ y. LastIs n y g.jobs.release g.waiting) no_last (history d calls)
  all_apart = apart n small table (λ s. (fair.spacings n s).0) calls d opened_table no_last (opened_last table marks n small)

  all_passing : Apart n (PassesBy n small table) (λ y. LastIs n y g.jobs.release g.waiting) no_last (history d calls)
  all_passing = passing n small table (λ s. (fair.spacings n s).0) calls d opened_table no_last (opened_last table marks n small) (λ t o u e. absurd (let z : ◌≡◌ {A = ℕ} 0 1 = cc in omega arith))

  pub last_releases : previous_release g n ≡ last_released n (history d calls)
  last_releases =
      last_is n small g (after (last_by n) no_last (history d calls))
      (apart_end n (FarFrom n small table) (λ y. LastIs n y g.jobs.release g.waiting) (history d calls) no_last all_apart)

  pub spaced : member n table.spaced ≡ true → Spaced n table (history d calls)
  spaced s = spaced_so n small table (λ y. LastIs n y g.jobs.release g.waiting) (history d calls) s all_apart

  pub deferral : (before after : List Event) (t u : ℕ) → history d calls ≡ before ++ (Defers n t ∷ after) → last_released n before ≡ Some u → u < t
  deferral before after t u e l = (deferral_so n small table (λ y. LastIs n y g.jobs.release g.waiting) (history d calls) all_passing before after t e).1 u l
