-- A copy-in gives way only to a marked job of strictly higher priority that is taken at the same instant: the marked jobs of an instant, gathered along it,
-- and what step d finds among them.
use Rattle.std.proofs.Common.{◌≡◌, ◌∷◌, ◌++◌, ◌⊎◌, ◌≤◌, ◌<◌}
use Rattle.guarantees.specs.Types.{refl, sym, ap, ◌∙◌, subst, Bool, true, false, cond, false≢true, List, [], append_assoc, inl, inr, ⊎_elim, ℕ, zero, suc, Option, None, Some, CopyIn, Interval, Phase, Within, Table, State, Call}
use native.Mathlib.Omega.{arith}
use borrow.Author.Tests.{eqb-true, eqb-false, ltb-true}
use lib.Dec.{eqb}
use lib.ListN.{get_or}
use Rattle.sets.specs.Sets.{member, intersection, insert}
use Rattle.sets.proofs.Laws.{clash, intersection_left, intersection_right, insert_same, insert_other}
use Rattle.rules.specs.Order.{highest_of, outranks}
use Rattle.rules.specs.Instant.{step_c, step_d, step_e, cancel, steps_c_d, steps_c_to_e, at_b, at_e, at_f, at_g, taken_at, deferred_at}
use Rattle.guarantees.specs.History.{Event, Comes, Starts, Stops, Finishes, Completes, Ends, Takes, Defers, GivesWay, Begins, given_way, giving_events, giving_events_in, take_events, happens, history}
use Rattle.guarantees.specs.Queries.{details, gives_way, after}
use Rattle.guarantees.specs.Intervals.{came_by, Cause}
use Rattle.guarantees.proofs.Walk.{walk}
use Rattle.guarantees.proofs.Cases.{HeldFor, d_fates, e_cases}
use Rattle.guarantees.proofs.Events.{by_front, by_defers, by_ends, by_begins, by_starts, tail_of, happens_parts, tail_parts}
use Rattle.guarantees.proofs.Frames.{table_b, marked_b, table_g}
use Rattle.guarantees.proofs.Highest.{Best, best}
use Rattle.guarantees.proofs.Courses.{gives_same, c_gives, choose_gives}

module _ (pr : List ℕ) where
  -- ---- along a history

  unfoldable pub Caused : ℕ → List Event → Type 0
  Caused s [] = Unit {0}
  Caused s (e ∷ es) = ((n : ℕ) → gives_way e ≡ true → (details e).task ≡ Some n → Cause pr s n) × Caused (came_by s e) es

  at_giving : (before rest : List Event) (n s : ℕ) → Caused s (before ++ (GivesWay n ∷ rest)) → Cause pr (after came_by s before) n
  unfolding Caused after
  at_giving [] rest n s h = h.0 n refl refl
  at_giving (e ∷ es) rest n s h = at_giving es rest n (came_by s e) h.1

  other : (e : Event) → gives_way e ≡ false → (s : ℕ) (es : List Event) → Caused (came_by s e) es → Caused s (e ∷ es)
  unfolding Caused
  other e x s es h = (λ n y z. absurd (false≢true (sym x ∙ y)), h)

  abbrev Any : List Event → Type 0
  Any es = (s : ℕ) → Caused s es

  any_other : (e : Event) → gives_way e ≡ false → (es : List Event) → Any es → Any (e ∷ es)
  any_other e x es h s = other e x s es (h (came_by s e))

  -- ---- the takings of an instant

  -- of the tasks below k, those that are taken and marked are there
  abbrev Has : ℕ → ℕ → ℕ → ℕ → Type 0
  Has k taken w s = (j : ℕ) → j < k → member j taken ≡ true → member j w ≡ true → member j s ≡ true

  has_more : (k taken w s : ℕ) → k < 32 → Has k taken w s → Has (suc k) taken w (cond (member k w) (insert k s) s)
  has_more k taken w s l h j m x y = ⊎_elim here (λ z. older (member k w) (h j z x y)) (apart (eqb j k) refl)
    where
      apart : (b : Bool) → eqb j k ≡ b → (eqb j k ≡ true) ⊎ (j < k)
      apart true e = inl e
      apart false e = inr (omega (arith, eqb-false j k e))

      here : eqb j k ≡ true → member j (cond (member k w) (insert k s) s) ≡ true
      here z = subst (λ (b : Bool). member j (cond b (insert k s) s) ≡ true) (sym y ∙ ap (λ (i : ℕ). member i w) (eqb-true j k z)) (insert_same k s j (omega arith) z)

      older : (b : Bool) → member j s ≡ true → member j (cond b (insert k s) s) ≡ true
      older true z = insert_other k s j (omega arith) z
      older false z = z

  has_on : (k taken w s : ℕ) → member k taken ≡ false → Has k taken w s → Has (suc k) taken w s
  has_on k taken w s e h j m x y = go (eqb j k) refl
    where
      go : (b : Bool) → eqb j k ≡ b → member j s ≡ true
      go true z = clash (member j taken) x (ap (λ (i : ℕ). member i taken) (eqb-true j k z) ∙ e)
      go false z = h j (omega (arith, eqb-false j k z)) x y

  takes_caused : (k taken w t : ℕ) → k ≤ 32 → (rest : List Event) → ((s : ℕ) → Has k taken w s → Caused s rest) → (s : ℕ) → Caused s (take_events k taken w t ++ rest)
  unfolding take_events
  takes_caused zero taken w t l rest f s = f s (λ j m. absurd (omega arith))
  takes_caused (suc k) taken w t l rest f s =
      rw (append_assoc (take_events k taken w t) (cond (member k taken) (Takes k t (member k w) ∷ []) []) rest)
      (takes_caused k taken w t (omega arith) (cond (member k taken) (Takes k t (member k w) ∷ []) [] ++ rest) (λ z h. go (member k taken) refl z h) s)
    where
      go : (b : Bool) → member k taken ≡ b → (z : ℕ) → Has k taken w z → Caused z (cond b (Takes k t (member k w) ∷ []) [] ++ rest)
      go true e z h = other (Takes k t (member k w)) refl z rest (f (cond (member k w) (insert k z) z) (has_more k taken w z (omega arith) h))
      go false e z h = f z (has_on k taken w z e h)

  -- ---- step d

  -- task n gives way to one of these
  abbrev By : ℕ → ℕ → ℕ → Type 0
  By taken w n = (k : ℕ) × (k < 32) × (member k taken ≡ true) × (member k w ≡ true) × (get_or pr k 0 < get_or pr n 0)

  abbrev Gave : ℕ → ℕ → Phase → Phase → Type 0
  Gave taken w p q = (giving_events_in p q ≡ []) ⊎ ((n : ℕ) × (giving_events_in p q ≡ GivesWay n ∷ []) × By taken w n)

  outranked : (d : State) (n taken : ℕ) (q : Option ℕ) → d.table.priority ≡ pr → Best d.table.priority (intersection taken d.marked) q → outranks d n q ≡ true → By taken d.marked n
  outranked d n taken None e b o = absurd (false≢true o)
  outranked d n taken (Some k) e b o = (
    k,
    b.0,
    intersection_left taken d.marked k b.1,
    intersection_right taken d.marked k b.1,
    subst (λ (l : List ℕ). get_or l k 0 < get_or l n 0) e (ltb-true (get_or d.table.priority k 0) (get_or d.table.priority n 0) o),
  )

  d_gave : (d : State) (taken : ℕ) → d.table.priority ≡ pr → Gave taken d.marked d.phase (step_d d taken d.phase).phase
  d_gave d taken e =
      d_fates (λ z. Gave taken d.marked d.phase z.phase) d taken (inl (gives_same pr d.phase))
      (λ i n fate x h b. inr (
        n,
        subst (λ (p : Phase). giving_events_in p (cancel d i n fate true).phase ≡ GivesWay n ∷ []) (sym x) (gives i n fate h),
        outranked d n taken (highest_of d (intersection taken d.marked)) e (best d.table.priority (λ k. get_or d.jobs.release k 0) (intersection taken d.marked)) b,
      ))
    where
      gives : (i : Interval) (n fate : ℕ) → HeldFor i.copyin n fate → giving_events_in (Within i) (cancel d i n fate true).phase ≡ GivesWay n ∷ []
      gives i n fate h =
          unfold cancel giving_events_in giving_events in
          ⊎_elim (λ z. ap (λ (c : CopyIn). giving_events (given_way c) (Some n)) z.1) (λ z. ap (λ (c : CopyIn). giving_events (given_way c) (Some n)) z.0) h

  pub c_same : (d : State) (t taken deferred : ℕ) (q : Phase) → giving_events_in (step_c d t taken deferred).phase q ≡ giving_events_in d.phase q
  unfolding step_c
  c_same d t taken deferred q = c_gives pr d taken d.phase q

  pub e_same : (d : State) (t : ℕ) (p : Phase) → giving_events_in p (step_e d t d.phase).phase ≡ giving_events_in p d.phase
  e_same d t p =
      e_cases (λ z. giving_events_in p z.phase ≡ giving_events_in p d.phase) d t refl
      (λ i x u v. choose_gives pr d t i (highest_of d d.jobs.ready) p u ∙ ap (giving_events_in p) (sym x))

  c_gave : (d : State) (t taken deferred : ℕ) → d.table.priority ≡ pr
      → let c : State = step_c d t taken deferred in Gave taken d.marked c.phase (step_d c taken c.phase).phase
  unfolding step_c
  c_gave d t taken deferred e = d_gave (step_c d t taken deferred) taken e

  e_gave : (d : State) (t taken deferred : ℕ) → d.table.priority ≡ pr → Gave taken d.marked d.phase (steps_c_to_e d t taken deferred).phase
  unfolding steps_c_to_e steps_c_d
  e_gave d t taken deferred e =
      let c : State = step_c d t taken deferred in
      let y : State = step_d c taken c.phase in
      let same : giving_events_in d.phase (step_e y t y.phase).phase ≡ giving_events_in c.phase y.phase =
      sym (c_same d t taken deferred (step_e y t y.phase).phase) ∙ e_same y t c.phase in
      ⊎_elim (λ h. inl (same ∙ h)) (λ h. inr (h.0, same ∙ h.1, h.2)) (c_gave d t taken deferred e)

  -- ---- an instant

  gives_caused : (s taken w : ℕ) (p q : Phase) (ys : List Event) → Has 32 taken w s → Gave taken w p q → Any ys → Caused s (giving_events_in p q ++ ys)
  unfolding Caused
  gives_caused s taken w p q ys h g any =
      ⊎_elim (λ x. rw (x) (any s))
      (λ x. rw x.1 ((λ n y z. let c = x.2 in (c.0, c.1, h c.0 c.1 c.2 c.3, subst (λ (i : ℕ). get_or pr c.0 0 < get_or pr i 0) (number x.0 n z) c.4)), any s)) g
    where
      number : (a b : ℕ) → Some a ≡ Some b → a ≡ b
      number a b e = cc

  e_gave_at : (d : State) (t set : ℕ) → d.table.priority ≡ pr → Gave (taken_at d t set) d.marked (at_b d t).state.phase (at_e d t set).phase
  unfolding at_e
  e_gave_at d t set e =
      subst (λ (w : ℕ). Gave (taken_at d t set) w (at_b d t).state.phase (steps_c_to_e (at_b d t).state t (taken_at d t set) (deferred_at d t set)).phase) (marked_b d t)
      (e_gave (at_b d t).state t (taken_at d t set) (deferred_at d t set) (ap (λ (x : Table). x.priority) (table_b d t) ∙ e))

  tail_caused : (d : State) (t set : ℕ) (es : List Event) → d.table.priority ≡ pr → Any es → (s : ℕ) → Has 32 (taken_at d t set) d.marked s → Caused s (tail_of d t set ++ es)
  tail_caused d t set es e any s h =
      rw (tail_parts d t set es)
      (by_defers (Caused s) 32 (deferred_at d t set) t (λ k l m zs x. other (Defers k t) refl s zs x) _
      (gives_caused s (taken_at d t set) d.marked (at_b d t).state.phase (at_e d t set).phase _ h (e_gave_at d t set e)
      (by_ends Any t (any_other (Ends t) refl) (at_e d t set).phase (at_f d t set).state.phase _
      (by_begins Any t (λ r l. any_other (Begins t r l) refl) (at_f d t set).state.phase (at_g d t set).phase _
      (by_starts Any t (λ n. any_other (Starts n t) refl) (at_f d t set).state.phase (at_g d t set).phase es any)))))

  happens_caused : (d : State) (t set : ℕ) (es : List Event) → d.table.priority ≡ pr → Any es → Any (happens d t set ++ es)
  happens_caused d t set es e any =
      rw (happens_parts d t set es)
      (by_front Any (λ u. any_other (Comes u) refl) (λ k u. any_other (Starts k u) refl) (λ k u. any_other (Stops k u) refl) (λ k. any_other (Finishes k) refl)
      (λ k u. any_other (Completes k u) refl) (λ u. any_other (Ends u) refl) d t (take_events 32 (taken_at d t set) d.marked t ++ (tail_of d t set ++ es))
      (takes_caused 32 (taken_at d t set) d.marked t (omega arith) (tail_of d t set ++ es) (tail_caused d t set es e any)))

  -- ---- along the calls

  all_caused : (cs : List Call) (d : State) → d.table.priority ≡ pr → Any (history d cs)
  all_caused =
      walk (λ d h. d.table.priority ≡ pr → Any h) (λ d e s. unfold Caused in tt)
      (λ d t set cs e k x. happens_caused d t set (history (at_g d t set) cs) x (k (ap (λ (y : Table). y.priority) (table_g d t set) ∙ x)))
      (λ d m e h k x. k x)

  pub cause : (cs : List Call) (d : State) → d.table.priority ≡ pr → (before rest : List Event) (n : ℕ) → history d cs ≡ before ++ (GivesWay n ∷ rest)
      → Cause pr (after came_by 0 before) n
  cause cs d e before rest n x = at_giving before rest n 0 (subst (Caused 0) x (all_caused cs d e 0))
