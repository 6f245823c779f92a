-- The balance of the releases of a task, instant by instant and along the calls.
use Rattle.std.proofs.Common.{◌≡◌, ◌&&◌, ◌||◌, ◌∷◌, ◌++◌, ◌⊎◌, ◌+◌, ◌≤◌, ◌<◌}
use Rattle.guarantees.specs.Types.{refl, sym, ap, ◌∙◌, subst, Bool, true, false, cond, not, false≢true, List, [], inl, inr, ⊎_elim, ℕ, Table, State, WaitingReleases, Call, Instant, Occurred, Ok, Err, None, Some}
use mathlib.Core.List.{append-nil}
use native.Mathlib.Omega.{arith}
use native.Mathlib.Nat.{zero-add}
use borrow.Author.Tests.{ne_eqb}
use lib.Dec.{eqb}
use Rattle.sets.specs.Sets.{member, bit}
use Rattle.sets.proofs.Laws.{by-test, both, left, right, one_of, clash, same_task}
use Rattle.table.specs.Table.{spacing}
use Rattle.rules.specs.Instant.{previous_release, comes_sooner, at_b, at_e, at_f, at_g, taken_at, deferred_at, skipped_at, occurred}
use Rattle.rules.specs.Calls.{refusal, instant}
use Rattle.guarantees.specs.History.{Event, Takes, Defers, happens, by_call, history, after_calls, take_events, defer_events, giving_events_in, end_events, begin_events, start_events}
use Rattle.guarantees.specs.Queries.{after, first, taking, waiting, last_released}
use Rattle.guarantees.specs.Releases.{Fates, no_release, fates_by, fates, Balance, Sooner, FindsWaiting, Placed}
use Rattle.guarantees.specs.Entries.{answer_of, all_occurred, handed_in, skips}
use Rattle.guarantees.proofs.Walk.{with_marks, each_call, served, refused_answer}
use Rattle.guarantees.proofs.Events.{by_front, by_takes, by_defers, front_of, tail_of, happens_parts, tail_parts}
use Rattle.guarantees.proofs.Frames.{table_b, waiting_b}
use Rattle.guarantees.proofs.Releases.{is_taken, is_deferred, is_skipped, is_waiting, taken_member, deferred_member, waits_member, taken_from, soon_at, passing_member, passing_from, passed, skipped_at_member, waits_g}
use Rattle.guarantees.proofs.Deferred.{at_task, by_rest, waits_in, alone, alone_end}
use Rattle.guarantees.proofs.Turns.{stands, held_is, none_held, some_held}
use Rattle.guarantees.proofs.LastReleases.{last_b, sooner_than, is_sooner}
use Rattle.guarantees.proofs.Remembered.{served_so}

module _ (n : ℕ) (small : n < 32) where
  abbrev F : Fates → List Event → Fates
  F = after (fates_by n)

  -- one that is taken, and one that is set waiting
  abbrev took : Fates → Fates
  took x = record { at_once = cond (not x.waits) (x.at_once + 1) x.at_once; set_waiting = x.set_waiting; later = cond x.waits (x.later + 1) x.later; waits = false }

  abbrev put_off : Fates → Fates
  put_off x = record { at_once = x.at_once; set_waiting = x.set_waiting + 1; later = x.later; waits = true }

  -- ---- at an instant

  module _ (z : Fates) where
    abbrev To : Fates → List Event → Type 0
    To x es = F x es ≡ z

    front_fates : (d : State) (t : ℕ) (x : Fates) (es : List Event) → To x es → To x (front_of d t ++ es)
    unfolding after
    front_fates d t x es h =
        by_front (To x) (λ u es h. h) (λ k u es h. h) (λ k u es h. h) (λ k es h. h) (λ k u es h. h) (λ u es h. h) d t es h

    takes_fates : (taken marked t : ℕ) (x : Fates) (es : List Event) → To (cond (member n taken) (took x) x) es → To x (take_events 32 taken marked t ++ es)
    unfolding take_events after
    takes_fates taken marked t x es h =
        at_task n taken (λ k. Takes k t (member k marked)) (λ k. take_events k taken marked t) refl (λ k. refl) To
        (λ x k e es h. rw e h) x (took x) (λ m es h. rw (same_task n) h) 32 small es h

    defers_fates : (deferred t : ℕ) (x : Fates) (es : List Event) → To (cond (member n deferred) (put_off x) x) es → To x (defer_events 32 deferred t ++ es)
    unfolding defer_events after
    defers_fates deferred t x es h =
        at_task n deferred (λ k. Defers k t) (λ k. defer_events k deferred t) refl (λ k. refl) To
        (λ x k e es h. rw e h) x (put_off x) (λ m es h. rw (same_task n) h) 32 small es h

    tail_fates : (d : State) (t set : ℕ) (x : Fates) (es : List Event) → To (cond (member n (deferred_at d t set)) (put_off x) x) es → To x (tail_of d t set ++ es)
    unfolding after
    tail_fates d t set x es h =
        let y : Fates = cond (member n (deferred_at d t set)) (put_off x) x in
        rw (tail_parts d t set es)
        (defers_fates (deferred_at d t set) t x _ (by_rest (To y) (λ k es h. h) (λ u es h. h) (λ u r l es h. h) (λ k u es h. h) d t set es h))

  -- what an instant makes of them
  abbrev made : State → ℕ → ℕ → Fates → Fates
  made d t set x =
      let y : Fates = cond (member n (taken_at d t set)) (took x) x in
      cond (member n (deferred_at d t set)) (put_off y) y

  happens_fates : (d : State) (t set : ℕ) (x : Fates) (h : List Event) → F x (happens d t set ++ h) ≡ F (made d t set x) h
  happens_fates d t set x h =
      let y : Fates = cond (member n (taken_at d t set)) (took x) x in
      let z : Fates = F (made d t set x) h in
      ap (F x) (happens_parts d t set h)
      ∙ front_fates z d t x (take_events 32 (taken_at d t set) d.marked t ++ (tail_of d t set ++ h))
      (takes_fates z (taken_at d t set) d.marked t x (tail_of d t set ++ h) (tail_fates z d t set y h refl))

  -- ---- the balance

  -- from some fates to others, where so many are handed in and skipped
  record Goes (x y : Fates) (handed skipped : ℕ) : Type 0 where
    handed_is : x.at_once + x.set_waiting + handed ≡ y.at_once + y.set_waiting + skipped
    waiting_is : y.set_waiting + x.later + bit x.waits ≡ x.set_waiting + y.later + bit y.waits

  goes : (p w s : Bool) (a b c : ℕ) → let x : Fates = record { at_once = a; set_waiting = b; later = c; waits = w } in
      let y : Fates = cond (is_taken p w s) (took x) x in
      Goes x (cond (is_deferred p w s) (put_off y) y) (bit s) (bit (is_skipped p w s))
  goes true true true a b c = record { handed_is = omega arith; waiting_is = omega arith }
  goes true true false a b c = record { handed_is = omega arith; waiting_is = omega arith }
  goes true false true a b c = record { handed_is = omega arith; waiting_is = omega arith }
  goes true false false a b c = record { handed_is = omega arith; waiting_is = omega arith }
  goes false true true a b c = record { handed_is = omega arith; waiting_is = omega arith }
  goes false true false a b c = record { handed_is = omega arith; waiting_is = omega arith }
  goes false false true a b c = record { handed_is = omega arith; waiting_is = omega arith }
  goes false false false a b c = record { handed_is = omega arith; waiting_is = omega arith }

  -- also with those that come too soon (x), which are skipped and not among those that pass
  goes_spaced : (p w s x : Bool) (a b c : ℕ) → let f : Fates = record { at_once = a; set_waiting = b; later = c; waits = w } in
      let y : Fates = cond (is_taken p w (s && not x)) (took f) f in
      Goes f (cond (is_deferred p w (s && not x)) (put_off y) y) (bit s) (bit ((s && x) || is_skipped p w (s && not x)))
  goes_spaced p w true true a b c =
      let g = goes p w false a b c in record { handed_is = omega (arith, g.handed_is, ap bit (none_behind p w)); waiting_is = g.waiting_is }
    where
      none_behind : (p w : Bool) → is_skipped p w false ≡ false
      none_behind true w = refl
      none_behind false w = refl
  goes_spaced p w true false a b c = goes p w true a b c
  goes_spaced p w false x a b c = goes p w false a b c

  waits_then : (p w s : Bool) (a b c : ℕ) → let x : Fates = record { at_once = a; set_waiting = b; later = c; waits = w } in
      let y : Fates = cond (is_taken p w s) (took x) x in (cond (is_deferred p w s) (put_off y) y).waits ≡ is_waiting p w s
  waits_then true true true a b c = refl
  waits_then true true false a b c = refl
  waits_then true false true a b c = refl
  waits_then true false false a b c = refl
  waits_then false true true a b c = refl
  waits_then false true false a b c = refl
  waits_then false false true a b c = refl
  waits_then false false false a b c = refl

  module _ (d : State) (t set : ℕ) (x : Fates) (agrees : x.waits ≡ member n d.waiting.tasks) where
    abbrev B : State
    B = (at_b d t).state

    abbrev P : Bool
    P = member n B.jobs.pending

    same : member n B.waiting.tasks ≡ x.waits
    same = ap (λ (w : WaitingReleases). member n w.tasks) (waiting_b d t) ∙ sym agrees

    abbrev S : Bool
    S = member n (passed d t set)

    abbrev X : Bool
    X = soon_at B t n

    taken_is : member n (taken_at d t set) ≡ is_taken P x.waits S
    unfolding taken_at
    taken_is = taken_member B (passed d t set) n small ∙ ap (λ (w : Bool). is_taken P w S) same

    deferred_is : member n (deferred_at d t set) ≡ is_deferred P x.waits S
    unfolding deferred_at
    deferred_is = deferred_member B (passed d t set) n small ∙ ap (λ (w : Bool). is_deferred P w S) same

    skipped_is : member n (occurred d t set).skipped ≡ ((member n set && X) || is_skipped P x.waits S)
    unfolding occurred
    skipped_is = skipped_at_member d t set n small ∙ ap (λ (w : Bool). (member n set && X) || is_skipped P w S) same

    instant_goes : Goes x (made d t set x) (bit (member n set)) (bit (member n (occurred d t set).skipped))
    instant_goes =
        rw (taken_is, deferred_is, skipped_is, passing_member B t set n small)
        (goes_spaced P x.waits (member n set) X x.at_once x.set_waiting x.later)

    instant_waits : (made d t set x).waits ≡ member n (at_g d t set).waiting.tasks
    instant_waits =
        rw (taken_is, deferred_is)
        (waits_then P x.waits S x.at_once x.set_waiting x.later
        ∙ ap (λ (w : Bool). is_waiting P w S) (sym same) ∙ sym (waits_member B (passed d t set) n small) ∙ ap (member n) (sym (waits_g d t set)))

  goes_on : (x y z : Fates) (a b c e : ℕ) → Goes x y a b → Goes y z c e → Goes x z (a + c) (b + e)
  goes_on x y z a b c e g h =
      record { handed_is = omega (arith, g.handed_is, h.handed_is); waiting_is = omega (arith, g.waiting_is, h.waiting_is) }

  -- ---- along the calls

  balance : (cs : List Call) (d : State) (x : Fates) → x.waits ≡ member n d.waiting.tasks → Goes x (F x (history d cs)) (handed_in n d cs) (skips n (all_occurred d cs))
  unfolding handed_in history all_occurred skips by_call answer_of
  balance [] d x a = unfold after in record { handed_is = refl; waiting_is = refl }
  balance (c ∷ cs) d x a =
      ⊎_elim
      (λ s. subst (λ (c : Call). Goes x (F x (history d (c ∷ cs))) (handed_in n d (c ∷ cs)) (skips n (all_occurred d (c ∷ cs)))) (sym s.is)
      (at_instant s.time s.set s.no_row (λ g y b. balance cs g y b)))
      (λ q. rw (q.unserved, q.leaves, zero-add) (balance cs (with_marks d q.marks) x a))
      (each_call d c)
    where
      at_instant : (t set : ℕ) → eqb (refusal d t set) 0 ≡ true
          → ((g : State) (y : Fates) → y.waits ≡ member n g.waiting.tasks → Goes y (F y (history g cs)) (handed_in n g cs) (skips n (all_occurred g cs)))
          → let i : Call = Instant t set in
          Goes x (F x (history d (i ∷ cs))) (handed_in n d (i ∷ cs)) (skips n (all_occurred d (i ∷ cs)))
      at_instant t set e on =
          rw (e, served d t set e, happens_fates d t set x (history (at_g d t set) cs))
          (goes_on x (made d t set x) (F (made d t set x) (history (at_g d t set) cs)) _ _ _ _ (instant_goes d t set x a)
          (on (at_g d t set) (made d t set x) (instant_waits d t set x a)))

  pub balanced : (d : State) (cs : List Call) → member n d.waiting.tasks ≡ false → Balance n (handed_in n d cs) (skips n (all_occurred d cs)) (history d cs)
  balanced d cs e =
      let g : Goes no_release (fates n (history d cs)) (handed_in n d cs) (skips n (all_occurred d cs)) = balance cs d no_release (sym e) in
      record { each_handed = omega (arith, g.handed_is); each_waiting = omega (arith, g.waiting_is) }

  -- ---- an instant

  -- what waits, by the history and by the state
  waits_in_state : (d : State) (cs : List Call) → member n d.waiting.tasks ≡ false → stands n (waiting n None (history d cs)) ≡ member n (after_calls d cs).waiting.tasks
  waits_in_state d cs e =
      held_is n (history d cs) None
      ∙ ap (λ (b : Bool). waits_in n b (history d cs)) (sym e)
      ∙ alone_end n (history d cs) (member n (after_calls d cs).waiting.tasks) (member n d.waiting.tasks) (alone n small d cs)

  waits_so : (d : State) (cs : List Call) → member n d.waiting.tasks ≡ false → member n (after_calls d cs).waiting.tasks ≡ true
      → (u : ℕ) × (waiting n None (history d cs) ≡ Some u)
  waits_so d cs e m = some_held n (waiting n None (history d cs)) (waits_in_state d cs e ∙ m)

  pub none_waits_so : (d : State) (cs : List Call) → member n d.waiting.tasks ≡ false → member n (after_calls d cs).waiting.tasks ≡ false
      → waiting n None (history d cs) ≡ None
  none_waits_so d cs e m = none_held n (waiting n None (history d cs)) (waits_in_state d cs e ∙ m)

  abbrev As : List Event → List Event → Type 0
  As ys zs = taking n zs ≡ taking n ys

  none_taken : (d : State) (t set : ℕ) → member n (taken_at d t set) ≡ false → taking n (happens d t set) ≡ None
  unfolding first
  none_taken d t set e =
      ap (taking n) (sym (append-nil (happens d t set)) ∙ happens_parts d t set [])
      ∙ by_front (As (takes ++ tail)) (λ u es h. h) (λ k u es h. h) (λ k u es h. h) (λ k es h. h) (λ k u es h. h) (λ u es h. h) d t (takes ++ tail) refl
      ∙ by_takes (As tail) 32 (taken_at d t set) d.marked t
      (λ k l m es h. let z : eqb n k ≡ false = ne_eqb n k (λ x. clash (member n (taken_at d t set)) (ap (λ (j : ℕ). member j (taken_at d t set)) x ∙ m) e) in rw z h) tail refl
      ∙ ap (taking n) (tail_parts d t set [])
      ∙ by_defers (As rest) 32 (deferred_at d t set) t (λ k l m es h. h) rest refl
      ∙ by_rest (As []) (λ k es h. h) (λ u es h. h) (λ u r l es h. h) (λ k u es h. h) d t set [] refl
    where
      takes : List Event
      takes = take_events 32 (taken_at d t set) d.marked t

      tail : List Event
      tail = tail_of d t set ++ []

      rest : List Event
      rest =
          giving_events_in (at_b d t).state.phase (at_e d t set).phase
          ++ (end_events t (at_e d t set).phase (at_f d t set).state.phase
          ++ (begin_events t (at_f d t set).state.phase (at_g d t set).phase
          ++ (start_events t (at_f d t set).state.phase (at_g d t set).phase ++ [])))

  -- what is taken at an instant is, by its events
  abbrev Found : ℕ → Bool → List Event → Type 0
  Found t found es = cond found (Unit {0}) (taking n es ≡ Some t)

  some_taken : (d : State) (t set : ℕ) → member n (taken_at d t set) ≡ true → taking n (happens d t set) ≡ Some t
  unfolding first take_events
  some_taken d t set m =
      ap (taking n) (sym (append-nil (happens d t set)) ∙ happens_parts d t set [])
      ∙ by_front (As (takes ++ tail)) (λ u es h. h) (λ k u es h. h) (λ k u es h. h) (λ k es h. h) (λ k u es h. h) (λ u es h. h) d t (takes ++ tail) refl
      ∙ at_task n (taken_at d t set) (λ k. Takes k t (member k d.marked)) (λ k. take_events k (taken_at d t set) d.marked t) refl (λ k. refl) (Found t) other false true
      (λ x es h. rw (same_task n) refl) 32 small tail (rw m tt)
    where
      takes : List Event
      takes = take_events 32 (taken_at d t set) d.marked t

      tail : List Event
      tail = tail_of d t set ++ []

      other : (x : Bool) (k : ℕ) → eqb n k ≡ false → (es : List Event) → Found t x es → Found t x (Takes k t (member k d.marked) ∷ es)
      other true k e es h = tt
      other false k e es h = unfold first in rw e h

  happens_by : (d : State) (t set : ℕ) (o : Occurred) → (instant d t set).answer ≡ Ok o → (by_call d (Instant t set) ≡ happens d t set) × (occurred d t set ≡ o)
  unfolding by_call
  happens_by d t set o h = (by-test (eqb (refusal d t set) 0) (λ e. rw e) (λ e. absurd (not_served e)), served_so d t set o h)
    where
      not_served : eqb (refusal d t set) 0 ≡ false → ⊥
      not_served e = let z : Err (refusal d t set) ≡ Ok o = sym (refused_answer d t set e) ∙ h in let y : ◌≡◌ {A = ℕ} 0 1 = cc in omega arith

  -- the state that the calls left has the table that it was opened with, whose spacings are none of 0 ticks, and the history's last release
  module _ (d : State) (cs : List Call) (unheld : member n d.waiting.tasks ≡ false) (table : Table) (some : member n table.spaced ≡ true → 1 ≤ spacing table.columns n)
      (of-table : (after_calls d cs).table ≡ table) (last_is : previous_release (after_calls d cs) n ≡ last_released n (history d cs)) (t set : ℕ) where
    abbrev G : State
    G = after_calls d cs

    abbrev H : List Event
    H = history d cs

    abbrev At-b : State
    At-b = (at_b (after_calls d cs) t).state

    -- what comes too soon by the history does so by the state
    soon_is : soon_at At-b t n ≡ (member n table.spaced && comes_sooner t (spacing table.columns n) (last_released n H))
    soon_is = rw (last_b n small G t, last_is, table_b G t, of-table)

    sooner : soon_at At-b t n ≡ true → Sooner n table t H
    sooner x =
        let y : (member n table.spaced && comes_sooner t (spacing table.columns n) (last_released n H)) ≡ true = sym soon_is ∙ x in (
          left (member n table.spaced) (comes_sooner t (spacing table.columns n) (last_released n H)) y,
          sooner_than t (spacing table.columns n) (last_released n H) (right (member n table.spaced) (comes_sooner t (spacing table.columns n) (last_released n H)) y),
        )

    too_soon : Sooner n table t H → soon_at At-b t n ≡ true
    too_soon x =
        soon_is
        ∙ both (member n table.spaced) (comes_sooner t (spacing table.columns n) (last_released n H)) x.0
        (is_sooner t (spacing table.columns n) x.1.0 (last_released n H) (some x.0) x.1.1 x.1.2)

    -- and what waits
    waits_b : member n At-b.waiting.tasks ≡ stands n (waiting n None H)
    waits_b = ap (λ (w : WaitingReleases). member n w.tasks) (waiting_b G t) ∙ sym (waits_in_state d cs unheld)

    from : member n (taken_at G t set) ≡ true → (member n set ≡ true) ⊎ ((u : ℕ) × (waiting n None H ≡ Some u))
    unfolding taken_at
    from m =
        ⊎_elim (λ w. inr (some_held n (waiting n None H) (sym waits_b ∙ w))) (λ s. inl (passing_from At-b t set n s)) (taken_from At-b (passed G t set) n m)

    -- what passes and is skipped stands behind one that waits and is not taken
    behind : is_skipped (member n At-b.jobs.pending) (member n At-b.waiting.tasks) (member n (passed G t set)) ≡ true
        → (member n set ≡ true) × FindsWaiting n H (happens G t set)
    unfolding taken_at
    behind m =
        let z = go (member n At-b.jobs.pending) (member n At-b.waiting.tasks) (member n (passed G t set)) m in (
          passing_from At-b t set n z.0,
          (some_held n (waiting n None H) (sym waits_b ∙ z.1), none_taken G t set (taken_member At-b (passed G t set) n small ∙ z.2)),
        )
      where
        go : (p w s : Bool) → is_skipped p w s ≡ true → (s ≡ true) × (w ≡ true) × (is_taken p w s ≡ false)
        go true true true x = (refl, refl, refl)
        go true true false x = absurd (false≢true x)
        go true false true x = absurd (false≢true x)
        go true false false x = absurd (false≢true x)
        go false w s x = absurd (false≢true x)

    skipped_so : member n (skipped_at G t set) ≡ true → (member n set ≡ true) × (Sooner n table t H ⊎ FindsWaiting n H (happens G t set))
    skipped_so m =
        ⊎_elim
        (λ x. (left (member n set) (soon_at At-b t n) x, inl (sooner (right (member n set) (soon_at At-b t n) x))))
        (λ x. ((behind x).0, inr (behind x).1))
        (one_of (member n set && soon_at At-b t n) (is_skipped (member n At-b.jobs.pending) (member n At-b.waiting.tasks) (member n (passed G t set)))
        (sym (skipped_at_member G t set n small) ∙ m))

    soon_skipped : member n set ≡ true → Sooner n table t H → member n (skipped_at G t set) ≡ true
    soon_skipped s x = skipped_at_member G t set n small ∙ rw (s, too_soon x)

    behind_skipped : member n set ≡ true → FindsWaiting n H (happens G t set) → member n (skipped_at G t set) ≡ true
    unfolding taken_at
    behind_skipped s x =
        skipped_at_member G t set n small
        ∙ rw (passing_member At-b t set n small, s)
        (go (member n At-b.jobs.pending) (member n At-b.waiting.tasks) (soon_at At-b t n) (waits_b ∙ ap (stands n) x.0.1)
        (λ y. untaken (taken_member At-b (passed G t set) n small ∙ rw (passing_member At-b t set n small, s) y)))
      where
        untaken : member n (taken_at (after_calls d cs) t set) ≡ true → ⊥
        untaken y = let z : Some t ≡ None = sym (some_taken G t set y) ∙ x.1 in let q : ◌≡◌ {A = ℕ} 0 1 = cc in omega arith

        go : (p w soon : Bool) → w ≡ true → (is_taken p w (not soon) ≡ true → ⊥) → (soon || is_skipped p w (not soon)) ≡ true
        go p w true e f = refl
        go true true false e f = refl
        go true false false e f = e
        go false true false e f = absurd (f refl)
        go false false false e f = absurd (false≢true e)

    pub placed : (o : Occurred) → (instant (after_calls d cs) t set).answer ≡ Ok o
        → Placed n table t set o.skipped (history d cs) (by_call (after_calls d cs) (Instant t set))
    placed o h =
        let s : (by_call G (Instant t set) ≡ happens G t set) × (occurred G t set ≡ o) = happens_by G t set o h in
        subst (Placed n table t set o.skipped H) (sym s.0)
        (subst (λ (x : Occurred). Placed n table t set x.skipped H (happens G t set)) s.1 (unfold occurred in record {
          taken_from = λ u x. by-test (member n (taken_at G t set)) (λ m. from m) (λ m. absurd (let z : None ≡ Some u = sym (none_taken G t set m) ∙ x in let y : ◌≡◌ {A = ℕ} 0 1 = cc in omega arith));
          skipped_by = skipped_so;
          sooner_skipped = soon_skipped;
          behind_skipped = behind_skipped;
        }))
