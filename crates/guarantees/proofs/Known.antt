-- Every task that is taken, executed, copied out or completed in a history is one of the table's.
use Rattle.std.proofs.Common.{◌≡◌, ◌∷◌, ◌++◌}
use Rattle.guarantees.specs.Types.{true, List, [], sym, subst, ℕ, Table, Option, None, Some, Processor, Idle, CopyingIn, Executing, Finished, CopyOut, NoCopyOut, CopyingOut, CopiedOut, Phase, Between, Within, State, Call}
use lib.Dec.{eqb}
use Rattle.sets.specs.Sets.{member}
use Rattle.sets.proofs.Laws.{by-test}
use Rattle.rules.specs.Instant.{step_a, completed, at_a, at_b, at_e, at_f, at_g, taken_at, deferred_at, processor_task, copyout_task}
use Rattle.rules.specs.With.{at_clock}
use Rattle.guarantees.specs.History.{Event, Starts, Stops, Comes, Finishes, Completes, Ends, Takes, Defers, GivesWay, Begins, history, happens, finish_events_in, completion_events, end_events, take_events, giving_events_in, begin_events, start_events}
use Rattle.guarantees.proofs.Proper.{Fair}
use Rattle.guarantees.proofs.Walk.{walk}
use Rattle.guarantees.proofs.Events.{by_processor, by_finishes, by_gives, by_ends, by_takes, by_defers, by_starts, tail_of, happens_parts, front_parts, tail_parts}
use Rattle.guarantees.proofs.Steps.{Sub}
use Rattle.guarantees.proofs.Releases.{taken_known}
use Rattle.guarantees.proofs.Served.{served_at}
use Rattle.guarantees.proofs.Invariant.{Good, good_next, good_quiet}
use Rattle.guarantees.specs.States.{set_known, processor_known, copyout_known, phase_known}

module _ (present : ℕ) where
  abbrev pub KnownTask : Option ℕ → Type 0
  KnownTask None = Unit {0}
  KnownTask (Some n) = member n present ≡ true

  abbrev pub KnownIn : Event → Type 0
  KnownIn (Comes t) = Unit {0}
  KnownIn (Finishes n) = Unit {0}
  KnownIn (Defers n t) = Unit {0}
  KnownIn (GivesWay n) = Unit {0}
  KnownIn (Starts n v) = Unit {0}
  KnownIn (Stops n v) = Unit {0}
  KnownIn (Completes n t) = member n present ≡ true
  KnownIn (Ends t) = Unit {0}
  KnownIn (Takes n t m) = member n present ≡ true
  KnownIn (Begins t r l) = KnownTask r × KnownTask l

  unfoldable pub AllKnown : List Event → Type 0
  AllKnown [] = Unit {0}
  AllKnown (e ∷ es) = KnownIn e × AllKnown es

  -- ---- what a history with known tasks says of a release

  pub begins_known : (before after : List Event) (t : ℕ) (r l : Option ℕ) → AllKnown (before ++ (Begins t r l ∷ after)) → KnownTask r × KnownTask l
  unfolding AllKnown
  begins_known [] after t r l h = h.0
  begins_known (e ∷ es) after t r l h = begins_known es after t r l h.1

  pub completes_known : (before after : List Event) (n t : ℕ) → AllKnown (before ++ (Completes n t ∷ after)) → member n present ≡ true
  unfolding AllKnown
  completes_known [] after n t h = h.0
  completes_known (e ∷ es) after n t h = completes_known es after n t h.1

  -- ---- the events of an instant

  known_processor : (q : Processor) → processor_known present q → KnownTask (processor_task q)
  known_processor Idle h = tt
  known_processor (CopyingIn n until) h = h
  known_processor (Executing n start until) h = h
  known_processor (Finished n start) h = h

  known_copyout : (o : CopyOut) → copyout_known present o → KnownTask (copyout_task o)
  known_copyout NoCopyOut h = tt
  known_copyout (CopyingOut n start until) h = h
  known_copyout (CopiedOut n) h = h

  known_completes : (d : State) (t : ℕ) (ys : List Event) → phase_known present d.phase → AllKnown ys → AllKnown (completion_events (at_a d t).done ++ ys)
  unfolding at_a
  known_completes d t ys h k = go d.phase h
    where
      go_copyout : (o : CopyOut) → copyout_known present o → AllKnown (completion_events (completed d.jobs t o) ++ ys)
      go_copyout NoCopyOut h = unfold completed completion_events in k
      go_copyout (CopyingOut n start until) h = unfold completed completion_events in
          by-test (eqb until t) (λ e. rw e (unfold AllKnown in (h, k))) (λ e. rw e k)
      go_copyout (CopiedOut n) h = unfold completed completion_events in k

      go : (p : Phase) → phase_known present p → AllKnown (completion_events (step_a (at_clock d t) t p).done ++ ys)
      go (Between next outgoing) h = unfold step_a completion_events in k
      go (Within i) h = unfold step_a in go_copyout i.copyout h.2

  known_begins : (t : ℕ) (p q : Phase) (ys : List Event) → phase_known present q → AllKnown ys → AllKnown (begin_events t p q ++ ys)
  unfolding begin_events AllKnown
  known_begins t (Within i) q ys h k = k
  known_begins t (Between next outgoing) (Between x y) ys h k = k
  known_begins t (Between next outgoing) (Within j) ys h k = ((known_processor j.processor h.1, known_copyout j.copyout h.2), k)

  known_happens : (d : State) (t set : ℕ) (ys : List Event) → set_known present set → Sub d.waiting.tasks present → phase_known present d.phase → phase_known present (at_g d t set).phase → AllKnown ys → AllKnown (happens d t set ++ ys)
  unfolding AllKnown
  known_happens d t set ys f w o g h =
      let x : List Event = begin_events t (at_f d t set).state.phase (at_g d t set).phase in
      let z : List Event = start_events t (at_f d t set).state.phase (at_g d t set).phase ++ ys in
      let tail : AllKnown (tail_of d t set ++ ys) =
      subst AllKnown (sym (tail_parts d t set ys))
      (by_defers AllKnown 32 (deferred_at d t set) t (λ n l m es k. (tt, k)) (giving_events_in (at_b d t).state.phase (at_e d t set).phase ++ (end_events t (at_e d t set).phase (at_f d t set).state.phase ++ (x ++ z)))
      (by_gives AllKnown (λ n es k. (tt, k)) (at_b d t).state.phase (at_e d t set).phase (end_events t (at_e d t set).phase (at_f d t set).state.phase ++ (x ++ z))
      (by_ends AllKnown t (λ es k. (tt, k)) (at_e d t set).phase (at_f d t set).state.phase (x ++ z)
      (known_begins t (at_f d t set).state.phase (at_g d t set).phase z g
      (by_starts AllKnown t (λ n es k. (tt, k)) (at_f d t set).state.phase (at_g d t set).phase ys h))))) in
      let later : List Event = take_events 32 (taken_at d t set) d.marked t ++ (tail_of d t set ++ ys) in
      let ends : List Event = end_events t (at_a d t).state.phase (at_b d t).state.phase ++ later in
      rw (happens_parts d t set ys, front_parts d t later) (
        tt,
        by_processor AllKnown (λ n t es k. (tt, k)) (λ n t es k. (tt, k)) t d.phase (finish_events_in t d.phase ++ (completion_events (at_a d t).done ++ ends))
            (by_finishes AllKnown (λ n es k. (tt, k)) t d.phase (completion_events (at_a d t).done ++ ends)
            (known_completes d t ends o
            (by_ends AllKnown t (λ es k. (tt, k)) (at_a d t).state.phase (at_b d t).state.phase later
            (by_takes AllKnown 32 (taken_at d t set) d.marked t (λ n l m es k. (taken_known d t set present w f n l m, k)) (tail_of d t set ++ ys) tail)))),
      )

-- ---- along the calls

module _ (table : Table) (marks : ℕ) (fair : Fair table marks) where
  pub all_known : (d : State) (cs : List Call) → Good table marks fair d → AllKnown table.present (history d cs)
  all_known d cs =
      walk (λ d h. Good table marks fair d → AllKnown table.present h)
      (λ d g. unfold AllKnown in tt)
      (λ d t set cs e k g.
      let n : Good table marks fair (at_g d t set) = good_next table marks fair d t set g (served_at d t set e) in
      known_happens table.present d t set (history (at_g d t set) cs)
      (subst (λ (x : Table). Sub set x.present) g.table_is (served_at d t set e).known) g.parted.waits g.parted.known n.parted.known (k n))
      (λ d m e h k g. k (good_quiet table marks fair d m e g))
      cs d
