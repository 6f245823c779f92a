-- An instant over lent arrays, step behind step: what each of them leaves, read back, is what the rules say of the instant. Assumes nothing.
use Rattle.std.proofs.Common.{◌≡◌}
use mathlib.Core.Path.{ap₂}
use Rattle.rules.specs.Types.{Bool, true, false, List, ℕ, refl, sym, ap, ◌∙◌, subst, Interval, Phase, Between, Within, State, Stage, None, Closed, NoInterval, Span, IntervalEntry, Occurred}
use mathlib.Core.Bool.{false≢true, true≢false}
use lib.ListN.{get_or}
use Rattle.sets.proofs.Laws.{by-test}
use Rattle.rules.specs.With.{at_clock}
use Rattle.sets.specs.Sets.{union, difference}
use Rattle.rules.specs.Instant.{fresh_stage, without_done, over, resting, is_over, promoted, blocks, counted, closed_with, close, entry_with, interval_entry, close_stage, with_candidates, previous_release, too_soon, passing, taken, deferred, skipped, held_over, step_a, step_b, step_c, step_d, step_e, step_f, step_g, steps_c_d, steps_c_to_e, steps_c_to_f, due, closing, at_a, at_b, at_g, occurred}
use Rattle.rules.specs.Registers.{as_task, processor_in, copyin_in, interval_in, phase_in, state_in}
use Rattle.rules.specs.Kept.{Kept, Whole, Beside, registers_in, read}
use Rattle.rules.specs.Steps.{OverAt, PromotedAt, CountsAt, EntryAt, ClosedAt, TestedAt, with_counts}
use Rattle.rules.proofs.BySteps.{none_closed, keeps_done, Steps, is_g, is_occurred}
use Rattle.rules.proofs.ClosingTest.{open_in}
use Rattle.rules.proofs.Fields.{works}

-- ---- the test of an interval's end, at steps b and f

stays_at : (s : Stage) (t : ℕ) (p : Phase) → is_over p ≡ false → step_b s t p ≡ s
unfolding is_over step_b close_stage
stays_at s t (Between next outgoing) h = refl
stays_at s t (Within i) h = rw (h, close_stage)

closes_at : (d : State) (t : ℕ) (p : Phase) (i : Interval) → p ≡ Within i → is_over p ≡ true
    → step_b (fresh_stage d) t p ≡ record { state = close d i; done = None; closed = Span (interval_entry d t i) }
unfolding is_over step_b close_stage
closes_at d t p i e h = rw (e, subst (λ (q : Phase). is_over q ≡ true) e h, close_stage)

module _ (t : ℕ) (k : Kept) (b : Beside) {over : Bool} (h : OverAt k.codes over) where
  pub stays : Whole k → over ≡ false → TestedAt (step_f (read k b) t) k b NoInterval
  unfolding state_in step_f
  stays w f =
      let e : step_f (read k b) t ≡ fresh_stage (read k b) = stays_at (fresh_stage (read k b)) t (phase_in (registers_in k)) (sym (h k.times k.sets) ∙ f) in
      rw e (record { whole = w; state = refl; closed_is = refl })

  -- the processor of an interval at its end rests
  rests : is_over (phase_in (registers_in k)) ≡ true → resting (processor_in (registers_in k)) ≡ true
  unfolding interval_in
  rests e = by-test (resting (processor_in (registers_in k))) (λ r. r) (λ r. absurd (true≢false (sym e ∙ sym (works (registers_in k) (λ c. true≢false (sym e ∙ sym (none_over c))) r))))
    where
      none_over : get_or k.codes 6 0 ≡ 6 → false ≡ is_over (phase_in (registers_in k))
      none_over c = unfold phase_in is_over in simp c

  pub closes_with : (p : ℕ) {e : IntervalEntry} {blocked : List ℕ} {k' : Kept} → Whole k → over ≡ true
      → PromotedAt b.priority b.by_task.release k.sets k.codes p
      → CountsAt b.priority k.sets k.codes b.by_task.blocked blocked
      → e ≡ entry_with (get_or k.codes 0 0) t (interval_in (registers_in k)) (as_task p)
      → ClosedAt p k k'
      → TestedAt (step_f (read k b) t) k' (with_counts b blocked) (Span e)
  unfolding state_in step_f close interval_entry
  closes_with p {blocked = blocked} {k' = k'} w f promotes counts entry closing =
      let r = registers_in k in
      let now : is_over (phase_in r) ≡ true = sym (h k.times k.sets) ∙ f in
      let e : step_f (read k b) t ≡ record { state = close (read k b) (interval_in r); done = None; closed = Span (interval_entry (read k b) t (interval_in r)) } =
      closes_at (read k b) t (phase_in r) (interval_in r) (open_in r now) now in
      let promoted_is = promotes k.times b.columns b.by_task.blocked b.by_task.waits now in
      let x = closing (rests now) (with_counts b blocked) w in
      rw e (record {
        whole = x.whole;
        state = x.state ∙ same (counts k.times b.columns b.by_task now) promoted_is;
        closed_is = ap Span (entry ∙ same_entry promoted_is);
      })
    where
      same : blocked ≡ counted (blocks (read k b) (interval_in (registers_in k))) 0 b.by_task.blocked
          → as_task p ≡ promoted (read k b) (interval_in (registers_in k)) (copyin_in (registers_in k))
          → closed_with (read k (with_counts b blocked)) (interval_in (registers_in k)) (as_task p) ≡ close (read k b) (interval_in (registers_in k))
      same c q = rw (c, q) (unfold close state_in interval_in in refl)

      same_entry : as_task p ≡ promoted (read k b) (interval_in (registers_in k)) (copyin_in (registers_in k))
          → entry_with (get_or k.codes 0 0) t (interval_in (registers_in k)) (as_task p) ≡ interval_entry (read k b) t (interval_in (registers_in k))
      same_entry q = rw q (unfold interval_entry state_in interval_in in refl)

  pub closes : (p : ℕ) {e : IntervalEntry} {blocked : List ℕ} {k' : Kept} → Whole k → over ≡ true
      → PromotedAt b.priority b.by_task.release k.sets k.codes p
      → CountsAt b.priority k.sets k.codes b.by_task.blocked blocked
      → EntryAt t p k.times k.codes e
      → ClosedAt p k k'
      → TestedAt (step_f (read k b) t) k' (with_counts b blocked) (Span e)
  closes p w f promotes counts entry closing = closes_with p w f promotes counts (entry k.sets) closing

-- where none is open there is none to end, and no choice to make
pub none_ends : (t : ℕ) (k : Kept) (b : Beside) → Whole k → get_or k.codes 6 0 ≡ 6 → TestedAt (step_f (step_e (read k b) t (read k b).phase) t) k b NoInterval
unfolding state_in phase_in step_e step_b
none_ends t k b w e = rw e (record { whole = w; state = rw e; closed_is = refl })

-- behind a step
pub behind : (t : ℕ) {d e : State} {k : Kept} {b : Beside} {x : Closed} → d ≡ e → TestedAt (step_f d t) k b x → TestedAt (step_f e t) k b x
behind t p h = rw (sym p) h

-- ---- step b is the test of step f

b_state : (s : Stage) (t : ℕ) (p : Phase) → (step_b (fresh_stage s.state) t p).state ≡ (step_b s t p).state
unfolding step_b close_stage
b_state s t (Between next outgoing) = refl
b_state s t (Within i) = by-test (over i) (λ e. rw e) (λ e. rw e)

b_closed : (s : Stage) (t : ℕ) (p : Phase) → NoInterval ≡ s.closed → (step_b (fresh_stage s.state) t p).closed ≡ (step_b s t p).closed
unfolding step_b close_stage
b_closed s t (Between next outgoing) n = n
b_closed s t (Within i) n = by-test (over i) (λ e. rw e) (λ e. rw (e, n))

-- ---- an interval ends once: after one that ends at step b none is open

abbrev pub step_e_f : State → ℕ → Stage
step_e_f d t = step_f (step_e d t d.phase) t

is_some : Closed → Bool
is_some NoInterval = false
is_some (Span e) = true

none_some : {e : IntervalEntry} → NoInterval ≡ Span e → ⊥
unfolding is_some
none_some h = false≢true (ap is_some h)

none_open : (d : State) (i : Interval) (t taken_now deferred_now : ℕ) → (step_e_f (steps_c_d (close d i) t taken_now deferred_now) t).closed ≡ NoInterval
unfolding close closed_with steps_c_d step_c with_candidates step_d step_e step_b
none_open d i t taken_now deferred_now = refl

once : (d : State) (t taken_now deferred_now : ℕ) (p : Phase) (e : IntervalEntry) → (step_b (fresh_stage d) t p).closed ≡ Span e
    → (step_e_f (steps_c_d (step_b (fresh_stage d) t p).state t taken_now deferred_now) t).closed ≡ NoInterval
unfolding step_b close_stage
once d t taken_now deferred_now (Between next outgoing) e h = absurd (none_some h)
once d t taken_now deferred_now (Within i) e h = by-test (over i) (λ o. rw o (none_open d i t taken_now deferred_now)) (λ o. absurd (none_some (rw o at h)))

-- ---- steps a and b leave what the spacing is asked by

pub record Asks (d e : State) : Type 0 where
  pub table_is : e.table ≡ d.table
  pub release_is : e.jobs.release ≡ d.jobs.release
  pub waiting_is : e.waiting ≡ d.waiting

asks_a : (d : State) (t : ℕ) (p : Phase) → Asks d (step_a d t p).state
unfolding step_a without_done
asks_a d t (Between next outgoing) = record { table_is = refl; release_is = refl; waiting_is = refl }
asks_a d t (Within i) = record { table_is = refl; release_is = refl; waiting_is = refl }

asks_b : (s : Stage) (t : ℕ) (p : Phase) → Asks s.state (step_b s t p).state
unfolding step_b close_stage close closed_with
asks_b s t (Between next outgoing) = record { table_is = refl; release_is = refl; waiting_is = refl }
asks_b s t (Within i) =
    by-test (over i)
    (λ e. rw e (record { table_is = refl; release_is = refl; waiting_is = refl }))
    (λ e. rw e (record { table_is = refl; release_is = refl; waiting_is = refl }))

too_soon_alike : (d e : State) (t set : ℕ) → Asks d e → too_soon e t set ≡ too_soon d t set
unfolding too_soon previous_release
too_soon_alike d e t set h = rw (h.table_is, h.release_is, h.waiting_is)

pub too_soon_b : (d : State) (t set : ℕ) → too_soon (at_b d t).state t set ≡ too_soon d t set
unfolding at_b at_a
too_soon_b d t set =
    let a : Stage = step_a (at_clock d t) t d.phase in
    too_soon_alike a.state (step_b a t a.state.phase).state t set (asks_b a t a.state.phase)
    ∙ too_soon_alike (at_clock d t) a.state t set (asks_a (at_clock d t) t d.phase)
    ∙ too_soon_alike d (at_clock d t) t set (record { table_is = refl; release_is = refl; waiting_is = refl })

-- ---- the states that the steps leave one after the other, and the sets in between

pub record Left (d : State) (t set soon taken_now deferred_now held : ℕ) (timed a b x f g : State) : Type 0 where
  pub soon_is : soon ≡ too_soon d t set
  pub timed_is : timed ≡ at_clock d t
  pub a_is : a ≡ (step_a timed t timed.phase).state
  pub b_is : b ≡ (step_f a t).state
  pub taken_is : taken_now ≡ taken b (difference set soon)
  pub deferred_is : deferred_now ≡ deferred b (difference set soon)
  pub held_is : held ≡ held_over b.phase taken_now
  pub x_is : x ≡ steps_c_d b t taken_now deferred_now
  pub f_is : f ≡ (step_e_f x t).state
  pub g_is : g ≡ step_g f t held f.phase

module _ {soon taken_now deferred_now held : ℕ} {timed a b x f g : State} (d : State) (t set : ℕ) (h : Left d t set soon taken_now deferred_now held timed a b x f g) where
  a_at : a ≡ (at_a d t).state
  unfolding at_a
  a_at = h.a_is ∙ ap (λ (z : State). (step_a z t z.phase).state) h.timed_is

  b_at : (step_f a t).state ≡ (at_b d t).state
  unfolding at_b
  b_at = ap (λ (z : State). (step_f z t).state) a_at ∙ b_state (at_a d t) t (at_a d t).state.phase

  pub closed_before : (step_f a t).closed ≡ (at_b d t).closed
  unfolding at_b at_a
  closed_before = ap (λ (z : State). (step_f z t).closed) a_at ∙ b_closed (at_a d t) t (at_a d t).state.phase (sym (none_closed (at_clock d t) t d.phase))

  pub done_at : (step_a timed t timed.phase).done ≡ (at_b d t).done
  unfolding at_b at_a
  done_at = ap (λ (z : State). (step_a z t z.phase).done) h.timed_is ∙ sym (keeps_done (at_a d t) t (at_a d t).state.phase)

  f_at : step_e_f x t ≡ steps_c_to_f b t taken_now deferred_now
  unfolding steps_c_to_f steps_c_to_e
  f_at = ap (λ (z : State). step_e_f z t) h.x_is

  soon_at : soon ≡ too_soon b t set
  soon_at = h.soon_is ∙ sym (too_soon_b d t set) ∙ ap (λ (z : State). too_soon z t set) (sym (h.b_is ∙ b_at))

  passing_are : difference set soon ≡ passing b t set
  unfolding passing
  passing_are = ap (difference set) soon_at

  steps : Steps d t set taken_now deferred_now held b f g
  steps = record {
    b_is = h.b_is ∙ b_at;
    taken_is = h.taken_is ∙ ap (taken b) passing_are;
    deferred_is = h.deferred_is ∙ ap (deferred b) passing_are;
    f_is = h.f_is ∙ ap (λ (z : Stage). z.state) f_at;
    held_is = h.held_is;
    g_is = h.g_is;
  }

  -- what is left
  pub left : g ≡ at_g d t set
  left = is_g d t set steps

  -- what occurred
  pub occurred_by : {out : Occurred} {p q : Closed} → out.done ≡ (step_a timed t timed.phase).done → p ≡ (step_f a t).closed → q ≡ (step_e_f x t).closed
      → out.closed ≡ closing p q → out.skipped ≡ union soon (skipped b (difference set soon)) → out.due ≡ due g.phase → out ≡ occurred d t set
  occurred_by done p q closed skips next =
      is_occurred d t set steps (done ∙ done_at) (p ∙ closed_before) (q ∙ ap (λ (z : Stage). z.closed) f_at) closed (skips ∙ ap₂ union soon_at (ap (skipped b) passing_are)) next

  -- and at most one interval ended
  pub once_here : (e : IntervalEntry) → (step_f a t).closed ≡ Span e → (step_e_f x t).closed ≡ NoInterval
  once_here e s = ap (λ (z : State). (step_e_f z t).closed) (h.x_is ∙ ap (λ (z : State). steps_c_d z t taken_now deferred_now) h.b_is) ∙ once a t taken_now deferred_now a.phase e s
