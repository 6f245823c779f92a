-- Empty sets at the due times come to an end, and then nothing is pending and nothing waits: each of them brings some phase to its end, nothing is
-- due only where nothing is pending, and what waits does so behind a pending job.
use Rattle.std.proofs.Common.{◌≡◌, ◌∷◌, ◌++◌, ◌+◌, ◌≤◌, ◌<◌}
use Rattle.guarantees.specs.Types.{refl, sym, ap, ◌∙◌, subst, Bool, true, false, List, [], ℕ, zero, suc, Table, Clock, Unset, At, Processor, Idle, CopyingIn, Executing, Finished, CopyOut, NoCopyOut, CopyingOut, CopiedOut, CopyIn, Unchosen, NoneChosen, Copying, Loaded, Cancelled, Next, NoneNext, Outgoing, NoneOutgoing, Phase, Between, Within, State, Option, None, Some, Call, Instant}
use native.Mathlib.Omega.{arith}
use borrow.Author.Tests.{eq-eqb, le-ltb, lt-leb}
use lib.Dec.{eqb}
use Rattle.sets.specs.Sets.{member, difference, bit, size}
use Rattle.sets.proofs.Laws.{none, by-test, clash, difference_left, empty, difference_small, size_none}
use Rattle.rules.specs.Instant.{over, copying_out, resting, settled, due, sooner, processor_due, copyout_due, copyin_due, at_g}
use Rattle.rules.specs.Calls.{unknown, not_after, refusal, after_call}
use Rattle.guarantees.specs.History.{Event, happens, by_call, after_calls, history, EmptySets}
use Rattle.guarantees.specs.Queries.{total, is_take, is_completion}
use Rattle.guarantees.proofs.Proper.{Fair}
use Rattle.guarantees.proofs.Walk.{walk_to, served}
use Rattle.guarantees.proofs.Settled.{Decided, DecidedAt, OpenAt, RestAt}
use Rattle.guarantees.proofs.Places.{instant_moves, stage}
use Rattle.guarantees.proofs.Steps.{Sub}
use Rattle.guarantees.proofs.Releases.{balance_g, none_skipped_g}
use Rattle.guarantees.proofs.Served.{due_drop, last, Served-at, served_at, sooner_never}
use Rattle.guarantees.proofs.Invariant.{Good, Until, mass, debt, sinks, debt_less, drop_one, good_next, good_quiet}
use Rattle.guarantees.proofs.Totals.{takes_of, completes_of}

-- ---- nothing is due only where nothing is pending

processor_rests : (q : Processor) → processor_due q ≡ None → resting q ≡ true
processor_rests Idle h = refl
processor_rests (CopyingIn n until) h = absurd (let z : ◌≡◌ {A = ℕ} 0 1 = cc in omega arith)
processor_rests (Executing n start until) h = absurd (let z : ◌≡◌ {A = ℕ} 0 1 = cc in omega arith)
processor_rests (Finished n start) h = refl

copyout_rests : (o : CopyOut) → copyout_due o ≡ None → copying_out o ≡ false
copyout_rests NoCopyOut h = refl
copyout_rests (CopyingOut n start until) h = absurd (let z : ◌≡◌ {A = ℕ} 0 1 = cc in omega arith)
copyout_rests (CopiedOut n) h = refl

copyin_rests : (c : CopyIn) (o : CopyOut) → copyin_due c ≡ None → Decided c o → copying_out o ≡ false → settled c ≡ true
copyin_rests Unchosen o h e u = clash (copying_out o) e u
copyin_rests NoneChosen o h e u = refl
copyin_rests (Copying n until) o h e u = absurd (let z : ◌≡◌ {A = ℕ} 0 1 = cc in omega arith)
copyin_rests (Loaded n) o h e u = refl
copyin_rests (Cancelled n fate) o h e u = refl

at_rest : (p : Phase) → due p ≡ None → DecidedAt p → OpenAt p → (next : Next) × (outgoing : Outgoing) × (p ≡ Between next outgoing)
unfolding due
at_rest (Between next outgoing) h e o = (next, outgoing, refl)
at_rest (Within i) h e o =
    let x : (processor_due i.processor ≡ None) × (sooner (copyout_due i.copyout) (copyin_due i.copyin) ≡ None) =
    sooner_never (processor_due i.processor) (sooner (copyout_due i.copyout) (copyin_due i.copyin)) h in
    let y : (copyout_due i.copyout ≡ None) × (copyin_due i.copyin ≡ None) = sooner_never (copyout_due i.copyout) (copyin_due i.copyin) x.1 in
    let u : copying_out i.copyout ≡ false = copyout_rests i.copyout y.0 in
    clash (over i) (rw (processor_rests i.processor x.0, u, copyin_rests i.copyin i.copyout y.1 e u)) o

-- nothing is pending, nothing waits, and nothing is to come
pub record AtRest (d : State) : Type 0 where
  pub phase : d.phase ≡ Between NoneNext NoneOutgoing
  pub ready : d.jobs.ready ≡ 0
  pub pending : d.jobs.pending ≡ 0
  pub waiting : d.waiting.tasks ≡ 0

bit_zero : (b : Bool) → bit b ≡ 0 → b ≡ false
bit_zero true h = absurd (omega arith)
bit_zero false h = refl

module _ (table : Table) (marks : ℕ) (fair : Fair table marks) where
  abbrev G : State → Type 0
  G d = Good table marks fair d

  pub rests : (d : State) → G d → due d.phase ≡ None → AtRest d
  rests d g h = go d.phase refl (at_rest d.phase h g.settled.decided g.settled.open_yet)
    where
      go : (p : Phase) → d.phase ≡ p → (next : Next) × (outgoing : Outgoing) × (p ≡ Between next outgoing) → AtRest d
      go p e z =
          let b : d.phase ≡ Between z.0 z.1 = e ∙ z.2 in
          let r : (z.0 ≡ NoneNext) × (z.1 ≡ NoneOutgoing) × (d.jobs.ready ≡ 0) = subst (λ (x : Phase). RestAt d.jobs.ready x) b g.settled.rests in
          let c : d.phase ≡ Between NoneNext NoneOutgoing = cc in
          let n : (k : ℕ) → k < 32 → member k d.jobs.pending ≡ false =
          λ k l. bit_zero (member k d.jobs.pending)
          (let f : bit (member k d.jobs.pending) ≡ bit (member k d.jobs.ready) + 0 =
          subst (λ (x : Phase). bit (member k d.jobs.pending) ≡ bit (member k d.jobs.ready) + stage k x) c (g.parted.parts k l) in
          omega (arith, f, ap (λ (s : ℕ). bit (member k s)) r.2, ap bit (none k))) in
          record {
            phase = c;
            ready = r.2;
            pending = empty d.jobs.pending g.parted.few n;
            waiting = empty d.waiting.tasks g.waits_few
                (λ k l. by-test (member k d.waiting.tasks) (λ x. clash (member k d.jobs.pending) (g.behind k l x) (n k l)) (λ x. x));
          }

  -- ---- the instants at due times

  pub due_times : (d : State) (t : ℕ) → G d → due d.phase ≡ Some t → Until (last d.clock) (mass d) (debt d) t
  due_times d t g h = drop_one (Until (last d.clock) (mass d) (debt d)) t d.phase g.times (due_drop t d.phase h)

  pub not_late : (c : Clock) (t : ℕ) → last c < t → not_after c t ≡ false
  not_late Unset t h = refl
  not_late (At x) t h = lt-leb t x h

  none_unknown : (present : ℕ) → eqb (difference 0 present) 0 ≡ true
  none_unknown present =
      eq-eqb (difference 0 present) 0
      (empty (difference 0 present) (difference_small 0 present)
      (λ k l. by-test (member k (difference 0 present)) (λ x. clash (member k 0) (difference_left 0 present k x) (none k)) (λ x. x)))

  due_served : (d : State) (t : ℕ) → G d → due d.phase ≡ Some t → eqb (refusal d t 0) 0 ≡ true
  unfolding refusal unknown
  due_served d t g h =
      rw (none_unknown d.table.present, not_late d.clock t (due_times d t g h).after, h, le-ltb t t (omega arith))

  -- one more empty set, at the due time
  one_more : (d : State) (t : ℕ) → G d → due d.phase ≡ Some t → (rest : List Call) × EmptySets (at_g d t 0) rest → (rest : List Call) × EmptySets d rest
  unfolding EmptySets
  one_more d t g e h = (Instant t 0 ∷ h.0, ((t, e, refl), subst (λ (x : State). EmptySets x h.0) (sym (served d t 0 (due_served d t g e))) h.1))

  served_due : (d : State) (t : ℕ) → G d → due d.phase ≡ Some t → G (at_g d t 0)
  served_due d t g e = good_next table marks fair d t 0 g (served_at d t 0 (due_served d t g e))

  -- an instant at a due time brings the end nearer
  nearer : (d : State) (t : ℕ) → G d → due d.phase ≡ Some t → mass (at_g d t 0) + debt d + 1 ≤ mass d + debt (at_g d t 0)
  nearer d t g e = omega (arith, sinks d t 0 g.sound, due_drop t d.phase e, size_none)

  none_due : (d : State) → due d.phase ≡ None → (rest : List Call) × EmptySets d rest
  unfolding EmptySets
  none_due d e = ([], e)

  pub drains : (m : ℕ) (d : State) → G d → mass d ≤ m + debt d → (rest : List Call) × EmptySets d rest
  drains zero d g h = go (due d.phase) refl
    where
      go : (x : Option ℕ) → due d.phase ≡ x → (rest : List Call) × EmptySets d rest
      go None e = none_due d e
      go (Some t) e = absurd (omega (arith, nearer d t g e, debt_less (at_g d t 0) (served_due d t g e).sound))
  drains (suc m) d g h = go (due d.phase) refl (λ t e. drains m (at_g d t 0) (served_due d t g e) (omega (arith, nearer d t g e)))
    where
      go : (x : Option ℕ) → due d.phase ≡ x → ((t : ℕ) → due d.phase ≡ Some t → (rest : List Call) × EmptySets (at_g d t 0) rest) → (rest : List Call) × EmptySets d rest
      go None e f = none_due d e
      go (Some t) e f = one_more d t g e (f t e)

  -- and what they leave
  pub record Drained (d : State) (rest : List Call) : Type 0 where
    pub never : due (after_calls d rest).phase ≡ None
    -- what waited is taken or waits still, and nothing else is taken
    pub takes : total is_take (history d rest) + size (after_calls d rest).waiting.tasks ≡ size d.waiting.tasks

  drained_more : (d : State) (t : ℕ) (rest : List Call) → eqb (refusal d t 0) 0 ≡ true → Drained (at_g d t 0) rest → Drained d (Instant t 0 ∷ rest)
  drained_more d t rest e h = record {
    never = ap (λ (g : State). due g.phase) left ∙ h.never;
    takes =
        omega (
          arith,
          ap (total is_take) occurs,
          takes_of d t 0 (history (at_g d t 0) rest),
          ap (λ (g : State). size g.waiting.tasks) left,
          balance_g d t 0,
          size_none,
          none_skipped_g d t 0 (λ k l. none k),
          h.takes,
        );
  }
    where
      left : after_calls d (Instant t 0 ∷ rest) ≡ after_calls (at_g d t 0) rest
      left = unfold after_calls in ap (λ (g : State). after_calls g rest) (served d t 0 e)

      occurs : history d (Instant t 0 ∷ rest) ≡ happens d t 0 ++ history (at_g d t 0) rest
      occurs = unfold history by_call in rw (e, served d t 0 e)

  pub drained : (rest : List Call) (d : State) → G d → EmptySets d rest → Drained d rest
  unfolding EmptySets
  drained [] d g h = unfold after_calls history total in record { never = h; takes = omega arith }
  drained (c ∷ rest) d g h = go h.0.0 h.0.1 h.0.2 (λ t e x. drained rest (at_g d t 0) (served_due d t g e) x)
    where
      go : (t : ℕ) → due d.phase ≡ Some t → c ≡ Instant t 0
          → ((t : ℕ) → due d.phase ≡ Some t → EmptySets (at_g d t 0) rest → Drained (at_g d t 0) rest) → Drained d (c ∷ rest)
      go t e x k =
          let s : eqb (refusal d t 0) 0 ≡ true = due_served d t g e in
          subst (λ (c : Call). Drained d (c ∷ rest)) (sym x)
          (drained_more d t rest s (k t e (subst (λ (y : State). EmptySets y rest) (ap (after_call d) x ∙ served d t 0 s) h.1)))

  -- ---- every job that is taken is completed or pending

  pub balanced : (d : State) (cs : List Call) → G d
      → total is_completion (history d cs) + size (after_calls d cs).jobs.pending ≡ size d.jobs.pending + total is_take (history d cs)
  balanced d cs =
      walk_to (λ d h g. G d → total is_completion h + size g.jobs.pending ≡ size d.jobs.pending + total is_take h)
      (λ d g. unfold total in omega arith)
      (λ d t set cs e k g.
      let h : List Event = history (at_g d t set) cs in
      let s : Served-at d t set = served_at d t set e in
      let known : Sub set table.present = subst (λ (x : Table). Sub set x.present) g.table_is s.known in
      omega (
        arith,
        k (good_next table marks fair d t set g s),
        completes_of d t set h,
        takes_of d t set h,
        (instant_moves table.present fair.present d t set known g.parted).sizes,
      ))
      (λ d m e h z k g. k (good_quiet table marks fair d m e g))
      cs d
