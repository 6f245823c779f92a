-- What holds when an instant is over: the choice is made as soon as the engine is free, an interval that can end is not open, and one is open
-- if there is anything to do.
use Rattle.std.proofs.Common.{◌≡◌, ◌^◌, ◌<◌}
use Rattle.guarantees.specs.Types.{refl, sym, subst, true, false, true≢false, ℕ, Option, None, Some, Processor, Idle, CopyOut, NoCopyOut, CopyIn, Unchosen, NoneChosen, Copying, Loaded, Cancelled, Interval, Next, NoneNext, LoadedNext, PromotedNext, Outgoing, NoneOutgoing, AwaitsCopyOut, Phase, Between, Within, State, Stage}
use borrow.Author.Tests.{eqb-true, eqb-false, not-true, not-false}
use lib.Dec.{eqb}
use Rattle.sets.specs.Sets.{intersection}
use Rattle.sets.proofs.Laws.{by-test, empty}
use Rattle.guarantees.proofs.Highest.{Best}
use Rattle.rules.specs.Instant.{step_b, step_c, step_d, step_e, step_g, close, over, choose, choose_if, begin, begin_processor, copying_out, wanted, resting, at_a, at_b, at_e, at_f, at_g, taken_at, deferred_at, fresh_stage}
use Rattle.rules.specs.Order.{highest_of}
use Rattle.guarantees.proofs.Cases.{held_at, b_cases, g_cases}
use Rattle.guarantees.proofs.Steps.{Opened, e_opens, best_of}
use Rattle.rules.specs.Instant

-- ---- what holds of a phase when an instant is over

abbrev pub Decided : CopyIn → CopyOut → Type 0
Decided Unchosen o = copying_out o ≡ true
Decided NoneChosen o = Unit {0}
Decided (Copying n until) o = Unit {0}
Decided (Loaded n) o = Unit {0}
Decided (Cancelled n fate) o = Unit {0}

-- the choice is made as soon as the engine is free
abbrev pub DecidedAt : Phase → Type 0
DecidedAt (Between next outgoing) = Unit {0}
DecidedAt (Within i) = Decided i.copyin i.copyout

-- an interval that can end is not open
abbrev pub OpenAt : Phase → Type 0
OpenAt (Between next outgoing) = Unit {0}
OpenAt (Within i) = over i ≡ false

-- and one begins if there is something to do
abbrev pub RestAt : ℕ → Phase → Type 0
RestAt ready (Between next outgoing) = (next ≡ NoneNext) × (outgoing ≡ NoneOutgoing) × (ready ≡ 0)
RestAt ready (Within i) = Unit {0}

pub record Settled (d : State) (p : Phase) : Type 0 where
  pub decided : DecidedAt p
  pub open_yet : OpenAt p
  pub rests : RestAt d.jobs.ready p

-- e
chosen_decided : (d : State) (t : ℕ) (i : Interval) (q : Option ℕ) → DecidedAt (choose d t i q).phase
unfolding choose
chosen_decided d t i None = tt
chosen_decided d t i (Some q) = tt

undecided : (d : State) (t : ℕ) (i : Interval) → d.phase ≡ Within i → (c : CopyIn) → i.copyin ≡ c → DecidedAt (choose_if d t i c).phase
unfolding choose_if
undecided d t i e Unchosen s =
    by-test (copying_out i.copyout) (λ u. rw u (subst DecidedAt (sym e) (rw s u))) (λ u. rw u (chosen_decided d t i (highest_of d d.jobs.ready)))
undecided d t i e NoneChosen s = subst DecidedAt (sym e) (rw s tt)
undecided d t i e (Copying c until) s = subst DecidedAt (sym e) (rw s tt)
undecided d t i e (Loaded c) s = subst DecidedAt (sym e) (rw s tt)
undecided d t i e (Cancelled c fate) s = subst DecidedAt (sym e) (rw s tt)

e_decided : (d : State) (t : ℕ) (p : Phase) → d.phase ≡ p → DecidedAt (step_e d t p).phase
unfolding step_e
e_decided d t (Between next outgoing) e = subst DecidedAt (sym e) tt
e_decided d t (Within i) e = undecided d t i e i.copyin refl

-- f
f_decided : (s : Stage) (t : ℕ) → DecidedAt s.state.phase → DecidedAt (step_b s t s.state.phase).state.phase
unfolding close
f_decided s t h = b_cases (λ x. DecidedAt x.phase) s t (λ i e o. h) (λ next outgoing e. h) (λ i e o. tt)

f_open : (s : Stage) (t : ℕ) → OpenAt (step_b s t s.state.phase).state.phase
unfolding close
f_open s t = b_cases (λ x. OpenAt x.phase) s t (λ i e o. subst OpenAt (sym e) o) (λ next outgoing e. subst OpenAt (sym e) tt) (λ i e o. tt)

pub open_b : (d : State) (t : ℕ) → OpenAt (at_b d t).state.phase
unfolding at_b
open_b d t = f_open (at_a d t) t

-- g
busy : (q : Processor) (p : Phase) → Opened q p → resting q ≡ false → OpenAt p
busy q (Between next outgoing) e h = absurd e
busy q (Within j) e h = rw (e, h)

chosen_open : (d : State) (t : ℕ) (i : Interval) (q : Option ℕ) → i.processor ≡ Idle → i.copyout ≡ NoCopyOut → d.jobs.ready < 2 ^ 32 → eqb d.jobs.ready 0 ≡ false
    → Best d.table.priority d.jobs.ready q → OpenAt (choose d t i q).phase
unfolding choose
chosen_open d t i None x y f h b = absurd (eqb-false d.jobs.ready 0 h (empty d.jobs.ready f b))
chosen_open d t i (Some q) x y f h b = rw (x, y)

begun_opened : (f : State) (t taken : ℕ) (next : Next) (outgoing : Outgoing) →
    let b : State = begin f t taken next outgoing in Opened (begin_processor f.table t next) (step_e b t b.phase).phase
unfolding begin
begun_opened f t taken next outgoing = e_opens (begin f t taken next outgoing) t (begin_processor f.table t next) refl

begun_open : (f : State) (t taken : ℕ) (next : Next) (outgoing : Outgoing) → f.jobs.ready < 2 ^ 32 → wanted next outgoing f.jobs.ready ≡ true
    → let b : State = begin f t taken next outgoing in OpenAt (step_e b t b.phase).phase
begun_open f t taken (LoadedNext n) outgoing h w =
    let b : State = begin f t taken (LoadedNext n) outgoing in
    busy (begin_processor f.table t (LoadedNext n)) (step_e b t b.phase).phase (begun_opened f t taken (LoadedNext n) outgoing) refl
begun_open f t taken (PromotedNext n) outgoing h w =
    let b : State = begin f t taken (PromotedNext n) outgoing in
    busy (begin_processor f.table t (PromotedNext n)) (step_e b t b.phase).phase (begun_opened f t taken (PromotedNext n) outgoing) refl
begun_open f t taken NoneNext (AwaitsCopyOut m s) h w = unfold begin step_e choose_if in refl
begun_open f t taken NoneNext NoneOutgoing h w =
    unfold begin step_e choose_if in
    let b : State = begin f t taken NoneNext NoneOutgoing in
    let i : Interval = record
    { begin = t; work = Instant.work_of NoneNext; processor = Idle; copyout = NoCopyOut; copyin = Unchosen; candidates = intersection taken f.marked } in
    chosen_open b t i (highest_of b f.jobs.ready) refl refl h (not-true (eqb f.jobs.ready 0) w) (best_of b f.jobs.ready)

pub unwanted : (next : Next) (outgoing : Outgoing) (ready : ℕ) → wanted next outgoing ready ≡ false → (next ≡ NoneNext) × (outgoing ≡ NoneOutgoing) × (ready ≡ 0)
unwanted (LoadedNext n) outgoing ready w = absurd (true≢false w)
unwanted (PromotedNext n) outgoing ready w = absurd (true≢false w)
unwanted NoneNext (AwaitsCopyOut m s) ready w = absurd (true≢false w)
unwanted NoneNext NoneOutgoing ready w = (refl, refl, eqb-true ready 0 (not-false (eqb ready 0) w))

rest_open : (ready : ℕ) (p : Phase) (q : Processor) → Opened q p → RestAt ready p
rest_open ready (Between next outgoing) q e = absurd e
rest_open ready (Within j) q e = tt

g_settled : (f : State) (t taken : ℕ) → f.jobs.ready < 2 ^ 32 → DecidedAt f.phase → OpenAt f.phase → Settled (step_g f t taken f.phase) (step_g f t taken f.phase).phase
g_settled f t taken s h o =
    g_cases (λ x. Settled x x.phase) f t taken
    (λ i e. record { decided = h; open_yet = o; rests = subst (RestAt f.jobs.ready) (sym e) tt })
    (λ next outgoing e w. record { decided = h; open_yet = o; rests = subst (RestAt f.jobs.ready) (sym e) (unwanted next outgoing f.jobs.ready w) })
    (λ next outgoing e w.
    let b : State = begin f t taken next outgoing in
    record {
      decided = e_decided b t b.phase refl;
      open_yet = begun_open f t taken next outgoing s w;
      rests = rest_open (step_e b t b.phase).jobs.ready (step_e b t b.phase).phase (begin_processor f.table t next) (begun_opened f t taken next outgoing);
    })

pub settled_after : (d : State) (t set : ℕ) → (at_f d t set).state.jobs.ready < 2 ^ 32 → Settled (at_g d t set) (at_g d t set).phase
unfolding at_g at_f at_e
settled_after d t set h =
    let b : Stage = at_b d t in
    let taken : ℕ = taken_at d t set in
    let deferred : ℕ = deferred_at d t set in
    let c : State = step_c b.state t taken deferred in
    let x : State = step_d c taken c.phase in
    let e : State = at_e d t set in
    let s : Stage = fresh_stage e in
    let f : State = (at_f d t set).state in
    g_settled f t (held_at d t set) h (f_decided s t (e_decided x t x.phase refl)) (f_open s t)
