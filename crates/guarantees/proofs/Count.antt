-- At most three intervals to a job. A job weighs 3 while ready, 2 while it is being copied in, loaded or promoted, 1 while it executes or waits
-- for its copy-out, and then 0; a cancelled copy-in, whose job is ready again, owes 1, which the job that is promoted pays. Every interval
-- that begins takes a weight of 1 at least. Beside it a mass falls at every phase's end, so that the empty sets come to an end.
use Rattle.std.proofs.Common.{◌≡◌, ◌+◌, ◌*◌, ◌^◌, ◌≤◌, ◌<◌}
use Rattle.guarantees.specs.Types.{refl, sym, ap, subst, Bool, true, false, cond, false≢true, ⊎_elim, List, ℕ, Table, Option, None, Some, Processor, Idle, CopyingIn, Executing, Finished, CopyOut, NoCopyOut, CopyingOut, CopiedOut, CopyIn, Unchosen, NoneChosen, Copying, Loaded, Cancelled, Interval, Next, NoneNext, LoadedNext, PromotedNext, Outgoing, NoneOutgoing, AwaitsCopyOut, Phase, Between, Within, State, Stage, Call}
use native.Mathlib.Omega.{arith}
use borrow.Author.Tests.{eqb-false, not-true}
use lib.Dec.{eqb}
use Rattle.sets.specs.Sets.{member, union, intersection, insert, size}
use Rattle.sets.proofs.Laws.{clash, union_left, intersection_in, intersection_left, intersection_right, insert_other, size_union, size_remove, size_insert, size_none, size_some, empty, union_small, remove_small, insert_small}
use Rattle.guarantees.proofs.Frames.{at_c, at_d}
use Rattle.guarantees.proofs.Highest.{Best}
use Rattle.guarantees.proofs.Walk.{walk}
use Rattle.guarantees.proofs.Totals.{begins_of, takes_of}
use Rattle.guarantees.specs.History.{history, Event, begin_events}
use Rattle.rules.specs.Calls.{opened}
use Rattle.guarantees.specs.Queries.{total, is_take, is_begin}
use Rattle.rules.specs.Instant.{step_a, step_b, step_c, step_d, step_e, step_g, promoted, next_of, without_promoted, close, close_stage, over, with_candidates, cancel, choose, choose_if, begin, begin_processor, begin_copyout, wanted, without_done, ended, copyin_at, processor_at, awaiting_copyout, at_a, at_b, at_e, at_f, at_g, taken_at, deferred_at, copyout_at, fresh_stage}
use Rattle.rules.specs.With.{at_clock}
use Rattle.rules.specs.Order.{highest_of, outranks}
use Rattle.guarantees.proofs.Steps.{Sub, c_new, NewIn, NewAt, best_of}
use Rattle.rules.specs.Instant
use Rattle.guarantees.proofs.Cases.{held_at, Held, d_cases, e_cases, copyin_cases, copyout_cases, processor_cases}

-- ---- weights

abbrev pub copyin_weight : CopyIn → ℕ
copyin_weight Unchosen = 0
copyin_weight NoneChosen = 0
copyin_weight (Copying n until) = 2
copyin_weight (Loaded n) = 2
copyin_weight (Cancelled n fate) = 0

-- what a cancelled copy-in has cost
abbrev pub copyin_debt : CopyIn → ℕ
copyin_debt Unchosen = 0
copyin_debt NoneChosen = 0
copyin_debt (Copying n until) = 0
copyin_debt (Loaded n) = 0
copyin_debt (Cancelled n fate) = 1

abbrev pub processor_weight : Processor → ℕ
processor_weight Idle = 0
processor_weight (CopyingIn n until) = 1
processor_weight (Executing n start until) = 1
processor_weight (Finished n start) = 1

abbrev pub next_weight : Next → ℕ
next_weight NoneNext = 0
next_weight (LoadedNext n) = 2
next_weight (PromotedNext n) = 2

abbrev pub outgoing_weight : Outgoing → ℕ
outgoing_weight NoneOutgoing = 0
outgoing_weight (AwaitsCopyOut n start) = 1

abbrev pub phase_weight : Phase → ℕ
phase_weight (Between next outgoing) = next_weight next + outgoing_weight outgoing
phase_weight (Within i) = copyin_weight i.copyin + processor_weight i.processor

abbrev pub phase_debt : Phase → ℕ
phase_debt (Between next outgoing) = 0
phase_debt (Within i) = copyin_debt i.copyin

abbrev pub weight : State → Phase → ℕ
weight d p = 3 * size d.jobs.ready + phase_weight p

-- ---- the phases that are still to end in the open interval

abbrev pub processor_rank : Processor → ℕ
processor_rank Idle = 0
processor_rank (CopyingIn n until) = 2
processor_rank (Executing n start until) = 1
processor_rank (Finished n start) = 0

abbrev pub copyout_rank : CopyOut → ℕ
copyout_rank NoCopyOut = 0
copyout_rank (CopyingOut n start until) = 1
copyout_rank (CopiedOut n) = 0

abbrev pub copyin_rank : CopyIn → ℕ
copyin_rank Unchosen = 0
copyin_rank NoneChosen = 0
copyin_rank (Copying n until) = 1
copyin_rank (Loaded n) = 0
copyin_rank (Cancelled n fate) = 0

abbrev pub rank : Phase → ℕ
rank (Between next outgoing) = 0
rank (Within i) = processor_rank i.processor + copyout_rank i.copyout + copyin_rank i.copyin

processor_rank_small : (q : Processor) → processor_rank q ≤ 2
processor_rank_small Idle = omega arith
processor_rank_small (CopyingIn n until) = omega arith
processor_rank_small (Executing n start until) = omega arith
processor_rank_small (Finished n start) = omega arith

copyout_rank_small : (o : CopyOut) → copyout_rank o ≤ 1
copyout_rank_small NoCopyOut = omega arith
copyout_rank_small (CopyingOut n start until) = omega arith
copyout_rank_small (CopiedOut n) = omega arith

copyin_rank_small : (c : CopyIn) → copyin_rank c ≤ 1
copyin_rank_small Unchosen = omega arith
copyin_rank_small NoneChosen = omega arith
copyin_rank_small (Copying n until) = omega arith
copyin_rank_small (Loaded n) = omega arith
copyin_rank_small (Cancelled n fate) = omega arith

pub rank_small : (p : Phase) → rank p ≤ 4
rank_small (Between next outgoing) = omega arith
rank_small (Within i) = omega (arith, processor_rank_small i.processor, copyout_rank_small i.copyout, copyin_rank_small i.copyin)

-- ---- the invariant: after a cancelled copy-in there is somebody to promote

pub record Rival (ready candidates : ℕ) : Type 0 where
  pub who : ℕ
  pub task : who < 32
  pub is_ready : member who ready ≡ true
  pub is_candidate : member who candidates ≡ true

abbrev pub Paid-in : ℕ → ℕ → CopyIn → Type 0
Paid-in ready candidates Unchosen = Unit {0}
Paid-in ready candidates NoneChosen = Unit {0}
Paid-in ready candidates (Copying n until) = Unit {0}
Paid-in ready candidates (Loaded n) = Unit {0}
Paid-in ready candidates (Cancelled n fate) = Rival ready candidates

abbrev pub Paid : ℕ → Phase → Type 0
Paid ready (Between next outgoing) = Unit {0}
Paid ready (Within i) = Paid-in ready i.candidates i.copyin

pub record Sound (d : State) (p : Phase) : Type 0 where
  pub few : d.jobs.ready < 2 ^ 32
  pub paid : Paid d.jobs.ready p

-- from a state d in the phase p to another, with b intervals begun and n jobs taken
pub record Leads (d : State) (p : Phase) (d' : State) (p' : Phase) (b n : ℕ) : Type 0 where
  pub sound : Sound d' p'
  pub weigh : weight d' p' + phase_debt p + b ≤ weight d p + phase_debt p' + 3 * n
  pub sink : 8 * weight d' p' + rank p' + 8 * phase_debt p ≤ 8 * weight d p + rank p + 8 * phase_debt p' + 24 * n

stays : (d : State) → Sound d d.phase → Leads d d.phase d d.phase 0 0
stays d h = record { sound = h; weigh = omega arith; sink = omega arith }

back : (d : State) (p : Phase) → d.phase ≡ p → Sound d p → Leads d p d d.phase 0 0
back d p e h = subst (λ (x : Phase). Leads d p d x 0 0) (sym e) (record { sound = h; weigh = omega arith; sink = omega arith })

-- a
pub a_weight : (t : ℕ) (c : CopyIn) → copyin_weight (copyin_at t c) ≡ copyin_weight c
a_weight t c = copyin_cases t (λ x. copyin_weight x ≡ copyin_weight c) c refl (λ n u e x. ap copyin_weight (sym e))

pub a_debt : (t : ℕ) (c : CopyIn) → copyin_debt (copyin_at t c) ≡ copyin_debt c
a_debt t c = copyin_cases t (λ x. copyin_debt x ≡ copyin_debt c) c refl (λ n u e x. ap copyin_debt (sym e))

pub a_processor : (table : Table) (t : ℕ) (q : Processor) → processor_weight (processor_at table t q) ≡ processor_weight q
a_processor table t q =
    processor_cases t table (λ x. processor_weight x ≡ processor_weight q) q refl (λ n u e x. ap processor_weight (sym e)) (λ n s u e x. ap processor_weight (sym e))

a_paid : (ready candidates t : ℕ) (c : CopyIn) → Paid-in ready candidates c → Paid-in ready candidates (copyin_at t c)
a_paid ready candidates t c h = copyin_cases t (Paid-in ready candidates) c h (λ n u e x. tt)

a_copyin_rank : (t : ℕ) (c : CopyIn) → copyin_rank (copyin_at t c) ≤ copyin_rank c
a_copyin_rank t c = copyin_cases t (λ x. copyin_rank x ≤ copyin_rank c) c (omega arith) (λ n u e x. omega arith)

a_copyout_rank : (t : ℕ) (o : CopyOut) → copyout_rank (copyout_at t o) ≤ copyout_rank o
a_copyout_rank t o = copyout_cases t (λ x. copyout_rank x ≤ copyout_rank o) o (omega arith) (λ n s u e x. omega arith)

a_processor_rank : (table : Table) (t : ℕ) (q : Processor) → processor_rank (processor_at table t q) ≤ processor_rank q
a_processor_rank table t q =
    processor_cases t table (λ x. processor_rank x ≤ processor_rank q) q (omega arith) (λ n u e x. omega (arith, ap processor_rank e)) (λ n s u e x. omega arith)

pub a_leads : (d : State) (t : ℕ) (p : Phase) → d.phase ≡ p → Sound d p → Leads d p (step_a d t p).state (step_a d t p).state.phase 0 0
unfolding step_a without_done ended
a_leads d t (Between next outgoing) e h = back d (Between next outgoing) e h
a_leads d t (Within i) e h = record {
  sound = record { few = h.few; paid = a_paid d.jobs.ready i.candidates t i.copyin h.paid };
  weigh = omega (arith, a_weight t i.copyin, a_debt t i.copyin, a_processor d.table t i.processor);
  sink = omega (
    arith,
    a_weight t i.copyin,
    a_debt t i.copyin,
    a_processor d.table t i.processor,
    a_processor_rank d.table t i.processor,
    a_copyout_rank t i.copyout,
    a_copyin_rank t i.copyin,
  );
}

-- b, f
outgoing_lighter : (q : Processor) → outgoing_weight (awaiting_copyout q) ≤ processor_weight q
outgoing_lighter Idle = omega arith
outgoing_lighter (CopyingIn n until) = omega arith
outgoing_lighter (Executing n start until) = omega arith
outgoing_lighter (Finished n start) = omega arith

promote : (ready s : ℕ) (pr : List ℕ) (q : Option ℕ) → Best pr s q → Sub s ready
    → 3 * size (without_promoted ready q) + next_weight (next_of NoneChosen q) ≤ 3 * size ready
promote ready s pr None b h = omega arith
promote ready s pr (Some q) b h = omega (arith, size_remove q ready b.0 (h q b.0 b.1))

promote_debt : (ready s : ℕ) (pr : List ℕ) (q : Option ℕ) (c fate k : ℕ) → Best pr s q → Sub s ready → k < 32 → member k s ≡ true
    → 3 * size (without_promoted ready q) + next_weight (next_of (Cancelled c fate) q) + 1 ≤ 3 * size ready
promote_debt ready s pr None c fate k b h l m = clash (member k s) m (b k l)
promote_debt ready s pr (Some q) c fate k b h l m = omega (arith, size_remove q ready b.0 (h q b.0 b.1))

b_next : (d : State) (i : Interval) (c : CopyIn) → Paid-in d.jobs.ready i.candidates c
    → 3 * size (without_promoted d.jobs.ready (promoted d i c)) + next_weight (next_of c (promoted d i c)) + copyin_debt c ≤ 3 * size d.jobs.ready + copyin_weight c
unfolding promoted
b_next d i Unchosen h = omega arith
b_next d i NoneChosen h =
    let s : ℕ = intersection i.candidates d.jobs.ready in
    omega (arith, promote d.jobs.ready s d.table.priority (highest_of d s) (best_of d s) (λ k l m. intersection_right i.candidates d.jobs.ready k m))
b_next d i (Copying n until) h = omega arith
b_next d i (Loaded n) h = omega arith
b_next d i (Cancelled n fate) h =
    let s : ℕ = intersection i.candidates d.jobs.ready in
    omega (
      arith,
      promote_debt d.jobs.ready s d.table.priority (highest_of d s) n fate h.who (best_of d s) (λ k l m. intersection_right i.candidates d.jobs.ready k m)
          h.task (intersection_in i.candidates d.jobs.ready h.who h.task h.is_candidate h.is_ready),
    )

minus_small : (s : ℕ) (q : Option ℕ) → s < 2 ^ 32 → without_promoted s q < 2 ^ 32
minus_small s None h = h
minus_small s (Some n) h = remove_small n s

pub b_leads : (s : Stage) (t : ℕ) (p : Phase) → s.state.phase ≡ p → Sound s.state p → Leads s.state p (step_b s t p).state (step_b s t p).state.phase 0 0
unfolding step_b close_stage close
b_leads s t (Between next outgoing) e h = back s.state (Between next outgoing) e h
b_leads s t (Within i) e h = go (over i)
  where
    go : (b : Bool) → Leads s.state (Within i) (close_stage s t i b).state (close_stage s t i b).state.phase 0 0
    go true = record {
      sound = record { few = minus_small s.state.jobs.ready (promoted s.state i i.copyin) h.few; paid = tt };
      weigh = omega (arith, b_next s.state i i.copyin h.paid, outgoing_lighter i.processor);
      sink = omega (arith, b_next s.state i i.copyin h.paid, outgoing_lighter i.processor);
    }
    go false = back s.state (Within i) e h

-- c
c_rank : (d : State) (taken : ℕ) (p : Phase) → rank (with_candidates d taken p) ≡ rank p
unfolding with_candidates
c_rank d taken (Between next outgoing) = refl
c_rank d taken (Within i) = refl

c_phase : (d : State) (taken : ℕ) (p : Phase) → (phase_weight (with_candidates d taken p) ≡ phase_weight p) × (phase_debt (with_candidates d taken p) ≡ phase_debt p)
unfolding with_candidates
c_phase d taken (Between next outgoing) = (refl, refl)
c_phase d taken (Within i) = (refl, refl)

rival_more : (ready candidates ready' candidates' : ℕ) → Sub ready ready' → Sub candidates candidates' → Rival ready candidates → Rival ready' candidates'
rival_more ready candidates ready' candidates' r f h =
    record { who = h.who; task = h.task; is_ready = r h.who h.task h.is_ready; is_candidate = f h.who h.task h.is_candidate }

paid_more : (ready candidates ready' candidates' : ℕ) → Sub ready ready' → Sub candidates candidates' → (c : CopyIn) → Paid-in ready candidates c → Paid-in ready' candidates' c
paid_more ready candidates ready' candidates' r f Unchosen h = tt
paid_more ready candidates ready' candidates' r f NoneChosen h = tt
paid_more ready candidates ready' candidates' r f (Copying n until) h = tt
paid_more ready candidates ready' candidates' r f (Loaded n) h = tt
paid_more ready candidates ready' candidates' r f (Cancelled n fate) h = rival_more ready candidates ready' candidates' r f h

c_paid : (d : State) (taken : ℕ) (p : Phase) → Paid d.jobs.ready p → Paid (union d.jobs.ready taken) (with_candidates d taken p)
unfolding with_candidates
c_paid d taken (Between next outgoing) h = tt
c_paid d taken (Within i) h =
    paid_more d.jobs.ready i.candidates (union d.jobs.ready taken) (union i.candidates (intersection taken d.marked))
    (λ k l m. union_left d.jobs.ready taken k l m) (λ k l m. union_left i.candidates (intersection taken d.marked) k l m) i.copyin h

c_leads : (d : State) (t taken deferred : ℕ) → Sound d d.phase → Leads d d.phase (step_c d t taken deferred) (step_c d t taken deferred).phase 0 (size taken)
unfolding step_c
c_leads d t taken deferred h = record {
  sound = record { few = union_small d.jobs.ready taken; paid = c_paid d taken d.phase h.paid };
  weigh = omega (arith, (c_phase d taken d.phase).0, (c_phase d taken d.phase).1, size_union d.jobs.ready taken);
  sink = omega (arith, (c_phase d taken d.phase).0, (c_phase d taken d.phase).1, size_union d.jobs.ready taken, c_rank d taken d.phase);
}

-- d
d_rival : (d : State) (taken : ℕ) (i : Interval) (c : ℕ) (q : Option ℕ) → NewIn d taken i
    → Best d.table.priority (intersection taken d.marked) q → outranks d c q ≡ true → Rival (insert c d.jobs.ready) i.candidates
d_rival d taken i c None f b t = absurd (false≢true t)
d_rival d taken i c (Some q) f b t =
    let is-new : member q taken ≡ true = intersection_left taken d.marked q b.1 in
    record {
      who = q;
      task = b.0;
      is_ready = insert_other c d.jobs.ready q b.0 (f.ready q b.0 is-new);
      is_candidate = f.candidates q b.0 is-new (intersection_right taken d.marked q b.1);
    }

held_weight : (k : CopyIn) (c : ℕ) → Held k c → copyin_weight k ≡ 2
held_weight k c s = ⊎_elim (λ x. ap copyin_weight x.1) (λ x. ap copyin_weight x) s

held_debt : (k : CopyIn) (c : ℕ) → Held k c → copyin_debt k ≡ 0
held_debt k c s = ⊎_elim (λ x. ap copyin_debt x.1) (λ x. ap copyin_debt x) s

d_cancel : (d : State) (taken : ℕ) (i : Interval) (c fate : ℕ) → Held i.copyin c → NewIn d taken i → Sound d (Within i)
    → outranks d c (highest_of d (intersection taken d.marked)) ≡ true → Leads d (Within i) (cancel d i c fate true) (cancel d i c fate true).phase 0 0
unfolding cancel
d_cancel d taken i c fate s f h b = record {
  sound = record {
    few = insert_small c d.jobs.ready;
    paid = d_rival d taken i c (highest_of d (intersection taken d.marked)) f (best_of d (intersection taken d.marked)) b;
  };
  weigh = omega (arith, size_insert c d.jobs.ready, held_weight i.copyin c s, held_debt i.copyin c s);
  sink = omega (arith, size_insert c d.jobs.ready, held_weight i.copyin c s, held_debt i.copyin c s);
}

d_leads : (d : State) (taken : ℕ) → NewAt d taken d.phase → Sound d d.phase → Leads d d.phase (step_d d taken d.phase) (step_d d taken d.phase).phase 0 0
d_leads d taken f h =
    d_cases (λ x. Leads d d.phase x x.phase 0 0) d taken (stays d h)
    (λ i c fate e s b.
    subst (λ (p : Phase). Leads d p (cancel d i c fate true) (cancel d i c fate true).phase 0 0) (sym e) (d_cancel d taken i c fate s (subst (NewAt d taken) e f) (subst (Sound d) e h) b))

-- e
choose_leads : (d : State) (t : ℕ) (i : Interval) (q : Option ℕ) → i.copyin ≡ Unchosen → Sound d (Within i) → Best d.table.priority d.jobs.ready q
    → Leads d (Within i) (choose d t i q) (choose d t i q).phase 0 0
unfolding choose
choose_leads d t i None s h b = record { sound = record { few = h.few; paid = tt }; weigh = rw s (omega arith); sink = rw s (omega arith) }
choose_leads d t i (Some q) s h b = record {
  sound = record { few = remove_small q d.jobs.ready; paid = tt };
  weigh = rw s (omega (arith, size_remove q d.jobs.ready b.0 b.1));
  sink = rw s (omega (arith, size_remove q d.jobs.ready b.0 b.1));
}

-- with a job that is ready the choice takes one
choose_falls : (d : State) (t : ℕ) (i : Interval) (q : Option ℕ) → i.copyin ≡ Unchosen → d.jobs.ready < 2 ^ 32 → eqb d.jobs.ready 0 ≡ false
    → Best d.table.priority d.jobs.ready q → weight (choose d t i q) (choose d t i q).phase + 1 ≤ weight d (Within i)
unfolding choose
choose_falls d t i None s f h b = absurd (eqb-false d.jobs.ready 0 h (empty d.jobs.ready f b))
choose_falls d t i (Some q) s f h b = rw s (omega (arith, size_remove q d.jobs.ready b.0 b.1))

e_leads : (d : State) (t : ℕ) → Sound d d.phase → Leads d d.phase (step_e d t d.phase) (step_e d t d.phase).phase 0 0
e_leads d t h =
    let q : Option ℕ = highest_of d d.jobs.ready in
    e_cases (λ x. Leads d d.phase x x.phase 0 0) d t (stays d h)
    (λ i e s u. subst (λ (p : Phase). Leads d p (choose d t i q) (choose d t i q).phase 0 0) (sym e) (choose_leads d t i q s (subst (Sound d) e h) (best_of d d.jobs.ready)))

-- g
begins_one : (t : ℕ) (p q : Phase) → total is_begin (begin_events t p q) ≤ 1
unfolding begin_events total
begins_one t (Within i) q = omega arith
begins_one t (Between next outgoing) (Between x y) = omega arith
begins_one t (Between next outgoing) (Within j) = omega arith

-- a state whose interval has just begun
module _ (f : State) (t taken : ℕ) (next : Next) (outgoing : Outgoing) (h : Sound f (Between next outgoing)) where
  new_interval : Interval
  new_interval = record {
    begin = t;
    work = Instant.work_of next;
    processor = begin_processor f.table t next;
    copyout = begin_copyout f.table t outgoing;
    copyin = Unchosen;
    candidates = intersection taken f.marked;
  }

  opened_leads : let b : State = begin f t taken next outgoing in
      Leads b b.phase (step_e b t b.phase) (step_e b t b.phase).phase 0 0
  unfolding begin
  opened_leads = let b : State = begin f t taken next outgoing in e_leads b t (record { few = h.few; paid = tt })

g_falls : (f : State) (t taken : ℕ) (next : Next) (outgoing : Outgoing) → Sound f (Between next outgoing) → wanted next outgoing f.jobs.ready ≡ true
    → let b : State = begin f t taken next outgoing in
    weight (step_e b t b.phase) (step_e b t b.phase).phase + 1 ≤ weight f (Between next outgoing) + phase_debt (step_e b t b.phase).phase
unfolding begin
g_falls f t taken (LoadedNext n) outgoing h w = omega (arith, (opened_leads f t taken (LoadedNext n) outgoing h).weigh)
g_falls f t taken (PromotedNext n) outgoing h w = omega (arith, (opened_leads f t taken (PromotedNext n) outgoing h).weigh)
g_falls f t taken NoneNext (AwaitsCopyOut m s) h w = omega (arith, (opened_leads f t taken NoneNext (AwaitsCopyOut m s) h).weigh)
g_falls f t taken NoneNext NoneOutgoing h w =
    unfold step_e choose_if new_interval in
    let b : State = begin f t taken NoneNext NoneOutgoing in
    omega (arith, choose_falls b t (new_interval f t taken NoneNext NoneOutgoing h) (highest_of b f.jobs.ready) refl h.few (not-true (eqb f.jobs.ready 0) w) (best_of b f.jobs.ready))

g_leads : (f : State) (t taken : ℕ) (p : Phase) → f.phase ≡ p → Sound f p
    → Leads f p (step_g f t taken p) (step_g f t taken p).phase (total is_begin (begin_events t p (step_g f t taken p).phase)) 0
unfolding step_g begin_events total
g_leads f t taken (Within i) e h = back f (Within i) e h
g_leads f t taken (Between next outgoing) e h = go (wanted next outgoing f.jobs.ready) refl
  where
    b : State
    b = begin f t taken next outgoing

    stays : (q : Phase) → q ≡ Between next outgoing → Leads f (Between next outgoing) f q (total is_begin (begin_events t (Between next outgoing) q)) 0
    stays q x = subst (λ (q : Phase). Leads f (Between next outgoing) f q (total is_begin (begin_events t (Between next outgoing) q)) 0) (sym x) (record { sound = h; weigh = omega arith; sink = omega arith })

    go : (w : Bool) → wanted next outgoing f.jobs.ready ≡ w
        → Leads f (Between next outgoing) (cond w (step_e b t b.phase) f) (cond w (step_e b t b.phase) f).phase (total is_begin (begin_events t (Between next outgoing) (cond w (step_e b t b.phase) f).phase)) 0
    go true x = record {
      sound = (opened_leads f t taken next outgoing h).sound;
      weigh = omega (arith, g_falls f t taken next outgoing h x, begins_one t (Between next outgoing) (step_e b t b.phase).phase);
      sink = omega (arith, g_falls f t taken next outgoing h x, rank_small (step_e b t b.phase).phase);
    }
    go false x = stays f.phase e

-- ---- the steps together

pub to_b : (d : State) (t : ℕ) → Sound d d.phase → Leads d d.phase (at_b d t).state (at_b d t).state.phase 0 0
unfolding at_b at_a
to_b d t h =
    let a : Stage = at_a d t in
    let x : Leads (at_clock d t) d.phase a.state a.state.phase 0 0 = a_leads (at_clock d t) t d.phase refl (record { few = h.few; paid = h.paid }) in
    let y : Leads a.state a.state.phase (at_b d t).state (at_b d t).state.phase 0 0 = b_leads a t a.state.phase refl x.sound in
    record { sound = y.sound; weigh = omega (arith, x.weigh, y.weigh); sink = omega (arith, x.sink, y.sink) }

pub to_e : (d : State) (t set : ℕ) → Sound (at_b d t).state (at_b d t).state.phase
    → Leads (at_b d t).state (at_b d t).state.phase (at_e d t set) (at_e d t set).phase 0 (size (taken_at d t set))
unfolding at_e
to_e d t set h =
    let b : State = (at_b d t).state in
    let c : State = at_c d t set in
    let x : State = at_d d t set in
    let e : State = at_e d t set in
    let l1 : Leads b b.phase c c.phase 0 (size (taken_at d t set)) = c_leads b t (taken_at d t set) (deferred_at d t set) h in
    let l2 : Leads c c.phase x x.phase 0 0 = d_leads c (taken_at d t set) (c_new b t (taken_at d t set) (deferred_at d t set)) l1.sound in
    let l3 : Leads x x.phase e e.phase 0 0 = e_leads x t l2.sound in
    record { sound = l3.sound; weigh = omega (arith, l1.weigh, l2.weigh, l3.weigh); sink = omega (arith, l1.sink, l2.sink, l3.sink) }

pub to_g : (d : State) (t set : ℕ) → Sound (at_e d t set) (at_e d t set).phase
    → Leads (at_e d t set) (at_e d t set).phase (at_g d t set) (at_g d t set).phase (total is_begin (begin_events t (at_f d t set).state.phase (at_g d t set).phase)) 0
unfolding at_f at_g
to_g d t set h =
    let e : State = at_e d t set in
    let f : State = (at_f d t set).state in
    let g : State = at_g d t set in
    let x : Leads e e.phase f f.phase 0 0 = b_leads (fresh_stage e) t e.phase refl h in
    let y : Leads f f.phase g g.phase (total is_begin (begin_events t f.phase g.phase)) 0 = g_leads f t (held_at d t set) f.phase refl x.sound in
    record { sound = y.sound; weigh = omega (arith, x.weigh, y.weigh); sink = omega (arith, x.sink, y.sink) }

pub instant_leads : (d : State) (t set : ℕ) → Sound d d.phase
    → Leads d d.phase (at_g d t set) (at_g d t set).phase (total is_begin (begin_events t (at_f d t set).state.phase (at_g d t set).phase)) (size (taken_at d t set))
instant_leads d t set h =
    let x : Leads d d.phase (at_b d t).state (at_b d t).state.phase 0 0 = to_b d t h in
    let y : Leads (at_b d t).state (at_b d t).state.phase (at_e d t set) (at_e d t set).phase 0 (size (taken_at d t set)) = to_e d t set x.sound in
    let z : Leads (at_e d t set) (at_e d t set).phase (at_g d t set) (at_g d t set).phase (total is_begin (begin_events t (at_f d t set).state.phase (at_g d t set).phase)) 0 = to_g d t set y.sound in
    record { sound = z.sound; weigh = omega (arith, x.weigh, y.weigh, z.weigh); sink = omega (arith, x.sink, y.sink, z.sink) }

-- ---- along the calls

pub debt_covered : (d : State) (p : Phase) → Sound d p → phase_debt p ≤ weight d p
debt_covered d (Between next outgoing) h = omega arith
debt_covered d (Within i) h = go i.copyin h.paid
  where
    go : (c : CopyIn) → Paid-in d.jobs.ready i.candidates c → copyin_debt c ≤ 3 * size d.jobs.ready + (copyin_weight c + processor_weight i.processor)
    go Unchosen h = omega arith
    go NoneChosen h = omega arith
    go (Copying n until) h = omega arith
    go (Loaded n) h = omega arith
    go (Cancelled n fate) h = omega (arith, size_some h.who d.jobs.ready h.task h.is_ready)

pub counted : (d : State) (cs : List Call) → Sound d d.phase
    → total is_begin (history d cs) + phase_debt d.phase ≤ weight d d.phase + 3 * total is_take (history d cs)
counted d cs =
    walk (λ d h. Sound d d.phase → total is_begin h + phase_debt d.phase ≤ weight d d.phase + 3 * total is_take h)
    (λ d s. unfold total in omega (arith, debt_covered d d.phase s))
    (λ d t set cs e k s.
    let h : List Event = history (at_g d t set) cs in
    let l : Leads d d.phase (at_g d t set) (at_g d t set).phase (total is_begin (begin_events t (at_f d t set).state.phase (at_g d t set).phase)) (size (taken_at d t set)) = instant_leads d t set s in
    omega (arith, begins_of d t set h, takes_of d t set h, l.weigh, k l.sound))
    (λ d m e h k s. k (record { few = s.few; paid = s.paid }))
    cs d

pub at_most_three : (table : Table) (marked : ℕ) (cs : List Call)
    → total is_begin (history (opened table marked) cs) ≤ 3 * total is_take (history (opened table marked) cs)
unfolding opened
at_most_three table marked cs =
    omega (arith, size_none, counted (opened table marked) cs (record { few = omega arith; paid = tt }))
