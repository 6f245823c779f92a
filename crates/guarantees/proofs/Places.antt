-- Where the pending jobs are: a job that is pending is ready or in one place of one unit, and in no second one; so that a task's bit of the
-- pending set is the sum of its bits elsewhere. And every task that a state names is one of the table's.
use Rattle.std.proofs.Common.{◌≡◌, ◌&&◌, ◌||◌, ◌+◌, ◌^◌, ◌≤◌, ◌<◌}
use Rattle.guarantees.specs.Types.{refl, sym, ap, ◌∙◌, subst, Bool, true, false, cond, not, true≢false, false≢true, List, ⊎_elim, ℕ, Table, Jobs, Option, JobEntry, None, Some, Processor, Idle, CopyingIn, Executing, Finished, CopyOut, NoCopyOut, CopyingOut, CopiedOut, CopyIn, Unchosen, NoneChosen, Copying, Loaded, Cancelled, Interval, Next, NoneNext, LoadedNext, PromotedNext, Outgoing, NoneOutgoing, AwaitsCopyOut, Phase, Between, Within, State, Stage}
use native.Mathlib.Omega.{arith}
use borrow.Author.Tests.{eqb-true, not-true}
use lib.Dec.{eqb}
use Rattle.sets.specs.Sets.{member, intersection, difference, remove, bit, size}
use Rattle.sets.proofs.Laws.{left, united, inserted, removed, same_task, member_task, size_union_apart, remove_out, union_out, insert_out, by-test, right, intersection_right, difference_left, size_remove, union_small, remove_small}
use Rattle.guarantees.proofs.Frames.{at_c, at_d}
use Rattle.guarantees.proofs.Highest.{Best}
use Rattle.guarantees.specs.Queries.{total, is_completion}
use Rattle.rules.specs.Instant.{step_a, step_b, step_c, step_d, step_e, step_g, promoted, next_of, without_promoted, close, close_stage, over, with_candidates, cancel, choose, begin, begin_processor, begin_copyout, copying_out, wanted, taken, deferred, completed, without_done, ended, copyin_at, copyout_at, processor_at, awaiting_copyout, resting, after_done, settled, at_a, at_b, at_e, at_f, at_g, taken_at, deferred_at, fresh_stage}
use Rattle.rules.specs.With.{at_clock}
use Rattle.rules.specs.Order.{highest_of}
use Rattle.guarantees.specs.History.{completion_events}
use Rattle.guarantees.proofs.Steps.{Sub, best_of, settles}
use Rattle.guarantees.proofs.Releases.{taken_from, deferred_from, taken_not_pending, passed, passed_known}
use Rattle.guarantees.proofs.Cases.{held_at, Held, d_cases, e_cases, copyin_cases, processor_cases}
use Rattle.guarantees.specs.States.{Known, copyin_known, processor_known, copyout_known, next_known, outgoing_known, phase_known}

-- ---- where a task's job is

abbrev pub copyin_bit : ℕ → CopyIn → ℕ
copyin_bit k Unchosen = 0
copyin_bit k NoneChosen = 0
copyin_bit k (Copying n until) = bit (eqb k n)
copyin_bit k (Loaded n) = bit (eqb k n)
copyin_bit k (Cancelled n fate) = 0

abbrev pub processor_bit : ℕ → Processor → ℕ
processor_bit k Idle = 0
processor_bit k (CopyingIn n until) = bit (eqb k n)
processor_bit k (Executing n start until) = bit (eqb k n)
processor_bit k (Finished n start) = bit (eqb k n)

abbrev pub copyout_bit : ℕ → CopyOut → ℕ
copyout_bit k NoCopyOut = 0
copyout_bit k (CopyingOut n start until) = bit (eqb k n)
copyout_bit k (CopiedOut n) = 0

abbrev pub next_bit : ℕ → Next → ℕ
next_bit k NoneNext = 0
next_bit k (LoadedNext n) = bit (eqb k n)
next_bit k (PromotedNext n) = bit (eqb k n)

abbrev pub outgoing_bit : ℕ → Outgoing → ℕ
outgoing_bit k NoneOutgoing = 0
outgoing_bit k (AwaitsCopyOut n start) = bit (eqb k n)

abbrev pub stage : ℕ → Phase → ℕ
stage k (Between next outgoing) = next_bit k next + outgoing_bit k outgoing
stage k (Within i) = copyin_bit k i.copyin + processor_bit k i.processor + copyout_bit k i.copyout

pub rests : (i : Interval) → over i ≡ true → resting i.processor ≡ true
rests i o = left (resting i.processor) (not (copying_out i.copyout) && settled i.copyin) o

pub no_copyout : (i : Interval) → over i ≡ true → copying_out i.copyout ≡ false
no_copyout i o =
    not-true (copying_out i.copyout) (left (not (copying_out i.copyout)) (settled i.copyin)
    (right (resting i.processor) (not (copying_out i.copyout) && settled i.copyin) o))

module _ (present : ℕ) (tasks : present < 2 ^ 32) where
  -- a pending job is ready or in one stage of one unit, and in no second one
  pub record Parted (d : State) (p : Phase) : Type 0 where
    pub few : d.jobs.pending < 2 ^ 32
    pub marks : Sub d.marked present
    pub pending : Sub d.jobs.pending present
    pub ready : Sub d.jobs.ready present
    pub waits : Sub d.waiting.tasks present
    pub known : phase_known present p
    pub parts : (k : ℕ) → k < 32 → bit (member k d.jobs.pending) ≡ bit (member k d.jobs.ready) + stage k p

  -- from a state in a phase to another, with c jobs completed and n taken
  pub record Moves (d : State) (p : Phase) (d' : State) (p' : Phase) (c n : ℕ) : Type 0 where
    pub parted : Parted d' p'
    pub sizes : size d'.jobs.pending + c ≡ size d.jobs.pending + n

  back : (d : State) (p : Phase) → d.phase ≡ p → Parted d p → Moves d p d d.phase 0 0
  back d p e h = subst (λ (x : Phase). Moves d p d x 0 0) (sym e) (record { parted = h; sizes = refl })

  -- a
  a_copyin_bit : (k t : ℕ) (c : CopyIn) → copyin_bit k (copyin_at t c) ≡ copyin_bit k c
  a_copyin_bit k t c = copyin_cases t (λ x. copyin_bit k x ≡ copyin_bit k c) c refl (λ n u e x. ap (copyin_bit k) (sym e))

  pub a_processor_bit : (k : ℕ) (table : Table) (t : ℕ) (q : Processor) → processor_bit k (processor_at table t q) ≡ processor_bit k q
  a_processor_bit k table t q =
      processor_cases t table (λ x. processor_bit k x ≡ processor_bit k q) q refl (λ n u e x. ap (processor_bit k) (sym e)) (λ n s u e x. ap (processor_bit k) (sym e))

  a_copyin_known : (t : ℕ) (c : CopyIn) → copyin_known present c → copyin_known present (copyin_at t c)
  a_copyin_known t c h = copyin_cases t (copyin_known present) c h (λ n u e x. subst (copyin_known present) e h)

  a_processor_known : (table : Table) (t : ℕ) (q : Processor) → processor_known present q → processor_known present (processor_at table t q)
  a_processor_known table t q h =
      processor_cases t table (processor_known present) q h (λ n u e x. subst (processor_known present) e h) (λ n s u e x. subst (processor_known present) e h)

  complete_bit : (x p : Bool) (r : ℕ) → bit p ≡ r + bit x → bit (not x && p) ≡ r
  complete_bit true true r h = omega arith
  complete_bit true false r h = omega arith
  complete_bit false p r h = omega arith

  is_in : (p : Bool) (r : ℕ) → bit p ≡ r + 1 → p ≡ true
  is_in true r h = refl
  is_in false r h = absurd (omega arith)

  -- a copy-out that ends takes its job out of the pending ones
  pub record Left (j : Jobs) (o : CopyOut) (done : Option JobEntry) (o' : CopyOut) : Type 0 where
    pub few : after_done j.pending done < 2 ^ 32
    pub pending : Sub (after_done j.pending done) j.pending
    pub known : copyout_known present o'
    pub parts : (k : ℕ) → k < 32 → (r : ℕ) → bit (member k j.pending) ≡ r + copyout_bit k o
        → bit (member k (after_done j.pending done)) ≡ r + copyout_bit k o'
    pub sizes : size (after_done j.pending done) + total is_completion (completion_events done) ≡ size j.pending

  a_left : (j : Jobs) (t : ℕ) (o : CopyOut) → j.pending < 2 ^ 32 → copyout_known present o
      → ((k : ℕ) → k < 32 → (r : ℕ) × (bit (member k j.pending) ≡ r + copyout_bit k o)) → Left j o (completed j t o) (copyout_at t o)
  unfolding completed copyout_at completion_events total
  a_left j t NoCopyOut f h p = record { few = f; pending = λ k l m. m; known = tt; parts = λ k l r e. e; sizes = omega arith }
  a_left j t (CopiedOut n) f h p = record { few = f; pending = λ k l m. m; known = h; parts = λ k l r e. e; sizes = omega arith }
  a_left j t (CopyingOut n start until) f h p =
      by-test (eqb until t)
      (λ e. rw e (record {
        few = remove_small n j.pending;
        pending = λ k l m. remove_out n j.pending k m;
        known = h;
        parts = λ k l r x. rw (removed n j.pending k l) (omega (arith, complete_bit (eqb k n) (member k j.pending) r x));
        sizes =
            let l : n < 32 = member_task n present tasks h in
            let z : (r : ℕ) × (bit (member n j.pending) ≡ r + bit (eqb n n)) = p n l in
            let m : member n j.pending ≡ true = is_in (member n j.pending) z.0 (rw (same_task n) at z.1) in
            omega (arith, size_remove n j.pending l m);
      }))
      (λ e. rw e (record { few = f; pending = λ k l m. m; known = h; parts = λ k l r e. e; sizes = omega arith }))

  pub a_moves : (d : State) (t : ℕ) (p : Phase) → d.phase ≡ p → Parted d p
      → Moves d p (step_a d t p).state (step_a d t p).state.phase (total is_completion (completion_events (step_a d t p).done)) 0
  unfolding step_a without_done ended
  a_moves d t (Between next outgoing) e h = unfold completion_events total in back d (Between next outgoing) e h
  a_moves d t (Within i) e h =
      let l : Left d.jobs i.copyout (completed d.jobs t i.copyout) (copyout_at t i.copyout) =
      a_left d.jobs t i.copyout h.few h.known.2
      (λ k l. (bit (member k d.jobs.ready) + (copyin_bit k i.copyin + processor_bit k i.processor), omega (arith, h.parts k l))) in
      record {
        parted = record {
          few = l.few;
          marks = h.marks;
          pending = λ k m x. h.pending k m (l.pending k m x);
          ready = h.ready;
          waits = h.waits;
          known = (a_copyin_known t i.copyin h.known.0, a_processor_known d.table t i.processor h.known.1, l.known, h.known.3);
          parts = λ k m.
              omega (
                arith,
                l.parts k m (bit (member k d.jobs.ready) + (copyin_bit k i.copyin + processor_bit k i.processor)) (omega (arith, h.parts k m)),
                a_copyin_bit k t i.copyin,
                a_processor_bit k d.table t i.processor,
              );
        };
        sizes = omega (arith, l.sizes);
      }

  -- b, f
  pub b_outgoing_bit : (k : ℕ) (q : Processor) → resting q ≡ true → outgoing_bit k (awaiting_copyout q) ≡ processor_bit k q
  b_outgoing_bit k Idle h = refl
  b_outgoing_bit k (CopyingIn n until) h = absurd (false≢true h)
  b_outgoing_bit k (Executing n start until) h = absurd (false≢true h)
  b_outgoing_bit k (Finished n start) h = refl

  b_outgoing_known : (q : Processor) → processor_known present q → outgoing_known present (awaiting_copyout q)
  b_outgoing_known Idle h = tt
  b_outgoing_known (CopyingIn n until) h = tt
  b_outgoing_known (Executing n start until) h = tt
  b_outgoing_known (Finished n start) h = h

  pub b_copyout_bit : (k : ℕ) (o : CopyOut) → copying_out o ≡ false → copyout_bit k o ≡ 0
  b_copyout_bit k NoCopyOut h = refl
  b_copyout_bit k (CopyingOut n start until) h = absurd (true≢false h)
  b_copyout_bit k (CopiedOut n) h = refl

  -- a ready job that is taken out of the ready ones
  choose_bit : (x r : Bool) → (x ≡ true → r ≡ true) → bit r ≡ bit (not x && r) + bit x
  choose_bit true r h = rw (h refl)
  choose_bit false true h = refl
  choose_bit false false h = refl

  chosen_bit : (ready q k : ℕ) → k < 32 → member q ready ≡ true → bit (member k ready) ≡ bit (member k (remove q ready)) + bit (eqb k q)
  chosen_bit ready q k l h = rw (removed q ready k l) (choose_bit (eqb k q) (member k ready) (λ e. ap (λ (x : ℕ). member x ready) (eqb-true k q e) ∙ h))

  pub record HandedOn (d : State) (c : CopyIn) (ready : ℕ) (next : Next) : Type 0 where
    pub ready_known : Sub ready present
    pub known : next_known present next
    pub parts : (k : ℕ) → k < 32 → bit (member k d.jobs.ready) + copyin_bit k c ≡ bit (member k ready) + next_bit k next

  promote : (d : State) (pr : List ℕ) (s : ℕ) (q : Option ℕ) → Sub d.jobs.ready present → Best pr s q → Sub s d.jobs.ready
      → HandedOn d NoneChosen (without_promoted d.jobs.ready q) (next_of NoneChosen q)
  promote d pr s None h b f = record { ready_known = h; known = tt; parts = λ k l. refl }
  promote d pr s (Some q) h b f =
      let m : member q d.jobs.ready ≡ true = f q b.0 b.1 in
      record {
        ready_known = λ k l x. h k l (remove_out q d.jobs.ready k x);
        known = h q b.0 m;
        parts = λ k l. omega (arith, chosen_bit d.jobs.ready q k l m);
      }

  next_same : (c fate : ℕ) (q : Option ℕ) → next_of (Cancelled c fate) q ≡ next_of NoneChosen q
  next_same c fate None = refl
  next_same c fate (Some q) = refl

  b_handed_on : (d : State) (i : Interval) (c : CopyIn) → settled c ≡ true → Sub d.jobs.ready present → copyin_known present c
      → HandedOn d c (without_promoted d.jobs.ready (promoted d i c)) (next_of c (promoted d i c))
  unfolding promoted
  b_handed_on d i Unchosen s h n = absurd (false≢true s)
  b_handed_on d i NoneChosen s h n =
      let x : ℕ = intersection i.candidates d.jobs.ready in
      promote d d.table.priority x (highest_of d x) h (best_of d x) (λ k l m. intersection_right i.candidates d.jobs.ready k m)
  b_handed_on d i (Copying c until) s h n = absurd (false≢true s)
  b_handed_on d i (Loaded c) s h n = record { ready_known = h; known = n; parts = λ k l. refl }
  b_handed_on d i (Cancelled c fate) s h n =
      let x : ℕ = intersection i.candidates d.jobs.ready in
      let y : HandedOn d NoneChosen (without_promoted d.jobs.ready (highest_of d x)) (next_of NoneChosen (highest_of d x)) =
      promote d d.table.priority x (highest_of d x) h (best_of d x) (λ k l m. intersection_right i.candidates d.jobs.ready k m) in
      subst (λ (z : Next). HandedOn d (Cancelled c fate) (without_promoted d.jobs.ready (highest_of d x)) z) (sym (next_same c fate (highest_of d x)))
      (record { ready_known = y.ready_known; known = y.known; parts = y.parts })

  pub b_moves : (s : Stage) (t : ℕ) (p : Phase) → s.state.phase ≡ p → Parted s.state p → Moves s.state p (step_b s t p).state (step_b s t p).state.phase 0 0
  unfolding step_b close_stage close
  b_moves s t (Between next outgoing) e h = back s.state (Between next outgoing) e h
  b_moves s t (Within i) e h = go (over i) refl
    where
      go : (b : Bool) → over i ≡ b → Moves s.state (Within i) (close_stage s t i b).state (close_stage s t i b).state.phase 0 0
      go false o = back s.state (Within i) e h
      go true o =
          let y : HandedOn s.state i.copyin (without_promoted s.state.jobs.ready (promoted s.state i i.copyin)) (next_of i.copyin (promoted s.state i i.copyin)) =
          b_handed_on s.state i i.copyin (settles i o) h.ready h.known.0 in
          record {
            parted = record {
              few = h.few;
              marks = h.marks;
              pending = h.pending;
              ready = y.ready_known;
              waits = h.waits;
              known = (y.known, b_outgoing_known i.processor h.known.1);
              parts = λ k l.
                  omega (arith, h.parts k l, y.parts k l, b_outgoing_bit k i.processor (rests i o), b_copyout_bit k i.copyout (no_copyout i o));
            };
            sizes = refl;
          }

  -- c
  c_stage : (d : State) (taken k : ℕ) (p : Phase) → stage k (with_candidates d taken p) ≡ stage k p
  unfolding with_candidates
  c_stage d taken k (Between next outgoing) = refl
  c_stage d taken k (Within i) = refl

  c_known : (d : State) (taken : ℕ) (p : Phase) → Sub d.marked present → phase_known present p → phase_known present (with_candidates d taken p)
  unfolding with_candidates
  c_known d taken (Between next outgoing) m h = h
  c_known d taken (Within i) m h =
      (h.0, h.1, h.2, λ k l x. ⊎_elim (λ y. h.3 k l y) (λ y. m k l (intersection_right taken d.marked k y)) (union_out i.candidates (intersection taken d.marked) k x))

  release_bit : (p r n : Bool) (s : ℕ) → bit p ≡ bit r + s → (n ≡ true → p ≡ false) → bit (p || n) ≡ bit (r || n) + s
  release_bit true r true s h f = absurd (true≢false (f refl))
  release_bit true true false s h f = h
  release_bit true false false s h f = h
  release_bit false true n s h f = absurd (omega arith)
  release_bit false false n s h f = omega arith

  c_moves : (d : State) (t taken deferred : ℕ) → Parted d d.phase → Sub taken present → Sub deferred present → ((k : ℕ) → member k taken ≡ true → member k d.jobs.pending ≡ false)
      → Moves d d.phase (step_c d t taken deferred) (step_c d t taken deferred).phase 0 (size taken)
  unfolding step_c
  c_moves d t taken deferred h n u f = record {
    parted = record {
      few = union_small d.jobs.pending taken;
      marks = h.marks;
      pending = λ k l m. ⊎_elim (λ x. h.pending k l x) (λ x. n k l x) (union_out d.jobs.pending taken k m);
      ready = λ k l m. ⊎_elim (λ x. h.ready k l x) (λ x. n k l x) (union_out d.jobs.ready taken k m);
      waits = λ k l m. ⊎_elim (λ x. h.waits k l (difference_left d.waiting.tasks taken k x)) (λ x. u k l x) (union_out (difference d.waiting.tasks taken) deferred k m);
      known = c_known d taken d.phase h.marks h.known;
      parts = λ k l.
          rw (united d.jobs.pending taken k l, united d.jobs.ready taken k l, c_stage d taken k d.phase)
          (release_bit (member k d.jobs.pending) (member k d.jobs.ready) (member k taken) (stage k d.phase) (h.parts k l) (f k));
    };
    sizes = omega (arith, size_union_apart d.jobs.pending taken f);
  }

  -- with the sets that step c is handed
  pub c_takes : (d : State) (t set : ℕ) → Sub set present → Parted d d.phase
      → let c : State = step_c d t (taken d set) (deferred d set) in Moves d d.phase c c.phase 0 (size (taken d set))
  c_takes d t set f h =
      c_moves d t (taken d set) (deferred d set) h
      (λ k l m. ⊎_elim (λ x. h.waits k l x) (λ x. f k l x) (taken_from d set k m))
      (λ k l m. f k l (deferred_from d set k m))
      (λ k m. taken_not_pending d set k m)

  -- d
  cancel_bit : (x p r : Bool) (s : ℕ) → bit p ≡ bit r + (bit x + s) → bit p ≡ bit (x || r) + s
  cancel_bit true p true s h = absurd (most p (omega arith))
    where
      most : (p : Bool) → 2 ≤ bit p → ⊥
      most true l = omega arith
      most false l = omega arith
  cancel_bit true p false s h = omega arith
  cancel_bit false p r s h = omega arith

  held_known : (k : CopyIn) (c : ℕ) → Held k c → copyin_known present k → Known present c
  held_known k c s n = ⊎_elim (λ x. subst (copyin_known present) x.1 n) (λ x. subst (copyin_known present) x n) s

  held_bit : (j : ℕ) (k : CopyIn) (c : ℕ) → Held k c → copyin_bit j k ≡ bit (eqb j c)
  held_bit j k c s = ⊎_elim (λ x. ap (copyin_bit j) x.1) (λ x. ap (copyin_bit j) x) s

  d_cancel : (d : State) (i : Interval) (c fate : ℕ) → Held i.copyin c → Parted d (Within i) → Moves d (Within i) (cancel d i c fate true) (cancel d i c fate true).phase 0 0
  unfolding cancel
  d_cancel d i c fate s h =
      let n : Known present c = held_known i.copyin c s h.known.0 in
      record {
        parted = record {
          few = h.few;
          marks = h.marks;
          pending = h.pending;
          ready = λ k l m. ⊎_elim (λ x. ap (λ (y : ℕ). member y present) (eqb-true k c x) ∙ n) (λ x. h.ready k l x) (insert_out c d.jobs.ready k m);
          waits = h.waits;
          known = (n, h.known.1, h.known.2, h.known.3);
          parts = λ k l.
              let z : bit (member k d.jobs.pending) ≡ bit (member k d.jobs.ready) + (bit (eqb k c) + processor_bit k i.processor + copyout_bit k i.copyout) =
              omega (arith, h.parts k l, held_bit k i.copyin c s) in
              rw (inserted c d.jobs.ready k l)
              (omega (arith, cancel_bit (eqb k c) (member k d.jobs.pending) (member k d.jobs.ready) (processor_bit k i.processor + copyout_bit k i.copyout) (omega arith)));
        };
        sizes = refl;
      }

  pub d_moves : (d : State) (taken : ℕ) → Parted d d.phase → Moves d d.phase (step_d d taken d.phase) (step_d d taken d.phase).phase 0 0
  d_moves d taken h =
      d_cases (λ x. Moves d d.phase x x.phase 0 0) d taken (record { parted = h; sizes = refl })
      (λ i c fate e s b. subst (λ (p : Phase). Moves d p (cancel d i c fate true) (cancel d i c fate true).phase 0 0) (sym e) (d_cancel d i c fate s (subst (Parted d) e h)))

  -- e
  choose_moves : (d : State) (t : ℕ) (i : Interval) (q : Option ℕ) → i.copyin ≡ Unchosen → Parted d (Within i) → Best d.table.priority d.jobs.ready q
      → Moves d (Within i) (choose d t i q) (choose d t i q).phase 0 0
  unfolding choose
  choose_moves d t i None s h b = record {
    parted = record {
      few = h.few;
      marks = h.marks;
      pending = h.pending;
      ready = h.ready;
      waits = h.waits;
      known = (tt, h.known.1, h.known.2, h.known.3);
      parts = λ k l. subst (λ (y : CopyIn). bit (member k d.jobs.pending) ≡ bit (member k d.jobs.ready) + (copyin_bit k y + processor_bit k i.processor + copyout_bit k i.copyout)) s (h.parts k l);
    };
    sizes = refl;
  }
  choose_moves d t i (Some q) s h b = record {
    parted = record {
      few = h.few;
      marks = h.marks;
      pending = h.pending;
      ready = λ k l m. h.ready k l (remove_out q d.jobs.ready k m);
      waits = h.waits;
      known = (h.ready q b.0 b.1, h.known.1, h.known.2, h.known.3);
      parts = λ k l.
          let z : bit (member k d.jobs.pending) ≡ bit (member k d.jobs.ready) + (0 + processor_bit k i.processor + copyout_bit k i.copyout) =
          subst (λ (y : CopyIn). bit (member k d.jobs.pending) ≡ bit (member k d.jobs.ready) + (copyin_bit k y + processor_bit k i.processor + copyout_bit k i.copyout)) s (h.parts k l) in
          omega (arith, chosen_bit d.jobs.ready q k l b.1);
    };
    sizes = refl;
  }

  e_moves : (d : State) (t : ℕ) → Parted d d.phase → Moves d d.phase (step_e d t d.phase) (step_e d t d.phase).phase 0 0
  e_moves d t h =
      let q : Option ℕ = highest_of d d.jobs.ready in
      e_cases (λ x. Moves d d.phase x x.phase 0 0) d t (record { parted = h; sizes = refl })
      (λ i e s u. subst (λ (p : Phase). Moves d p (choose d t i q) (choose d t i q).phase 0 0) (sym e) (choose_moves d t i q s (subst (Parted d) e h) (best_of d d.jobs.ready)))

  -- g
  pub g_processor : (k : ℕ) (table : Table) (t : ℕ) (next : Next) → processor_bit k (begin_processor table t next) ≡ next_bit k next
  g_processor k table t NoneNext = refl
  g_processor k table t (LoadedNext n) = refl
  g_processor k table t (PromotedNext n) = refl

  pub g_copyout : (k : ℕ) (table : Table) (t : ℕ) (outgoing : Outgoing) → copyout_bit k (begin_copyout table t outgoing) ≡ outgoing_bit k outgoing
  g_copyout k table t NoneOutgoing = refl
  g_copyout k table t (AwaitsCopyOut n start) = refl

  g_processor_known : (table : Table) (t : ℕ) (next : Next) → next_known present next → processor_known present (begin_processor table t next)
  g_processor_known table t NoneNext h = h
  g_processor_known table t (LoadedNext n) h = h
  g_processor_known table t (PromotedNext n) h = h

  g_copyout_known : (table : Table) (t : ℕ) (outgoing : Outgoing) → outgoing_known present outgoing → copyout_known present (begin_copyout table t outgoing)
  g_copyout_known table t NoneOutgoing h = h
  g_copyout_known table t (AwaitsCopyOut n start) h = h

  pub g_moves : (f : State) (t taken : ℕ) (p : Phase) → f.phase ≡ p → Parted f p → Moves f p (step_g f t taken p) (step_g f t taken p).phase 0 0
  unfolding step_g begin
  g_moves f t taken (Within i) e h = back f (Within i) e h
  g_moves f t taken (Between next outgoing) e h = go (wanted next outgoing f.jobs.ready)
    where
      b : State
      b = begin f t taken next outgoing

      b_parted : Parted b b.phase
      b_parted =
          record {
            few = h.few;
            marks = h.marks;
            pending = h.pending;
            ready = h.ready;
            waits = h.waits;
            known =
                (tt, g_processor_known f.table t next h.known.0, g_copyout_known f.table t outgoing h.known.1, λ k l m. h.marks k l (intersection_right taken f.marked k m));
            parts = λ k l. omega (arith, h.parts k l, g_processor k f.table t next, g_copyout k f.table t outgoing);
          }

      go : (w : Bool) → Moves f (Between next outgoing) (cond w (step_e b t b.phase) f) (cond w (step_e b t b.phase) f).phase 0 0
      go true =
          let y : Moves b b.phase (step_e b t b.phase) (step_e b t b.phase).phase 0 0 = e_moves b t b_parted in
          record { parted = y.parted; sizes = y.sizes }
      go false = back f (Between next outgoing) e h

  -- ---- the steps together
  pub to_b : (d : State) (t : ℕ) → Parted d d.phase → Moves d d.phase (at_b d t).state (at_b d t).state.phase (total is_completion (completion_events (at_a d t).done)) 0
  unfolding at_b at_a
  to_b d t h =
      let a : Stage = at_a d t in
      let x : Moves (at_clock d t) d.phase a.state a.state.phase (total is_completion (completion_events a.done)) 0 =
      a_moves (at_clock d t) t d.phase refl (record { few = h.few; marks = h.marks; pending = h.pending; ready = h.ready; waits = h.waits; known = h.known; parts = h.parts }) in
      let y : Moves a.state a.state.phase (at_b d t).state (at_b d t).state.phase 0 0 = b_moves a t a.state.phase refl x.parted in
      record { parted = y.parted; sizes = omega (arith, x.sizes, y.sizes) }

  pub to_e : (d : State) (t set : ℕ) → Sub set present → Parted (at_b d t).state (at_b d t).state.phase
      → Moves (at_b d t).state (at_b d t).state.phase (at_e d t set) (at_e d t set).phase 0 (size (taken_at d t set))
  unfolding at_e taken_at deferred_at
  to_e d t set f h =
      let b : State = (at_b d t).state in
      let c : State = at_c d t set in
      let x : State = at_d d t set in
      let e : State = at_e d t set in
      let l1 : Moves b b.phase c c.phase 0 (size (taken_at d t set)) = c_takes b t (passed d t set) (passed_known d t set present f) h in
      let l2 : Moves c c.phase x x.phase 0 0 = d_moves c (taken_at d t set) l1.parted in
      let l3 : Moves x x.phase e e.phase 0 0 = e_moves x t l2.parted in
      record { parted = l3.parted; sizes = omega (arith, l1.sizes, l2.sizes, l3.sizes) }

  pub to_g : (d : State) (t set : ℕ) → Parted (at_e d t set) (at_e d t set).phase
      → Moves (at_e d t set) (at_e d t set).phase (at_g d t set) (at_g d t set).phase 0 0
  unfolding at_f at_g
  to_g d t set h =
      let e : State = at_e d t set in
      let f : State = (at_f d t set).state in
      let g : State = at_g d t set in
      let x : Moves e e.phase f f.phase 0 0 = b_moves (fresh_stage e) t e.phase refl h in
      let y : Moves f f.phase g g.phase 0 0 = g_moves f t (held_at d t set) f.phase refl x.parted in
      record { parted = y.parted; sizes = omega (arith, x.sizes, y.sizes) }

  pub instant_moves : (d : State) (t set : ℕ) → Sub set present → Parted d d.phase
      → Moves d d.phase (at_g d t set) (at_g d t set).phase (total is_completion (completion_events (at_a d t).done)) (size (taken_at d t set))
  instant_moves d t set f h =
      let x : Moves d d.phase (at_b d t).state (at_b d t).state.phase (total is_completion (completion_events (at_a d t).done)) 0 = to_b d t h in
      let y : Moves (at_b d t).state (at_b d t).state.phase (at_e d t set) (at_e d t set).phase 0 (size (taken_at d t set)) = to_e d t set f x.parted in
      let z : Moves (at_e d t set) (at_e d t set).phase (at_g d t set) (at_g d t set).phase 0 0 = to_g d t set y.parted in
      record { parted = z.parted; sizes = omega (arith, x.sizes, y.sizes, z.sizes) }
