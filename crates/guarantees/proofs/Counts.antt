-- The counts at an interval's end, in every state that calls made: a pending job of a task that the interval can block has one more, and no other
-- count changes. What is pending then is ready, loaded, or the job that was executed, which is not higher than itself.
use Rattle.std.proofs.Common.{◌≡◌, ◌&&◌, ◌||◌, ◌+◌, ◌^◌, ◌<◌}
use Rattle.guarantees.specs.Types.{refl, sym, ap, ◌∙◌, subst, Bool, true, false, cond, true≢false, false≢true, List, ℕ, Table, Option, None, Some, Processor, Idle, CopyingIn, Executing, Finished, CopyOut, NoCopyOut, CopyingOut, CopiedOut, CopyIn, Unchosen, NoneChosen, Copying, Loaded, Cancelled, Interval, Phase, Within, State, Stage, Call}
use native.Mathlib.Omega.{arith}
use native.Mathlib.Nat.{add-zero}
use borrow.Author.Tests.{eq-eqb}
use lib.Dec.{eqb}
use lib.ListN.{get_or, length}
use Rattle.sets.specs.Sets.{member, bit}
use Rattle.sets.proofs.Laws.{by-test, clash, none, inserted}
use Rattle.rules.specs.Order.{higher}
use Rattle.rules.specs.Instant.{over, settled, copying_out, processor_task, awaiting_execution, blocks, step_b, at_a, at_b, at_e, at_f, fresh_stage}
use Rattle.rules.specs.With.{at_clock}
use Rattle.rules.specs.Blocking.{executed_in, blockable}
use Rattle.rules.specs.Calls.{opened, refusal}
use Rattle.guarantees.specs.History.{after_calls, history}
use Rattle.guarantees.specs.Entries.{is_lower}
use Rattle.guarantees.specs.Counting.{CountsRise}
use Rattle.guarantees.proofs.Proper.{Fair}
use Rattle.guarantees.proofs.Walk.{after}
use Rattle.guarantees.proofs.Cases.{b_cases}
use Rattle.guarantees.proofs.Frames.{table_a, table_e}
use Rattle.guarantees.proofs.Steps.{Sub, settles}
use Rattle.guarantees.proofs.Served.{Served-at, served_at}
use Rattle.guarantees.proofs.Invariant.{Good, good_opened, good_after}
use Rattle.guarantees.proofs.Places.{Parted, copyin_bit, processor_bit, copyout_bit, no_copyout, a_moves}
use Rattle.guarantees.proofs.Blocking.{Bounded, bounded_a, bounded_e, bounded_g, bounded_opened, bounded_quiet}
use Rattle.guarantees.proofs.Tally.{Tally, nothing, tally}
use Rattle.guarantees.proofs.Knows.{Knows, close_count, higher_is, blocks_is, and_false, not_itself}
use Rattle.guarantees.proofs.Remembered.{knows_a, knows_e, knows_after, parted_e}

module _ (pr : List ℕ) (n : ℕ) (small : n < 32) where
  -- ---- who is pending at an interval's end

  out_bit : (o : CopyOut) → copying_out o ≡ false → copyout_bit n o ≡ 0
  out_bit NoCopyOut h = refl
  out_bit (CopyingOut m start until) h = absurd (true≢false h)
  out_bit (CopiedOut m) h = refl

  -- a job that is higher than the executed one is another
  other_bit : (m : ℕ) → is_lower pr n (Some m) ≡ true → bit (eqb n m) ≡ 0
  other_bit m l = by-test (eqb n m) (λ e. clash (is_lower pr n (Some m)) l (not_itself pr n m e)) (λ e. rw e)

  executed_bit : (q : Processor) → is_lower pr n (processor_task q) ≡ true → processor_bit n q ≡ 0
  executed_bit Idle l = refl
  executed_bit (CopyingIn m until) l = other_bit m l
  executed_bit (Executing m start until) l = other_bit m l
  executed_bit (Finished m start) l = other_bit m l

  same_bit : (a b : Bool) → bit a ≡ bit b → b ≡ a
  same_bit true true h = refl
  same_bit true false h = absurd (omega arith)
  same_bit false true h = absurd (omega arith)
  same_bit false false h = refl

  one_of_two : (p r x : Bool) → bit p ≡ bit r + bit x → (x || r) ≡ p
  one_of_two p r true h = first p h
    where
      first : (p : Bool) → bit p ≡ bit r + 1 → true ≡ p
      first true h = refl
      first false h = absurd (omega arith)
  one_of_two p r false h = same_bit p r (omega arith)

  awaiting_is : (c : CopyIn) (ready pending : ℕ) → settled c ≡ true → bit (member n pending) ≡ bit (member n ready) + copyin_bit n c
      → member n (awaiting_execution c ready) ≡ member n pending
  awaiting_is Unchosen ready pending s h = absurd (false≢true s)
  awaiting_is NoneChosen ready pending s h = same_bit (member n pending) (member n ready) (omega arith)
  awaiting_is (Copying m until) ready pending s h = absurd (false≢true s)
  awaiting_is (Loaded m) ready pending s h = inserted m ready n small ∙ one_of_two (member n pending) (member n ready) (eqb n m) h
  awaiting_is (Cancelled m fate) ready pending s h = same_bit (member n pending) (member n ready) (omega arith)

  both_in : (a p t : Bool) → a ≡ p → (p ≡ true → t ≡ true) → (a && true) ≡ (p && (t && true))
  both_in a true t e f = rw (e, f refl)
  both_in a false t e f = rw e

  none_in : (a p t : Bool) → (a && false) ≡ (p && (t && false))
  none_in a p t = and_false pr n small a ∙ sym (ap (λ (x : Bool). p && x) (and_false pr n small t) ∙ and_false pr n small p)

  -- ---- the jobs that an interval blocks are those that are pending and of a task in the set

  module _ (present : ℕ) (tasks : present < 2 ^ 32) (d : State) (i : Interval) (e : d.phase ≡ Within i) (o : over i ≡ true)
      (p : d.table.priority ≡ pr) (t : d.table.present ≡ present) (h : Parted present tasks d (Within i)) where
    in_set : member n (blockable d) ≡ (member n present && is_lower pr n (processor_task i.processor))
    unfolding blockable
    in_set =
        ap (λ (x : Phase). member n (higher d (executed_in x) d.table.present)) e
        ∙ ap (λ (b : Bool). member n (higher d (cond b (processor_task i.processor) None) d.table.present)) o
        ∙ higher_is pr n small d d.table.present (processor_task i.processor) p
        ∙ ap (λ (x : ℕ). member n x && is_lower pr n (processor_task i.processor)) t

    pending_so : is_lower pr n (processor_task i.processor) ≡ true → bit (member n d.jobs.pending) ≡ bit (member n d.jobs.ready) + copyin_bit n i.copyin
    pending_so l = omega (arith, h.parts n small, executed_bit i.processor l, out_bit i.copyout (no_copyout i o))

    by_lower : (b : Bool) → is_lower pr n (processor_task i.processor) ≡ b
        → (member n (awaiting_execution i.copyin d.jobs.ready) && b) ≡ (member n d.jobs.pending && (member n present && b))
    by_lower true l =
        both_in (member n (awaiting_execution i.copyin d.jobs.ready)) (member n d.jobs.pending) (member n present)
        (awaiting_is i.copyin d.jobs.ready d.jobs.pending (settles i o) (pending_so l)) (λ m. h.pending n small m)
    by_lower false l = none_in (member n (awaiting_execution i.copyin d.jobs.ready)) (member n d.jobs.pending) (member n present)

    same_jobs : member n (blocks d i) ≡ (member n d.jobs.pending && member n (blockable d))
    same_jobs =
        blocks_is pr n small d i p
        ∙ by_lower (is_lower pr n (processor_task i.processor)) refl
        ∙ ap (λ (b : Bool). member n d.jobs.pending && b) (sym in_set)

  -- ---- an interval ends, or none does

  none_blocked : (d : State) → executed_in d.phase ≡ None → member n (blockable d) ≡ false
  unfolding blockable
  none_blocked d e = ap (λ (r : Option ℕ). member n (higher d r d.table.present)) e ∙ none n

  -- one count of the task, before and after
  abbrev Rises-one : State → State → Type 0
  Rises-one before after = get_or after.jobs.blocked n 0 ≡ get_or before.jobs.blocked n 0 + cond (member n before.jobs.pending && member n (blockable before)) 1 0

  stays : (d : State) → executed_in d.phase ≡ None → Rises-one d d
  stays d e = rw (none_blocked d e, and_false pr n small (member n d.jobs.pending)) (sym (add-zero (get_or d.jobs.blocked n 0)))

  -- what is known of the state before an interval's end
  record Known (table : Table) (tasks : table.present < 2 ^ 32) (d : State) : Type 0 where
    same_table : d.table ≡ table
    parted : Parted table.present tasks d d.phase
    bounded : Bounded pr n small d
    counted : n < length d.jobs.blocked

  ends : (table : Table) (tasks : table.present < 2 ^ 32) (s : Stage) (t : ℕ) → Known table tasks s.state → Rises-one s.state (step_b s t s.state.phase).state
  ends table tasks s t k =
      b_cases (Rises-one s.state) s t
      (λ i e o. stays s.state (ap executed_in e ∙ rw o))
      (λ next outgoing e. stays s.state (ap executed_in e))
      (λ i e o.
      close_count pr n small s.state i k.counted k.bounded.most
      ∙ ap (λ (b : Bool). get_or s.state.jobs.blocked n 0 + cond b 1 0)
      (same_jobs table.present tasks s.state i e o k.bounded.table (ap (λ (x : Table). x.present) k.same_table)
      (subst (Parted table.present tasks s.state) e k.parted)))

-- ---- in every state that calls made

module _ (table : Table) (marks : ℕ) (fair : Fair table marks) (calls : List Call) (t set : ℕ) (e : refusal (after_calls (opened table marks) calls) t set ≡ 0) where
  good : Good table marks fair (after_calls (opened table marks) calls)
  good = good_after table marks fair calls (opened table marks) (good_opened table marks fair)

  is_served : Served-at (after_calls (opened table marks) calls) t set
  is_served = served_at (after_calls (opened table marks) calls) t set (eq-eqb (refusal (after_calls (opened table marks) calls) t set) 0 e)

  known_set : Sub set table.present
  known_set = subst (λ (y : Table). Sub set y.present) good.table_is is_served.known

  module _ (n : ℕ) (small : n < 32) where
    bounded : Bounded table.priority n small (after_calls (opened table marks) calls)
    bounded =
        after (Bounded table.priority n small) (λ d t set e h. bounded_g table.priority n small d t set h) (λ d m e h. bounded_quiet table.priority n small d m h)
        calls (opened table marks) (bounded_opened table.priority n small table marks refl)

    knows : Knows table.priority n small (tally n nothing (history (opened table marks) calls)) (after_calls (opened table marks) calls)
    knows = knows_after table marks fair n small calls

    before_b : Known table.priority n small table fair.present (at_a (after_calls (opened table marks) calls) t).state
    before_b =
        let d : State = after_calls (opened table marks) calls in
        let x : Tally = tally n nothing (history (opened table marks) calls) in
        let h : Parted table.present fair.present d d.phase = good.parted in
        record {
          same_table = table_a d t ∙ good.table_is;
          parted =
              unfold at_a in
              (a_moves table.present fair.present (at_clock d t) t d.phase refl
              (record { few = h.few; marks = h.marks; pending = h.pending; ready = h.ready; waits = h.waits; known = h.known; parts = h.parts })).parted;
          bounded = bounded_a table.priority n small d t set bounded;
          counted = (knows_a table marks fair n small d t set x good known_set bounded knows).counts;
        }

    before_f : Known table.priority n small table fair.present (at_e (after_calls (opened table marks) calls) t set)
    before_f =
        let d : State = after_calls (opened table marks) calls in
        let x : Tally = tally n nothing (history (opened table marks) calls) in
        record {
          same_table = table_e d t set ∙ good.table_is;
          parted = parted_e table marks fair n small d t set x good known_set bounded knows;
          bounded = bounded_e table.priority n small d t set bounded;
          counted = (knows_e table marks fair n small d t set x good known_set bounded knows).counts;
        }

  pub counts_rise : CountsRise (after_calls (opened table marks) calls) t set
  unfolding at_b at_f
  counts_rise =
      let d : State = after_calls (opened table marks) calls in
      record {
        in_b = λ n l. ends table.priority n l table fair.present (at_a d t) t (before_b n l);
        in_f = λ n l. ends table.priority n l table fair.present (fresh_stage (at_e d t set)) t (before_f n l);
      }
