-- The number of a call's answer is that of its refusal, 0 where there is none. Assumes nothing.
use Rattle.std.proofs.Common.{◌≡◌}
use borrow.Author.Tests.{eqb-true}
use lib.Dec.{eqb}
use Rattle.sets.proofs.Laws.{by-test}
use Rattle.rules.specs.Types.{sym, ℕ, State, Instant, Mark, Marks}
use Rattle.rules.specs.Calls.{refusal, served, instant, mark_refusal, mark, marks_refusal, marks, after_call}
use Rattle.rules.specs.Answers.{answer_number, mark_number}

pub instant_number : (d : State) (t set : ℕ) → answer_number (instant d t set).answer ≡ refusal d t set
unfolding instant served
instant_number d t set = by-test (eqb (refusal d t set) 0) (λ a. rw a (sym (eqb-true (refusal d t set) 0 a))) (λ a. rw a)

pub mark_call_number : (d : State) (n m : ℕ) → mark_number (mark d n m).answer ≡ mark_refusal d n m
unfolding mark
mark_call_number d n m = by-test (eqb (mark_refusal d n m) 0) (λ a. rw a (sym (eqb-true (mark_refusal d n m) 0 a))) (λ a. rw a)

pub marks_call_number : (d : State) (set m : ℕ) → mark_number (marks d set m).answer ≡ marks_refusal d set m
unfolding marks
marks_call_number d set m = by-test (eqb (marks_refusal d set m) 0) (λ a. rw a (sym (eqb-true (marks_refusal d set m) 0 a))) (λ a. rw a)

-- and what each leaves is what a call of its kind leaves
pub after_instant : (d : State) (t set : ℕ) → (instant d t set).state ≡ after_call d (Instant t set)
unfolding instant served after_call
after_instant d t set = by-test (eqb (refusal d t set) 0) (λ e. rw (instant, after_call, e)) (λ e. rw (instant, after_call, e))

pub after_mark : (d : State) (n m : ℕ) → (mark d n m).state ≡ after_call d (Mark n m)
unfolding mark after_call
after_mark d n m = by-test (eqb (mark_refusal d n m) 0) (λ e. rw (mark, after_call, e)) (λ e. rw (mark, after_call, e))

pub after_marks : (d : State) (set m : ℕ) → (marks d set m).state ≡ after_call d (Marks set m)
unfolding marks after_call
after_marks d set m = by-test (eqb (marks_refusal d set m) 0) (λ e. rw (marks, after_call, e)) (λ e. rw (marks, after_call, e))
