-- What a call promises, of its outcome and of the state that a refused one hands back. Assumes nothing.
use Rattle.std.proofs.Common.{true, false, eqb, refl, ap, ◌≡◌, ne_eqb, arith}
use Rattle.dispatcher.specs.Types.{ℕ, ◌∙◌, State, Instant, Mark, Marks, Occurred, Ok, Err, Dispatcher, Step, MarkStep}
use Rattle.rules.specs.Instant.{at_g, occurred}
use Rattle.rules.specs.Calls as rules
use Rattle.rules.specs.Tickets as tickets
use Rattle.rules.specs.declared.refusal.CallRefusal.{CallRefusal}
use Rattle.rules.specs.declared.refusal.CallRefusal.TheVariants.{BadMark, LateRelease, NotAfter, PastDue, UnknownTask, BusyTask, OldTicket}
use Rattle.rules.specs.Refusals.{call_number, numbered}
use Rattle.rules.specs.Answers.{answer_number, answer_values, mark_number}
use Rattle.rules.proofs.Numbers.{instant_number, mark_call_number, marks_call_number, after_instant, after_mark, after_marks}
use Rattle.rules.proofs.DeskMarks.{desk_marks}
use Rattle.dispatcher.specs.Dispatcher.{state_of, step_of, mark_step_of, ticketed_of, ticketed_step_of, Answers, MarkAnswers, MarksAnswers, Enquires, Commits}

pub answered : (d : Dispatcher) (t set : ℕ) (r : Step) → step_of r ≡ rules.instant (state_of d) t set
    → r.state.ticket ≡ tickets.ticket_after (rules.refusal (state_of d) t set) d.ticket → ((rules.refusal (state_of d) t set ≡ 0 → ⊥) → r.state ≡ d)
    → Answers d t set r
answered d t set r e k u = record {
  step = e;
  number = ap (λ (s : rules.Step). answer_number s.answer) e ∙ instant_number (state_of d) t set;
  values = ap (λ (s : rules.Step). answer_values s.answer) e;
  ticket = k;
  untouched = u;
}

pub mark_answered : (d : Dispatcher) (n m : ℕ) (r : MarkStep) → mark_step_of r ≡ rules.mark (state_of d) n m
    → r.state.ticket ≡ tickets.ticket_after (rules.mark_refusal (state_of d) n m) d.ticket
    → ((rules.mark_refusal (state_of d) n m ≡ 0 → ⊥) → r.state ≡ d) → MarkAnswers d n m r
mark_answered d n m r e k u = record {
  step = e;
  number = ap (λ (s : rules.MarkStep). mark_number s.answer) e ∙ mark_call_number (state_of d) n m;
  ticket = k;
  untouched = u;
}

pub marks_answered : (d : Dispatcher) (set m : ℕ) (r : MarkStep) → mark_step_of r ≡ rules.marks (state_of d) set m
    → r.state.ticket ≡ tickets.ticket_after (rules.marks_refusal (state_of d) set m) d.ticket
    → ((rules.marks_refusal (state_of d) set m ≡ 0 → ⊥) → r.state ≡ d) → MarksAnswers d set m r
marks_answered d set m r e k u = record {
  step = e;
  number = ap (λ (s : rules.MarkStep). mark_number s.answer) e ∙ marks_call_number (state_of d) set m;
  ticket = k;
  untouched = u;
  desk = desk_marks (state_of d) set m;
}

-- 9/13: an instant with its ticket, and a mark call
pub ticketed : (d : Dispatcher) (t set : ℕ) (r : Step) → Answers d t set r → ticketed_step_of r ≡ tickets.instant_step (ticketed_of d) t set
ticketed d t set r a =
    let s : state_of r.state ≡ rules.after_call (state_of d) (Instant t set) = ap (λ (x : rules.Step). x.state) a.step ∙ after_instant (state_of d) t set in
    rw (s, ap (λ (x : rules.Step). x.answer) a.step, a.ticket)

pub mark_ticketed : (d : Dispatcher) (n m : ℕ) (r : MarkStep) → MarkAnswers d n m r → ticketed_of r.state ≡ tickets.after_ticketed (ticketed_of d) (Mark n m)
mark_ticketed d n m r a =
    let s : state_of r.state ≡ rules.after_call (state_of d) (Mark n m) = ap (λ (x : rules.MarkStep). x.state) a.step ∙ after_mark (state_of d) n m in
    rw (s, a.ticket)

pub marks_ticketed : (d : Dispatcher) (set m : ℕ) (r : MarkStep) → MarksAnswers d set m r → ticketed_of r.state ≡ tickets.after_ticketed (ticketed_of d) (Marks set m)
marks_ticketed d set m r a =
    let s : state_of r.state ≡ rules.after_call (state_of d) (Marks set m) = ap (λ (x : rules.MarkStep). x.state) a.step ∙ after_marks (state_of d) set m in
    rw (s, a.ticket)

pub enquired : (d : Dispatcher) (t set : ℕ) (r : Step) → Answers d t set r → Enquires d t set (record { step = r; ticket = d.ticket })
enquired d t set r a = record {
  shows = ap (λ (s : tickets.TicketedStep). record { step = s; ticket = d.ticket }) (ticketed d t set r a);
  number = a.number;
  values = a.values;
}

-- a commit by the present ticket, and by another one
pub committed : (d : Dispatcher) (k t set : ℕ) (r : Step) → eqb k d.ticket ≡ true → Answers d t set r → Commits d k t set r
committed d k t set r e a = record {
  step = rw e (ticketed d t set r a);
  number = rw e a.number;
  values = rw e a.values;
  untouched = λ f. a.untouched (λ g. f (rw e g));
}

pub not_committed : (d : Dispatcher) (k t set : ℕ) → eqb k d.ticket ≡ false → Commits d k t set (record { state = d; answer = Err OldTicket })
not_committed d k t set e = record { step = rw e; number = rw e; values = rw e; untouched = λ f. refl }

-- an instant by its steps
pub is_served : {s : State} {o : Occurred} (d : State) (t set : ℕ) → s ≡ at_g d t set → o ≡ occurred d t set
    → ◌≡◌ {A = rules.Step} (record { state = s; answer = Ok o }) (rules.served d t set)
unfolding rules.served
is_served d t set p q = rw (p, q)

-- no refusal's number is 0
pub some_refusal : (e : CallRefusal) → call_number e ≡ 0 → ⊥
some_refusal BadMark h = absurd (omega (arith, h))
some_refusal LateRelease h = absurd (omega (arith, h))
some_refusal NotAfter h = absurd (omega (arith, h))
some_refusal PastDue h = absurd (omega (arith, h))
some_refusal UnknownTask h = absurd (omega (arith, h))
some_refusal BusyTask h = absurd (omega (arith, h))
some_refusal OldTicket h = absurd (omega (arith, h))

pub some_number : (e : CallRefusal) → eqb (call_number e) 0 ≡ false
some_number e = ne_eqb (call_number e) 0 (some_refusal e)
