-- The dispatcher read as the state of the rules: what its functions promise is said of this reading.
use Rattle.std.specs.Prelude.{◌≢◌, ◌≡◌, Result, Ok, Err}
use Rattle.dispatcher.specs.Types.{ℕ, State, Dispatcher, Result, Occurred, Step, Enquiry, MarkStep, Refusal}
use Rattle.rules.specs.Calls as rules
use Rattle.rules.specs.Tickets as tickets
use Rattle.rules.specs.declared.refusal.CallRefusal.{CallRefusal}
use Rattle.rules.specs.Refusals.{numbered}
use Rattle.rules.specs.Answers.{answer_number, answer_values, mark_number}
use Rattle.rules.specs.DeskMarks.{DeskMarks}
use Rattle.rules.specs.Kept.{Kept, kept, by_task, Beside, beside, read}

-- what it is kept as: the numbers, and the arrays beside them
abbrev pub kept_of : Dispatcher → Kept
kept_of d = kept d.times d.sets d.codes

abbrev pub beside_of : Dispatcher → Beside
beside_of d = beside d.priority d.columns (by_task d.release d.blocked d.waits)

abbrev pub state_of : Dispatcher → State
state_of d = read (kept_of d) (beside_of d)

-- 9/13: and its ticket
abbrev pub ticketed_of : Dispatcher → tickets.Ticketed
ticketed_of d = record { state = state_of d; ticket = d.ticket }

-- what a call hands back
abbrev pub step_of : Step → rules.Step
step_of s = record { state = state_of s.state; answer = numbered s.answer }

abbrev pub mark_step_of : MarkStep → rules.MarkStep
mark_step_of s = record { state = state_of s.state; answer = numbered s.answer }

abbrev pub ticketed_step_of : Step → tickets.TicketedStep
ticketed_step_of s = record { left = ticketed_of s.state; answer = numbered s.answer }

abbrev pub enquiry_of : Enquiry → tickets.Enquiry
enquiry_of e = record { step = ticketed_step_of e.step; ticket = e.ticket }

abbrev pub opening_of : Result Dispatcher Refusal → Result State Refusal
opening_of (Ok d) = Ok (state_of d)
opening_of (Err r) = Err r

-- ---- What a call promises: its outcome is the rules', in document 01's numbers too, and one that is refused hands
-- back the very state that it was handed; 9/13: one that is served raises the ticket by one

pub record Answers (d : Dispatcher) (t set : ℕ) (r : Step) : Type 0 where
  pub step : step_of r ≡ rules.instant (state_of d) t set
  pub number : answer_number (numbered r.answer) ≡ rules.refusal (state_of d) t set
  pub values : answer_values (numbered r.answer) ≡ answer_values (rules.instant (state_of d) t set).answer
  pub ticket : r.state.ticket ≡ tickets.ticket_after (rules.refusal (state_of d) t set) d.ticket
  pub untouched : (rules.refusal (state_of d) t set ≡ 0 → ⊥) → r.state ≡ d

pub record MarkAnswers (d : Dispatcher) (n m : ℕ) (r : MarkStep) : Type 0 where
  pub step : mark_step_of r ≡ rules.mark (state_of d) n m
  pub number : mark_number (numbered r.answer) ≡ rules.mark_refusal (state_of d) n m
  pub ticket : r.state.ticket ≡ tickets.ticket_after (rules.mark_refusal (state_of d) n m) d.ticket
  pub untouched : (rules.mark_refusal (state_of d) n m ≢ 0) → r.state ≡ d

-- 10/13: marks for a set of tasks, and what they are, said for itself
pub record MarksAnswers (d : Dispatcher) (set m : ℕ) (r : MarkStep) : Type 0 where
  pub step : mark_step_of r ≡ rules.marks (state_of d) set m
  pub number : mark_number (numbered r.answer) ≡ rules.marks_refusal (state_of d) set m
  pub ticket : r.state.ticket ≡ tickets.ticket_after (rules.marks_refusal (state_of d) set m) d.ticket
  pub untouched : (rules.marks_refusal (state_of d) set m ≡ 0 → ⊥) → r.state ≡ d
  pub desk : DeskMarks (state_of d) set m

-- 9/13: an enquiry and a commit
pub record Enquires (d : Dispatcher) (t set : ℕ) (r : Enquiry) : Type 0 where
  pub shows : enquiry_of r ≡ tickets.enquiry (ticketed_of d) t set
  pub number : answer_number (numbered r.step.answer) ≡ rules.refusal (state_of d) t set
  pub values : answer_values (numbered r.step.answer) ≡ answer_values (rules.instant (state_of d) t set).answer

pub record Commits (d : Dispatcher) (k t set : ℕ) (r : Step) : Type 0 where
  pub step : ticketed_step_of r ≡ tickets.commit (ticketed_of d) k t set
  pub number : answer_number (numbered r.answer) ≡ tickets.commit_refusal (ticketed_of d) k t set
  pub values : answer_values (numbered r.answer) ≡ answer_values (tickets.commit (ticketed_of d) k t set).answer
  pub untouched : (tickets.commit_refusal (ticketed_of d) k t set ≡ 0 → ⊥) → r.state ≡ d

-- an instant of a dispatcher where it is kept promises the same of what stands there afterwards
abbrev pub AnswersKept : Dispatcher → ℕ → ℕ → Result Occurred CallRefusal → Dispatcher → Type 0
AnswersKept d t set answer after = Answers d t set (record { state = after; answer = answer })

abbrev pub CommitsKept : Dispatcher → ℕ → ℕ → ℕ → Result Occurred CallRefusal → Dispatcher → Type 0
CommitsKept d k t set answer after = Commits d k t set (record { state = after; answer = answer })
