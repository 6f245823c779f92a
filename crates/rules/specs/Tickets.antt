-- 9/13, "Look first, then act": the ticket that stands beside a state; an enquiry, which shows what an instant would do and changes
-- nothing; and a commit, which does it by the ticket. What stands between quotation marks is document 02.
use Rattle.rules.specs.Types.{cond, ℕ, State, Call, Instant, Answer, Err}
use Rattle.std.specs.Prelude.{◌+◌, ◌%◌, ◌^◌, eqb}
use Rattle.rules.specs.Calls.{refusal, instant, row, after_call}

-- "The ticket is the number of served commits and mark calls so far, modulo 2 to the 64th."
pub record Ticketed : Type 0 where
  pub state : State
  pub ticket : ℕ

unfoldable pub raised : ℕ → ℕ
raised k = (k + 1) % 2 ^ 64

-- the ticket behind a call whose refusal has this number: one that is refused leaves it
abbrev pub ticket_after : ℕ → ℕ → ℕ
ticket_after number k = cond (eqb number 0) (raised k) k

-- an instant without a ticket, "both in one", and a mark call
abbrev pub after_ticketed : Ticketed → Call → Ticketed
after_ticketed d c = record { state = after_call d.state c; ticket = ticket_after ((row c).number d.state) d.ticket }

-- what it leaves, and what it answers
pub record TicketedStep : Type 0 where
  pub left : Ticketed
  pub answer : Answer

abbrev pub instant_step : Ticketed → ℕ → ℕ → TicketedStep
instant_step d t set = record { left = after_ticketed d (Instant t set); answer = (instant d.state t set).answer }

-- ---- An enquiry: "gives what the instant would do", its refusals too, "together with a ticket"

pub record Enquiry : Type 0 where
  pub step : TicketedStep
  pub ticket : ℕ

abbrev pub enquiry : Ticketed → ℕ → ℕ → Enquiry
enquiry d t set = record { step = instant_step d t set; ticket = d.ticket }

-- ---- A commit: "with the ticket, time and set does it"; "20, the ticket is not the present one; before 16"

abbrev pub commit_refusal : Ticketed → ℕ → ℕ → ℕ → ℕ
commit_refusal d k t set = cond (eqb k d.ticket) (refusal d.state t set) 20

abbrev pub commit : Ticketed → ℕ → ℕ → ℕ → TicketedStep
commit d k t set = cond (eqb k d.ticket) (instant_step d t set) (record { left = d; answer = Err 20 })
