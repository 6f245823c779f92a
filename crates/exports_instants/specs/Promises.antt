-- What the calls on a dispatcher that C or Rust keeps promise: the rules' outcome, of the states that are read before and after; a
-- refused call leaves what is kept, and what was told before, as it was.
use Rattle.guarantees.specs.Types.{List, ℕ, State, Call, Mark, Marks, Occurred, Answer, Err, Ok}
use Rattle.std.specs.Prelude.{[], ◌∷◌, ◌≡◌, Ok, IsOk, IsErr}
use Rattle.std.specs.Result.{result_err}
use Rattle.rules.specs.declared.View.{View}
use Rattle.rules.specs.View.{viewed}
use Rattle.rules.specs.Calls.{refusal, row, opening}
use Rattle.rules.specs.Tickets.{Ticketed, after_ticketed, TicketedStep, instant_step, Enquiry, enquiry, commit_refusal, commit}
use Rattle.rules.specs.Kept.{Kept, kept, Beside, read}
use Rattle.table.specs.Refusals.{refusal_number, refusal_place}
use Rattle.dispatcher.specs.Telling.{told_of, occurred_in}
use Rattle.guarantees.specs.Claim.{Claim}
use Rattle.guarantees.specs.Requests.{Request, fresh, LookFirst}

-- ---- An instant

-- what occurred is told, and can be read back; a refused call tells nothing
pub record Tells (o : Occurred) (told told' : List ℕ) : Type 0 where
  pub told_is : told' ≡ told_of o told
  pub reads : occurred_in told' ≡ o

abbrev pub ToldAs : Answer → List ℕ → List ℕ → Type 0
ToldAs (Err n) told told' = told' ≡ told
ToldAs (Ok o) told told' = Tells o told told'

-- what is kept, read as a state with its ticket
abbrev pub held : Kept → Beside → ℕ → Ticketed
held k b ticket = record { state = read k b; ticket = ticket }

-- a call does a step of the rules, whose refusal has a number
pub record Does (step : TicketedStep) (refused : ℕ) (k : Kept) (b : Beside) (ticket : ℕ) (told : List ℕ) (number : ℕ)
    (k' : Kept) (b' : Beside) (ticket' : ℕ) (told' : List ℕ) : Type 0 where
  pub number_is : number ≡ refused
  pub left_is : held k' b' ticket' ≡ step.left
  pub told_is : ToldAs step.answer told told'
  pub untouched : (refused ≡ 0 → ⊥) → (k' ≡ k) × (b' ≡ b) × (ticket' ≡ ticket)

abbrev pub Answered : Kept → Beside → ℕ → ℕ → ℕ → List ℕ → ℕ → Kept → Beside → ℕ → List ℕ → Type 0
Answered k b ticket t set = Does (instant_step (held k b ticket) t set) (refusal (read k b) t set) k b ticket

-- 9/13: an instant by a ticket
abbrev pub Committed : ℕ → Kept → Beside → ℕ → ℕ → ℕ → List ℕ → ℕ → Kept → Beside → ℕ → List ℕ → Type 0
Committed given k b ticket t set =
    Does (commit (held k b ticket) given t set) (commit_refusal (held k b ticket) given t set) k b ticket

-- ---- What goes on now, in three arrays

pub record Shown (v : View) (ticks tasks units : List ℕ) : Type 0 where
  pub ticks_are : ticks ≡ v.begin ∷ v.until ∷ v.inuntil ∷ v.outuntil ∷ []
  pub tasks_are : tasks ≡ v.pending ∷ v.waiting ∷ v.marked ∷ []
  pub units_are : units ≡ v.opened ∷ v.work ∷ v.processor ∷ v.copyin ∷ v.copyout ∷ v.half ∷ []

abbrev pub Shows : List ℕ → List ℕ → List ℕ → List ℕ → List ℕ → List ℕ → Type 0
Shows times sets codes ticks tasks units = (b : Beside) → Shown (viewed (read (kept times sets codes) b)) ticks tasks units

-- ---- 9/13: an enquiry

-- what it tells: the words of an instant, the ticket, and what would go on then
pub record Shared : Type 0 where
  pub told : List ℕ
  pub given : ℕ
  pub ticks : List ℕ
  pub tasks : List ℕ
  pub units : List ℕ

abbrev pub shown : List ℕ → ℕ → List ℕ → List ℕ → List ℕ → Shared
shown told given ticks tasks units = record { told = told; given = given; ticks = ticks; tasks = tasks; units = units }

pub record Looked (o : Occurred) (next : State) (ticket : ℕ) (before after : Shared) : Type 0 where
  pub told_is : Tells o before.told after.told
  pub given_is : after.given ≡ ticket
  pub view_is : Shown (viewed next) after.ticks after.tasks after.units

-- one that is refused tells nothing
abbrev pub LookedAs : Answer → State → ℕ → Shared → Shared → Type 0
LookedAs (Err n) next ticket before after = after ≡ before
LookedAs (Ok o) next ticket before after = Looked o next ticket before after

pub record EnquiredAs (e : Enquiry) (refused number : ℕ) (before after : Shared) : Type 0 where
  pub number_is : number ≡ refused
  pub shown_is : LookedAs e.step.answer e.step.left.state e.ticket before after

abbrev pub Enquired : Kept → Beside → ℕ → ℕ → ℕ → Shared → ℕ → Shared → Type 0
Enquired k b ticket t set before number after =
    EnquiredAs (enquiry (held k b ticket) t set) (refusal (read k b) t set) number before after

-- ---- A mark call, of one task or of a set, which is lent the sets and the ticket alone: whatever stands beside them

pub record MarkedIn (c : Call) (k : Kept) (b : Beside) (ticket number : ℕ) (k' : Kept) (ticket' : ℕ) : Type 0 where
  pub number_is : number ≡ (row c).number (read k b)
  pub left_is : held k' b ticket' ≡ after_ticketed (held k b ticket) c
  pub untouched : ((row c).number (read k b) ≡ 0 → ⊥) → (k' ≡ k) × (ticket' ≡ ticket)

abbrev pub MarkedBy : Call → List ℕ → ℕ → ℕ → List ℕ → ℕ → Type 0
MarkedBy c sets ticket number sets' ticket' =
    (times codes : List ℕ) (b : Beside) → MarkedIn c (kept times sets codes) b ticket number (kept times sets' codes) ticket'

abbrev pub Marked : List ℕ → ℕ → ℕ → ℕ → ℕ → List ℕ → ℕ → Type 0
Marked sets ticket n m = MarkedBy (Mark n m) sets ticket

abbrev pub MarkedAll : List ℕ → ℕ → ℕ → ℕ → ℕ → List ℕ → ℕ → Type 0
MarkedAll sets ticket set m = MarkedBy (Marks set m) sets ticket

-- ---- Opening: where it serves the bytes, the claim of demand 3 for every list of calls and of requests from the state that is kept then

pub record OpenedAt (bytes : List ℕ) (k : Kept) (b : Beside) (ticket number place : ℕ) (k' : Kept) (b' : Beside) (ticket' : ℕ)
    : Type 0 where
  pub number_is : number ≡ refusal_number (result_err (opening bytes))
  pub place_is : place ≡ refusal_place (result_err (opening bytes))
  pub left_is : (d : State) → opening bytes ≡ Ok d → held k' b' ticket' ≡ fresh d
  pub claim : IsOk (opening bytes) → (calls : List Call) → Claim (read k' b') calls
  pub look_first : IsOk (opening bytes) → (requests : List Request) → LookFirst (read k' b') requests
  pub untouched : IsErr (opening bytes) → (k' ≡ k) × (b' ≡ b) × (ticket' ≡ ticket)
