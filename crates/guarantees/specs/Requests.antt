-- 9/13: what is asked of a dispatcher one thing after the other, enquiries and commits among them, and which calls this comes to. What
-- stands between quotation marks is document 02.
use Rattle.guarantees.specs.Types.{Bool, false, cond, List, [], ℕ, State, Call, Instant}
use Rattle.std.specs.Prelude.{◌%◌, ◌^◌, eqb, ◌≡◌, ◌∷◌, ◌++◌, ◌+◌, ◌<◌}
use Rattle.sets.specs.Sets.{bit}
use Rattle.rules.specs.Calls.{row}
use Rattle.rules.specs.Tickets.{Ticketed, after_ticketed, instant_step, Enquiry, enquiry, commit_refusal, commit}
use Rattle.guarantees.specs.History.{after_calls}
use Rattle.guarantees.specs.Claim.{Claim}

-- a call without a ticket; an enquiry, with time and set; a commit, with ticket, time and set
pub data Request : Type 0 where
  Calls : Call → Request
  Enquires : ℕ → ℕ → Request
  Commits : ℕ → ℕ → ℕ → Request

-- ---- What a request leaves

abbrev pub after_request : Ticketed → Request → Ticketed
after_request d (Calls c) = after_ticketed d c
after_request d (Enquires t set) = d
after_request d (Commits k t set) = (commit d k t set).left

unfoldable pub after_requests : Ticketed → List Request → Ticketed
after_requests d [] = d
after_requests d (r ∷ rs) = after_requests (after_request d r) rs

-- ---- The calls that requests come to: a commit with the present ticket is an instant, with another one nothing, and so is an enquiry

abbrev pub made : Ticketed → Request → List Call
made d (Calls c) = c ∷ []
made d (Enquires t set) = []
made d (Commits k t set) = cond (eqb k d.ticket) (Instant t set ∷ []) []

unfoldable pub calls_made : Ticketed → List Request → List Call
calls_made d [] = []
calls_made d (r ∷ rs) = made d r ++ calls_made (after_request d r) rs

-- ---- The "served commits and mark calls": an instant without a ticket is an enquiry and its commit

abbrev pub is_served : Ticketed → Request → Bool
is_served d (Calls c) = eqb ((row c).number d.state) 0
is_served d (Enquires t set) = false
is_served d (Commits k t set) = eqb (commit_refusal d k t set) 0

unfoldable pub served : Ticketed → List Request → ℕ
served d [] = 0
served d (r ∷ rs) = bit (is_served d r) + served (after_request d r) rs

-- ---- The claim, of a list of requests to a dispatcher that was just opened: its ticket is 0

abbrev pub fresh : State → Ticketed
fresh d = record { state = d; ticket = 0 }

-- an enquiry of a list, and behind it a served commit by the ticket that the enquiry gave
pub record Looks (d : Ticketed) (requests : List Request) (t set t' set' : ℕ) : Type 0 where
  pub before : List Request
  pub between : List Request
  pub after : List Request
  -- what the enquiry finds, and what the commit finds
  pub found : Ticketed
  pub found_is : found ≡ after_requests d before
  pub later : Ticketed
  pub later_is : later ≡ after_requests found between
  pub are : requests ≡ before ++ (Enquires t set ∷ (between ++ (Commits found.ticket t' set' ∷ after)))
  -- "fewer than 2 to the 64th served commits and mark calls later"
  pub few : served found between < 2 ^ 64
  pub is_served : commit_refusal later found.ticket t' set' ≡ 0

pub record LookFirst (d : State) (requests : List Request) : Type 0 where
  -- "demand 3's lists take in enquiries and commits": what is left is what the calls leave that they come to, and of these the claim holds
  pub leaves : (after_requests (fresh d) requests).state ≡ after_calls d (calls_made (fresh d) requests)
  pub claim : Claim d (calls_made (fresh d) requests)
  -- "The ticket is the number of served commits and mark calls so far, modulo 2 to the 64th."
  pub counts : (after_requests (fresh d) requests).ticket ≡ served (fresh d) requests % 2 ^ 64
  -- "a commit with the ticket, time and set does it": by the present ticket it is the instant
  pub each_commit : (before after : List Request) (k t set : ℕ) → requests ≡ before ++ (Commits k t set ∷ after)
      → let found : Ticketed = after_requests (fresh d) before in k ≡ found.ticket → commit found k t set ≡ instant_step found t set
  -- "a served commit with the time and set of the enquiry that gave its ticket, fewer than 2 to the 64th served commits and mark calls
  -- later, does exactly what that enquiry showed;
  pub as_shown : (t set : ℕ) (l : Looks (fresh d) requests t set t set)
      → let e : Enquiry = enquiry l.found t set in commit l.later e.ticket t set ≡ e.step
  -- with another time or set it does what that instant would", where the enquiry was made
  pub as_instant : (t set t' set' : ℕ) (l : Looks (fresh d) requests t set t' set')
      → commit l.later l.found.ticket t' set' ≡ instant_step l.found t' set'
