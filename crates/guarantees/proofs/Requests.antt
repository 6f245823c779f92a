-- 9/13: what requests come to is what their calls come to; the ticket counts those that are served; and where none is served between
-- an enquiry and a commit, the commit does what the enquiry showed. Assumes nothing.
use Rattle.std.proofs.Common.{◌≡◌, ◌∷◌, ◌+◌, ◌<◌}
use Rattle.guarantees.specs.Types.{refl, sym, ap, ◌∙◌, Bool, true, false, cond, true≢false, List, [], ℕ, State, Call, Instant}
use Prim.Native.Nat.{◌%◌, ◌^◌}
use native.Mathlib.Nat.{zero-add}
use native.Mathlib.Omega.{arith}
use borrow.Author.Tests.{eqb-true, eq-eqb}
use lib.Dec.{eqb}
use Rattle.sets.specs.Sets.{bit}
use Rattle.sets.proofs.Laws.{by-test}
use Rattle.rules.specs.Calls.{refusal, row, after_call}
use Rattle.rules.specs.Tickets.{Ticketed, raised, after_ticketed, TicketedStep, instant_step, commit_refusal, commit}
use Rattle.guarantees.specs.History.{after_calls}
use Rattle.guarantees.specs.Claim.{Claim}
use Rattle.guarantees.specs.Requests.{Request, Calls, Enquires, Commits, after_request, after_requests, made, calls_made, is_served, served, fresh, Looks, LookFirst}
use Rattle.guarantees.proofs.Walk.{after_append}

-- ---- one request

-- a commit by the present ticket is the instant
pub commit_is : (d : Ticketed) (k t set : ℕ) → eqb k d.ticket ≡ true → commit d k t set ≡ instant_step d t set
commit_is d k t set e = rw e

-- and by another one nothing
pub commit_stays : (d : Ticketed) (k t set : ℕ) → eqb k d.ticket ≡ false → (commit d k t set).left ≡ d
commit_stays d k t set e = rw e

-- what a request leaves is what its calls leave
one_leaves : (d : Ticketed) (r : Request) → (after_request d r).state ≡ after_calls d.state (made d r)
unfolding after_calls
one_leaves d (Calls c) = refl
one_leaves d (Enquires t set) = refl
one_leaves d (Commits k t set) =
    by-test (eqb k d.ticket)
    (λ e. ap (λ (s : TicketedStep). s.left.state) (commit_is d k t set e) ∙ rw e)
    (λ e. ap (λ (x : Ticketed). x.state) (commit_stays d k t set e) ∙ rw e)

-- one that is not served leaves everything, and one that is raises the ticket
call_unserved : (d : Ticketed) (c : Call) → eqb ((row c).number d.state) 0 ≡ false → after_ticketed d c ≡ d
unfolding after_call
call_unserved d c e = rw (after_call, e)

unserved : (d : Ticketed) (r : Request) → is_served d r ≡ false → after_request d r ≡ d
unserved d (Calls c) e = call_unserved d c e
unserved d (Enquires t set) e = refl
unserved d (Commits k t set) e =
    by-test (eqb k d.ticket)
    (λ f. ap (λ (s : TicketedStep). s.left) (commit_is d k t set f) ∙ call_unserved d (Instant t set) (ap (λ (b : Bool). eqb (cond b (refusal d.state t set) 20) 0) (sym f) ∙ e))
    (λ f. commit_stays d k t set f)

raises : (d : Ticketed) (r : Request) → is_served d r ≡ true → (after_request d r).ticket ≡ raised d.ticket
raises d (Calls c) e = rw e
raises d (Enquires t set) e = absurd (true≢false (sym e))
raises d (Commits k t set) e =
    by-test (eqb k d.ticket)
    (λ f. let g : eqb (refusal d.state t set) 0 ≡ true = ap (λ (b : Bool). eqb (cond b (refusal d.state t set) 20) 0) (sym f) ∙ e in
    ap (λ (s : TicketedStep). s.left.ticket) (commit_is d k t set f) ∙ rw g)
    (λ f. absurd (true≢false (sym e ∙ ap (λ (b : Bool). eqb (cond b (refusal d.state t set) 20) 0) f)))

-- ---- a list of them

pub all_leave : (rs : List Request) (d : Ticketed) → (after_requests d rs).state ≡ after_calls d.state (calls_made d rs)
unfolding after_requests calls_made
all_leave [] d = unfold after_calls in refl
all_leave (r ∷ rs) d =
    all_leave rs (after_request d r)
    ∙ ap (λ (x : State). after_calls x (calls_made (after_request d r) rs)) (one_leaves d r)
    ∙ sym (after_append (made d r) (calls_made (after_request d r) rs) d.state)

all_count : (rs : List Request) (d : Ticketed) → d.ticket < 2 ^ 64 → (after_requests d rs).ticket ≡ (d.ticket + served d rs) % 2 ^ 64
unfolding after_requests served raised
all_count [] d l = omega (arith, l)
all_count (r ∷ rs) d l =
    by-test (is_served d r)
    (λ e.
    let up : (after_request d r).ticket ≡ (d.ticket + 1) % 2 ^ 64 = raises d r e in
    rw e (omega (arith, up, all_count rs (after_request d r) (omega (arith, up)))))
    (λ e.
    let same : after_request d r ≡ d = unserved d r e in
    ap (λ (x : Ticketed). (after_requests x rs).ticket) same ∙ rw (e, same, zero-add) (all_count rs d l))

-- where none is served nothing changes
none_served : (rs : List Request) (d : Ticketed) → served d rs ≡ 0 → after_requests d rs ≡ d
unfolding after_requests served
none_served [] d e = refl
none_served (r ∷ rs) d e =
    by-test (is_served d r)
    (λ f. absurd (omega (arith, e, ap bit f)))
    (λ f.
    let same : after_request d r ≡ d = unserved d r f in
    ap (λ (x : Ticketed). after_requests x rs) same
    ∙ none_served rs d (omega (arith, e, ap (λ (x : Ticketed). served x rs) same)))

-- ---- an enquiry, and a commit by its ticket

-- two equal tickets fewer than 2 to the 64th served ones apart are the same one
same_ticket : (a n : ℕ) → a < 2 ^ 64 → n < 2 ^ 64 → a ≡ (a + n) % 2 ^ 64 → n ≡ 0
same_ticket a n l m e = omega (arith, l, m, e)

present : (d : Ticketed) (k t set : ℕ) → commit_refusal d k t set ≡ 0 → eqb k d.ticket ≡ true
present d k t set e = by-test (eqb k d.ticket) (λ f. f) (λ f. absurd (omega (arith, sym (ap (λ (b : Bool). cond b (refusal d.state t set) 20) f) ∙ e)))

module _ (d : State) (requests : List Request) (t set t' set' : ℕ) (l : Looks (fresh d) requests t set t' set') where
  small : l.found.ticket < 2 ^ 64
  small = omega (arith, ap (λ (x : Ticketed). x.ticket) l.found_is, all_count l.before (fresh d) (omega arith))

  by_it : eqb l.found.ticket l.later.ticket ≡ true
  by_it = present l.later l.found.ticket t' set' l.is_served

  unchanged : l.later ≡ l.found
  unchanged =
      l.later_is ∙ none_served l.between l.found
      (same_ticket l.found.ticket (served l.found l.between) small l.few
      (eqb-true l.found.ticket l.later.ticket by_it ∙ ap (λ (x : Ticketed). x.ticket) l.later_is ∙ all_count l.between l.found small))

  pub as_it_would : commit l.later l.found.ticket t' set' ≡ instant_step l.found t' set'
  as_it_would = commit_is l.later l.found.ticket t' set' by_it ∙ ap (λ (x : Ticketed). instant_step x t' set') unchanged

-- ---- the claim

pub look_first : (d : State) → ((calls : List Call) → Claim d calls) → (requests : List Request) → LookFirst d requests
look_first d claim requests = record {
  leaves = all_leave requests (fresh d);
  claim = claim (calls_made (fresh d) requests);
  counts = omega (arith, all_count requests (fresh d) (omega arith));
  each_commit = λ before after k t set e f. commit_is (after_requests (fresh d) before) k t set (eq-eqb k (after_requests (fresh d) before).ticket f);
  as_shown = λ t set l. as_it_would d requests t set t set l;
  as_instant = λ t set t' set' l. as_it_would d requests t set t' set' l;
}
