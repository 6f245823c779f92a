-- The calls on a dispatcher where it is kept: refused, or served. Assumes nothing.
use mathlib.Core.Path.{◌≡◌, refl, sym, ap, ap₂, ◌∙◌, subst}
use mathlib.Core.Bool.{true≢false}
use borrow.Author.Tests.{eq-eqb, ne_eqb}
use Rattle.std.proofs.Common.{Result, Ok, Err, Some}
use Rattle.table.specs.Refusals.{refusal_number, refusal_place}
use Rattle.guarantees.specs.Types.{List, ℕ, State, Call, Err, Ok, Refusal}
use Rattle.guarantees.specs.Claim.{Claim}
use Rattle.guarantees.specs.Requests.{LookFirst}
use Rattle.guarantees.specs.Opened.{OpenedWithClaim}
use Rattle.dispatcher.specs.declared.Dispatcher.{Dispatcher}
use Rattle.dispatcher.specs.Dispatcher.{state_of, opening_of}
use Rattle.dispatcher.specs.Promises.{Instant}
use Rattle.rules.specs.Instant.{at_g, occurred}
use Rattle.rules.specs.Calls.{refusal, instant, served, opening, row, after_call}
use Rattle.rules.specs.Tickets.{Ticketed, raised, TicketedStep, instant_step}
use Rattle.rules.specs.View.{viewed}
use Rattle.rules.specs.Kept.{Kept, Beside, read}
use Rattle.exports_instants.specs.Promises.{ToldAs, held, Answered, Committed, Shown, shown, LookedAs, Enquired, MarkedIn, OpenedAt}

-- ---- an instant

module _ (k : Kept) (b : Beside) (ticket t set : ℕ) {number : ℕ} (n : number ≡ refusal (read k b) t set) where
  step_refused : (number ≡ 0 → ⊥) → instant_step (held k b ticket) t set ≡ record { left = held k b ticket; answer = Err (refusal (read k b) t set) }
  unfolding instant after_call
  step_refused some = let z = ne_eqb (refusal (read k b) t set) 0 (λ e. some (n ∙ e)) in rw (instant, after_call, z)

  pub refused_at : (told : List ℕ) → (number ≡ 0 → ⊥) → Answered k b ticket t set told number k b ticket told
  refused_at told some = record {
    number_is = n;
    left_is = sym (ap (λ (s : TicketedStep). s.left) (step_refused some));
    told_is = subst (λ (s : TicketedStep). ToldAs s.answer told told) (sym (step_refused some)) refl;
    untouched = λ f. (refl, refl, refl);
  }

  step_served : number ≡ 0
      → instant_step (held k b ticket) t set ≡ record { left = record { state = at_g (read k b) t set; ticket = raised ticket }; answer = Ok (occurred (read k b) t set) }
  unfolding instant served after_call
  step_served none = let z = eq-eqb (refusal (read k b) t set) 0 (sym n ∙ none) in rw (instant, after_call, z)

  pub served_at : {k' : Kept} {b' : Beside} {ticket' : ℕ} {told told' : List ℕ} → number ≡ 0 → Instant (read k b) t set k' b' told told' → ticket' ≡ raised ticket
      → Answered k b ticket t set told 0 k' b' ticket' told'
  served_at {told = told} {told' = told'} none x e = record {
    number_is = sym none ∙ n;
    left_is = ap₂ (λ (s : State) (i : ℕ). record { state = s; ticket = i }) x.state e ∙ sym (ap (λ (s : TicketedStep). s.left) (step_served none));
    told_is = subst (λ (s : TicketedStep). ToldAs s.answer told told') (sym (step_served none)) (record { told_is = x.told_is; reads = x.reads });
    untouched = λ f. absurd (f (sym n ∙ none));
  }

-- ---- a commit

module _ (given : ℕ) (k : Kept) (b : Beside) (ticket t set : ℕ) where
  pub not_present : (told : List ℕ) → (given ≡ ticket → ⊥) → Committed given k b ticket t set told 20 k b ticket told
  not_present told some =
      let z = ne_eqb given ticket some in record { number_is = rw z; left_is = rw z; told_is = rw z; untouched = λ f. (refl, refl, refl) }

  pub present : {told : List ℕ} {number : ℕ} {k' : Kept} {b' : Beside} {ticket' : ℕ} {told' : List ℕ} → given ≡ ticket
      → Answered k b ticket t set told number k' b' ticket' told' → Committed given k b ticket t set told number k' b' ticket' told'
  present same x =
      let z = eq-eqb given ticket same in
      record { number_is = rw z x.number_is; left_is = rw z x.left_is; told_is = rw z x.told_is; untouched = λ f. x.untouched (λ e. f (rw z e)) }

-- ---- an enquiry

module _ (k : Kept) (b : Beside) (ticket t set : ℕ) {told : List ℕ} {number : ℕ} {k' : Kept} {b' : Beside} {ticket' : ℕ} {told' : List ℕ}
    (x : Answered k b ticket t set told number k' b' ticket' told') (given : ℕ) (ticks tasks units : List ℕ) where
  pub not_shown : (number ≡ 0 → ⊥) → Enquired k b ticket t set (shown told given ticks tasks units) number (shown told' given ticks tasks units)
  not_shown some =
      let s = step_refused k b ticket t set x.number_is some in
      let same : told' ≡ told = subst (λ (s : TicketedStep). ToldAs s.answer told told') s x.told_is in
      record {
        number_is = x.number_is;
        shown_is =
            subst (λ (s : TicketedStep). LookedAs s.answer s.left.state ticket (shown told given ticks tasks units) (shown told' given ticks tasks units)) (sym s)
            (ap (λ (l : List ℕ). shown l given ticks tasks units) same);
      }

  pub looked : {ticks' tasks' units' : List ℕ} → number ≡ 0 → Shown (viewed (read k' b')) ticks' tasks' units'
      → Enquired k b ticket t set (shown told given ticks tasks units) 0 (shown told' ticket ticks' tasks' units')
  looked {ticks'} {tasks'} {units'} none v =
      let s = step_served k b ticket t set x.number_is none in
      let told_is = subst (λ (s : TicketedStep). ToldAs s.answer told told') s x.told_is in
      let left : read k' b' ≡ at_g (read k b) t set = ap (λ (d : Ticketed). d.state) (x.left_is ∙ ap (λ (s : TicketedStep). s.left) s) in
      record {
        number_is = sym none ∙ x.number_is;
        shown_is =
            subst (λ (s : TicketedStep). LookedAs s.answer s.left.state ticket (shown told given ticks tasks units) (shown told' ticket ticks' tasks' units')) (sym s)
            (record { told_is = told_is; given_is = refl; view_is = subst (λ (d : State). Shown (viewed d) ticks' tasks' units') left v });
      }

-- ---- a mark call

module _ (c : Call) (k : Kept) (b : Beside) (ticket : ℕ) {number : ℕ} (e : number ≡ (row c).number (read k b)) where
  pub mark_refused_at : (number ≡ 0 → ⊥) → MarkedIn c k b ticket number k ticket
  unfolding after_call
  mark_refused_at some = record {
    number_is = e;
    left_is = let z = ne_eqb ((row c).number (read k b)) 0 (λ x. some (e ∙ x)) in rw (after_call, z);
    untouched = λ f. (refl, refl);
  }

  pub marked_at : {k' : Kept} {ticket' : ℕ} → number ≡ 0 → read k' b ≡ (row c).leaves (read k b) → ticket' ≡ raised ticket → MarkedIn c k b ticket 0 k' ticket'
  unfolding after_call
  marked_at none x i = record {
    number_is = sym none ∙ e;
    left_is = let z = eq-eqb ((row c).number (read k b)) 0 (sym e ∙ none) in rw (after_call, z, x, i);
    untouched = λ f. absurd (f (sym e ∙ none));
  }

-- ---- opening

pub opened_at : (bytes : List ℕ) (k k' : Kept) (b b' : Beside) (ticket : ℕ) (r : Result Dispatcher Refusal) (d : Dispatcher) → OpenedWithClaim bytes r → r ≡ Ok d → read k' b' ≡ state_of d
    → OpenedAt bytes k b ticket 0 0 k' b' d.ticket
opened_at bytes k k' b b' ticket r d o e s =
    let serves : opening bytes ≡ Ok (state_of d) = sym o.opens ∙ ap opening_of e in
    record {
      number_is = rw serves;
      place_is = rw serves;
      left_is = λ x f. let same : state_of d ≡ x = let q = sym serves ∙ f in cc in ap₂ (λ (y : State) (i : ℕ). record { state = y; ticket = i }) (s ∙ same) (o.ticket d e);
      claim = λ f list. subst (λ (z : State). Claim z list) (sym s) (o.claim d e list);
      look_first = λ f list. subst (λ (z : State). LookFirst z list) (sym s) (o.look_first d e list);
      untouched = λ f. absurd (true≢false (sym f ∙ rw serves));
    }

-- one that refuses the bytes
pub not_opened_at : (bytes : List ℕ) (k : Kept) (b : Beside) (ticket : ℕ) (r : Result Dispatcher Refusal) (x : Refusal) → OpenedWithClaim bytes r → r ≡ Err x
    → OpenedAt bytes k b ticket (refusal_number (Some x)) (refusal_place (Some x)) k b ticket
not_opened_at bytes k b ticket r x o e =
    let refuses : opening bytes ≡ Err x = sym o.opens ∙ ap opening_of e in
    record {
      number_is = rw refuses;
      place_is = rw refuses;
      left_is = λ d f. absurd (let q = sym refuses ∙ f in cc);
      claim = λ f list. absurd (true≢false (sym f ∙ rw refuses));
      look_first = λ f list. absurd (true≢false (sym f ∙ rw refuses));
      untouched = λ f. (refl, refl, refl);
    }
