-- 9/13: what requests answer is what the calls answer that they come to, and a session made of commits comes to the calls that it was
-- made of. Assumes nothing.
use mathlib.Core.Path.{◌≡◌, refl, ap}
use mathlib.Core.Bool.{true}
use mathlib.Core.List.{List, [], ◌∷◌}
use borrow.Author.Tests.{eq-eqb}
use lib.Dec.{eqb}
use Rattle.sets.proofs.Laws.{by-test}
use Rattle.rules.specs.Tickets.{Ticketed, after_ticketed, TicketedStep, commit}
use Rattle.guarantees.specs.Types.{Call, Instant, Mark, Marks}
use Rattle.guarantees.specs.Requests.{Request, Calls, Enquires, Commits, calls_made}
use Rattle.guarantees.proofs.Requests.{commit_is, commit_stays}
use Rattle.record.specs.FileClaim.{answers}
use Rattle.record.specs.Requests.{answers_to, by_commits}

pub as_calls : (rs : List Request) (d : Ticketed) → answers_to d rs ≡ answers d.state (calls_made d rs)
unfolding answers_to answers calls_made
as_calls [] d = refl
as_calls (Calls c ∷ rs) d = rw (as_calls rs (after_ticketed d c))
as_calls (Enquires t set ∷ rs) d = as_calls rs d
as_calls (Commits k t set ∷ rs) d =
    by-test (eqb k d.ticket)
    (λ e.
    let left : (commit d k t set).left ≡ after_ticketed d (Instant t set) = ap (λ (s : TicketedStep). s.left) (commit_is d k t set e) in
    rw (e, left, as_calls rs (after_ticketed d (Instant t set))))
    (λ e. rw (e, commit_stays d k t set e, as_calls rs d))

pub as_commits : (cs : List Call) (d : Ticketed) → calls_made d (by_commits d cs) ≡ cs
unfolding calls_made by_commits
as_commits [] d = refl
as_commits (Instant t set ∷ cs) d =
    let e : eqb d.ticket d.ticket ≡ true = eq-eqb d.ticket d.ticket refl in
    let left : (commit d d.ticket t set).left ≡ after_ticketed d (Instant t set) = ap (λ (s : TicketedStep). s.left) (commit_is d d.ticket t set e) in
    rw (e, left, as_commits cs (after_ticketed d (Instant t set)))
as_commits (Mark n m ∷ cs) d = ap (λ (l : List Call). Mark n m ∷ l) (as_commits cs (after_ticketed d (Mark n m)))
as_commits (Marks set m ∷ cs) d = ap (λ (l : List Call). Marks set m ∷ l) (as_commits cs (after_ticketed d (Marks set m)))
