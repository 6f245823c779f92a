-- 9/13: a session made of requests, commits with their tickets among them, and what it answers. What stands between quotation marks is
-- document 02.
use Rattle.record.specs.Types.{cond, List, []}
use Rattle.std.specs.Prelude.{eqb, ◌∷◌, ◌++◌}
use Rattle.rules.specs.Calls.{row, serves}
use Rattle.rules.specs.Tickets.{Ticketed, after_ticketed, commit_refusal}
use Rattle.rules.specs.declared.Call.{Call}
use Rattle.guarantees.specs.Requests.{Request, Calls, Enquires, Commits, after_request}
use Rattle.run.specs.Run.{Moment, moment}

-- what requests answer: the instants that are served, with a ticket or without
abbrev pub moments_to : Ticketed → Request → List Moment
moments_to d (Calls c) = cond (serves d.state c) (moment d.state (row c).time (row c).hands ∷ []) []
moments_to d (Enquires t set) = []
moments_to d (Commits k t set) = cond (eqb (commit_refusal d k t set) 0) (moment d.state t set ∷ []) []

unfoldable pub answers_to : Ticketed → List Request → List Moment
answers_to d [] = []
answers_to d (r ∷ rs) = moments_to d r ++ answers_to (after_request d r) rs

-- "sessions made of commits": each instant of some calls as a commit by the present ticket
unfoldable pub by_commits : Ticketed → List Call → List Request
by_commits d [] = []
by_commits d (c ∷ cs) =
    cond (row c).is_instant (Commits d.ticket (row c).time (row c).hands) (Calls c) ∷ by_commits (after_ticketed d c) cs
