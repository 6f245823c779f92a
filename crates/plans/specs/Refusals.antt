-- The refusals of document 01's table, and inputs and calls that meet two of them at once: the first in the document's order counts.
use Rattle.std.specs.Prelude.{List, [], ◌∷◌, ◌++◌, ℕ}
use Rattle.rules.specs.declared.Call.TheVariants.{Instant, Mark, Marks}
use Rattle.plans.specs.Rows.{Row, recorded, refused, answered}
use Rattle.plans.specs.Plans.{task, release, tasks}

-- an opening that is refused: its number and its place
unfoldable pub unopened : List ℕ → ℕ → ℕ → Row
unopened input n place = answered input [] (n ∷ place ∷ []) []

unfoldable pub refusals : List Row
refusals =
    refused (1 ∷ 5 ∷ []) 1 1 0 ∷
    refused (7 ∷ []) 1 2 0 ∷
    refused (tasks ++ (release 0 1 ++ task 4 4 0 1 1 1)) 1 3 58 ∷
    refused (task 32 1 0 1 1 1) 1 4 0 ∷
    refused (task 1 1 0 1 1 1 ++ task 1 2 0 1 1 1) 1 4 16 ∷
    refused (task 1 1 2 1 1 1) 1 6 0 ∷
    refused (task 1 1 0 1 0 1) 1 7 0 ∷
    refused (task 1 1 0 1000001 1 1) 1 7 0 ∷
    refused (task 1 1 0 1 1 1000001) 1 7 0 ∷
    refused (tasks ++ release 1000000001 1) 1 10 48 ∷
    refused [] 1 12 0 ∷
    -- two at once
    refused (tasks ++ (18 ∷ [])) 1 2 48 ∷
    refused (tasks ++ (release 0 1 ++ (1 ∷ []))) 1 1 58 ∷
    refused (tasks ++ (release 0 1 ++ task 1 1 2 0 0 0)) 1 3 58 ∷
    refused (task 1 9 0 1 1 1 ++ task 1 9 0 1 1 1) 1 4 16 ∷
    refused (task 1 9 0 1 1 1 ++ task 2 9 2 1 1 1) 1 6 16 ∷
    refused (task 1 9 2 1 0 1) 1 6 0 ∷
    refused (tasks ++ release 1000000001 4) 1 8 48 ∷
    refused (tasks ++ (release 5 2 ++ release 1000000001 4)) 1 8 58 ∷
    refused (tasks ++ (release 1000000000 2 ++ (release 1000000001 1 ++ release 1000000001 1))) 1 10 58 ∷
    refused (tasks ++ (release 1000000000 2 ++ release 1000000000 1)) 1 9 58 ∷
    -- 6/13: 5 no longer occurs, and its number is kept free
    recorded (task 1 9 0 1 1 1 ++ task 2 9 0 1 1 1) [] 0 2 ∷
    -- openings
    unopened [] 12 0 ∷
    unopened (2 ∷ []) 2 0 ∷
    unopened (tasks ++ release 0 1) 2 48 ∷
    unopened (tasks ++ (1 ∷ 4 ∷ [])) 1 48 ∷
    unopened (task 1 9 2 1 0 1) 6 0 ∷
    -- calls: 16, 10, 14, 15 each alone, then with the next
    answered tasks (Instant 0 2 ∷ Instant 1 512 ∷ Instant 0 0 ∷ Instant 3 0 ∷ Instant 1000000001 2 ∷ [])
    (0 ∷ 0 ∷ 0 ∷ 0 ∷ 2 ∷ 16 ∷ 14 ∷ 15 ∷ 10 ∷ []) [] ∷
    answered tasks (Instant 1000000001 512 ∷ Instant 1000000002 0 ∷ Instant 1000000001 2 ∷ []) (0 ∷ 0 ∷ 16 ∷ 0 ∷ 0 ∷ 10 ∷ []) [] ∷
    -- mark calls: 16 before 6 before 17
    answered tasks (Instant 0 2 ∷ Mark 9 2 ∷ Mark 255 0 ∷ Mark 1 2 ∷ Mark 1 1 ∷ Mark 2 1 ∷ [])
    (0 ∷ 0 ∷ 0 ∷ 0 ∷ 2 ∷ 16 ∷ 16 ∷ 6 ∷ 17 ∷ 0 ∷ []) [] ∷
    -- 10/13, marks for several tasks: in the same order, if any of them; and of no task
    answered tasks (Instant 0 2 ∷ Marks 514 2 ∷ Marks 6 2 ∷ Marks 6 1 ∷ Marks 12 1 ∷ Marks 0 1 ∷ Marks 0 2 ∷ Mark 2 0 ∷ [])
    (0 ∷ 0 ∷ 0 ∷ 0 ∷ 2 ∷ 16 ∷ 6 ∷ 17 ∷ 0 ∷ 0 ∷ 6 ∷ 0 ∷ []) [] ∷
    []
