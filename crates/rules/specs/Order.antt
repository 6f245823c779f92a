-- The order in which jobs go: by priority, where the smaller number is the higher priority; then by the original release time; then by
-- the task number. The choice (R2) and the promotion (R4) go by it. Where one job gives way to another (R3), or is blocked by it, their
-- priorities alone are compared: "Only a strictly lower priority is cancelled, thrown out or counted as blocking" (6/13).
use Rattle.rules.specs.Types.{Bool, false, cond, List, ℕ, zero, suc, Option, None, Some, State}
use Rattle.std.specs.Prelude.{ltb, eqb, get_or, ◌&&◌}
use Rattle.sets.specs.Sets.{member, collect}
use Rattle.entries.specs.Limits as limits

abbrev pub priority : State → ℕ → ℕ
priority d n = get_or d.table.priority n 0

-- 6/13: "The highest of several is then the earliest released by original time": whether task k goes before task b, by their priorities
-- and the original times of their releases
abbrev pub goes_before : List ℕ → (ℕ → ℕ) → ℕ → ℕ → Bool
goes_before priority since k b =
    cond (eqb (get_or priority k 0) (get_or priority b 0)) (ltb (since k) (since b)) (ltb (get_or priority k 0) (get_or priority b 0))

-- "and among those the lowest task number": of a task that may be there and task k, of a higher number, the one that goes first
unfoldable pub better : List ℕ → (ℕ → ℕ) → Option ℕ → ℕ → Option ℕ
better priority since None k = Some k
better priority since (Some b) k = cond (goes_before priority since k b) (Some k) (Some b)

-- of the tasks below a number that are in a set, the one that goes first
unfoldable pub highest_below : ℕ → List ℕ → (ℕ → ℕ) → ℕ → Option ℕ
highest_below zero priority since s = None
highest_below (suc k) priority since s =
    let r : Option ℕ = highest_below k priority since s in
    cond (member k s) (better priority since r k) r

unfoldable pub highest : List ℕ → (ℕ → ℕ) → ℕ → Option ℕ
unfolding highest_below
highest priority since s = highest_below limits.tasks priority since s

-- the highest of a set of tasks with a job
abbrev pub highest_of : State → ℕ → Option ℕ
highest_of d s = highest d.table.priority (λ k. get_or d.jobs.release k 0) s

-- task m, if there is one, has a higher priority than task n
abbrev pub outranks : State → ℕ → Option ℕ → Bool
outranks d n None = false
outranks d n (Some m) = ltb (priority d m) (priority d n)

-- of a set, the tasks with a higher priority than task n
unfoldable pub higher_than : List ℕ → ℕ → ℕ → ℕ
higher_than priority n s = collect (λ k. member k s && ltb (get_or priority k 0) (get_or priority n 0))

-- and than a task that may be there
abbrev pub higher : State → Option ℕ → ℕ → ℕ
higher d None s = 0
higher d (Some n) s = higher_than d.table.priority n s
