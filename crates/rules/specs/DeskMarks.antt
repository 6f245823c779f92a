-- 10/13, "Marks for a whole desk", said for itself: why such a call is refused, that it does what single changes do in any order, and that
-- a single change is this call with one task. What stands between quotation marks is document 02.
use Rattle.rules.specs.Types.{Bool, true, false, List, [], ℕ, State}
use Rattle.std.specs.Prelude.{◌≤◌, ◌<◌, ◌^◌, eqb, ◌≡◌, ◌||◌, ◌∷◌}
use Rattle.sets.specs.Sets.{member, insert}
use Rattle.rules.specs.Calls.{mark, mark_refusal, marks_refusal, with_marks}

-- ---- "If any named task is unknown, the mark is bad, or any has a job pending or a release waiting"

abbrev pub AnyUnknown : State → ℕ → Type 0
AnyUnknown d set = (n : ℕ) × (member n set ≡ true) × (member n d.table.present ≡ false)

abbrev pub AnyBusy : State → ℕ → Type 0
AnyBusy d set = (n : ℕ) × (member n set ≡ true) × ((member n d.jobs.pending || member n d.waiting.tasks) ≡ true)

-- ---- "the state is that of single changes made in any order"

unfoldable pub stands_in : ℕ → List ℕ → Bool
stands_in n [] = false
stands_in n (k ∷ ks) = eqb n k || stands_in n ks

-- an order of the tasks of a set: they stand in it, and no others
pub record Orders (order : List ℕ) (set : ℕ) : Type 0 where
  pub is_set : set < 2 ^ 32
  pub tasks : (n : ℕ) → stands_in n order ≡ true → n < 32
  pub each : (n : ℕ) → n < 32 → stands_in n order ≡ member n set

-- single changes, one after the other
unfoldable pub single_marks : State → ℕ → List ℕ → State
single_marks d m [] = d
single_marks d m (n ∷ ns) = single_marks (mark d n m).state m ns

-- ---- What is said of it

abbrev pub Iff : Type 0 → Type 0 → Type 0
Iff A B = (A → B) × (B → A)

pub record DeskMarks (d : State) (set m : ℕ) : Type 0 where
  -- "under 16, 6 and 17 in that order", each if and only if; and 0 where it is served
  pub unknown : set < 2 ^ 32 → Iff (marks_refusal d set m ≡ 16) (AnyUnknown d set)
  pub bad_mark : set < 2 ^ 32 → Iff (marks_refusal d set m ≡ 6) ((AnyUnknown d set → ⊥) × (1 < m))
  pub busy : set < 2 ^ 32 → Iff (marks_refusal d set m ≡ 17) ((AnyUnknown d set → ⊥) × (m ≤ 1) × AnyBusy d set)
  pub served : set < 2 ^ 32 → Iff (marks_refusal d set m ≡ 0) ((AnyUnknown d set → ⊥) × (m ≤ 1) × (AnyBusy d set → ⊥))
  -- "Otherwise the state is that of single changes made in any order"
  pub in_any_order : (order : List ℕ) → Orders order set → marks_refusal d set m ≡ 0 → single_marks d m order ≡ with_marks d set m
  -- a single change is the same with one task
  pub one_task : (n : ℕ) → n < 32 → mark_refusal d n m ≡ marks_refusal d (insert n 0) m
