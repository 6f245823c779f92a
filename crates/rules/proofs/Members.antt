-- Loops over the members of a set: what is left of the set, and what one turn changes.
use Rattle.std.proofs.Common.{◌&&◌, ◌||◌, ◌^◌, ◌≤◌, ◌<◌, ◌≡◌}
use Rattle.rules.specs.Types.{Bool, true, false, not, ℕ, refl, sym, ◌∙◌}
use native.Mathlib.Omega.{arith}
use native.Mathlib.Nat.{lt_of_lt_of_le}
use borrow.Author.Tests.{ltb-true, ltb-false, eqb-true, eq-eqb, ne_eqb}
use lib.Dec.{eqb, ltb}
use mathlib.Core.List.{[], ◌∷◌}
use Rattle.sets.specs.Sets.{member, remove, lowest, members_below}
use Rattle.sets.proofs.Listing.{next_of, none_left}
use Rattle.sets.proofs.Laws.{by-test, clash, removed, remove_small, remove_out, remove_other, none, none_past, lowest_most, lowest_member, lowest_first, lowest_least, lowest_task}

-- what a loop has left: from the lowest task left on, the tasks of the set
pub record Left (set left : ℕ) : Type 0 where
  pub tasks : set < 2 ^ 32
  pub small : left < 2 ^ 32
  pub rest : (k : ℕ) → k < 32 → lowest left ≤ k → member k left ≡ member k set

-- the tasks of the set that the loop has passed
abbrev pub passed : ℕ → ℕ → ℕ → Bool
passed set left k = member k set && not (member k left)

-- one turn: task n was the lowest left, and the others are left after it. No task between it and the next is in the set
pub record Turn (set left n after : ℕ) : Type 0 where
  pub lowest_left : lowest left ≡ n
  pub task : n < 32
  pub there : member n set ≡ true
  pub rises : n < lowest after
  pub next : Left set after
  pub between : (k : ℕ) → n < k → k < lowest after → member k set ≡ false
  pub fresh : passed set left n ≡ false
  pub one_more : (k : ℕ) → passed set after k ≡ (eqb k n || passed set left k)

pub start : {set : ℕ} → set < 2 ^ 32 → Left set set
start l = record { tasks = l; small = l; rest = λ k m h. refl }

nothing_yet : (b : Bool) → (b && not b) ≡ false
nothing_yet true = refl
nothing_yet false = refl

all_of : (b : Bool) → (b && true) ≡ b
all_of true = refl
all_of false = refl

pub at_start : (set k : ℕ) → passed set set k ≡ false
at_start set k = nothing_yet (member k set)

pub at_end : (set k : ℕ) → passed set 0 k ≡ member k set
at_end set k = rw (none k) (all_of (member k set))

module _ (set left : ℕ) (h : Left set left) (some : left ≡ 0 → ⊥) where
  is_task : lowest left < 32
  is_task = lowest_task left h.small some

  in_left : member (lowest left) left ≡ true
  in_left = lowest_member left is_task

  in_set : member (lowest left) set ≡ true
  in_set = sym (h.rest (lowest left) is_task (omega arith)) ∙ in_left

  higher : lowest left < lowest (remove (lowest left) left)
  higher =
      let n = lowest left in
      let m = lowest (remove n left) in
      by-test (ltb n m) (λ e. ltb-true n m e)
      (λ e.
      let t = lowest_member (remove n left) (omega (arith, is_task, ltb-false n m e)) in
      clash (eqb m n)
      (eq-eqb m n (omega (arith, ltb-false n m e, lowest_least left m (remove_out n left m t))))
      (remove_other n left m t))

  other : (k : ℕ) → k < 32 → lowest left < k → member k (remove (lowest left) left) ≡ member k set
  other k l m = removed (lowest left) left k l ∙ rw (ne_eqb k (lowest left) (omega arith)) (h.rest k l (omega arith))

  more : (k : ℕ) → passed set (remove (lowest left) left) k ≡ (eqb k (lowest left) || passed set left k)
  more k =
      by-test (ltb k 32)
      (λ l.
      rw (removed (lowest left) left k (ltb-true k 32 l))
      (by-test (eqb k (lowest left))
      (λ e. rw (e, eqb-true k (lowest left) e, in_set))
      (λ e. rw e)))
      (λ l. rw (none_past 32 k set (ltb-false k 32 l) h.tasks, ne_eqb k (lowest left) (omega (arith, is_task, ltb-false k 32 l))))

  goes : Turn set left (lowest left) (remove (lowest left) left)
  goes = record {
    lowest_left = refl;
    task = is_task;
    there = in_set;
    rises = higher;
    next = record { tasks = h.tasks; small = remove_small (lowest left) left; rest = λ k l m. other k l (omega (arith, higher)) };
    between = λ k l m.
        sym (other k (lt_of_lt_of_le m (lowest_most (remove (lowest left) left))) l)
        ∙ lowest_first (remove (lowest left) left) k m;
    fresh = rw (in_set, in_left);
    one_more = more;
  }

pub turn : {set left n after : ℕ} → Left set left → (left ≡ 0 → ⊥) → n ≡ lowest left → after ≡ remove (lowest left) left → Turn set left n after
turn {set} {left} h some e f = rw (f, e) (goes set left h some)

-- ---- what the iterator over a set says of such a loop

abbrev pub Gave : ℕ → ℕ → ℕ → Type 0
Gave left n after = (members_below 32 left ≡ n ∷ members_below 32 after) × (after < 2 ^ 32)

pub onward : {set : ℕ} (left n after : ℕ) → Left set left → Gave left n after → Turn set left n after
onward left n after h g = let t = next_of left n after h.small g.1 g.0 in turn h t.some t.is_lowest t.is_rest

pub ended : {set : ℕ} (left : ℕ) → Left set left → members_below 32 left ≡ [] → left ≡ 0
ended left h e = none_left left h.small e

-- ---- a loop that gathers those that meet a test

-- task a (or not) is passed now, those of b before; c has been gathered of them by d
pub gathers_one : (a b c d : Bool) → (a ≡ true → d ≡ true) → c ≡ (b && d) → (a || c) ≡ ((a || b) && d)
gathers_one true b c d h e = sym (h refl)
gathers_one false b c d h e = e

pub gathers_none : (a b c d : Bool) → (a ≡ true → d ≡ false) → c ≡ (b && d) → c ≡ ((a || b) && d)
gathers_none true b c d h e = e ∙ rw (h refl) (and_false b)
  where
    and_false : (b : Bool) → (b && false) ≡ false
    and_false true = refl
    and_false false = refl
gathers_none false b c d h e = e
