-- `entries::entry_at` meets its contract: the entry at a place is the one at the front of the rest from there, and that one by the tests on the
-- way to each answer. Assumes nothing.
use mathlib.Core.Path.{◌≡◌, sym, ap, ◌∙◌}
use mathlib.Core.List.{List}
use Prim.Native.Nat.{ℕ, ◌-◌, ◌≤◌, ◌<◌}
use native.Mathlib.Omega.{arith}
use borrow.Author.Tests.{ne_eqb, le-leb, lt-leb}
use mathlib.Core.Bool.{false}
use lib.Dec.{eqb}
use lib.ListN.{length}
use Rattle.words.specs.Words.{number_at}
use Rattle.words.proofs.Laws.{past}
use Rattle.entries.specs.Types.{TaskParameters, Release, Spacing, Ok, Err, CutShort, OtherKind, TaskEntry, ReleaseEntry, SpacingEntry}
use Rattle.entries.specs.Entries.{size, entry_at, task_at, release_at, spacing_at}
use Rattle.entries.proofs.Places.{rest, kind_is, task_is, release_is, spacing_is}
use Rattle.entries.proofs.entry_at.Goals as goal

module _ (s : List ℕ) (at k : ℕ) (read : k ≡ number_at 1 (rest s at) 0) where
  a_task : (p : TaskParameters) → k ≡ 1 → size 1 ≤ length s - at → p ≡ task_at (rest s at) 0 → Ok (TaskEntry p) ≡ entry_at s at
  unfolding entry_at
  a_task p e l f = rw (kind_is s at 1 (sym read ∙ e), le-leb 16 (length s - at) l) (ap (λ x. Ok (TaskEntry x)) (f ∙ task_is s at))

  cut_task : k ≡ 1 → length s - at < size 1 → Err CutShort ≡ entry_at s at
  unfolding entry_at
  cut_task e l = rw (kind_is s at 1 (sym read ∙ e), lt-leb 16 (length s - at) l)

  a_release : (r : Release) → k ≡ 2 → size 2 ≤ length s - at → r ≡ release_at (rest s at) 0 → Ok (ReleaseEntry r) ≡ entry_at s at
  unfolding entry_at
  a_release r e l f = rw (kind_is s at 2 (sym read ∙ e), le-leb 10 (length s - at) l) (ap (λ x. Ok (ReleaseEntry x)) (f ∙ release_is s at))

  cut_release : k ≡ 2 → length s - at < size 2 → Err CutShort ≡ entry_at s at
  unfolding entry_at
  cut_release e l = rw (kind_is s at 2 (sym read ∙ e), lt-leb 10 (length s - at) l)

  a_spacing : (x : Spacing) → k ≡ 3 → size 3 ≤ length s - at → x ≡ spacing_at (rest s at) 0 → Ok (SpacingEntry x) ≡ entry_at s at
  unfolding entry_at
  a_spacing x e l f = rw (kind_is s at 3 (sym read ∙ e), le-leb 6 (length s - at) l) (ap (λ x. Ok (SpacingEntry x)) (f ∙ spacing_is s at))

  cut_spacing : k ≡ 3 → length s - at < size 3 → Err CutShort ≡ entry_at s at
  unfolding entry_at
  cut_spacing e l = rw (kind_is s at 3 (sym read ∙ e), lt-leb 6 (length s - at) l)

  no_kind : (k ≡ 1 → ⊥) → (k ≡ 2 → ⊥) → (k ≡ 3 → ⊥) → Err OtherKind ≡ entry_at s at
  unfolding entry_at
  no_kind a b d = rw (is_not 1 a, is_not 2 b, is_not 3 d)
    where
      is_not : (n : ℕ) → (k ≡ n → ⊥) → eqb (number_at 1 s at) n ≡ false
      is_not n h = ne_eqb (number_at 1 s at) n (λ e. h (sym (kind_is s at k (sym read)) ∙ e))

behind_the_end : (s : List ℕ) (at : ℕ) → length s < at → Err OtherKind ≡ entry_at s at
unfolding entry_at
behind_the_end s at l = rw (past 1 s at (omega arith))

pub returns-then-s-at : goal.returns-then-s-at
returns-then-s-at c = let a = c.args in behind_the_end a.s.now a.at (omega (arith, c.if-s-at.true))

pub returns-in-1 : goal.returns-in-1
returns-in-1 c = let a = c.args in a_task a.s.now a.at _ c.get_u8.ensures _ c.in-1.is (omega (arith, c.if-rest-ge-TASK_SIZE.true)) c.front_task.ensures

pub returns-in-2 : goal.returns-in-2
returns-in-2 c = let a = c.args in a_release a.s.now a.at _ c.get_u8.ensures _ c.in-2.is (omega (arith, c.if-rest-ge-RELEASE_SIZE.true)) c.front_release.ensures

pub returns-in-3 : goal.returns-in-3
returns-in-3 c = let a = c.args in a_spacing a.s.now a.at _ c.get_u8.ensures _ c.in-3.is (omega (arith, c.if-rest-ge-SPACING_SIZE.true)) c.front_spacing.ensures

pub returns-in-1-2 : goal.returns-in-1-2
returns-in-1-2 c = let a = c.args in cut_task a.s.now a.at _ c.get_u8.ensures c.in-1.is (omega (arith, c.if-rest-ge-TASK_SIZE.false))

pub returns-in-1-2-2 : goal.returns-in-1-2-2
returns-in-1-2-2 c = let a = c.args in cut_release a.s.now a.at _ c.get_u8.ensures c.in-2.is (omega (arith, c.if-rest-ge-RELEASE_SIZE.false))

pub returns-in-1-2-3 : goal.returns-in-1-2-3
returns-in-1-2-3 c = let a = c.args in cut_spacing a.s.now a.at _ c.get_u8.ensures c.in-3.is (omega (arith, c.if-rest-ge-SPACING_SIZE.false))

pub returns-in_default : goal.returns-in_default
returns-in_default c = let a = c.args in no_kind a.s.now a.at _ c.get_u8.ensures (λ e. omega (arith, e)) (λ e. omega (arith, e)) (λ e. omega (arith, e))
