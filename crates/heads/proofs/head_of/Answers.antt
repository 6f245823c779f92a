-- `heads::head_of` meets its contract: what is left to read, read from here, gives what the whole gives. Assumes nothing.
use Prim.Native.Nat.{ℕ, ◌+◌, ◌<◌}
use mathlib.Core.Path.{◌≡◌, refl, sym, ap, ◌∙◌}
use mathlib.Core.Bool.{false}
use mathlib.Core.List.{List}
use native.Mathlib.Omega.{arith}
use lib.ListN.{length, length-set}
use borrow.Author.Rules.{rules}
use Rattle.sets.proofs.Laws.{insert_small, member_task}
use Rattle.entries.specs.Entries.{is_release, entry_at, entry_size}
use Rattle.entries.specs.declared.Entry.{Entry}
use Rattle.entries.specs.declared.Unreadable.{Unreadable}
use Rattle.std.proofs.Common.{Err}
use Rattle.table.specs.declared.Table.{Table}
use Rattle.table.specs.Refusals.{number_found}
use Rattle.table.specs.Table.{with_lengths}
use Rattle.table.specs.Head.{head_of, head_from, with_task, with_spacing, entry_refusal, with_entry, marked_with, refused_at}
use Rattle.table.proofs.Laws.{Rest, turn, turn_on, behind_end, behind_release, before_release, is_whole, at_end, refuses, takes, number_new, spacing_taken, fault_some}
use Rattle.heads.proofs.head_of.Goals as goal
use Rattle.std.specs.Prelude.{Result, Ok}
use Rattle.entries.specs.Unreadable.{unreadable_number}

-- an entry before the end that is no release, where a part is read
module _ (s : List ℕ) (at : ℕ) (t : Table) (m : ℕ) (rest : Rest s at t m) (l : at < length s) (more : is_release s at ≡ false) (x : Result Entry Unreadable) (e : entry_at s at ≡ x) where
  refused : (n : ℕ) → entry_refusal t x ≡ n → (n ≡ 0 → ⊥) → refused_at n at ≡ head_of s
  refused n r h = turn s at t m rest l (refused_at n at) (λ k. refuses s at t m k (before_release s at l more) x e n r h)

  onward : entry_refusal t x ≡ 0 → Rest s (at + entry_size x) (with_entry t x) (marked_with m x)
  onward r = turn_on s at t m rest l (entry_size x) (with_entry t x) (marked_with m x) (is_whole s at t x e r).some (λ k. takes s at t m k (before_release s at l more) x e r)

-- no entry that is refused for itself has the number 0
some_number : (s : List ℕ) (at : ℕ) (t : Table) (e : Unreadable) → entry_at s at ≡ Err e → unreadable_number e ≡ 0 → ⊥
unfolding entry_refusal
some_number s at t e f h = let w = is_whole s at t (Err e) f h in omega (arith, w.some)

pub entries-init : goal.entries-init
unfolding head_of
entries-init c =
    let e = c.no_table-t.ensures in (
      search rules,
      ap (λ (x : Table). length x.priority) e,
      rw e (omega arith),
      record { fuel = length c.args.s.now; enough = omega arith; same = ap (λ (x : Table). head_from (length c.args.s.now) c.args.s.now 0 x 0) e },
      ap (λ (x : Table). length x.columns) e,
    )

pub bounds-t-i : goal.bounds-t-i
bounds-t-i c = let small = (number_new c.entries.t _ (sym c.task_refusal.ensures ∙ ap number_found c.in_default.is)).0 in search rules

pub bounds-t-i-in-TaskEntry : goal.bounds-t-i-in-TaskEntry
bounds-t-i-in-TaskEntry c = let small = (number_new c.entries.t _ (sym c.task_refusal.ensures ∙ ap number_found c.in_default.is)).0 in search rules

pub bounds-t-i-in-TaskEntry-2 : goal.bounds-t-i-in-TaskEntry-2
bounds-t-i-in-TaskEntry-2 c = let small = (number_new c.entries.t _ (sym c.task_refusal.ensures ∙ ap number_found c.in_default.is)).0 in search rules

pub bounds-t-i-in-TaskEntry-3 : goal.bounds-t-i-in-TaskEntry-3
bounds-t-i-in-TaskEntry-3 c = let small = (number_new c.entries.t _ (sym c.task_refusal.ensures ∙ ap number_found c.in_default.is)).0 in search rules

pub entries-preserved-in-TaskEntry : goal.entries-preserved-in-TaskEntry
unfolding entry_refusal with_entry marked_with with_task with_lengths
entries-preserved-in-TaskEntry c =
    let v = c.entries in let s = c.args.s.now in
    let e = sym c.entry_at.ensures ∙ c.in-Ok.is ∙ ap Ok c.in-TaskEntry.is in
    let r = sym c.task_refusal.ensures ∙ ap number_found c.in_default.is in
    let w = is_whole s v.at v.t _ e r in
    let t = c.insert.ensures in (
      omega (arith, w.within),
      simp length-set v.invariant.1,
      rw t (insert_small _ _),
      rw (t, c.with_marked-marked.ensures)
          (onward s v.at v.t v.marked v.invariant.3 c.if-s-at.false (sym c.is_release.ensures ∙ c.if-is_release.false) _ e r),
      simp length-set v.invariant.4,
    )

pub bounds-t-x : goal.bounds-t-x
bounds-t-x c =
    let small = member_task _ _ c.entries.invariant.2
    (spacing_taken c.entries.t _ (sym c.spacing_refusal.ensures ∙ ap number_found c.in_default-spacing_refusal.is)).known in search rules

pub entries-preserved : goal.entries-preserved
unfolding entry_refusal with_entry marked_with with_spacing
entries-preserved c =
    let v = c.entries in let s = c.args.s.now in
    let e = sym c.entry_at.ensures ∙ c.in-Ok.is ∙ ap Ok c.in-SpacingEntry.is in
    let r = sym c.spacing_refusal.ensures ∙ ap number_found c.in_default-spacing_refusal.is in
    let w = is_whole s v.at v.t _ e r in
    let t = c.insert-in-SpacingEntry.ensures in (
      omega (arith, w.within),
      v.invariant.1,
      v.invariant.2,
      rw t (onward s v.at v.t v.marked v.invariant.3 c.if-s-at.false (sym c.is_release.ensures ∙ c.if-is_release.false) _ e r),
      simp length-set v.invariant.4,
    )

pub returns-then-s-at : goal.returns-then-s-at
returns-then-s-at c = let v = c.entries in let s = c.args.s.now in c.read_to.ensures ∙ sym (at_end s v.at v.t v.marked v.invariant.3.fuel (behind_end s v.at c.if-s-at.true)) ∙ v.invariant.3.same

pub returns-then-is_release : goal.returns-then-is_release
returns-then-is_release c =
    let v = c.entries in let s = c.args.s.now in
    c.read_to-then-is_release.ensures ∙ sym
    (at_end s v.at v.t v.marked v.invariant.3.fuel (behind_release s v.at (sym c.is_release.ensures ∙ c.if-is_release.true))) ∙ v.invariant.3.same

pub returns-in-Err : goal.returns-in-Err
unfolding entry_refusal
returns-in-Err c =
    let v = c.entries in let s = c.args.s.now in
    let e = sym c.entry_at.ensures ∙ c.in-Err.is in
    c.refused_at.ensures
    ∙ refused s v.at v.t v.marked v.invariant.3 c.if-s-at.false (sym c.is_release.ensures ∙ c.if-is_release.false) _ e _ (sym c.number.ensures) (λ h. some_number s v.at v.t _ e (sym c.number.ensures ∙ h))

pub returns-in-ReleaseEntry : goal.returns-in-ReleaseEntry
unfolding entry_refusal
returns-in-ReleaseEntry c =
    let v = c.entries in let s = c.args.s.now in
    let e = sym c.entry_at.ensures ∙ c.in-Ok.is ∙ ap Ok c.in-ReleaseEntry.is in
    c.refused_at-in-ReleaseEntry.ensures
    ∙ refused s v.at v.t v.marked v.invariant.3 c.if-s-at.false (sym c.is_release.ensures ∙ c.if-is_release.false) _ e 2 refl (λ h. omega arith)

pub returns-in-Err-task_refusal : goal.returns-in-Err-task_refusal
unfolding entry_refusal
returns-in-Err-task_refusal c =
    let v = c.entries in let s = c.args.s.now in
    let e = sym c.entry_at.ensures ∙ c.in-Ok.is ∙ ap Ok c.in-TaskEntry.is in
    ap Err c.at.ensures
    ∙ refused s v.at v.t v.marked v.invariant.3 c.if-s-at.false (sym c.is_release.ensures ∙ c.if-is_release.false) _ e _
    (sym c.task_refusal.ensures ∙ ap number_found c.in-Err-task_refusal.is) (fault_some _)

pub returns-in-Err-spacing_refusal : goal.returns-in-Err-spacing_refusal
unfolding entry_refusal
returns-in-Err-spacing_refusal c =
    let v = c.entries in let s = c.args.s.now in
    let e = sym c.entry_at.ensures ∙ c.in-Ok.is ∙ ap Ok c.in-SpacingEntry.is in
    ap Err c.at-in-Err-spacing_refusal.ensures
    ∙ refused s v.at v.t v.marked v.invariant.3 c.if-s-at.false (sym c.is_release.ensures ∙ c.if-is_release.false) _ e _
    (sym c.spacing_refusal.ensures ∙ ap number_found c.in-Err-spacing_refusal.is) (fault_some _)
