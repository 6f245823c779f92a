-- The tables that opening serves: they have a task, and each length is in its range.
use Rattle.std.proofs.Common.{◌≡◌, ◌||◌, ◌⊎◌, ◌+◌, ◌^◌, ◌≤◌, ◌<◌}
use Rattle.std.proofs.Common.{Result, Ok, Err}
use Rattle.std.specs.Result.{IfOk}
use Rattle.std.proofs.lemmas.Result.{IfOk-at_ok, IfOk-weaker}
use Rattle.guarantees.specs.Types.{refl, sym, ap, ◌∙◌, subst, Bool, true, false, cond, not, List, inl, inr, ⊎_elim, ℕ, zero, suc, Table, State, Refusal, Head}
use Rattle.entries.specs.declared.TaskParameters.{TaskParameters}
use Rattle.entries.specs.declared.Entry.{Entry}
use Rattle.entries.specs.declared.Spacing.{Spacing}
use Rattle.entries.specs.declared.Entry.TheVariants.{TaskEntry, ReleaseEntry, SpacingEntry}
use Rattle.entries.specs.declared.Unreadable.{Unreadable}
use native.Mathlib.Omega.{arith}
use borrow.Author.Tests.{eqb-true, eqb-false, eq-eqb, ltb-false}
use lib.Dec.{eqb, ltb}
use lib.ListN.{get_or, set, length, length-set}
use lib.Seq.{get_or-set_same, get_or-set_other}
use Rattle.table.specs.Table.{copyin_length, execution_length, copyout_length, spacing, with_lengths}
use Rattle.table.proofs.Laws.{none_passed as neither-passed, number_new, SpacingTaken, spacing_taken, is_whole, at_end, refuses, takes}
use Rattle.table.proofs.Columns.{copyin_more, execution_more, copyout_more, columns_long}
use Rattle.sets.specs.Sets.{member, insert}
use Rattle.sets.proofs.Laws.{by-test, clash, none, insert_same, insert_other, insert_out, insert_small, member_task}
use Rattle.entries.specs.Entries.{entry_at, entry_size}
use Rattle.entries.specs.Limits as limits
use Rattle.table.specs.Head.{no_table, outside, number_refused, mark_or_length_refusal, after_spacings, task_refusal, with_task, with_marked, with_spacing, entry_refusal, with_entry, marked_with, refused_at, read_to, behind_head, head_from, head_of, head_alone}
use Rattle.table.proofs.Alone.{Whole, accepted, whole_head}
use Rattle.rules.specs.Calls.{opened, opened_from, opening}

-- ---- tests in a row

-- where no number is answered no test has passed
pub none_passed : (w x y z : ℕ) (a b c e : Bool) → cond a (suc w) (cond b (suc x) (cond c (suc y) (cond e (suc z) 0))) ≡ 0
    → (a ≡ false) × (b ≡ false) × (c ≡ false) × (e ≡ false)
none_passed w x y z a b c e h =
    let f = neither-passed a b w x (cond c (suc y) (cond e (suc z) 0)) h in
    let g = neither-passed c e y z 0 f.2 in
    (f.0, f.1, g.0, g.1)

neither : (a b : Bool) → (a || b) ≡ false → (a ≡ false) × (b ≡ false)
neither true b h = clash true refl h
neither false b h = (refl, h)

-- ---- a table as it is read

abbrev pub InRange : ℕ → Type 0
InRange x = (1 ≤ x) × (x ≤ limits.longest_phase)

pub record Fair (table : Table) (marked : ℕ) : Type 0 where
  pub present : table.present < 2 ^ 32
  pub marks : (k : ℕ) → member k marked ≡ true → member k table.present ≡ true
  pub copyins : (k : ℕ) → member k table.present ≡ true → InRange (copyin_length table.columns k)
  pub executions : (k : ℕ) → member k table.present ≡ true → InRange (execution_length table.columns k)
  pub copyouts : (k : ℕ) → member k table.present ≡ true → InRange (copyout_length table.columns k)
  pub spaced : (k : ℕ) → member k table.spaced ≡ true → member k table.present ≡ true
  pub spacings : (k : ℕ) → member k table.spaced ≡ true → (1 ≤ spacing table.columns k) × (spacing table.columns k ≤ limits.longest_spacing)

-- with room for 32 tasks
pub record Roomy (table : Table) : Type 0 where
  pub priorities : length table.priority ≡ 32
  pub columns : length table.columns ≡ 128

roomy_none : Roomy no_table
roomy_none = record { priorities = refl; columns = refl }

fair_none : Fair no_table 0
fair_none = record {
  present = omega arith;
  marks = λ k h. h;
  copyins = λ k h. clash (member k 0) h (none k);
  executions = λ k h. clash (member k 0) h (none k);
  copyouts = λ k h. clash (member k 0) h (none k);
  spaced = λ k h. h;
  spacings = λ k h. clash (member k 0) h (none k);
}

in_range : (x : ℕ) → outside x ≡ false → InRange x
unfolding outside
in_range x h =
    let y : (eqb x 0 ≡ false) × (ltb limits.longest_phase x ≡ false) = neither (eqb x 0) (ltb limits.longest_phase x) h in
    (omega (arith, eqb-false x 0 y.0), ltb-false limits.longest_phase x y.1)

-- a task entry that meets no refusal
module _ (t : Table) (marked : ℕ) (fair : Fair t marked) (roomy : Roomy t) (p : TaskParameters) (taken : task_refusal t.present t.spaced p ≡ 0) where
  abbrev n : ℕ
  n = p.number

  abbrev Met : Type 0
  Met = (n < 32) × (member n t.present ≡ false)
      × InRange p.copyin × InRange p.execution × InRange p.copyout

  met : Met
  unfolding task_refusal mark_or_length_refusal
  met =
      let c : Bool = outside p.copyin || (outside p.execution || outside p.copyout) in
      let f = neither-passed (after_spacings t.spaced) (number_refused t.present n) 2 3 (mark_or_length_refusal p) taken in
      let g = neither-passed (ltb 1 p.mark) c 5 6 0 f.2 in
      let y : (outside p.copyin ≡ false) × ((outside p.execution || outside p.copyout) ≡ false) =
      neither (outside p.copyin) (outside p.execution || outside p.copyout) g.1 in
      let z : (outside p.execution ≡ false) × (outside p.copyout ≡ false) = neither (outside p.execution) (outside p.copyout) y.1 in
      let x = number_new t p taken in
      (x.0, x.1, in_range p.copyin y.0, in_range p.execution z.0, in_range p.copyout z.1)

  -- tasks come before spacings
  unspaced : (k : ℕ) → member k t.spaced ≡ false
  unfolding task_refusal
  unspaced k =
      let f = neither-passed (after_spacings t.spaced) (number_refused t.present n) 2 3 (mark_or_length_refusal p) taken in
      ap (member k) (eqb-true t.spaced 0 (not_true (eqb t.spaced 0) f.0)) ∙ none k
    where
      not_true : (b : Bool) → not b ≡ false → b ≡ true
      not_true true e = refl
      not_true false e = clash true refl e

  -- of a column: a property of the new task's value and of those of the tasks before
  stored : (P : ℕ → Type 0) (old new : ℕ → ℕ) (v : ℕ) → ((k : ℕ) → k < 32 → new k ≡ cond (eqb k n) v (old k)) → P v
      → ((k : ℕ) → member k t.present ≡ true → P (old k)) → (k : ℕ) → member k (insert n t.present) ≡ true → P (new k)
  stored P old new v at h f k m =
      let is : new k ≡ cond (eqb k n) v (old k) = at k (member_task k (insert n t.present) (insert_small n t.present) m) in
      by-test (eqb k n)
      (λ e. subst P (sym (is ∙ rw e)) h)
      (λ e. subst P (sym (is ∙ rw e)) (f k (⊎_elim (λ x. clash (eqb k n) x e) (λ x. x) (insert_out n t.present k m))))

  marks_more : (k : ℕ) → member k (with_marked marked p) ≡ true → member k (insert n t.present) ≡ true
  unfolding with_marked
  marks_more k = go (eqb p.mark 1)
    where
      older : member k marked ≡ true → member k (insert n t.present) ≡ true
      older m =
          let x : member k t.present ≡ true = fair.marks k m in
          insert_other n t.present k (member_task k t.present fair.present x) x

      go : (b : Bool) → member k (cond b (insert n marked) marked) ≡ true → member k (insert n t.present) ≡ true
      go true m =
          ⊎_elim (λ x. insert_same n t.present k (member_task k (insert n marked) (insert_small n marked) m) x) older (insert_out n marked k m)
      go false m = older m

  fair_more : Fair (with_task t p) (with_marked marked p)
  unfolding with_task
  fair_more = record {
    present = insert_small n t.present;
    marks = marks_more;
    copyins = stored InRange (copyin_length t.columns) (copyin_length (with_lengths t.columns p)) p.copyin (copyin_more t.columns p roomy.columns met.0) met.2 fair.copyins;
    executions = stored InRange (execution_length t.columns) (execution_length (with_lengths t.columns p)) p.execution (execution_more t.columns p roomy.columns met.0) met.3 fair.executions;
    copyouts = stored InRange (copyout_length t.columns) (copyout_length (with_lengths t.columns p)) p.copyout (copyout_more t.columns p roomy.columns met.0) met.4 fair.copyouts;
    spaced = λ k m. clash (member k t.spaced) m (unspaced k);
    spacings = λ k m. clash (member k t.spaced) m (unspaced k);
  }

  roomy_more : Roomy (with_task t p)
  unfolding with_task
  roomy_more = record {
    priorities = length-set t.priority n p.priority ∙ roomy.priorities;
    columns = columns_long t.columns p ∙ roomy.columns;
  }

  some_more : member n (with_task t p).present ≡ true
  unfolding with_task
  some_more = insert_same n t.present n met.0 (eq-eqb n n refl)

  members_more : (k : ℕ) → member k t.present ≡ true → member k (with_task t p).present ≡ true
  unfolding with_task
  members_more k m = insert_other n t.present k (member_task k t.present fair.present m) m

-- a spacing that meets no refusal
module _ (t : Table) (marked : ℕ) (fair : Fair t marked) (roomy : Roomy t) (x : Spacing) (taken : SpacingTaken t x) where
  small : x.task < 32
  small = member_task x.task t.present fair.present taken.known

  -- the columns of lengths stay
  same_length : (k : ℕ) → k < 96 → get_or (set t.columns (96 + x.task) x.ticks) k 0 ≡ get_or t.columns k 0
  same_length k l = get_or-set_other t.columns (96 + x.task) k x.ticks 0 (λ h. omega arith)

  -- those of the tasks that are known
  lengths_stay : (from : ℕ) → from ≤ 64 → ((k : ℕ) → member k t.present ≡ true → InRange (get_or t.columns (from + k) 0))
      → (k : ℕ) → member k t.present ≡ true → InRange (get_or (set t.columns (96 + x.task) x.ticks) (from + k) 0)
  lengths_stay from l f k m =
      let s : k < 32 = member_task k t.present fair.present m in
      subst InRange (sym (same_length (from + k) (omega arith))) (f k m)

  spacing_more : Fair (with_spacing t x) marked
  unfolding with_spacing
  spacing_more = record {
    present = fair.present;
    marks = fair.marks;
    copyins = λ k m. let s : k < 32 = member_task k t.present fair.present m in subst InRange (sym (same_length k (omega arith))) (fair.copyins k m);
    executions = lengths_stay 32 (omega arith) fair.executions;
    copyouts = lengths_stay 64 (omega arith) fair.copyouts;
    spaced = λ k m. ⊎_elim (λ e. subst (λ (j : ℕ). member j t.present ≡ true) (sym (eqb-true k x.task e)) taken.known) (fair.spaced k) (insert_out x.task t.spaced k m);
    spacings = λ k m.
        by-test (eqb k x.task)
        (λ e. subst (λ (j : ℕ). In (get_or after (96 + j) 0)) (sym (eqb-true k x.task e))
        (subst In (sym (get_or-set_same t.columns (96 + x.task) x.ticks 0 (omega (arith, roomy.columns, small)))) (omega (arith, taken.some), taken.most)))
        (λ e. subst In (sym (get_or-set_other t.columns (96 + x.task) (96 + k) x.ticks 0 (λ h. eqb-false k x.task e (omega arith))))
        (fair.spacings k (⊎_elim (λ y. clash (eqb k x.task) y e) (λ y. y) (insert_out x.task t.spaced k m))));
  }
    where
      after : List ℕ
      after = set t.columns (96 + x.task) x.ticks

      In : ℕ → Type 0
      In v = (1 ≤ v) × (v ≤ limits.longest_spacing)

  roomy_spaced : Roomy (with_spacing t x)
  unfolding with_spacing
  roomy_spaced = record { priorities = roomy.priorities; columns = length-set t.columns (96 + x.task) x.ticks ∙ roomy.columns }

-- ---- an entry that meets no refusal

module _ (t : Table) (marked : ℕ) (fair : Fair t marked) (roomy : Roomy t) where
  fair_with : (x : Result Entry Unreadable) → entry_refusal t x ≡ 0 → Fair (with_entry t x) (marked_with marked x)
  unfolding entry_refusal with_entry marked_with
  fair_with (Err n) e = fair
  fair_with (Ok (TaskEntry p)) e = fair_more t marked fair roomy p e
  fair_with (Ok (ReleaseEntry r)) e = fair
  fair_with (Ok (SpacingEntry x)) e = spacing_more t marked fair roomy x (spacing_taken t x e)

  roomy_with : (x : Result Entry Unreadable) → entry_refusal t x ≡ 0 → Roomy (with_entry t x)
  unfolding entry_refusal with_entry
  roomy_with (Err n) e = roomy
  roomy_with (Ok (TaskEntry p)) e = roomy_more t marked fair roomy p e
  roomy_with (Ok (ReleaseEntry r)) e = roomy
  roomy_with (Ok (SpacingEntry x)) e = roomy_spaced t marked fair roomy x (spacing_taken t x e)

  members_with : (x : Result Entry Unreadable) → entry_refusal t x ≡ 0 → (k : ℕ) → member k t.present ≡ true → member k (with_entry t x).present ≡ true
  unfolding entry_refusal with_entry with_spacing
  members_with (Err n) e k m = m
  members_with (Ok (TaskEntry p)) e k m = members_more t marked fair roomy p e k m
  members_with (Ok (ReleaseEntry r)) e k m = m
  members_with (Ok (SpacingEntry x)) e k m = m

  -- and there is a task with it: an entry of no length is none
  some_with : (x : Result Entry Unreadable) → 0 < entry_size x → entry_refusal t x ≡ 0 → (n : ℕ) × (member n (with_entry t x).present ≡ true)
  unfolding entry_refusal with_entry with_spacing
  some_with (Err n) l e = absurd (omega arith)
  some_with (Ok (TaskEntry p)) l e = (p.number, some_more t marked fair roomy p e)
  some_with (Ok (ReleaseEntry r)) l e = absurd (omega arith)
  some_with (Ok (SpacingEntry x)) l e = (x.task, (spacing_taken t x e).known)

-- ---- the entries one after another

-- what an entry can lead to
module _ (P : Result Head Refusal → Type 0) (s : List ℕ) (k at : ℕ) (t : Table) (marked : ℕ) where
  entry_cases : P (read_to t marked at) → ((n : ℕ) → P (refused_at n at))
      → ((x : Result Entry Unreadable) → entry_at s at ≡ x → entry_refusal t x ≡ 0 → P (head_from k s (at + entry_size x) (with_entry t x) (marked_with marked x))) → P (head_from (suc k) s at t marked)
  entry_cases h f g =
      by-test (behind_head s at)
      (λ b. subst P (sym (at_end s at t marked (suc k) b)) h)
      (λ b. go b (entry_refusal t (entry_at s at)) refl)
    where
      go : behind_head s at ≡ false → (n : ℕ) → entry_refusal t (entry_at s at) ≡ n → P (head_from (suc k) s at t marked)
      go b zero r = subst P (sym (takes s at t marked k b (entry_at s at) refl r)) (g (entry_at s at) refl r)
      go b (suc n) r = subst P (sym (refuses s at t marked k b (entry_at s at) refl (suc n) r (omega arith))) (f (suc n))

-- what is read without a refusal is fair, and has a task or nothing was read
abbrev Read : ℕ → Result Head Refusal → Type 0
Read at r = IfOk r (λ k. Fair k.table k.marked × ((k.end ≡ at) ⊎ ((n : ℕ) × (member n k.table.present ≡ true))))

-- with a task before, there is one after
abbrev ReadOn : Result Head Refusal → Type 0
ReadOn r = IfOk r (λ k. Fair k.table k.marked × ((n : ℕ) × (member n k.table.present ≡ true)))

reads_on : (k : ℕ) (s : List ℕ) (at : ℕ) (t : Table) (marked n : ℕ) → Fair t marked → Roomy t → member n t.present ≡ true → ReadOn (head_from k s at t marked)
reads_on zero s at t marked n f r m = unfold head_from in (f, (n, m))
reads_on (suc k) s at t marked n f r m =
    entry_cases ReadOn s k at t marked (f, (n, m)) (λ x. tt)
    (λ x i e. reads_on k s (at + entry_size x) (with_entry t x) (marked_with marked x) n (fair_with t marked f r x e) (roomy_with t marked f r x e) (members_with t marked f r x e n m))

reads : (k : ℕ) (s : List ℕ) (at : ℕ) (t : Table) (marked : ℕ) → Fair t marked → Roomy t → Read at (head_from k s at t marked)
reads zero s at t marked f r = unfold head_from in (f, inl refl)
reads (suc k) s at t marked f r =
    entry_cases (Read at) s k at t marked (f, inl refl) (λ x. tt)
    (λ x i e.
    let m : (n : ℕ) × (member n (with_entry t x).present ≡ true) = some_with t marked f r x (is_whole s at t x i e).some e in
    IfOk-weaker (head_from k s (at + entry_size x) (with_entry t x) (marked_with marked x)) _ _ (λ h y. (y.0, inr y.1))
    (reads_on k s (at + entry_size x) (with_entry t x) (marked_with marked x) m.0 (fair_with t marked f r x e) (roomy_with t marked f r x e) m.1))

-- ---- opening

pub record Proper (table : Table) (marked : ℕ) : Type 0 where
  pub some_task : table.present ≡ 0 → ⊥
  pub fair : Fair table marked

-- the state that opening returns has a proper table, and no job
pub record Opens (d : State) : Type 0 where
  pub proper : Proper d.table d.marked
  pub fresh : d ≡ opened d.table d.marked

some_proper : (table : Table) (marked : ℕ) → Fair table marked → (n : ℕ) → member n table.present ≡ true → Opens (opened table marked)
unfolding opened
some_proper table marked f n m = record {
  proper = record { some_task = λ e. clash (member n 0) (subst (λ (s : ℕ). member n s ≡ true) e m) (none n); fair = f };
  fresh = refl;
}

-- what was read of the bytes from their start
all_read : (bytes : List ℕ) → Read 0 (head_of bytes)
unfolding head_of
all_read bytes = reads (length bytes) bytes 0 no_table 0 fair_none roomy_none

pub opens : (bytes : List ℕ) (d : State) → opening bytes ≡ Ok d → Opens d
unfolding opening
opens bytes d h = go (head_alone bytes) refl h
  where
    go : (r : Result Head Refusal) → head_alone bytes ≡ r → opened_from r ≡ Ok d → Opens d
    go (Err r) e h = absurd (cc)
    go (Ok k) e h =
        let w : Whole bytes = accepted bytes k e in
        let j : Head = w.head in
        let x : Fair j.table j.marked × ((j.end ≡ 0) ⊎ ((n : ℕ) × (member n j.table.present ≡ true))) = IfOk-at_ok _ w.none_refused (all_read bytes) in
        let o : Opens (opened j.table j.marked) = ⊎_elim (λ z. absurd (w.some (sym w.whole ∙ z))) (λ z. some_proper j.table j.marked x.0 z.0 z.1) x.1 in
        let same : j ≡ k = let q = sym w.none_refused ∙ sym (whole_head bytes w) ∙ e in cc in
        let left : opened j.table j.marked ≡ d = let q = ap (λ (y : Head). opened y.table y.marked) same in cc in
        subst Opens left o
