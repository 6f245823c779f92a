-- The entries of a head and of a record are refused by numbers of their own: neither 13 nor 18 is one of theirs. Assumes nothing.
use Rattle.std.proofs.Common.{◌+◌, Some}
use mathlib.Core.Path.{◌≡◌, refl, sym, subst}
use mathlib.Core.Bool.{not, ◌||◌}
use Rattle.sets.specs.Sets.{member}
use Prim.Native.Nat.{◌-◌, ◌<◌}
use native.Mathlib.Omega.{arith}
use lib.Dec.{eqb, leb, ltb}
use lib.ListN.{length}
use Rattle.sets.proofs.Laws.{by-test}
use Rattle.words.specs.Words.{number_at}
use Rattle.entries.specs.Entries.{task_at, release_at, spacing_at, entry_at, entry_size, job_at, interval_at, record_entry_at, record_entry_size}
use Rattle.table.specs.Refusals.{refusal_number}
use Rattle.table.specs.Head.{no_table, outside, number_refused, mark_or_length_refusal, after_spacings, task_refusal, ticks_refused, spacing_refusal, entry_refusal, with_entry, marked_with, behind_head, head_from, head_of, with_nothing_behind, head_alone}
use Rattle.table.proofs.Laws.{at_end, refuses, takes}
use Rattle.rules.specs.Calls.{opened_from, opening}
use Rattle.guarantees.specs.Types.{Table, Head}
use Rattle.run.specs.Files.{Checked, Rejected, Releases, with_release}
use Rattle.record.specs.Types.{TaskParameters, Spacing, Entry, TaskEntry, ReleaseEntry, SpacingEntry}
use Rattle.reading.specs.Types.{Bool, true, false, cond, List, [], ℕ, zero, suc, Release, Refusal, Alone, AtEntry, Result, Ok, Err, RecordEntry, JobDone, IntervalEnded, ReleaseSkipped}
use Rattle.reading.specs.Attested.{release_of, attested_by, attested_from, attested}
use Rattle.entries.specs.declared.Unreadable.{Unreadable}
use Rattle.entries.specs.declared.Unreadable.TheVariants.{CutShort, OtherKind}
use Rattle.entries.specs.Unreadable.{unreadable_number}

-- neither 13 nor 18
abbrev Other : ℕ → Type 0
Other n = (n ≡ 13 → ⊥) × (n ≡ 18 → ⊥)

abbrev pub Low : ℕ → Type 0
Low n = (0 < n) × (n ≡ 13 → ⊥) × (n ≡ 18 → ⊥)

low : (n : ℕ) → 0 < n → n < 13 → Low n
low n h l = (h, (λ e. omega arith), (λ e. omega arith))

-- no refusal, or one by such a number
abbrev pub RefusalLow : {A : Type 0} → Result A Refusal → Type 0
RefusalLow (Ok x) = Unit {0}
RefusalLow (Err r) = Low (refusal_number (Some r))

-- what holds of both answers to a test holds of what is chosen
either : {A : Type 0} (P : A → Type 0) (b : Bool) (x y : A) → P x → P y → P (cond b x y)
either P true x y h g = h
either P false x y h g = g

-- ---- the entries of a head

other : (n : ℕ) → n < 13 → Other n
other n l = ((λ e. omega arith), (λ e. omega arith))

abbrev EntryOther : Table → Result Entry Unreadable → Type 0
EntryOther t x = Other (entry_refusal t x)

entry_other : (t : Table) (s : List ℕ) (at : ℕ) → EntryOther t (entry_at s at)
unfolding entry_at entry_refusal task_refusal mark_or_length_refusal spacing_refusal
entry_other t s at =
    let kind : ℕ = number_at 1 s at in
    let n : ℕ = length s - at in
    let cut : Other 1 = other 1 (omega arith) in
    let none : Other 0 = other 0 (omega arith) in
    let p : TaskParameters = task_at s at in
    let x : Spacing = spacing_at s at in
    let lengths : Bool = outside p.copyin || (outside p.execution || outside p.copyout) in
    either (EntryOther t) (eqb kind 1) _ _
    (either (EntryOther t) (leb 16 n) (Ok (TaskEntry p)) (Err CutShort)
    (either Other (after_spacings t.spaced) 3 _ (other 3 (omega arith))
    (either Other (number_refused t.present p.number) 4 _ (other 4 (omega arith))
    (either Other (ltb 1 p.mark) 6 _ (other 6 (omega arith)) (either Other lengths 7 0 (other 7 (omega arith)) none)))) cut)
    (either (EntryOther t) (eqb kind 2) _ _ (either (EntryOther t) (leb 10 n) (Ok (ReleaseEntry (release_at s at))) (Err CutShort) (other 2 (omega arith)) cut)
    (either (EntryOther t) (eqb kind 3) _ (Err OtherKind)
    (either (EntryOther t) (leb 6 n) (Ok (SpacingEntry x)) (Err CutShort)
    (either Other (not (member x.task t.present)) 8 _ (other 8 (omega arith))
    (either Other (ticks_refused t.spaced x) 19 0 ((λ e. omega arith), (λ e. omega arith)) none)) cut)
    (other 2 (omega arith))))

abbrev HeadLow : Result Head Refusal → Type 0
HeadLow k = RefusalLow k

tasks_low : (k : ℕ) (s : List ℕ) (at : ℕ) (t : Table) (m : ℕ) → HeadLow (head_from k s at t m)
tasks_low zero s at t m = unfold head_from in tt
tasks_low (suc k) s at t m =
    by-test (behind_head s at)
    (λ b. subst HeadLow (sym (at_end s at t m (suc k) b)) tt)
    (λ b. go b (entry_refusal t x) refl (tasks_low k s (at + entry_size x) (with_entry t x) (marked_with m x)))
  where
    x : Result Entry Unreadable
    x = entry_at s at

    go : behind_head s at ≡ false → (n : ℕ) → entry_refusal t x ≡ n → HeadLow (head_from k s (at + entry_size x) (with_entry t x) (marked_with m x))
        → HeadLow (head_from (suc k) s at t m)
    go b zero r more = subst HeadLow (sym (takes s at t m k b x refl r)) more
    go b (suc n) r more = subst HeadLow (sym (refuses s at t m k b x refl (suc n) r (omega arith))) (let o : Other (suc n) = subst Other r (entry_other t s at) in (omega arith, o.0, o.1))

pub opening_low : (tasks : List ℕ) → RefusalLow (opening tasks)
unfolding opening head_alone
opening_low tasks = opened_low (cond (eqb (length tasks) 0) (Err (Alone 12)) (with_nothing_behind (length tasks) (head_of tasks)))
    (either HeadLow (eqb (length tasks) 0) (Err (Alone 12)) (with_nothing_behind (length tasks) (head_of tasks)) (low 12 (omega arith) (omega arith))
    (behind_low (length tasks) (head_of tasks) (unfold head_of in tasks_low (length tasks) tasks 0 no_table 0)))
  where
    opened_low : (k : Result Head Refusal) → HeadLow k → RefusalLow (opened_from k)
    opened_low (Ok k) l = tt
    opened_low (Err r) l = l

    behind_low : (size : ℕ) (k : Result Head Refusal) → HeadLow k → HeadLow (with_nothing_behind size k)
    behind_low size (Ok k) l = either HeadLow (eqb k.end size) (Ok k) (Err (AtEntry 2 k.end)) tt (low 2 (omega arith) (omega arith))
    behind_low size (Err r) l = l

-- ---- a record's entries

abbrev RecordLow : Result RecordEntry Unreadable → Type 0
RecordLow (Err n) = Low (unreadable_number n)
RecordLow (Ok (JobDone e)) = Unit {0}
RecordLow (Ok (IntervalEnded e)) = Unit {0}
RecordLow (Ok (ReleaseSkipped r)) = Unit {0}

record_low : (s : List ℕ) (at : ℕ) → RecordLow (record_entry_at s at)
unfolding record_entry_at
record_low s at =
    let kind : ℕ = number_at 1 s at in
    let n : ℕ = length s - at in
    either RecordLow (eqb kind 16) _ _ (either RecordLow (leb 27 n) (Ok (JobDone (job_at s at))) (Err CutShort) tt (low 1 (omega arith) (omega arith)))
    (either RecordLow (eqb kind 17) _ _ (either RecordLow (leb 24 n) (Ok (IntervalEnded (interval_at s at))) (Err CutShort) tt (low 1 (omega arith) (omega arith)))
    (either RecordLow (eqb kind 18) _ (Err OtherKind) (either RecordLow (leb 10 n) (Ok (ReleaseSkipped (release_at s at))) (Err CutShort) tt (low 1 (omega arith) (omega arith))) (low 2 (omega arith) (omega arith))))

abbrev pub CheckedLow : Checked → Type 0
CheckedLow (Rejected r) = Low (refusal_number (Some r))
CheckedLow (Releases rs) = Unit {0}

with_low : (r : Release) (c : Checked) → CheckedLow c → CheckedLow (with_release r c)
unfolding with_release
with_low r (Rejected n) l = l
with_low r (Releases rs) l = tt

entries_low : (k : ℕ) (s : List ℕ) (at : ℕ) → CheckedLow (attested_from k s at)
unfolding attested_from attested_by
entries_low zero s at = tt
entries_low (suc k) s at = go (leb (length s) at) (record_entry_at s at) (record_low s at) (λ n. entries_low k s (at + n))
  where
    go : (b : Bool) (e : Result RecordEntry Unreadable) → RecordLow e → ((n : ℕ) → CheckedLow (attested_from k s (at + n)))
        → CheckedLow (elim b [ true ↦ Releases [] | false ↦ attested_by e at (attested_from k s (at + record_entry_size e)) ])
    go true e l more = tt
    go false (Err n) l more = l
    go false (Ok (JobDone e)) l more = with_low (release_of e) (attested_from k s (at + 27)) (more 27)
    go false (Ok (IntervalEnded e)) l more = more 24
    go false (Ok (ReleaseSkipped r)) l more = with_low r (attested_from k s (at + 10)) (more 10)

pub attested_low : (s : List ℕ) → CheckedLow (attested s)
attested_low s = entries_low (length s) s 0
