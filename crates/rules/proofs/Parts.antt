-- What stands in numbers, by its kind, where the code tests fewer kinds than there are.
use Rattle.std.proofs.Common.{◌-◌, ◌≤◌, ◌<◌, ◌≡◌}
use Rattle.rules.specs.Types.{List, false, ℕ, Table, Jobs, Registers, Option, JobEntry, CopyingIn, Executing, Finished, CopyingOut, Some, None, NoneNext}
use native.Mathlib.Omega.{arith}
use borrow.Author.Tests.{eqb-true, eqb-false, eq-eqb, ne_eqb}
use lib.Dec.{eqb}
use lib.ListN.{get_or}
use Rattle.table.specs.Table.{copyin_length, execution_length, copyout_length}
use Rattle.sets.specs.Sets.{insert}
use Rattle.sets.proofs.Laws.{by-test}
use Rattle.rules.specs.With.{later}
use Rattle.rules.specs.Instant.{processor_at, copyout_at, copyin_at, completed, step_a, copying_out, awaiting_execution, processor_task, copyout_task, copyin_task, copyin_fate, next_of, begin_processor, begin_copyout}
use Rattle.rules.specs.Registers.{as_processor, as_copyout, as_copyin, as_next, as_outgoing, copyout_in, phase_in, interval_in, Memory, state_in}

-- ---- a

-- before its phase is-over
pub processor_stays : (table : Table) (t kind n start until : ℕ) → (until ≡ t → ⊥) → as_processor kind n start until ≡ processor_at table t (as_processor kind n start until)
unfolding processor_at
processor_stays table t kind n start until ne =
    by-test (eqb kind 0)
    (λ e. simp e)
    (λ e. by-test (eqb kind 1)
    (λ f. simp (e, f, ne_eqb _ _ ne))
    (λ f. by-test (eqb kind 2)
    (λ g. simp (e, f, g, ne_eqb _ _ ne))
    (λ g. simp (e, f, g))))

-- idle or finished
pub processor_rests : (table : Table) (t kind n start until : ℕ) → eqb kind 1 ≡ false → eqb kind 2 ≡ false → as_processor kind n start until ≡ processor_at table t (as_processor kind n start until)
unfolding processor_at
processor_rests table t kind n start until f g = by-test (eqb kind 0) (λ e. simp e) (λ e. simp (e, f, g))

-- its own copy-in is-over
pub processor_copied : (table : Table) (columns : List ℕ) (t kind n start until length later-on : ℕ)
    → until ≡ t → kind ≡ 1 → length ≡ execution_length columns n → later-on ≡ later t length → table.columns ≡ columns
    → Executing n t later-on ≡ processor_at table t (as_processor kind n start until)
unfolding processor_at
processor_copied table columns t kind n start until length later-on e k l u same = simp (k, eq-eqb _ _ e, u, l, same)

-- its execution is-over
pub processor_executed : (table : Table) (t kind n start until : ℕ) → until ≡ t → kind ≡ 2 → Finished n start ≡ processor_at table t (as_processor kind n start until)
unfolding processor_at
processor_executed table t kind n start until e k = simp (k, eq-eqb _ _ e)

pub copyout_stays : (t kind n start until : ℕ) → eqb kind 1 ≡ false → as_copyout kind n start until ≡ copyout_at t (as_copyout kind n start until)
unfolding copyout_at
copyout_stays t kind n start until f = by-test (eqb kind 0) (λ e. simp e) (λ e. simp (e, f))

pub copyin_stays : (t kind n until : ℕ) → eqb kind 2 ≡ false → as_copyin kind n until ≡ copyin_at t (as_copyin kind n until)
copyin_stays t kind n until g =
    by-test (eqb kind 0)
    (λ e. simp e)
    (λ e. by-test (eqb kind 1)
    (λ f. simp (e, f))
    (λ f. by-test (eqb kind 3) (λ h. simp (e, f, g, h)) (λ h. simp (e, f, g, h))))

-- ---- b

pub no_fate_yet : (kind n until : ℕ) → kind < 3 → 0 ≡ copyin_fate (as_copyin kind n until)
no_fate_yet kind n until l =
    by-test (eqb kind 0)
    (λ e. simp e)
    (λ e. by-test (eqb kind 1)
    (λ f. simp (e, f))
    (λ f. by-test (eqb kind 2)
    (λ g. simp (e, f, g))
    (λ g. absurd (omega (arith, eqb-false kind 0 e, eqb-false kind 1 f, eqb-false kind 2 g)))))

pub fate_so_far : (kind n until x : ℕ) → 3 ≤ kind → x ≡ kind - 2 → x ≡ copyin_fate (as_copyin kind n until)
fate_so_far kind n until x l e =
    let a : eqb kind 0 ≡ false = ne_eqb kind 0 (λ z. omega arith) in
    let b : eqb kind 1 ≡ false = ne_eqb kind 1 (λ z. omega arith) in
    let c : eqb kind 2 ≡ false = ne_eqb kind 2 (λ z. omega arith) in
    by-test (eqb kind 3)
    (λ f. let z : x ≡ 1 = omega (arith, eqb-true kind 3 f) in simp (a, b, c, f, z))
    (λ f. simp (a, b, c, f, e))

pub job_completed : (j : Jobs) (t kind n start until release blocked : ℕ)
    → kind ≡ 1 → until ≡ t → release ≡ get_or j.release n 0 → blocked ≡ get_or j.blocked n 0
    → Some (record { task = n; release = release; start = start; completion = t; blocked = blocked }) ≡ completed j t (as_copyout kind n start until)
unfolding completed
job_completed j t kind n start until release blocked k e x y = simp (k, eq-eqb _ _ e, x, y)

pub not_yet_completed : (j : Jobs) (t kind n start until : ℕ) → kind ≡ 1 → (until ≡ t → ⊥) → None ≡ completed j t (as_copyout kind n start until)
unfolding completed
not_yet_completed j t kind n start until k ne = simp (k, ne_eqb _ _ ne)

pub nothing_completed : (j : Jobs) (t kind n start until : ℕ) → eqb kind 1 ≡ false → None ≡ completed j t (as_copyout kind n start until)
unfolding completed
nothing_completed j t kind n start until f = by-test (eqb kind 0) (λ e. simp e) (λ e. simp (e, f))

pub none_completed : (m : Memory) (r : Registers) (t : ℕ)
    → r.copyin ≡ 6 → None ≡ (step_a (state_in m r) t (phase_in r)).done
unfolding state_in phase_in interval_in step_a
none_completed m r t e = simp (eq-eqb _ _ e)

pub is_completed : (m : Memory) (r : Registers) (t : ℕ) (x : Option JobEntry)
    → (r.copyin ≡ 6 → ⊥)
    → x ≡ completed (record { pending = r.pending; ready = r.ready; release = m.arrays.release; blocked = m.arrays.blocked }) t (copyout_in r)
    → x ≡ (step_a (state_in m r) t (phase_in r)).done
unfolding state_in phase_in interval_in step_a
is_completed m r t x ne e = simp (ne_eqb _ _ ne, e)

-- ---- b

pub not_copying_out : (kind n start until : ℕ) → eqb kind 1 ≡ false → copying_out (as_copyout kind n start until) ≡ false
not_copying_out kind n start until f = by-test (eqb kind 0) (λ e. simp e) (λ e. simp (e, f))

pub waits_loaded : {kind x : ℕ} (n until ready : ℕ) → kind ≡ 3 → x ≡ insert n ready → x ≡ awaiting_execution (as_copyin kind n until) ready
waits_loaded n until ready k e = simp (k, e)

pub waits : (kind n until ready : ℕ) → eqb kind 3 ≡ false → ready ≡ awaiting_execution (as_copyin kind n until) ready
waits kind n until ready h =
    by-test (eqb kind 0)
    (λ e. simp e)
    (λ e. by-test (eqb kind 1)
    (λ f. simp (e, f))
    (λ f. by-test (eqb kind 2) (λ g. simp (e, f, g)) (λ g. simp (e, f, g, h))))

pub executes : (kind n start until : ℕ) → eqb kind 0 ≡ false → Some n ≡ processor_task (as_processor kind n start until)
executes kind n start until e =
    by-test (eqb kind 1) (λ f. simp (e, f)) (λ f. by-test (eqb kind 2) (λ g. simp (e, f, g)) (λ g. simp (e, f, g)))

pub copies_out : (kind n start until : ℕ) → eqb kind 0 ≡ false → Some n ≡ copyout_task (as_copyout kind n start until)
copies_out kind n start until e = by-test (eqb kind 1) (λ f. simp (e, f)) (λ f. simp (e, f))

pub copies_in : (kind n until : ℕ) → eqb kind 0 ≡ false → eqb kind 1 ≡ false → Some n ≡ copyin_task (as_copyin kind n until)
copies_in kind n until e f =
    by-test (eqb kind 2) (λ g. simp (e, f, g)) (λ g. by-test (eqb kind 3) (λ h. simp (e, f, g, h)) (λ h. simp (e, f, g, h)))

pub none_next : (kind n until : ℕ) → eqb kind 3 ≡ false → NoneNext ≡ next_of (as_copyin kind n until) None
none_next kind n until h =
    by-test (eqb kind 0)
    (λ e. simp e)
    (λ e. by-test (eqb kind 1)
    (λ f. simp (e, f))
    (λ f. by-test (eqb kind 2) (λ g. simp (e, f, g)) (λ g. simp (e, f, g, h))))

-- ---- g

pub loaded_begins : (table : Table) (columns : List ℕ) (t work n length until : ℕ)
    → work ≡ 1 → length ≡ execution_length columns n → until ≡ later t length → table.columns ≡ columns
    → Executing n t until ≡ begin_processor table t (as_next work n)
loaded_begins table columns t work n length until k l u same = simp (k, u, l, same)

pub promoted_begins : (table : Table) (columns : List ℕ) (t work n length until : ℕ)
    → eqb work 0 ≡ false → eqb work 1 ≡ false → length ≡ copyin_length columns n → until ≡ later t length → table.columns ≡ columns
    → CopyingIn n until ≡ begin_processor table t (as_next work n)
promoted_begins table columns t work n length until e f l u same = simp (e, f, u, l, same)

pub copyout_begins : (table : Table) (columns : List ℕ) (t kind n start length until : ℕ)
    → eqb kind 0 ≡ false → length ≡ copyout_length columns n → until ≡ later t length → table.columns ≡ columns
    → CopyingOut n start until ≡ begin_copyout table t (as_outgoing kind n start)
copyout_begins table columns t kind n start length until e l u same = simp (e, u, l, same)
