-- The registers where they are kept: a law about arrays of known lengths is one about their numbers.
use Rattle.std.proofs.Common.{◌∷◌, ◌-◌, ◌<◌, ◌≤◌, ◌≡◌, ◌⊎◌}
use Rattle.rules.specs.Types.{Bool, true, false, not, cond, List, [], ℕ, zero, suc, refl, sym, ap, ◌∙◌, subst, inl, inr, ⊎_elim, State, Registers, Jobs, None, Some}
use native.Mathlib.Omega.{arith}
use mathlib.Core.Bool.{true≢false}
use borrow.Author.Tests.{eqb-true, eqb-false, ne_eqb, lt-ltb, le-ltb}
use lib.Dec.{eqb}
use lib.ListN.{length, get_or, set}
use lib.Seq.{set-get_or}
use Rattle.sets.specs.Sets.{insert, remove, union, difference, intersection}
use Rattle.table.specs.Table.{copyin_length, copyout_length}
use Rattle.sets.proofs.Laws.{by-test}
use Rattle.rules.specs.With.{later, at_clock}
use Rattle.rules.specs.Order.{highest}
use Rattle.rules.specs.Instant.{is_over, resting, settled, copying_out, processor_at, copyout_at, ended, completed, after_done, without_done, step_a, choose, choose_if, original, stamped, step_c, cancel, step_e, step_g, begin, begin_processor, begin_copyout, work_of, wanted, awaiting_copyout, without_promoted, next_of, closed_with}
use Rattle.rules.specs.Registers.{as_task, as_processor, as_copyout, as_copyin, as_next, as_outgoing, processor_in, copyout_in, copyin_in, interval_in, phase_in, waits, state_in}
use Rattle.rules.specs.Steps.{CopyInAt, GivenWay, next_in, outgoing_in, ProcessorSet, NextSet, CopiesOut, CopyInSet, ProcessorTo}
use Rattle.rules.specs.Kept.{Kept, kept, Whole, ByTask, Beside, beside, registers_in, memory_in, read, Becomes, copyout_ends}
use Rattle.rules.proofs.Parts.{copyout_stays, none_completed, is_completed, job_completed, not_yet_completed, nothing_completed, not_copying_out, copyout_begins}
use Rattle.rules.proofs.Fields.{none_ends, copies, ends_settled, not_ended, ended_with, begun_with, closed_by, given_with, taken_with, with_sets}
use Rattle.rules.proofs.Releases.{same_memory}

-- for all lists of n numbers, number by number
unfoldable pub Long : ℕ → (List ℕ → Type 0) → Type 0
Long zero P = P []
Long (suc n) P = (a : ℕ) → Long n (λ l. P (a ∷ l))

pub by_length : (n : ℕ) (P : List ℕ → Type 0) → Long n P → (l : List ℕ) → length l ≡ n → P l
unfolding Long
by_length zero P f [] e = f
by_length zero P f (x ∷ xs) e = absurd (omega (arith, e))
by_length (suc n) P f [] e = absurd (omega (arith, e))
by_length (suc n) P f (x ∷ xs) e = by_length n (λ l. P (x ∷ l)) (f x) xs (omega (arith, e))

-- the six numbers that are no registers
pub record Rest : Type 0 where
  pub present : ℕ
  pub waiting : ℕ
  pub spaced : ℕ
  pub before : ℕ
  pub last : ℕ
  pub timed : ℕ

abbrev pub listed : Registers → Rest → Kept
listed r y =
    kept
    (r.begin ∷ r.start ∷ r.until ∷ r.outstart ∷ r.outuntil ∷ r.inuntil ∷ y.last ∷ [])
    (r.marked ∷ r.pending ∷ r.ready ∷ r.candidates ∷ y.present ∷ y.waiting ∷ y.spaced ∷ y.before ∷ [])
    (r.half ∷ r.work ∷ r.processor ∷ r.task ∷ r.copyout ∷ r.outtask ∷ r.copyin ∷ r.intask ∷ y.timed ∷ [])

-- what holds of all registers, as numbers, holds where they are kept
pub by_numbers : (P : Kept → Type 0) → ((r : Registers) (y : Rest) → P (listed r y)) → (k : Kept) → Whole k → P k
unfolding Long
by_numbers P h k w =
    by_length 7 (λ x. P (kept x k.sets k.codes))
    (λ begin start until outstart outuntil inuntil last. by_length 8 (λ y. P (kept (begin ∷ start ∷ until ∷ outstart ∷ outuntil ∷ inuntil ∷ last ∷ []) y k.codes))
    (λ marked pending ready candidates present waiting spaced before. by_length 9 (λ z. P (kept (begin ∷ start ∷ until ∷ outstart ∷ outuntil ∷ inuntil ∷ last ∷ []) (marked ∷ pending ∷ ready ∷ candidates ∷ present ∷ waiting ∷ spaced ∷ before ∷ []) z))
    (λ half work processor task copyout outtask copyin intask timed. h
    (record {
      marked = marked;
      pending = pending;
      ready = ready;
      candidates = candidates;
      begin = begin;
      start = start;
      until = until;
      outstart = outstart;
      outuntil = outuntil;
      inuntil = inuntil;
      half = half;
      work = work;
      processor = processor;
      task = task;
      copyout = copyout;
      outtask = outtask;
      copyin = copyin;
      intask = intask;
    })
    (record { present = present; waiting = waiting; spaced = spaced; before = before; last = last; timed = timed }))
    k.codes w.codes_whole) k.sets w.sets_whole) k.times w.times_whole

-- the change that is proved is the one that is asked for
pub as_well : {f g : State → State} {k k' : Kept} {b b' : Beside} → Becomes f k b k' b' → f (read k b) ≡ g (read k b) → Becomes g k b k' b'
as_well x e = record { whole = x.whole; state = x.state ∙ e }

-- ---- the instant's time

pub timed_at : (b : Beside) (t : ℕ) (k : Kept) → Whole k → Becomes (λ d. at_clock d t) k b (kept (set k.times 6 t) k.sets (set k.codes 8 1)) b
unfolding state_in
timed_at b t = by_numbers _ (λ r y. record { whole = record { times_whole = refl; sets_whole = refl; codes_whole = refl }; state = refl })

-- ---- b and f

closed_at : (b : Beside) (p out ready work n : ℕ) (k : Kept) → Whole k
    → as_outgoing out (get_or k.codes 3 0) (get_or k.times 1 0) ≡ awaiting_copyout (processor_in (registers_in k))
    → ready ≡ without_promoted (get_or k.sets 2 0) (as_task p)
    → as_next work n ≡ next_of (as_copyin (get_or (set (set k.codes 4 out) 5 (get_or (set k.codes 4 out) 3 0)) 6 0) (get_or (set (set k.codes 4 out) 5 (get_or (set k.codes 4 out) 3 0)) 7 0) (get_or k.times 5 0)) (as_task p)
    → Becomes (λ d. closed_with d (interval_in (registers_in k)) (as_task p)) k b
    (kept (set k.times 3 (get_or k.times 1 0)) (set k.sets 2 ready) (set (set (set (set (set k.codes 4 out) 5 (get_or (set k.codes 4 out) 3 0)) 1 work) 3 n) 6 6)) b
closed_at b p out ready work n =
    by_numbers _ (λ r y. λ o a x. record {
      whole = record { times_whole = refl; sets_whole = refl; codes_whole = refl };
      state = closed_by (memory_in (listed r y) b) r (as_task p) out ready work n o a x;
    })

pub closed_to : (b : Beside) (p out : ℕ) (k : Kept) {sets' codes' : List ℕ} → Whole k
    → as_outgoing out (get_or k.codes 3 0) (get_or k.times 1 0) ≡ awaiting_copyout (processor_in (registers_in k))
    → NextSet p k.sets (set (set k.codes 4 out) 5 (get_or (set k.codes 4 out) 3 0)) sets' codes'
    → Becomes (λ d. closed_with d (interval_in (registers_in k)) (as_task p)) k b (kept (set k.times 3 (get_or k.times 1 0)) sets' (set codes' 6 6)) b
closed_to b p out k w o s =
    subst (λ z. Becomes (λ d. closed_with d (interval_in (registers_in k)) (as_task p)) k b z b) (simp (s.sets_are, s.codes_are))
    (closed_at b p out s.ready s.work s.task k w o s.ready_is (s.is (get_or k.times 5 0)))

-- ---- e

pub chosen_before : (b : Beside) (t : ℕ) (k : Kept) → Whole k → (get_or k.codes 6 0 ≡ 0 → ⊥) → Becomes (λ d. step_e d t d.phase) k b k b
unfolding choose_if step_e state_in interval_in phase_in
chosen_before b t k w ne =
    let i = get_or k.codes 6 0 in
    let n = ne_eqb i 0 ne in
    record {
      whole = w;
      state = by-test (eqb i 6)
          (λ e. simp e)
          (λ f. by-test (eqb i 1)
          (λ e. simp (f, n, e))
          (λ g. by-test (eqb i 2)
          (λ e. simp (f, n, g, e))
          (λ h. by-test (eqb i 3)
          (λ e. simp (f, n, g, h, e))
          (λ e. simp (f, n, g, h, e)))));
    }

pub chosen_later : (b : Beside) (t : ℕ) (k : Kept) → Whole k → get_or k.codes 6 0 ≡ 0 → get_or k.codes 4 0 ≡ 1 → Becomes (λ d. step_e d t d.phase) k b k b
unfolding choose_if step_e state_in interval_in phase_in
chosen_later b t k w e f = record { whole = w; state = simp (e, f) }

pub chosen_now : (b : Beside) (t n ready until length : ℕ) (k : Kept) → Whole k
    → get_or k.codes 6 0 ≡ 0 → (get_or k.codes 4 0 ≡ 1 → ⊥) → as_task n ≡ highest b.priority (λ j. get_or b.by_task.release j 0) (get_or k.sets 2 0) → n < 32
    → length ≡ copyin_length b.columns n → until ≡ later t length → ready ≡ remove n (get_or k.sets 2 0)
    → Becomes (λ d. step_e d t d.phase) k b (kept (set k.times 5 until) (set k.sets 2 ready) (set (set k.codes 6 2) 7 n)) b
unfolding choose choose_if step_e interval_in phase_in state_in
chosen_now b t n ready until length =
    by_numbers _ (λ r y. λ e ne h l x u z. record {
      whole = record { times_whole = refl; sets_whole = refl; codes_whole = refl };
      state = simp (e, not_copying_out r.copyout r.outtask r.outstart r.outuntil (ne_eqb _ _ ne), ← h, lt-ltb _ _ l, z, u, x);
    })

pub none_chosen : (b : Beside) (t n : ℕ) (k : Kept) → Whole k
    → get_or k.codes 6 0 ≡ 0 → (get_or k.codes 4 0 ≡ 1 → ⊥) → as_task n ≡ highest b.priority (λ j. get_or b.by_task.release j 0) (get_or k.sets 2 0) → 32 ≤ n
    → Becomes (λ d. step_e d t d.phase) k b (kept k.times k.sets (set k.codes 6 1)) b
unfolding choose choose_if step_e interval_in phase_in state_in
none_chosen b t n =
    by_numbers _ (λ r y. λ e ne h l. record {
      whole = record { times_whole = refl; sets_whole = refl; codes_whole = refl };
      state = simp (e, not_copying_out r.copyout r.outtask r.outstart r.outuntil (ne_eqb _ _ ne), ← h, le-ltb _ _ l);
    })

-- one step after the other
pub both : {f g : State → State} {k k' k'' : Kept} {b b' b'' : Beside} → Becomes f k b k' b' → Becomes g k' b' k'' b'' → Becomes (λ d. g (f d)) k b k'' b''
both {f} {g} x y = record { whole = y.whole; state = y.state ∙ ap g x.state }

-- ---- g

-- an interval has begun, with its copy-out, and the choice is to be made
pub record Opened (b : Beside) (t taken out : ℕ) (k k' : Kept) : Type 0 where
  pub becomes : Becomes (λ d. begin d t taken (next_in k) (outgoing_in k)) k b k' b
  pub unchosen : get_or k'.codes 6 0 ≡ 0
  pub copies : get_or k'.codes 4 0 ≡ out

-- what it begins with: its processor and its work, its copy-out, its half and its candidates
abbrev Begins : Beside → ℕ → ℕ → ℕ → ℕ → ℕ → ℕ → ℕ → ℕ → ℕ → Kept → Kept → Type 0
Begins b t taken kind until works out outuntil half candidates k k' =
    as_processor kind (get_or k.codes 3 0) t until ≡ begin_processor (memory_in k b).table t (next_in k)
    → works ≡ work_of (next_in k)
    → as_copyout out (get_or k.codes 5 0) (get_or k.times 3 0) outuntil ≡ begin_copyout (memory_in k b).table t (outgoing_in k)
    → half ≡ 1 - get_or k.codes 0 0
    → candidates ≡ intersection taken (get_or k.sets 0 0)
    → Opened b t taken out k k'

module _ (b : Beside) (t taken kind until works : ℕ) where
  begun_copying : (outuntil half candidates : ℕ) (k : Kept) → Whole k
      → Begins b t taken kind until works 1 outuntil half candidates k
      (kept (set (set (set (set k.times 0 t) 1 t) 2 until) 4 outuntil) (set k.sets 3 candidates) (set (set (set (set (set k.codes 0 half) 6 0) 1 works) 2 kind) 4 1))
  begun_copying outuntil half candidates =
      by_numbers _ (λ r y. λ p x o h c. record {
        becomes = record {
          whole = record { times_whole = refl; sets_whole = refl; codes_whole = refl };
          state = begun_with (memory_in (listed r y) b) r t taken kind until 1 outuntil half works candidates p o h x c;
        };
        unchosen = refl;
        copies = refl;
      })

  begun_free : (half candidates : ℕ) (k : Kept) → Whole k
      → Begins b t taken kind until works (get_or k.codes 4 0) t half candidates k
      (kept (set (set (set (set k.times 0 t) 1 t) 2 until) 4 t) (set k.sets 3 candidates) (set (set (set (set k.codes 0 half) 6 0) 1 works) 2 kind))
  begun_free half candidates =
      by_numbers _ (λ r y. λ p x o h c. record {
        becomes = record {
          whole = record { times_whole = refl; sets_whole = refl; codes_whole = refl };
          state = begun_with (memory_in (listed r y) b) r t taken kind until r.copyout t half works candidates p o h x c;
        };
        unchosen = refl;
        copies = refl;
      })

pub same_work : (kind work : ℕ) (codes : List ℕ) → work ≡ get_or codes 1 0 → set codes 2 kind ≡ set (set codes 1 work) 2 kind
same_work kind work codes e = ap (λ z. set z 2 kind) (sym (ap (set codes 1) e ∙ set-get_or codes 1 0))

-- what is stored before does not touch the work
pub work_stays : (half : ℕ) (k : Kept) → Whole k → get_or k.codes 1 0 ≡ get_or (set (set k.codes 0 half) 6 0) 1 0
work_stays half = by_numbers _ (λ r y. refl)

-- with its processor set
module _ (b : Beside) (t taken half candidates : ℕ) (k : Kept) (w : Whole k) {times' codes' : List ℕ}
    (s : ProcessorSet (get_or k.codes 1 0) (get_or k.codes 3 0) t b.columns (set (set k.times 0 t) 1 t) (set (set k.codes 0 half) 6 0) times' codes')
    (h : half ≡ 1 - get_or k.codes 0 0) (c : candidates ≡ intersection taken (get_or k.sets 0 0)) where
  pub opened_copying : (outuntil length : ℕ) → (get_or k.codes 4 0 ≡ 0 → ⊥) → length ≡ copyout_length b.columns (get_or k.codes 5 0) → outuntil ≡ later t length
      → Opened b t taken 1 k (kept (set times' 4 outuntil) (set k.sets 3 candidates) (set codes' 4 1))
  opened_copying outuntil length ne l u =
      subst (Opened b t taken 1 k) (simp (s.times_are, s.codes_are))
      (begun_copying b t taken s.kind s.until s.works outuntil half candidates k w (s.is (memory_in k b).table refl) s.works_is
      (copyout_begins (memory_in k b).table b.columns t (get_or k.codes 4 0) (get_or k.codes 5 0) (get_or k.times 3 0) length outuntil (ne_eqb _ _ ne) l u refl) h c)

  pub opened_free : get_or k.codes 4 0 ≡ 0
      → Opened b t taken (get_or k.codes 4 0) k (kept (set times' 4 t) (set k.sets 3 candidates) codes')
  opened_free e =
      subst (Opened b t taken (get_or k.codes 4 0) k) (simp (s.times_are, s.codes_are))
      (begun_free b t taken s.kind s.until s.works half candidates k w (s.is (memory_in k b).table refl) s.works_is (simp e) h c)

pub in_interval : (b : Beside) (t taken : ℕ) (k : Kept) → Whole k → (get_or k.codes 6 0 ≡ 6 → ⊥) → Becomes (λ d. step_g d t taken d.phase) k b k b
unfolding step_g state_in phase_in
in_interval b t taken k w ne = record { whole = w; state = simp (ne_eqb _ _ ne) }

pub not_begun : (b : Beside) (t taken : ℕ) (k : Kept) → Whole k → get_or k.codes 6 0 ≡ 6 → false ≡ wanted (next_in k) (outgoing_in k) (get_or k.sets 2 0)
    → Becomes (λ d. step_g d t taken d.phase) k b k b
unfolding step_g state_in phase_in
not_begun b t taken k w e x = record { whole = w; state = simp (e, ← x) }

pub begun_now : (b : Beside) (t taken : ℕ) (k k' : Kept) → get_or k.codes 6 0 ≡ 6 → true ≡ wanted (next_in k) (outgoing_in k) (get_or k.sets 2 0)
    → Becomes (λ d. let x : State = begin d t taken (next_in k) (outgoing_in k) in step_e x t x.phase) k b k' b
    → Becomes (λ d. step_g d t taken d.phase) k b k' b
unfolding step_g state_in phase_in
begun_now b t taken k k' e x h = as_well h (simp (e, ← x))

-- ---- c and d

-- the copy-in gives way, or it does not
pub given_at : (b : Beside) (ready kind : ℕ) (k : Kept) → Whole k → GivenWay (get_or k.codes 6 0) kind → ready ≡ insert (get_or k.codes 7 0) (get_or k.sets 2 0)
    → Becomes (λ d. cancel d (interval_in (registers_in k)) (get_or k.codes 7 0) (cond (eqb (get_or k.codes 6 0) 3) 3 2) true) k b (kept k.times (set k.sets 2 ready) (set k.codes 6 kind)) b
given_at b ready kind =
    by_numbers _ (λ r y. λ g e. record {
      whole = record { times_whole = refl; sets_whole = refl; codes_whole = refl };
      state = given_with (memory_in (listed r y) b) r ready kind g e;
    })

-- the releases of a set are taken, and those of another wait
pub releases_taken : (priority columns : List ℕ) (o o' : ByTask) (t taken deferred stay waiting before pending ready marked candidates : ℕ) (k : Kept) → Whole k
    → stay ≡ difference (get_or k.sets 5 0) taken → waiting ≡ union stay deferred
    → before ≡ union (get_or (set k.sets 5 waiting) 7 0) taken
    → let noted = set (set k.sets 5 waiting) 7 before in
    pending ≡ union (get_or noted 1 0) taken
    → ready ≡ union (get_or (set noted 1 pending) 2 0) taken
    → marked ≡ intersection taken (get_or (set (set noted 1 pending) 2 ready) 0 0)
    → candidates ≡ union (get_or (set (set noted 1 pending) 2 ready) 3 0) marked
    → o'.release ≡ stamped taken (original (waits (get_or k.sets 5 0) o.waits 0) t) 0 o.release
    → o'.blocked ≡ stamped taken (λ k. 0) 0 o.blocked
    → o'.waits ≡ stamped deferred (λ k. t) 0 o.waits
    → Becomes (λ d. step_c d t taken deferred) k (beside priority columns o)
    (kept k.times (set (set (set noted 1 pending) 2 ready) 3 candidates) k.codes) (beside priority columns o')
releases_taken priority columns o o' t taken deferred stay waiting before pending ready marked candidates =
    by_numbers _ (λ r y. λ ed ew eb ep er em ec x z u. record {
      whole = record { times_whole = refl; sets_whole = refl; codes_whole = refl };
      state = same_memory (memory_in (listed r y) (beside priority columns o))
          (with_sets r pending ready candidates r.copyin)
          x z (ew ∙ ap (λ s. union s deferred) ed) u eb
          ∙ taken_with (memory_in (listed r y) (beside priority columns o)) r t taken deferred pending ready marked candidates ep er em ec;
    })

-- ---- a

ends_by : (a b c : Bool) → cond a false (cond b c false) ≡ true → (a ≡ false) × ((b ≡ true) × (c ≡ true))
ends_by true b c e = absurd (true≢false (sym e))
ends_by false false c e = absurd (true≢false (sym e))
ends_by false true c e = (refl, (refl, e))

-- a copy-out ends: the job that is done, and where none ends, none
pub job_done : {release blocked : ℕ} (k : Kept) (b : Beside) (t : ℕ) → copyout_ends t k.times k.codes ≡ true
    → release ≡ get_or b.by_task.release (get_or k.codes 5 0) 0 → blocked ≡ get_or b.by_task.blocked (get_or k.codes 5 0) 0
    → Some (record { task = get_or k.codes 5 0; release = release; start = get_or k.times 3 0; completion = t; blocked = blocked })
    ≡ (step_a (read k b) t (read k b).phase).done
unfolding state_in
job_done k b t h er eb =
    let r = registers_in k in
    let z = ends_by (eqb r.copyin 6) (eqb r.copyout 1) (eqb r.outuntil t) h in
    is_completed (memory_in k b) r t _ (eqb-false r.copyin 6 z.0)
    (job_completed _ t r.copyout r.outtask r.outstart r.outuntil _ _ (eqb-true r.copyout 1 z.1.0) (eqb-true r.outuntil t z.1.1) er eb)

not_ends_by : (a b c : Bool) → cond a false (cond b c false) ≡ false → (a ≡ true) ⊎ ((a ≡ false) × ((b ≡ false) ⊎ ((b ≡ true) × (c ≡ false))))
not_ends_by true b c e = inl refl
not_ends_by false false c e = inr (refl, inl refl)
not_ends_by false true c e = inr (refl, inr (refl, e))

pub no_job_done : (k : Kept) (b : Beside) (t : ℕ) → copyout_ends t k.times k.codes ≡ false → None ≡ (step_a (read k b) t (read k b).phase).done
unfolding state_in
no_job_done k b t h =
    let r = registers_in k in
    ⊎_elim
    (λ e. none_completed (memory_in k b) r t (eqb-true r.copyin 6 e))
    (λ e. is_completed (memory_in k b) r t None (eqb-false r.copyin 6 e.0)
    (⊎_elim
    (λ f. nothing_completed _ t r.copyout r.outtask r.outstart r.outuntil f)
    (λ f. not_yet_completed _ t r.copyout r.outtask r.outstart r.outuntil (eqb-true r.copyout 1 f.0) (eqb-false r.outuntil t f.1))
    e.1))
    (not_ends_by (eqb r.copyin 6) (eqb r.copyout 1) (eqb r.outuntil t) h)

-- its job is no longer pending
pub copied_at : (b : Beside) (t pending : ℕ) (k : Kept) → Whole k → copyout_ends t k.times k.codes ≡ true → pending ≡ remove (get_or k.codes 5 0) (get_or k.sets 1 0)
    → CopiesOut t k (kept k.times (set k.sets 1 pending) (set k.codes 4 2)) b
unfolding state_in phase_in interval_in step_a without_done ended completed copyout_at
copied_at b t pending =
    by_numbers _ (λ r y. λ h e.
    let z = ends_by (eqb r.copyin 6) (eqb r.copyout 1) (eqb r.outuntil t) h in
    record {
      whole = record { times_whole = refl; sets_whole = refl; codes_whole = refl };
      no_more = simp z.0;
      state = simp (z.0, eqb-true r.copyout 1 z.1.0, z.1.1, e);
    })

-- none ends
module _ (r : Registers) (t : ℕ) (ne : eqb r.copyin 6 ≡ false) (h : cond (eqb r.copyin 6) false (cond (eqb r.copyout 1) (eqb r.outuntil t) false) ≡ false) where
  pending_stays : (j : Jobs) → r.pending ≡ after_done r.pending (completed j t (copyout_in r))
  unfolding completed
  pending_stays j =
      by-test (eqb r.copyout 1)
      (λ k. let z : eqb r.outuntil t ≡ false = simp (ne, k) at h in simp (eqb-true r.copyout 1 k, z))
      (λ k. ap (after_done r.pending) (nothing_completed j t r.copyout r.outtask r.outstart r.outuntil k))

  copyout_goes_on : copyout_in r ≡ copyout_at t (copyout_in r)
  unfolding copyout_at
  copyout_goes_on =
      by-test (eqb r.copyout 1)
      (λ k. let z : eqb r.outuntil t ≡ false = simp (ne, k) at h in simp (eqb-true r.copyout 1 k, z))
      (copyout_stays t r.copyout r.outtask r.outstart r.outuntil)

ended_at : (b : Beside) (t kind start until choice : ℕ) (k : Kept) → Whole k → (get_or k.codes 6 0 ≡ 6 → ⊥) → copyout_ends t k.times k.codes ≡ false
    → CopyInAt (get_or k.codes 6 0) (get_or k.times 5 0) t choice
    → as_processor kind (get_or (set k.codes 6 choice) 3 0) start until
    ≡ processor_at (memory_in k b).table t (as_processor (get_or (set k.codes 6 choice) 2 0) (get_or (set k.codes 6 choice) 3 0) (get_or k.times 1 0) (get_or k.times 2 0))
    → Becomes (λ d. (step_a d t d.phase).state) k b (kept (set (set k.times 1 start) 2 until) k.sets (set (set k.codes 6 choice) 2 kind)) b
unfolding state_in
ended_at b t kind start until choice =
    by_numbers _ (λ r y. λ ne h i p.
    let f = ne_eqb r.copyin 6 ne in
    record {
      whole = record { times_whole = refl; sets_whole = refl; codes_whole = refl };
      state = ended_with (memory_in (listed r y) b) r t r.pending kind r.task start until r.copyout choice ne (pending_stays r t f h _) p (copyout_goes_on r t f h) i;
    })

module _ (priority columns : List ℕ) (o : ByTask) (t : ℕ) (k : Kept) (w : Whole k) (ne : get_or k.codes 6 0 ≡ 6 → ⊥) (h : copyout_ends t k.times k.codes ≡ false) where
  ended_to : {times' codes' : List ℕ} (choice : ℕ) → CopyInAt (get_or k.codes 6 0) (get_or k.times 5 0) t choice
      → ProcessorTo t columns k.times (set k.codes 6 choice) times' codes'
      → Becomes (λ d. (step_a d t d.phase).state) k (beside priority columns o) (kept times' k.sets codes') (beside priority columns o)
  ended_to choice i s =
      let b = beside priority columns o in
      subst (λ z. Becomes (λ d. (step_a d t d.phase).state) k b z b) (simp (s.times_are, s.codes_are))
      (ended_at b t s.kind s.start s.until choice k w ne h i (s.is (memory_in k b).table refl))

  pub others_ended : {codes times' codes' : List ℕ} → CopyInSet t k.times k.codes codes → ProcessorTo t columns k.times codes times' codes'
      → Becomes (λ d. (step_a d t d.phase).state) k (beside priority columns o) (kept times' k.sets codes') (beside priority columns o)
  others_ended {codes} {times'} {codes'} i p = ended_to i.choice i.is (subst (λ z. ProcessorTo t columns k.times z times' codes') i.codes_are p)

pub no_interval_ends : (b : Beside) (t : ℕ) (k : Kept) → Whole k → get_or k.codes 6 0 ≡ 6 → Becomes (λ d. (step_a d t d.phase).state) k b k b
unfolding state_in
no_interval_ends b t k w e = record { whole = w; state = not_ended (memory_in k b) (registers_in k) t e }

pub same_two : (times : List ℕ) → times ≡ set (set times 1 (get_or times 1 0)) 2 (get_or times 2 0)
same_two times = sym (ap (λ z. set z 2 (get_or times 2 0)) (set-get_or times 1 0) ∙ set-get_or times 2 0)

-- ---- The test of b and f

pub unsettled : (r : Registers) → (r.copyin ≡ 6 → ⊥) → settled (copyin_in r) ≡ false → false ≡ is_over (phase_in r)
unfolding phase_in interval_in is_over
unsettled r ne s =
    by-test (resting (processor_in r))
    (λ e. by-test (copying_out (copyout_in r)) (λ f. simp (ne_eqb _ _ ne, s, e, f)) (λ f. simp (ne_eqb _ _ ne, s, e, f)))
    (λ e. simp (ne_eqb _ _ ne, e))

pub ends_free : (r : Registers) → (r.copyin ≡ 6 → ⊥) → settled (copyin_in r) ≡ true → resting (processor_in r) ≡ true → not (eqb r.copyout 1) ≡ is_over (phase_in r)
ends_free r ne s p =
    by-test (eqb r.copyout 1)
    (λ e. ap not e ∙ copies r ne p (eqb-true r.copyout 1 e))
    (λ e. ap not e ∙ ends_settled r true ne p (eqb-false r.copyout 1 e) (sym s))

-- what has not been chosen or is under way is not settled
pub is_settled : (r : Registers) → is_over (phase_in r) ≡ true → (eqb r.copyin 0 ≡ false) × (eqb r.copyin 2 ≡ false)
is_settled r h =
    let not_over : false ≡ is_over (phase_in r) → ⊥ = λ e. true≢false (sym h ∙ sym e) in
    let ne : r.copyin ≡ 6 → ⊥ = λ e. not_over (none_ends r e) in (
      by-test (eqb r.copyin 0) (λ e. absurd (not_over (unsettled r ne (simp e)))) (λ e. e),
      by-test (eqb r.copyin 2) (λ e. absurd (not_over (unsettled r ne (simp (eqb-true r.copyin 2 e))))) (λ e. e),
    )
