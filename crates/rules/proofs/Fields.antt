-- The registers with some of them others, read back.
use Rattle.std.proofs.Common.{◌-◌, ◌≡◌}
use Rattle.rules.specs.Types.{Bool, true, false, cond, ℕ, WaitingReleases, refl, ◌∙◌, Option, Processor, CopyOut, CopyIn, Cancelled, Within, Registers}
use borrow.Author.Tests.{eq-eqb, ne_eqb}
use lib.Dec.{eqb}
use Rattle.sets.specs.Sets.{union, intersection, difference, insert}
use Rattle.sets.proofs.Laws.{by-test}
use Rattle.rules.specs.Instant.{processor_at, copyout_at, copyin_at, ended, completed, after_done, without_done, step_a, resting, settled, processor_task, copyout_task, copyin_task, copyin_fate, without_promoted, next_of, awaiting_copyout, original, stamped, with_candidates, step_c, cancel, work_of, begin_processor, begin_copyout, begin, is_over, closed_with, entry_with}
use Rattle.rules.specs.Registers.{Arrays, arrays, waits, as_task, as_processor, as_copyout, as_next, as_outgoing, processor_in, copyout_in, copyin_in, interval_in, phase_in, Memory, state_with, state_in}
use Rattle.rules.specs.Steps.{CopyInAt, GivenWay}
use Rattle.rules.proofs.Parts.{not_copying_out}

-- ---- what the releases leave beside the numbers

-- with other arrays and waiting releases
abbrev pub with_kept : Memory → Arrays → WaitingReleases → Memory
with_kept m a w = record { table = m.table; clock = m.clock; arrays = a; waiting = w }

-- the arrays after the releases of a set at a time are taken
abbrev pub taken_arrays : ℕ → ℕ → WaitingReleases → Arrays → Arrays
taken_arrays taken t w a = arrays (stamped taken (original w t) 0 a.release) (stamped taken (λ k. 0) 0 a.blocked)

-- and the waiting releases after that, with those of another set that wait from now on
abbrev pub waits_after : ℕ → ℕ → ℕ → WaitingReleases → WaitingReleases
waits_after taken deferred t w = waits (union (difference w.tasks taken) deferred) (stamped deferred (λ k. t) 0 w.times) (union w.before taken)

abbrev pub taken_memory : ℕ → ℕ → ℕ → Memory → Memory
taken_memory taken deferred t m = with_kept m (taken_arrays taken t m.waiting m.arrays) (waits_after taken deferred t m.waiting)

-- an open interval, by its units
pub opened_with : (m : Memory) (r : Registers) (p : Processor) (o : CopyOut) (i : CopyIn)
    → eqb r.copyin 6 ≡ false → processor_in r ≡ p → copyout_in r ≡ o → copyin_in r ≡ i
    → state_in m r ≡ state_with m r (Within (record { begin = r.begin; work = r.work; processor = p; copyout = o; copyin = i; candidates = r.candidates }))
unfolding state_in phase_in interval_in
opened_with m r p o i e ep eo ei = simp (e, ep, eo, ei)

-- ---- a

pub not_ended : (m : Memory) (r : Registers) (t : ℕ) → r.copyin ≡ 6 → state_in m r ≡ (step_a (state_in m r) t (phase_in r)).state
unfolding phase_in step_a
not_ended m r t e = simp (eq-eqb _ _ e)

abbrev at_end : Registers → ℕ → ℕ → ℕ → ℕ → ℕ → ℕ → ℕ → Registers
at_end r pending kind n start until out choice = record {
  marked = r.marked;
  pending = pending;
  ready = r.ready;
  candidates = r.candidates;
  begin = r.begin;
  start = start;
  until = until;
  outstart = r.outstart;
  outuntil = r.outuntil;
  inuntil = r.inuntil;
  half = r.half;
  work = r.work;
  processor = kind;
  task = n;
  copyout = out;
  outtask = r.outtask;
  copyin = choice;
  intask = r.intask;
}

pub ended_with : (m : Memory) (r : Registers) (t pending kind n start until out choice : ℕ)
    → (r.copyin ≡ 6 → ⊥)
    → pending ≡ after_done r.pending (completed (record { pending = r.pending; ready = r.ready; release = m.arrays.release; blocked = m.arrays.blocked }) t (copyout_in r))
    → as_processor kind n start until ≡ processor_at m.table t (processor_in r)
    → as_copyout out r.outtask r.outstart r.outuntil ≡ copyout_at t (copyout_in r)
    → CopyInAt r.copyin r.inuntil t choice
    → state_in m (at_end r pending kind n start until out choice) ≡ (step_a (state_in m r) t (phase_in r)).state
unfolding state_in phase_in interval_in step_a without_done ended
ended_with m r t pending kind n start until out choice ne ej ep eo ei =
    opened_with m (at_end r pending kind n start until out choice)
    (processor_at m.table t (processor_in r)) (copyout_at t (copyout_in r)) (copyin_at t (copyin_in r))
    (ei.stays ∙ ne_eqb _ _ ne) ep eo (ei.is r.intask)
    ∙ simp (ne_eqb _ _ ne, ej)

-- ---- b

pub none_ends : (r : Registers) → r.copyin ≡ 6 → false ≡ is_over (phase_in r)
unfolding phase_in is_over
none_ends r e = simp (eq-eqb _ _ e)

pub works : (r : Registers) → (r.copyin ≡ 6 → ⊥) → resting (processor_in r) ≡ false → false ≡ is_over (phase_in r)
unfolding phase_in interval_in is_over
works r ne p = simp (ne_eqb _ _ ne, p)

pub copies : (r : Registers) → (r.copyin ≡ 6 → ⊥) → resting (processor_in r) ≡ true → r.copyout ≡ 1 → false ≡ is_over (phase_in r)
unfolding phase_in interval_in is_over
copies r ne p o = simp (ne_eqb _ _ ne, p, o)

pub ends_settled : (r : Registers) (x : Bool) → (r.copyin ≡ 6 → ⊥) → resting (processor_in r) ≡ true → (r.copyout ≡ 1 → ⊥) → x ≡ settled (copyin_in r) → x ≡ is_over (phase_in r)
unfolding phase_in interval_in is_over
ends_settled r x ne p o s =
    simp (ne_eqb _ _ ne, p, not_copying_out r.copyout r.outtask r.outstart r.outuntil (ne_eqb _ _ o), s)

pub entry_by : (r : Registers) (t p fate : ℕ) (task copiedout chosen promoted : Option ℕ)
    → task ≡ processor_task (processor_in r) → copiedout ≡ copyout_task (copyout_in r) → chosen ≡ copyin_task (copyin_in r) → fate ≡ copyin_fate (copyin_in r) → promoted ≡ as_task p
    → record { begin = r.begin; end = t; half = r.half; task = task; work = r.work; copiedout = copiedout; chosen = chosen; fate = fate; promoted = promoted }
    ≡ entry_with r.half t (interval_in r) (as_task p)
unfolding interval_in entry_with
entry_by r t p fate task copiedout chosen promoted a b c d e = simp (a, b, c, d, e)

pub closed_by : (m : Memory) (r : Registers) (p : Option ℕ) (out ready work n : ℕ)
    → as_outgoing out r.task r.start ≡ awaiting_copyout (processor_in r) → ready ≡ without_promoted r.ready p → as_next work n ≡ next_of (copyin_in r) p
    → state_in m (record {
      marked = r.marked;
      pending = r.pending;
      ready = ready;
      candidates = r.candidates;
      begin = r.begin;
      start = r.start;
      until = r.until;
      outstart = r.start;
      outuntil = r.outuntil;
      inuntil = r.inuntil;
      half = r.half;
      work = work;
      processor = r.processor;
      task = n;
      copyout = out;
      outtask = r.task;
      copyin = 6;
      intask = r.intask;
    })
    ≡ closed_with (state_in m r) (interval_in r) p
unfolding state_in phase_in interval_in closed_with
closed_by m r p out ready work n o a b = simp (a, b, o)

-- ---- c

-- other sets, and another kind of copy-in
abbrev pub with_sets : Registers → ℕ → ℕ → ℕ → ℕ → Registers
with_sets r pending ready candidates kind = record {
  marked = r.marked;
  pending = pending;
  ready = ready;
  candidates = candidates;
  begin = r.begin;
  start = r.start;
  until = r.until;
  outstart = r.outstart;
  outuntil = r.outuntil;
  inuntil = r.inuntil;
  half = r.half;
  work = r.work;
  processor = r.processor;
  task = r.task;
  copyout = r.copyout;
  outtask = r.outtask;
  copyin = kind;
  intask = r.intask;
}

pub taken_with : (m : Memory) (r : Registers) (t taken deferred pending ready marked candidates : ℕ)
    → pending ≡ union r.pending taken → ready ≡ union r.ready taken → marked ≡ intersection taken r.marked → candidates ≡ union r.candidates marked
    → state_in (taken_memory taken deferred t m) (with_sets r pending ready candidates r.copyin) ≡ step_c (state_in m r) t taken deferred
unfolding state_in phase_in interval_in step_c with_candidates
taken_with m r t taken deferred pending ready marked candidates a b k c =
    by-test (eqb r.copyin 6) (λ e. simp (e, a, b)) (λ e. simp (e, a, b, c, k))

-- ---- d

abbrev with_given : Registers → ℕ → ℕ → Registers
with_given r ready kind = with_sets r r.pending ready r.candidates kind

-- the copy-in gives way
pub given_with : (m : Memory) (r : Registers) (ready kind : ℕ) → GivenWay r.copyin kind → ready ≡ insert r.intask r.ready
    → state_in m (with_given r ready kind) ≡ cancel (state_in m r) (interval_in r) r.intask (cond (eqb r.copyin 3) 3 2) true
unfolding cancel interval_in state_in
given_with m r ready kind g e =
    opened_with m (with_given r ready kind) (processor_in r) (copyout_in r) (Cancelled r.intask (cond (eqb r.copyin 3) 3 2))
    g.stays refl refl (g.is r.intask r.inuntil)
    ∙ simp e

-- ---- g

pub begun_with : (m : Memory) (r : Registers) (t taken kind until out outuntil half work candidates : ℕ)
    → as_processor kind r.task t until ≡ begin_processor m.table t (as_next r.work r.task)
    → as_copyout out r.outtask r.outstart outuntil ≡ begin_copyout m.table t (as_outgoing r.copyout r.outtask r.outstart)
    → half ≡ 1 - r.half
    → work ≡ work_of (as_next r.work r.task)
    → candidates ≡ intersection taken r.marked
    → state_in m (record {
      marked = r.marked;
      pending = r.pending;
      ready = r.ready;
      candidates = candidates;
      begin = t;
      start = t;
      until = until;
      outstart = r.outstart;
      outuntil = outuntil;
      inuntil = r.inuntil;
      half = half;
      work = work;
      processor = kind;
      task = r.task;
      copyout = out;
      outtask = r.outtask;
      copyin = 0;
      intask = r.intask;
    })
    ≡ begin (state_in m r) t taken (as_next r.work r.task) (as_outgoing r.copyout r.outtask r.outstart)
unfolding state_in phase_in interval_in begin
begun_with m r t taken kind until out outuntil half work candidates p o h x c = simp (p, o, h, x, c)
