-- A run's samples can be read back, and tell its values at every tick. Assumes nothing.
use mathlib.Core.Path.{◌≡◌, refl, ◌∙◌, subst}
use mathlib.Core.Bool.{true, false≢true}
use mathlib.Core.List.{List, [], ◌∷◌}
use Prim.Native.Nat.{ℕ, ◌^◌, ◌≤◌, ◌<◌}
use native.Mathlib.Omega.{arith}
use borrow.Author.Tests.{eq-eqb, eqb-true, eqb-false, le-leb}
use lib.Dec.{eqb, leb}
use Rattle.sets.specs.Sets.{member}
use Rattle.sets.proofs.Laws.{by-test, member_task}
use Rattle.entries.specs.Entries.{task_byte}
use Rattle.table.specs.declared.Table.{Table}
use Rattle.table.specs.Head.{head_read, head_of}
use Rattle.rules.specs.Types.{Processor, Idle, CopyingIn, Executing, Finished, CopyOut, NoCopyOut, CopyingOut, CopiedOut, CopyIn, Unchosen, NoneChosen, Copying, Loaded, Cancelled, Phase, Between, Within}
use Rattle.rules.specs.View.{Values, on_processor, copied_in, copied_out, values_in, values}
use Rattle.rules.specs.Instant.{at_g}
use Rattle.rules.specs.Calls.{opened, refusal, after_call}
use Rattle.guarantees.specs.Types.{State, Clock, Unset, At, Call, Instant, Mark, Marks}
use Rattle.guarantees.specs.States.{processor_known, copyin_known, copyout_known, phase_known}
use Rattle.guarantees.proofs.Proper.{Fair}
use Rattle.guarantees.proofs.Frames.{clock_g}
use Rattle.guarantees.proofs.Walk.{served}
use Rattle.guarantees.proofs.Served.{strictly_onward, served_at}
use Rattle.guarantees.proofs.Invariant.{Good, good_opened, good_next}
use Rattle.run.specs.Files.{Releases, releases_of}
use Rattle.run.specs.Run.{Moment, moments_of}
use Rattle.record.specs.FileClaim.{answers, AllServed}
use Rattle.record.proofs.Accepted.{Accepted, accepted}
use Rattle.record.proofs.TasksAlone.{fair}
use Rattle.record.proofs.FileClaim.{fed_file}
use Rattle.waves.specs.Types.{Release, Head, Shown}
use Rattle.waves.specs.Dump.{Sample}
use Rattle.waves.specs.Samples.{shown_of, seen, samples, from_zero, samples_of, values_from, values_at}
use Rattle.waves.specs.Readable.{Fits, Later, Readable, shown_at, SamplesTell}
use Rattle.waves.proofs.Seeing.{small_half}

-- ---- values fit their wires

module _ (present : ℕ) (few : present < 2 ^ 32) where
  small : (n : ℕ) → member n present ≡ true → n < 256
  small n h = omega (arith, member_task n present few h)

  processor_small : (p : Processor) → processor_known present p → task_byte (on_processor p) < 256
  processor_small Idle h = omega arith
  processor_small (CopyingIn n until) h = small n h
  processor_small (Executing n start until) h = small n h
  processor_small (Finished n start) h = omega arith

  copyin_small : (c : CopyIn) → copyin_known present c → task_byte (copied_in c) < 256
  copyin_small Unchosen h = omega arith
  copyin_small NoneChosen h = omega arith
  copyin_small (Copying n until) h = small n h
  copyin_small (Loaded n) h = omega arith
  copyin_small (Cancelled n fate) h = omega arith

  copyout_small : (c : CopyOut) → copyout_known present c → task_byte (copied_out c) < 256
  copyout_small NoCopyOut h = omega arith
  copyout_small (CopyingOut n start until) h = small n h
  copyout_small (CopiedOut n) h = omega arith

  phase_fits : (p : Phase) (half : ℕ) → phase_known present p → (shown_of (values_in p half)).half ≤ 1 → Fits (shown_of (values_in p half))
  phase_fits (Between next outgoing) half h l = record { processor_fits = omega arith; copyin_fits = omega arith; copyout_fits = omega arith; half_fits = l }
  phase_fits (Within i) half h l = record {
    processor_fits = processor_small i.processor h.1;
    copyin_fits = copyin_small i.copyin h.0;
    copyout_fits = copyout_small i.copyout h.2;
    half_fits = l;
  }

-- ---- times rise

abbrev After : Clock → List Sample → Type 0
After Unset [] = Unit {0}
After Unset (s ∷ ss) = Fits s.shown × Later s.time ss
After (At u) ss = Later u ss

none_after : (c : Clock) → After c []
unfolding Later
none_after Unset = tt
none_after (At u) = tt

one_after : (c : Clock) (s : Sample) (ss : List Sample) → ((u : ℕ) → c ≡ At u → u < s.time) → Fits s.shown → Later s.time ss → After c (s ∷ ss)
unfolding Later
one_after Unset s ss h f l = (f, l)
one_after (At u) s ss h f l = (h u refl, f, l)

module _ (table : Table) (marks : ℕ) (fair : Fair table marks) where
  seen_fits : (d : State) → Good table marks fair d → Fits (seen d)
  seen_fits d g = phase_fits table.present fair.present d.phase d.half g.parted.known (small_half d)

  answers_rise : (cs : List Call) (d : State) → Good table marks fair d → AllServed d cs → After d.clock (samples (answers d cs))
  unfolding AllServed answers samples
  answers_rise [] d g a = none_after d.clock
  answers_rise (Mark n m ∷ cs) d g a = absurd (false≢true a.0)
  answers_rise (Marks set m ∷ cs) d g a = absurd (false≢true a.0)
  answers_rise (Instant t set ∷ cs) d g a =
      let e : eqb (refusal d t set) 0 ≡ true = eq-eqb (refusal d t set) 0 a.1 in
      let next : State = at_g d t set in
      let same : after_call d (Instant t set) ≡ next = served d t set e in
      let good : Good table marks fair next = good_next table marks fair d t set g (served_at d t set e) in
      let rest : After next.clock (samples (answers next cs)) = answers_rise cs next good (subst (λ (x : State). AllServed x cs) same a.2) in
      let later : Later t (samples (answers next cs)) = subst (λ (c : Clock). After c (samples (answers next cs))) (clock_g d t set) rest in
      rw (e, same)
      (one_after d.clock (record { time = t; shown = seen next }) (samples (answers next cs)) (λ u h. strictly_onward d t set u e h) (seen_fits next good) later)

-- ---- a file's samples

begins_at_0 : (v : Shown) (ss : List Sample) → Fits v → After Unset ss → Readable (from_zero v ss)
unfolding Later
begins_at_0 v [] f h = (refl, f, tt)
begins_at_0 v (s ∷ ss) f h =
    by-test (eqb s.time 0)
    (λ e. rw e (eqb-true s.time 0 e, h.0, subst (λ (t : ℕ). Later t ss) (eqb-true s.time 0 e) h.1))
    (λ e. rw e (refl, f, (some s.time (eqb-false s.time 0 e), h.0, h.1)))
  where
    some : (n : ℕ) → (n ≡ 0 → ⊥) → 0 < n
    some n h = omega arith

file_readable : (s : List ℕ) (rs : List Release) → releases_of s ≡ Releases rs → Readable (samples_of s rs)
unfolding samples_of
file_readable s rs h =
    let a : Accepted s rs = accepted s rs h in
    let table : Table = (head_read (head_of s)).table in
    let marks : ℕ = (head_read (head_of s)).marked in
    let good : Good table marks (fair s rs a) (opened table marks) = good_opened table marks (fair s rs a) in
    let f = fed_file s rs h in
    begins_at_0 (seen (opened table marks)) (samples (moments_of s rs)) (seen_fits table marks (fair s rs a) (opened table marks) good)
    (subst (λ (ms : List Moment). After Unset (samples ms)) f.gives
    (unfold opened in answers_rise table marks (fair s rs a) f.calls (opened table marks) good f.all_served))

-- ---- and what they tell

told : (v : Values) (ms : List Moment) (t : ℕ) → shown_at (shown_of v) (samples ms) t ≡ shown_of (values_from v ms t)
unfolding shown_at samples values_from
told v [] t = refl
told v (m ∷ ms) t = by-test (leb m.time t) (λ e. rw e (told (values m.state) ms t)) (λ e. rw e)

from_0 : (v : Shown) (first : Shown) (ss : List Sample) (t : ℕ) → shown_at v (from_zero first ss) t ≡ shown_at first ss t
unfolding shown_at
from_0 v first [] t = rw (le-leb 0 t (omega arith))
from_0 v first (s ∷ ss) t =
    by-test (eqb s.time 0)
    (λ e. let z : leb s.time t ≡ true = le-leb s.time t (omega (arith, eqb-true s.time 0 e)) in rw (e, z))
    (λ e. rw (e, le-leb 0 t (omega arith)))

pub samples_tell : SamplesTell
unfolding samples_of values_at
samples_tell = record {
  readable = file_readable;
  tell = λ s rs v t.
      let k : Head = head_read (head_of s) in
      from_0 v (seen (opened k.table k.marked)) (samples (moments_of s rs)) t ∙ told (values (opened k.table k.marked)) (moments_of s rs) t;
}
