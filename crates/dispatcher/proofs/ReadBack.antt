-- What is told into words is read back from them. Assumes nothing.
use Rattle.std.proofs.Common.{◌≡◌, ℕ, ◌%◌, ◌^◌, ◌<◌, ◌≤◌, eqb, List, [], ◌∷◌, length, get_or, set, refl, subst, arith, le-ltb, lt-ltb, eqb-true}
use borrow.Author.Tests.{eqb-false}
use Rattle.sets.proofs.Laws.{by-test}
use Rattle.rules.specs.Instant.{processor_task, copyout_task, copyin_task, copyin_fate, entry_with}
use Rattle.rules.specs.Registers.{as_task, as_processor, as_copyout, as_copyin, processor_in, copyout_in, copyin_in, interval_in as units}
use Rattle.rules.specs.Kept.{kept, registers_in}
use Rattle.rules.proofs.Kept.{Long, by_length}
use Rattle.dispatcher.specs.Types.{Option, JobEntry, None, Some, Closing, Unclosed, BeforeReleases, AfterReleases, Occurred}
use Rattle.dispatcher.specs.Telling.{task_word, job_told, interval_told, told_of, task_in, occurred_in}
use Rattle.dispatcher.specs.Promises.{TaskFits, TaskWord, Readable, DoneFits, ToldInterval}

-- ---- a task's word

pub word_of : {x : ℕ} {t : Option ℕ} (n : ℕ) → Some n ≡ t → x ≡ n → x < 256 → TaskWord t x
word_of {x} n e p l = subst (λ (t : Option ℕ). TaskWord t x) e (record { is = p; fits = omega (arith, p, l) })

pub no_word : {t : Option ℕ} → None ≡ t → TaskWord t 511
no_word e = subst (λ (t : Option ℕ). TaskWord t 511) e (record { is = refl; fits = tt })

-- no task, by what a unit does
pub idles : {kind : ℕ} (n start until : ℕ) → kind ≡ 0 → None ≡ processor_task (as_processor kind n start until)
idles n start until e = simp e

pub no_copyout : {kind : ℕ} (n start until : ℕ) → kind ≡ 0 → None ≡ copyout_task (as_copyout kind n start until)
no_copyout n start until e = simp e

pub no_copyin : (kind n until : ℕ) → kind ≤ 1 → None ≡ copyin_task (as_copyin kind n until)
no_copyin kind n until l =
    by-test (eqb kind 0)
    (λ z. simp (eqb-true kind 0 z))
    (λ z. let o : kind ≡ 1 = omega (arith, l, eqb-false kind 0 z) in simp o)

pub is_task : (n : ℕ) → n < 32 → Some n ≡ as_task n
is_task n l = simp (lt-ltb n 32 l)

pub is_none : (n : ℕ) → 32 ≤ n → None ≡ as_task n
is_none n l = simp (le-ltb n 32 l)

-- an interval's words, of the units' numbers
pub tells : {half task work out chosen fate last : ℕ} (times sets codes : List ℕ) (t p : ℕ) (told : List ℕ)
    → (half ≡ get_or codes 0 0) × (half < 256)
    → TaskWord (processor_task (processor_in (registers_in (kept times sets codes)))) task
    → (work ≡ get_or codes 1 0) × (work < 256)
    → TaskWord (copyout_task (copyout_in (registers_in (kept times sets codes)))) out
    → TaskWord (copyin_task (copyin_in (registers_in (kept times sets codes)))) chosen
    → (fate ≡ copyin_fate (copyin_in (registers_in (kept times sets codes)))) × (fate < 256)
    → TaskWord (as_task p) last
    → ToldInterval (entry_with (get_or codes 0 0) t (units (registers_in (kept times sets codes))) (as_task p)) told
    (set (set (set (set (set (set (set (set (set told 10 (get_or times 0 0)) 11 t) 12 half) 13 task) 14 work) 15 out) 16 chosen) 17 fate) 18 last)
unfolding interval_told entry_with units
tells times sets codes t p told h a w o i f q =
    record {
      told_is = rw (h.0, a.is, w.0, o.is, i.is, f.0, q.is);
      readable = record {
        half_fits = subst (λ (x : ℕ). x < 256) h.0 h.1;
        task_fits = a.fits;
        work_fits = subst (λ (x : ℕ). x < 256) w.0 w.1;
        copiedout_fits = o.fits;
        chosen_fits = i.fits;
        fate_fits = subst (λ (x : ℕ). x < 256) f.0 f.1;
        promoted_fits = q.fits;
      };
    }

-- ---- read back

low : (x : ℕ) → x < 256 → x % 256 ≡ x
low x l = omega arith

task_back : (t : Option ℕ) → TaskFits t → task_in (task_word t) ≡ t
task_back None f = refl
task_back (Some n) f = simp (lt-ltb n 256 f)

abbrev pub ClosingReads : Closing → Type 0
ClosingReads Unclosed = Unit {0}
ClosingReads (BeforeReleases e) = Readable e
ClosingReads (AfterReleases e) = Readable e

module _ (s w0 w1 w2 w3 w4 w5 w6 w7 w8 w9 w10 w11 w12 w13 w14 w15 w16 w17 w18 : ℕ) (l : s < 2 ^ 32) where
  abbrev told : List ℕ
  told = w0 ∷ w1 ∷ w2 ∷ w3 ∷ w4 ∷ w5 ∷ w6 ∷ w7 ∷ w8 ∷ w9 ∷ w10 ∷ w11 ∷ w12 ∷ w13 ∷ w14 ∷ w15 ∷ w16 ∷ w17 ∷ w18 ∷ []

  small : s % 2 ^ 32 ≡ s
  small = omega (arith, l)

  back_in : (done : Option JobEntry) (closed : Closing) (next : Option ℕ) → DoneFits done → ClosingReads closed
      → occurred_in (told_of (record { done = done; closed = closed; skipped = s; due = next }) told)
      ≡ record { done = done; closed = closed; skipped = s; due = next }
  unfolding occurred_in told_of job_told interval_told
  back_in None Unclosed None f r = simp small
  back_in None Unclosed (Some t) f r = simp small
  back_in None (BeforeReleases i) None f r =
      simp (small, low i.half r.half_fits, low i.work r.work_fits, low i.fate r.fate_fits, task_back i.task r.task_fits, task_back i.copiedout r.copiedout_fits, task_back i.chosen r.chosen_fits, task_back i.promoted r.promoted_fits)
  back_in None (BeforeReleases i) (Some t) f r =
      simp (small, low i.half r.half_fits, low i.work r.work_fits, low i.fate r.fate_fits, task_back i.task r.task_fits, task_back i.copiedout r.copiedout_fits, task_back i.chosen r.chosen_fits, task_back i.promoted r.promoted_fits)
  back_in None (AfterReleases i) None f r =
      simp (small, low i.half r.half_fits, low i.work r.work_fits, low i.fate r.fate_fits, task_back i.task r.task_fits, task_back i.copiedout r.copiedout_fits, task_back i.chosen r.chosen_fits, task_back i.promoted r.promoted_fits)
  back_in None (AfterReleases i) (Some t) f r =
      simp (small, low i.half r.half_fits, low i.work r.work_fits, low i.fate r.fate_fits, task_back i.task r.task_fits, task_back i.copiedout r.copiedout_fits, task_back i.chosen r.chosen_fits, task_back i.promoted r.promoted_fits)
  back_in (Some e) Unclosed None f r = simp (small, low e.task f.0, low e.blocked f.1)
  back_in (Some e) Unclosed (Some t) f r = simp (small, low e.task f.0, low e.blocked f.1)
  back_in (Some e) (BeforeReleases i) None f r =
      let task = low e.task f.0 in let blocked = low e.blocked f.1 in
      simp (small, task, blocked, low i.half r.half_fits, low i.work r.work_fits, low i.fate r.fate_fits, task_back i.task r.task_fits, task_back i.copiedout r.copiedout_fits, task_back i.chosen r.chosen_fits, task_back i.promoted r.promoted_fits)
  back_in (Some e) (BeforeReleases i) (Some t) f r =
      let task = low e.task f.0 in let blocked = low e.blocked f.1 in
      simp (small, task, blocked, low i.half r.half_fits, low i.work r.work_fits, low i.fate r.fate_fits, task_back i.task r.task_fits, task_back i.copiedout r.copiedout_fits, task_back i.chosen r.chosen_fits, task_back i.promoted r.promoted_fits)
  back_in (Some e) (AfterReleases i) None f r =
      let task = low e.task f.0 in let blocked = low e.blocked f.1 in
      simp (small, task, blocked, low i.half r.half_fits, low i.work r.work_fits, low i.fate r.fate_fits, task_back i.task r.task_fits, task_back i.copiedout r.copiedout_fits, task_back i.chosen r.chosen_fits, task_back i.promoted r.promoted_fits)
  back_in (Some e) (AfterReleases i) (Some t) f r =
      let task = low e.task f.0 in let blocked = low e.blocked f.1 in
      simp (small, task, blocked, low i.half r.half_fits, low i.work r.work_fits, low i.fate r.fate_fits, task_back i.task r.task_fits, task_back i.copiedout r.copiedout_fits, task_back i.chosen r.chosen_fits, task_back i.promoted r.promoted_fits)

pub back : (o : Occurred) (told : List ℕ) → length told ≡ 19 → DoneFits o.done → ClosingReads o.closed → o.skipped < 2 ^ 32
    → occurred_in (told_of o told) ≡ o
unfolding Long
back o told n f r l =
    by_length 19 (λ (z : List ℕ). occurred_in (told_of o z) ≡ o)
    (λ w0 w1 w2 w3 w4 w5 w6 w7 w8 w9 w10 w11 w12 w13 w14 w15 w16 w17 w18.
    back_in o.skipped w0 w1 w2 w3 w4 w5 w6 w7 w8 w9 w10 w11 w12 w13 w14 w15 w16 w17 w18 l o.done o.closed o.due f r)
    told n
