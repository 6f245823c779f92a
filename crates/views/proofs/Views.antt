-- What goes on now, over the numbers. Assumes nothing.
use Rattle.std.proofs.Common.{◌≡◌}
use mathlib.Core.Path.{ap₂}
use Rattle.rules.specs.Types.{Bool, true, false, cond, List, ℕ, refl, ap, ◌∙◌, Registers}
use borrow.Author.Tests.{eqb-true, eq-eqb, ne_eqb}
use lib.Dec.{eqb}
use lib.ListN.{get_or, set}
use Rattle.sets.proofs.Laws.{by-test}
use Rattle.entries.specs.Entries.{task_byte}
use Rattle.rules.specs.Registers.{as_processor, as_copyout, as_copyin, interval_in, phase_in, state_in}
use Rattle.rules.specs.View.{on_processor, copied_in, copied_out, shown_half, processor_until, copyin_until, copyout_until, viewed}
use Rattle.rules.specs.Kept.{Kept, Beside, registers_in, read}
use Rattle.views.specs.Showing.{ticks_of, units_of, stored_if}

-- ---- by the kind of each unit

module _ (kind n start until : ℕ) where
  out_byte : task_byte (copied_out (as_copyout kind n start until)) ≡ cond (eqb kind 1) n 255
  out_byte = by-test (eqb kind 1) (λ e. simp (eqb-true kind 1 e)) (λ e. by-test (eqb kind 0) (λ f. simp (f, e)) (λ f. simp (f, e)))

  out_until : copyout_until (as_copyout kind n start until) ≡ cond (eqb kind 1) until 0
  out_until = by-test (eqb kind 1) (λ e. simp (eqb-true kind 1 e)) (λ e. by-test (eqb kind 0) (λ f. simp (f, e)) (λ f. simp (f, e)))

module _ (kind n until : ℕ) where
  not_copying : eqb kind 2 ≡ false → (task_byte (copied_in (as_copyin kind n until)) ≡ 255) × (copyin_until (as_copyin kind n until) ≡ 0)
  not_copying e =
      by-test (eqb kind 0)
      (λ f. (simp f, simp f))
      (λ f. by-test (eqb kind 1)
      (λ g. (simp (f, g), simp (f, g)))
      (λ g. by-test (eqb kind 3) (λ h. (simp (f, g, e, h), simp (f, g, e, h))) (λ h. (simp (f, g, e, h), simp (f, g, e, h)))))

  in_byte : task_byte (copied_in (as_copyin kind n until)) ≡ cond (eqb kind 2) n 255
  in_byte = by-test (eqb kind 2) (λ e. simp (eqb-true kind 2 e)) (λ e. (not_copying e).0 ∙ simp e)

  in_until : copyin_until (as_copyin kind n until) ≡ cond (eqb kind 2) until 0
  in_until = by-test (eqb kind 2) (λ e. simp (eqb-true kind 2 e)) (λ e. (not_copying e).1 ∙ simp e)

-- ---- the whole

module _ (k : Kept) (b : Beside) where
  abbrev r : Registers
  r = registers_in k

  pub none_goes_on : {half : ℕ} → r.copyin ≡ 6 → half ≡ shown_half r.half
      → record { begin = 0; until = 0; inuntil = 0; outuntil = 0; pending = r.pending; waiting = get_or k.sets 5 0; marked = r.marked; opened = 0; work = 0; processor = 255; copyin = 255; copyout = 255; half = half }
      ≡ viewed (read k b)
  unfolding viewed state_in phase_in
  none_goes_on e h = simp (eq-eqb _ _ e, h)

  pub one_goes_on : (works : Bool) {until inuntil outuntil processor copyin copyout half : ℕ} → (r.copyin ≡ 6 → ⊥)
      → until ≡ cond works r.until 0 → processor ≡ cond works r.task 255
      → (task_byte (on_processor (as_processor r.processor r.task r.start r.until)) ≡ cond works r.task 255)
      × (processor_until (as_processor r.processor r.task r.start r.until) ≡ cond works r.until 0)
      → inuntil ≡ cond (eqb r.copyin 2) r.inuntil 0 → copyin ≡ cond (eqb r.copyin 2) r.intask 255
      → outuntil ≡ cond (eqb r.copyout 1) r.outuntil 0 → copyout ≡ cond (eqb r.copyout 1) r.outtask 255
      → half ≡ shown_half r.half
      → record { begin = r.begin; until = until; inuntil = inuntil; outuntil = outuntil; pending = r.pending; waiting = get_or k.sets 5 0; marked = r.marked; opened = 1; work = r.work; processor = processor; copyin = copyin; copyout = copyout; half = half }
      ≡ viewed (read k b)
  unfolding viewed state_in phase_in interval_in
  one_goes_on works ne u p w iu i ou o h =
      rw (
        ne_eqb _ _ ne,
        u,
        p,
        iu,
        i,
        ou,
        o,
        h,
        w.0,
        w.1,
        in_byte r.copyin r.intask r.inuntil,
        in_until r.copyin r.intask r.inuntil,
        out_byte r.copyout r.outtask r.outstart r.outuntil,
        out_until r.copyout r.outtask r.outstart r.outuntil,
      )

  -- what is read from the arrays of one who looks, and the sets, is all of it
  all_fields : record {
    begin = (viewed (read k b)).begin;
    until = (viewed (read k b)).until;
    inuntil = (viewed (read k b)).inuntil;
    outuntil = (viewed (read k b)).outuntil;
    pending = r.pending;
    waiting = get_or k.sets 5 0;
    marked = r.marked;
    opened = (viewed (read k b)).opened;
    work = (viewed (read k b)).work;
    processor = (viewed (read k b)).processor;
    copyin = (viewed (read k b)).copyin;
    copyout = (viewed (read k b)).copyout;
    half = (viewed (read k b)).half;
  }
      ≡ viewed (read k b)
  unfolding viewed state_in phase_in interval_in
  all_fields = by-test (eqb r.copyin 6) (λ e. rw e refl) (λ e. rw e refl)

  pub of_arrays : {ticks units : List ℕ} → ticks ≡ ticks_of (viewed (read k b)) → units ≡ units_of (viewed (read k b))
      → record {
        begin = get_or ticks 0 0;
        until = get_or ticks 1 0;
        inuntil = get_or ticks 2 0;
        outuntil = get_or ticks 3 0;
        pending = r.pending;
        waiting = get_or k.sets 5 0;
        marked = r.marked;
        opened = get_or units 0 0;
        work = get_or units 1 0;
        processor = get_or units 2 0;
        copyin = get_or units 3 0;
        copyout = get_or units 4 0;
        half = get_or units 5 0;
      }
      ≡ viewed (read k b)
  of_arrays e f =
      ap₂
      (λ (t u : List ℕ). record {
        begin = get_or t 0 0;
        until = get_or t 1 0;
        inuntil = get_or t 2 0;
        outuntil = get_or t 3 0;
        pending = r.pending;
        waiting = get_or k.sets 5 0;
        marked = r.marked;
        opened = get_or u 0 0;
        work = get_or u 1 0;
        processor = get_or u 2 0;
        copyin = get_or u 3 0;
        copyout = get_or u 4 0;
        half = get_or u 5 0;
      })
      e f
      ∙ all_fields

-- ---- numbers that are stored where a test is met

stored_so : (met : Bool) (place n m : ℕ) (f : ℕ → List ℕ) → set (f m) place n ≡ f n → stored_if met place n (f m) ≡ f (cond met n m)
stored_so true place n m f e = e
stored_so false place n m f e = refl

-- three of them, in places that hold `none` before
pub three_stored : (f : ℕ → ℕ → ℕ → List ℕ) (none p q r : ℕ) → ((x y z n : ℕ) → set (f x y z) p n ≡ f n y z) → ((x y z n : ℕ) → set (f x y z) q n ≡ f x n z)
    → ((x y z n : ℕ) → set (f x y z) r n ≡ f x y n) → (i j k : Bool) (a b c : ℕ) {first second third : List ℕ} → first ≡ stored_if i p a (f none none none)
    → second ≡ stored_if j q b first → third ≡ stored_if k r c second → third ≡ f (cond i a none) (cond j b none) (cond k c none)
three_stored f none p q r at_p at-q at-r i j k a b c d e g =
    g
    ∙ ap (stored_if k r c)
    (e ∙ ap (stored_if j q b) (d ∙ stored_so i p a none (λ x. f x none none) (at_p none none none a)) ∙ stored_so j q b none (λ y. f (cond i a none) y none) (at-q (cond i a none) none none b))
    ∙ stored_so k r c none (λ z. f (cond i a none) (cond j b none) z) (at-r (cond i a none) (cond j b none) none c)
