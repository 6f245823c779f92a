-- The head is read from the front of an input: an entry for each task number and one more are enough. Assumes nothing.
use mathlib.Core.Path.{◌≡◌, refl, sym, ap, ◌∙◌}
use mathlib.Core.Bool.{Bool, true, false, cond}
use mathlib.Core.Logic.{◌⊎◌, ⊎_elim}
use mathlib.Core.List.{List}
use Prim.Native.Nat.{ℕ, zero, suc, ◌+◌, ◌-◌, ◌*◌, ◌^◌, ◌≤◌, ◌<◌}
use native.Mathlib.Omega.{arith}
use borrow.Author.Tests.{leb-true, leb-false, lt-leb}
use lib.Dec.{eqb, leb}
use lib.ListN.{length, take}
use lib.Seq.{length-take-le, take_all}
use Rattle.sets.specs.Sets.{size}
use Rattle.sets.proofs.Laws.{by-test, member_task, insert_small, size_most, size_insert_new}
use Rattle.entries.specs.Entries.{entry_at, entry_size, task_at, release_at, spacing_at}
use Rattle.words.specs.Words.{number_at}
use Rattle.entries.specs.Limits as limits
use Rattle.entries.proofs.Front.{number_in_front, fits_alike, task_in_front, release_in_front, spacing_in_front, entry_in_front}
use Rattle.table.specs.Types.{Entry, TaskEntry, ReleaseEntry, SpacingEntry, Table, Head}
use Rattle.table.specs.Head.{no_table, behind_head, entry_refusal, with_task, with_spacing, with_entry, marked_with, head_read, head_from, head_of}
use Rattle.table.proofs.Laws.{is_whole, at_end, refuses, takes, number_new, spacing_taken, ends}
use Rattle.std.specs.Prelude.{Result, Ok, Err}
use Rattle.entries.specs.declared.Unreadable.{Unreadable}
use Rattle.entries.specs.declared.Unreadable.TheVariants.{CutShort}

-- each entry that was read is a task of the table or a spacing of one
abbrev Filled : ℕ → Table → Type 0
Filled at t = (t.present < 2 ^ 32) × (at ≤ 16 * size t.present + 6 * size t.spaced)

filled_none : Filled 0 no_table
filled_none = (omega arith, omega arith)

filled_most : (at : ℕ) (t : Table) → Filled at t → at ≤ limits.longest_head
filled_most at t f = omega (arith, f.1, size_most t.present, size_most t.spaced)

filled_more : (at : ℕ) (t : Table) (x : Result Entry Unreadable) → entry_refusal t x ≡ 0 → Filled at t → Filled (at + entry_size x) (with_entry t x)
unfolding entry_refusal with_entry with_task with_spacing
filled_more at t (Err n) e h = (h.0, omega (arith, h.1))
filled_more at t (Ok (ReleaseEntry r)) e h = absurd (omega arith)
filled_more at t (Ok (TaskEntry p)) e h =
    let n = number_new t p e in
    (insert_small p.number t.present, omega (arith, h.1, size_insert_new p.number t.present n.0 n.1))
filled_more at t (Ok (SpacingEntry x)) e h =
    let y = spacing_taken t x e in
    (h.0, omega (arith, h.1, size_insert_new x.task t.spaced (member_task x.task t.present h.0 y.known) y.new))

-- so the head ends within an entry and a spacing for each task number
pub head_short : (s : List ℕ) → (head_read (head_of s)).end ≤ limits.longest_head
unfolding head_of
head_short s =
    let k : Head = head_read (head_from (length s) s 0 no_table 0) in
    ⊎_elim (λ e. omega arith) (λ h. filled_most k.end k.table h)
    (ends s Filled (λ at t x e r h. filled_more at t x r h) (length s) 0 no_table 0 filled_none)

-- ---- what is read in the front is what is read in the whole

module _ (s : List ℕ) (e : ℕ) (inside : e ≤ length s) where
  pub behind_in_front : (at : ℕ) → at < e → behind_head (take e s) at ≡ behind_head s at
  unfolding behind_head
  behind_in_front at l =
      rw (lt-leb (length (take e s)) at (omega (arith, length-take-le e s inside)), lt-leb (length s) at (omega arith), number_in_front s e inside 1 at (omega arith))

  -- an entry that is whole, in the slice or in its front, also where the front ends with it
  module _ (at : ℕ) (x : Result Entry Unreadable) (some : 0 < entry_size x) (room : at + entry_size x ≤ e) where
    abbrev kind : ℕ
    kind = number_at 1 s at

    -- one of a kind that has so many bytes, or none
    sized : (k : ℕ) (b : Bool) (y : Result Entry Unreadable) → entry_size y ≡ k → cond b y (Err CutShort) ≡ x → entry_size x ≡ k
    sized k true y h f = ap entry_size (sym f) ∙ h
    sized k false y h f = absurd (omega (arith, ap entry_size f))

    pub alike : (entry_at s at ≡ x) ⊎ (entry_at (take e s) at ≡ x) → entry_at (take e s) at ≡ entry_at s at
    unfolding entry_at
    alike h =
        let front : number_at 1 (take e s) at ≡ kind = number_in_front s e inside 1 at (omega arith) in
        by-test (eqb kind 1)
        (λ a.
        let size : entry_size x ≡ 16 =
        ⊎_elim (λ f. sized 16 (leb 16 (length s - at)) (Ok (TaskEntry (task_at s at))) refl (rw a at f))
        (λ f. sized 16 (leb 16 (length (take e s) - at)) (Ok (TaskEntry (task_at (take e s) at))) refl (rw (front, a) at f)) h in
        rw (front, a, fits_alike s e inside 16 at (omega arith), task_in_front s e inside at (omega arith)))
        (λ a. by-test (eqb kind 2)
        (λ b.
        let size : entry_size x ≡ 10 =
        ⊎_elim (λ f. sized 10 (leb 10 (length s - at)) (Ok (ReleaseEntry (release_at s at))) refl (rw (a, b) at f))
        (λ f. sized 10 (leb 10 (length (take e s) - at)) (Ok (ReleaseEntry (release_at (take e s) at))) refl (rw (front, a, b) at f)) h in
        rw (front, a, b, fits_alike s e inside 10 at (omega arith), release_in_front s e inside at (omega arith)))
        (λ b. by-test (eqb kind 3)
        (λ d.
        let size : entry_size x ≡ 6 =
        ⊎_elim (λ f. sized 6 (leb 6 (length s - at)) (Ok (SpacingEntry (spacing_at s at))) refl (rw (a, b, d) at f))
        (λ f. sized 6 (leb 6 (length (take e s) - at)) (Ok (SpacingEntry (spacing_at (take e s) at))) refl (rw (front, a, b, d) at f)) h in
        rw (front, a, b, d, fits_alike s e inside 6 at (omega arith), spacing_in_front s e inside at (omega arith)))
        (λ d. rw (front, a, b, d))))

  module _ (enough : limits.head_most ≤ e) where
    from_in_front : (j k at : ℕ) (t : Table) (m : ℕ) → e - at ≤ j → length s - at ≤ k → Filled at t → head_from j (take e s) at t m ≡ head_from k s at t m
    from_in_front zero k at t m g h f = absurd (omega (arith, filled_most at t f))
    from_in_front (suc j) zero at t m g h f = absurd (omega (arith, filled_most at t f))
    from_in_front (suc j) (suc k) at t m g h f =
        by-test (behind_head s at)
        (λ b. at_end (take e s) at t m (suc j) (behind ∙ b) ∙ sym (at_end s at t m (suc k) b))
        (λ b. go b (entry_refusal t x) refl
        (λ r. let w = is_whole s at t x refl r in
        from_in_front j k (at + entry_size x) (with_entry t x) (marked_with m x) (omega (arith, w.some)) (omega (arith, w.some)) (filled_more at t x r f)))
      where
        x : Result Entry Unreadable
        x = entry_at s at

        room : at + 16 ≤ e
        room = omega (arith, filled_most at t f)

        behind : behind_head (take e s) at ≡ behind_head s at
        behind = behind_in_front at (omega (arith, room))

        entry : entry_at (take e s) at ≡ x
        entry = entry_in_front s e inside at room

        go : behind_head s at ≡ false → (n : ℕ) → entry_refusal t x ≡ n
            → (entry_refusal t x ≡ 0 → head_from j (take e s) (at + entry_size x) (with_entry t x) (marked_with m x) ≡ head_from k s (at + entry_size x) (with_entry t x) (marked_with m x))
            → head_from (suc j) (take e s) at t m ≡ head_from (suc k) s at t m
        go b zero r more = takes (take e s) at t m j (behind ∙ b) x entry r ∙ more r ∙ sym (takes s at t m k b x refl r)
        go b (suc n) r more =
            refuses (take e s) at t m j (behind ∙ b) x entry (suc n) r (omega arith) ∙ sym (refuses s at t m k b x refl (suc n) r (omega arith))

    pub head_in_front : head_of (take e s) ≡ head_of s
    unfolding head_of
    head_in_front = from_in_front (length (take e s)) (length s) 0 no_table 0 (omega (arith, length-take-le e s inside)) (omega arith) filled_none

-- a front that is no shorter than the whole is the whole
pub by_length : {A : Type 0} (f : List ℕ → A) (e : ℕ) (s : List ℕ) → (e ≤ length s → f (take e s) ≡ f s) → f (take e s) ≡ f s
by_length f e s h = by-test (leb e (length s)) (λ b. h (leb-true e (length s) b)) (λ b. ap f (take_all e s (omega (arith, leb-false e (length s) b))))
