-- An input is checked in its front. Assumes nothing.
use mathlib.Core.Path.{◌≡◌, refl, sym, ap, ◌∙◌}
use mathlib.Core.List.{List}
use Prim.Native.Nat.{ℕ, zero, suc, ◌+◌, ◌-◌, ◌*◌, ◌≤◌, ◌<◌}
use native.Mathlib.Omega.{arith}
use borrow.Author.Tests.{ne_eqb, leb-true, leb-false, eqb-true, eqb-false}
use lib.Dec.{leb, eqb}
use lib.ListN.{length, take}
use lib.Seq.{length-take-le}
use Rattle.std.proofs.Common.{Option, None, Some, Result, Ok, Err, subst}
use Rattle.sets.proofs.Laws.{by-test}
use Rattle.entries.specs.Entries.{size, entry_at}
use Rattle.entries.specs.Limits as limits
use Rattle.entries.proofs.Front.{entry_in_front}
use Rattle.table.specs.Head.{head_read, head_of}
use Rattle.table.proofs.Front.{head_short, head_in_front, by_length}
use Rattle.run.specs.Types.{Release, Entry, TaskEntry, ReleaseEntry, SpacingEntry, Option, None, Some, Head, Refusal, AtEntry}
use Rattle.run.specs.Files.{refusal_of, release_refusal, releases_from, releases_behind, releases_of, head_unless, file_head}
use Rattle.run.specs.Cut.{file_most, ReadFromFront}
use Rattle.run.proofs.Checking.{malformed, task_late, spacing_late, refuses, takes, passed_on, few, file_behind, file_refused}
use Rattle.entries.specs.declared.Unreadable.{Unreadable}
use Rattle.entries.specs.Unreadable.{unreadable_number}

-- so many releases were read, behind the longest head at most
pub record Counted (at count : ℕ) : Type 0 where
  pub behind : at ≤ limits.longest_head + size 2 * count
  pub most : count ≤ limits.releases

counted_more : (at present : ℕ) (last : Option Release) (count : ℕ) (r : Release) → release_refusal present last count r ≡ 0 → Counted at count → Counted (at + size 2) (count + 1)
counted_more at present last count r e c = record { behind = omega (arith, c.behind); most = omega (arith, few present last count r e) }

-- ---- the releases, read in the front and in the whole

module _ (present : ℕ) where
  abbrev refusal_from : List ℕ → ℕ → ℕ → Option Release → ℕ → Option Refusal
  refusal_from s k at last count = refusal_of (releases_from k s at present last count)

  goes_on : (s : List ℕ) (k at : ℕ) (last : Option Release) (count : ℕ) (r : Release) → at < length s → entry_at s at ≡ Ok (ReleaseEntry r) → release_refusal present last count r ≡ 0
      → refusal_from s (suc k) at last count ≡ refusal_from s k (at + 10) (Some r) (count + 1)
  goes_on s k at last count r l e f =
      ap refusal_of (takes s at present last count k l r e f) ∙ passed_on r (releases_from k s (at + 10) present (Some r) (count + 1))

  module _ (s : List ℕ) (e : ℕ) (inside : e ≤ length s) (enough : file_most ≤ e) where
    releases_in_front : (j k at : ℕ) (last : Option Release) (count : ℕ) → e - at ≤ j → length s - at ≤ k → Counted at count
        → refusal_from (take e s) j at last count ≡ refusal_from s k at last count
    releases_in_front zero k at last count g h c = absurd (omega (arith, c.behind, c.most))
    releases_in_front (suc j) zero at last count g h c = absurd (omega (arith, c.behind, c.most))
    releases_in_front (suc j) (suc k) at last count g h c =
        go (entry_at s at) refl
        (λ r f. releases_in_front j k (at + 10) (Some r) (count + 1) (omega arith) (omega arith) (counted_more at present last count r f c))
      where
        room : at + 16 ≤ e
        room = omega (arith, c.behind, c.most)

        front : at < length (take e s)
        front = omega (arith, room, length-take-le e s inside)

        whole : at < length s
        whole = omega (arith, room)

        entry : entry_at (take e s) at ≡ entry_at s at
        entry = entry_in_front s e inside at room

        Same : Type 0
        Same = refusal_from (take e s) (suc j) at last count ≡ refusal_from s (suc k) at last count

        More : Type 0
        More = (r : Release) → release_refusal present last count r ≡ 0
            → refusal_from (take e s) j (at + 10) (Some r) (count + 1) ≡ refusal_from s k (at + 10) (Some r) (count + 1)

        go_release : (r : Release) (n : ℕ) → entry_at s at ≡ Ok (ReleaseEntry r) → release_refusal present last count r ≡ n → More → Same
        go_release r zero x f more = goes_on (take e s) j at last count r front (entry ∙ x) f ∙ more r f ∙ sym (goes_on s k at last count r whole x f)
        go_release r (suc n) x f more =
            refuses (take e s) at present last count j front r (suc n) (entry ∙ x) f (omega arith)
            ∙ sym (refuses s at present last count k whole r (suc n) x f (omega arith))

        go : (x : Result Entry Unreadable) → entry_at s at ≡ x → More → Same
        go (Err n) x more = malformed (take e s) at present last count j front n (entry ∙ x) ∙ sym (malformed s at present last count k whole n x)
        go (Ok (TaskEntry p)) x more = task_late (take e s) at present last count j front p (entry ∙ x) ∙ sym (task_late s at present last count k whole p x)
        go (Ok (SpacingEntry q)) x more = spacing_late (take e s) at present last count j front q (entry ∙ x) ∙ sym (spacing_late s at present last count k whole q x)
        go (Ok (ReleaseEntry r)) x more = go_release r (release_refusal present last count r) x refl more

  -- where none is refused the input is no longer
  releases_short : (s : List ℕ) (k at : ℕ) (last : Option Release) (count : ℕ) → length s - at ≤ k → Counted at count → refusal_from s k at last count ≡ None
      → length s ≤ limits.longest_file
  releases_short s zero at last count h c e = omega (arith, c.behind, c.most)
  releases_short s (suc k) at last count h c e =
      by-test (leb (length s) at)
      (λ l. omega (arith, leb-true (length s) at l, c.behind, c.most))
      (λ l.
      let more : at < length s = leb-false (length s) at l in
      go (entry_at s at) refl more
      (λ r x f. releases_short s k (at + 10) (Some r) (count + 1) (omega arith) (counted_more at present last count r f c) (sym (goes_on s k at last count r more x f) ∙ e)))
    where
      Short : Type 0
      Short = length s ≤ limits.longest_file

      More : Type 0
      More = (r : Release) → entry_at s at ≡ Ok (ReleaseEntry r) → release_refusal present last count r ≡ 0 → Short

      refused : (n : ℕ) → refusal_from s (suc k) at last count ≡ Some (AtEntry n at) → Short
      refused n x = absurd (let q = sym x ∙ e in cc)

      go_release : (r : Release) (n : ℕ) → at < length s → entry_at s at ≡ Ok (ReleaseEntry r) → release_refusal present last count r ≡ n → More → Short
      go_release r zero l x f more = more r x f
      go_release r (suc n) l x f more = refused (suc n) (refuses s at present last count k l r (suc n) x f (omega arith))

      go : (x : Result Entry Unreadable) → entry_at s at ≡ x → at < length s → More → Short
      go (Err n) x l more = refused (unreadable_number n) (malformed s at present last count k l n x)
      go (Ok (TaskEntry p)) x l more = refused 3 (task_late s at present last count k l p x)
      go (Ok (SpacingEntry q)) x l more = refused 3 (spacing_late s at present last count k l q x)
      go (Ok (ReleaseEntry r)) x l more = go_release r (release_refusal present last count r) l x refl more

-- ---- the whole input

first_counted : (s : List ℕ) → Counted (head_read (head_of s)).end 0
first_counted s = record { behind = omega (arith, head_short s); most = omega arith }

head_same : (s : List ℕ) → file_head (take file_most s) ≡ file_head s
unfolding file_head releases_of
head_same s = by_length file_head file_most s inside
  where
    t : List ℕ
    t = take file_most s

    behind : (k : Result Head Refusal) → file_most ≤ length s → Counted (head_read k).end 0 → refusal_of (releases_behind t k) ≡ refusal_of (releases_behind s k)
    behind (Ok k) l c =
        releases_in_front k.table.present s file_most l (omega arith) (length t) (length s) k.end None 0 (omega (arith, length-take-le file_most s l)) (omega arith) c
    behind (Err r) l c = refl

    inside : file_most ≤ length s → file_head t ≡ file_head s
    inside l =
        rw (
          ne_eqb (length t) 0 (λ e. omega (arith, length-take-le file_most s l)),
          ne_eqb (length s) 0 (λ e. omega arith),
          head_in_front s file_most l (omega arith),
        )
        (ap (head_unless (head_read (head_of s))) (behind (head_of s) l (first_counted s)))

accepted_short : (s : List ℕ) (k : Head) → file_head s ≡ Ok k → length s ≤ limits.longest_file
accepted_short s k e =
    by-test (eqb (length s) 0) (λ z. omega (arith, eqb-true (length s) 0 z)) (λ z. tasks (eqb-false (length s) 0 z) (head_of s) refl)
  where
    -- an input that is refused is not accepted
    unrefused : (j : Head) (r : Option Refusal) → head_unless j r ≡ Ok k → r ≡ None
    unrefused j None x = refl
    unrefused j (Some r) x = absurd (cc)

    tasks : (length s ≡ 0 → ⊥) → (r : Result Head Refusal) → head_of s ≡ r → length s ≤ limits.longest_file
    tasks some (Ok j) x =
        releases_short j.table.present s (length s) j.end None 0 (omega arith) (subst (λ r. Counted (head_read r).end 0) x (first_counted s))
        (unrefused j (refusal_of (releases_from (length s) s j.end j.table.present None 0)) (file_behind s some j x ∙ e))
    tasks some (Err r) x = absurd (let q = file_refused s some r x ∙ e in cc)

pub read_from_front : ReadFromFront
read_from_front = record { same_head = head_same; none_cut = accepted_short }
