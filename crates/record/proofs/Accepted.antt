-- What is known of a file that is accepted: its task entries are, and its releases, no more than a file may have, are of tasks of the table, come in time and
-- rise strictly by time and then task number.
use mathlib.Core.Path.{◌≡◌, refl, sym, ap, ◌∙◌, subst}
use mathlib.Core.Bool.{Bool, true, false, cond, not}
use mathlib.Core.List.{List, [], ◌∷◌}
use Prim.Native.Nat.{ℕ, zero, suc, ◌+◌, ◌≤◌, ◌<◌}
use native.Mathlib.Omega.{arith}
use borrow.Author.Tests.{eqb-false, ltb-false, leb-false, not-false}
use lib.Dec.{eqb, ltb, leb}
use lib.ListN.{length}
use Rattle.sets.specs.Sets.{member}
use Rattle.entries.specs.Entries.{size, entry_at}
use Rattle.entries.specs.Limits as limits
use Rattle.table.specs.Head.{head_read, head_of}
use Rattle.guarantees.proofs.Proper.{none_passed}
use Rattle.record.specs.Types.{Release, Entry, TaskEntry, ReleaseEntry, SpacingEntry, Option, None, Some, Refusal, Alone, AtEntry, Head, Result, Ok, Err}
use Rattle.run.specs.Files.{Checked, Rejected, Releases, rises, release_refusal, with_release, releases_from, releases_behind, releases_of}
use Rattle.entries.specs.declared.Unreadable.{Unreadable}
use Rattle.entries.specs.Unreadable.{unreadable_number}

-- ---- releases in order

-- the first of some releases comes after one
abbrev pub RisesTo : Option Release → List Release → Type 0
RisesTo l [] = Unit {0}
RisesTo l (r ∷ rs) = rises l r ≡ true

unfoldable pub Sorted : ℕ → List Release → Type 0
Sorted present [] = Unit {0}
Sorted present (r ∷ rs) = (member r.task present ≡ true) × (r.time ≤ limits.last_release) × RisesTo (Some r) rs × Sorted present rs

-- ---- the reading

rejected : (r : Refusal) (rs : List Release) → Rejected r ≡ Releases rs → ⊥
rejected r rs e = let z : ◌≡◌ {A = ℕ} 0 1 = cc in omega arith

-- what releases that are read with one in front are made of
pub with_first : (r : Release) (c : Checked) (rs : List Release) → with_release r c ≡ Releases rs → (qs : List Release) × (c ≡ Releases qs) × (rs ≡ r ∷ qs)
unfolding with_release
with_first r (Rejected n) rs h = absurd (rejected n rs h)
with_first r (Releases qs) rs h = (qs, refl, cc)

passes : (present : ℕ) (last : Option Release) (count : ℕ) (r : Release) → release_refusal present last count r ≡ 0
    → (member r.task present ≡ true) × (r.time ≤ limits.last_release) × (rises last r ≡ true) × (count < limits.releases)
unfolding release_refusal
passes present last count r h =
    let f : (not (member r.task present) ≡ false) × (ltb limits.last_release r.time ≡ false) × (not (rises last r) ≡ false) × (leb limits.releases count ≡ false) =
    none_passed 7 9 8 10 (not (member r.task present)) (ltb limits.last_release r.time) (not (rises last r)) (leb limits.releases count) h in
    (not-false (member r.task present) f.0, ltb-false limits.last_release r.time f.1, not-false (rises last r) f.2, leb-false limits.releases count f.3)

-- what is read after one release and `count` in all
abbrev Read : ℕ → Option Release → ℕ → Checked → Type 0
Read present last count c = (rs : List Release) → c ≡ Releases rs → RisesTo last rs × Sorted present rs × (count ≤ limits.releases → count + length rs ≤ limits.releases)

read_none : (present : ℕ) (last : Option Release) (count : ℕ) → Read present last count (Releases [])
read_none present last count [] h = unfold Sorted in (tt, tt, λ l. omega arith)
read_none present last count (r ∷ rs) h = absurd (let z : ◌≡◌ {A = ℕ} 0 1 = cc in omega arith)

read_more : (present : ℕ) (last : Option Release) (count : ℕ) (r : Release) (c : Checked) → release_refusal present last count r ≡ 0 → Read present (Some r) (count + 1) c
    → Read present last count (with_release r c)
unfolding Sorted
read_more present last count r c e h rs x =
    let y : (qs : List Release) × (c ≡ Releases qs) × (rs ≡ r ∷ qs) = with_first r c rs x in
    let p : (member r.task present ≡ true) × (r.time ≤ limits.last_release) × (rises last r ≡ true) × (count < limits.releases) = passes present last count r e in
    let q : RisesTo (Some r) y.0 × Sorted present y.0 × (count + 1 ≤ limits.releases → count + 1 + length y.0 ≤ limits.releases) = h y.0 y.1 in
    rw y.2 (p.2, (p.0, p.1, q.0, q.1), λ l. omega (arith, q.2 (omega (arith, p.3))))

reads : (k : ℕ) (s : List ℕ) (at present : ℕ) (last : Option Release) (count : ℕ) → Read present last count (releases_from k s at present last count)
unfolding releases_from
reads zero s at present last count = read_none present last count
reads (suc k) s at present last count = go (leb (length s) at) (entry_at s at) (λ r. reads k s (at + size 2) present (Some r) (count + 1))
  where
    go_release : (r : Release) (n : ℕ) → release_refusal present last count r ≡ n
        → ((r : Release) → Read present (Some r) (count + 1) (releases_from k s (at + size 2) present (Some r) (count + 1)))
        → Read present last count (elim n [ zero ↦ with_release r (releases_from k s (at + size 2) present (Some r) (count + 1)) | suc n ↦ Rejected (AtEntry (suc n) at) ])
    go_release r zero e h = read_more present last count r (releases_from k s (at + size 2) present (Some r) (count + 1)) e (h r)
    go_release r (suc n) e h = λ rs x. absurd (rejected (AtEntry (suc n) at) rs x)

    go : (b : Bool) (e : Result Entry Unreadable) → ((r : Release) → Read present (Some r) (count + 1) (releases_from k s (at + size 2) present (Some r) (count + 1)))
        → Read present last count (elim b [
          | true ↦ Releases []
          | false ↦ elim e [
            | Err n ↦ Rejected (AtEntry (unreadable_number n) at)
            | Ok (TaskEntry p) ↦ Rejected (AtEntry 3 at)
            | Ok (SpacingEntry q) ↦ Rejected (AtEntry 3 at)
            | Ok (ReleaseEntry r) ↦ elim (release_refusal present last count r) [
              | zero ↦ with_release r (releases_from k s (at + size 2) present (Some r) (count + 1))
              | suc n ↦ Rejected (AtEntry (suc n) at)
            ]
          ]
        ])
    go true e h = read_none present last count
    go false (Err n) h = λ rs x. absurd (rejected (AtEntry (unreadable_number n) at) rs x)
    go false (Ok (TaskEntry p)) h = λ rs x. absurd (rejected (AtEntry 3 at) rs x)
    go false (Ok (SpacingEntry q)) h = λ rs x. absurd (rejected (AtEntry 3 at) rs x)
    go false (Ok (ReleaseEntry r)) h = go_release r (release_refusal present last count r) refl h

-- ---- a file that is accepted

pub record Accepted (s : List ℕ) (rs : List Release) : Type 0 where
  pub some_byte : length s ≡ 0 → ⊥
  pub tasks : head_of s ≡ Ok (head_read (head_of s))
  pub read : releases_from (length s) s (head_read (head_of s)).end (head_read (head_of s)).table.present None 0 ≡ Releases rs
  pub sorted : Sorted (head_read (head_of s)).table.present rs
  pub few : length rs ≤ limits.releases

pub accepted : (s : List ℕ) (rs : List Release) → releases_of s ≡ Releases rs → Accepted s rs
unfolding releases_of
accepted s rs h = go (eqb (length s) 0) (head_of s) refl refl h
  where
    go : (b : Bool) (r : Result Head Refusal) → eqb (length s) 0 ≡ b → head_of s ≡ r
        → cond b (Rejected (Alone 12)) (releases_behind s r) ≡ Releases rs → Accepted s rs
    go true r a e h = absurd (rejected (Alone 12) rs h)
    go false (Err r) a e h = absurd (rejected r rs h)
    go false (Ok k) a e h =
        let listed : releases_from (length s) s (head_read (head_of s)).end (head_read (head_of s)).table.present None 0 ≡ Releases rs =
        subst (λ (j : Head). releases_from (length s) s j.end j.table.present None 0 ≡ Releases rs) (sym (ap head_read e)) h in
        let read = reads (length s) s (head_read (head_of s)).end (head_read (head_of s)).table.present None 0 rs listed in
        record {
          some_byte = eqb-false (length s) 0 a;
          tasks = e ∙ ap Ok (sym (ap head_read e));
          read = listed;
          sorted = read.1;
          few = omega (arith, read.2 (omega arith));
        }
