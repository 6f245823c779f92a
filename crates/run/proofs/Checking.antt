-- `releases_from` by cases, one law for each way that a turn of the reading goes. Assumes nothing.
use mathlib.Core.Path.{◌≡◌, refl, sym, ap, ◌∙◌}
use mathlib.Core.List.{List}
use Prim.Native.Nat.{ℕ, zero, suc, ◌+◌, ◌-◌, ◌≤◌, ◌<◌}
use native.Mathlib.Omega.{arith}
use borrow.Author.Tests.{eq-eqb, ne_eqb, leb-true, leb-false, le-leb, lt-leb}
use lib.Dec.{eqb, leb, ltb}
use lib.ListN.{length}
use Rattle.std.proofs.Common.{Option, None, Some, Ok, Err}
use Rattle.sets.specs.Sets.{member}
use Rattle.sets.proofs.Laws.{by-test}
use Rattle.words.specs.Words.{number_at}
use Rattle.entries.specs.Entries.{entry_at, task_at, spacing_at}
use Rattle.run.specs.Types.{Entry, TaskParameters, Release, Spacing, TaskEntry, ReleaseEntry, SpacingEntry, Option, None, Some, Head, Refusal, Alone, AtEntry}
use Rattle.run.specs.Files.{Checked, Rejected, Releases, rises, refusal_of, with_release, release_refusal, releases_from, releases_of, head_unless, file_head}
use Rattle.table.specs.Head.{head_of}
use Rattle.entries.specs.declared.Unreadable.{Unreadable}
use Rattle.entries.specs.declared.Unreadable.TheVariants.{CutShort, OtherKind}
use Rattle.entries.specs.Unreadable.{unreadable_number}
use Rattle.std.specs.Prelude.{Result}

-- a release entry is whole
pub release_whole : (s : List ℕ) (at : ℕ) (r : Release) → entry_at s at ≡ Ok (ReleaseEntry r) → 10 ≤ length s - at
unfolding entry_at
release_whole s at r e =
    by-test (eqb (number_at 1 s at) 1)
    (λ a. by-test (leb 16 (length s - at)) (λ b. absurd (task (task_at s at) (rw (a, b) at e))) (λ b. absurd (other CutShort (rw (a, b) at e))))
    (λ a. by-test (eqb (number_at 1 s at) 2)
    (λ b. by-test (leb 10 (length s - at)) (λ d. leb-true 10 (length s - at) d) (λ d. absurd (other CutShort (rw (a, b, d) at e))))
    (λ b. by-test (eqb (number_at 1 s at) 3)
    (λ d. by-test (leb 6 (length s - at)) (λ f. absurd (spacing (spacing_at s at) (rw (a, b, d, f) at e))) (λ f. absurd (other CutShort (rw (a, b, d, f) at e))))
    (λ d. absurd (other OtherKind (rw (a, b, d) at e)))))
  where
    other : (e : Unreadable) → ◌≡◌ {A = Result Entry Unreadable} (Err e) (Ok (ReleaseEntry r)) → ⊥
    other e h = let z : ◌≡◌ {A = ℕ} 0 1 = cc in omega arith

    task : (p : TaskParameters) → ◌≡◌ {A = Result Entry Unreadable} (Ok (TaskEntry p)) (Ok (ReleaseEntry r)) → ⊥
    task p h = let z : ◌≡◌ {A = ℕ} 0 1 = cc in omega arith

    spacing : (x : Spacing) → ◌≡◌ {A = Result Entry Unreadable} (Ok (SpacingEntry x)) (Ok (ReleaseEntry r)) → ⊥
    spacing x h = let z : ◌≡◌ {A = ℕ} 0 1 = cc in omega arith

module _ (s : List ℕ) (at present : ℕ) (last : Option Release) (count : ℕ) where
  pub at_end : (k : ℕ) → length s ≤ at → refusal_of (releases_from k s at present last count) ≡ None
  unfolding releases_from
  at_end zero h = refl
  at_end (suc k) h = rw (le-leb (length s) at h, releases_from)

  module _ (k : ℕ) (more : at < length s) where
    pub malformed : (f : Unreadable) → entry_at s at ≡ Err f → refusal_of (releases_from (suc k) s at present last count) ≡ Some (AtEntry (unreadable_number f) at)
    unfolding releases_from
    malformed f e = rw (lt-leb (length s) at more, releases_from, e)

    pub task_late : (p : TaskParameters) → entry_at s at ≡ Ok (TaskEntry p) → refusal_of (releases_from (suc k) s at present last count) ≡ Some (AtEntry 3 at)
    unfolding releases_from
    task_late p e = rw (lt-leb (length s) at more, releases_from, e)

    pub spacing_late : (x : Spacing) → entry_at s at ≡ Ok (SpacingEntry x) → refusal_of (releases_from (suc k) s at present last count) ≡ Some (AtEntry 3 at)
    unfolding releases_from
    spacing_late x e = rw (lt-leb (length s) at more, releases_from, e)

    pub refuses : (r : Release) (n : ℕ) → entry_at s at ≡ Ok (ReleaseEntry r) → release_refusal present last count r ≡ n → (n ≡ 0 → ⊥)
        → refusal_of (releases_from (suc k) s at present last count) ≡ Some (AtEntry n at)
    unfolding releases_from
    refuses r zero e f h = absurd (h refl)
    refuses r (suc n) e f h = rw (lt-leb (length s) at more, releases_from, e, f)

    pub takes : (r : Release) → entry_at s at ≡ Ok (ReleaseEntry r) → release_refusal present last count r ≡ 0
        → releases_from (suc k) s at present last count ≡ with_release r (releases_from k s (at + 10) present (Some r) (count + 1))
    unfolding releases_from
    takes r e f = rw (lt-leb (length s) at more, releases_from, e, f)

pub passed_on : (r : Release) (c : Checked) → refusal_of (with_release r c) ≡ refusal_of c
unfolding with_release
passed_on r (Rejected n) = refl
passed_on r (Releases rs) = refl

-- a release that is taken is not beyond the 4,096th
pub few : (present : ℕ) (last : Option Release) (count : ℕ) (r : Release) → release_refusal present last count r ≡ 0 → count < 4096
unfolding release_refusal
few present last count r h =
    by-test (member r.task present)
    (λ a. by-test (ltb 1000000000 r.time) (λ b. absurd (wrong 9 (rw (a, b) at h)))
    (λ b. by-test (rises last r)
    (λ d. by-test (leb 4096 count) (λ f. absurd (wrong 10 (rw (a, b, d, f) at h))) (λ f. leb-false 4096 count f))
    (λ d. absurd (wrong 8 (rw (a, b, d) at h)))))
    (λ a. absurd (wrong 7 (rw a at h)))
  where
    wrong : (n : ℕ) → suc n ≡ 0 → ⊥
    wrong n e = omega arith

-- what is left to read, read from here, gives the refusal of the whole
pub record Rest (s : List ℕ) (at present : ℕ) (last : Option Release) (count : ℕ) (whole : Option Refusal) : Type 0 where
  pub fuel : ℕ
  pub enough : length s - at ≤ fuel
  pub same : refusal_of (releases_from fuel s at present last count) ≡ whole

module _ (s : List ℕ) (at present : ℕ) (last : Option Release) (count : ℕ) (whole : Option Refusal) (rest : Rest s at present last count whole) (more : at < length s) where
  pub turn : (x : Option Refusal) → ((k : ℕ) → refusal_of (releases_from (suc k) s at present last count) ≡ x) → x ≡ whole
  turn x h = go rest.fuel rest.enough rest.same
    where
      go : (k : ℕ) → length s - at ≤ k → refusal_of (releases_from k s at present last count) ≡ whole → x ≡ whole
      go zero e q = absurd (omega arith)
      go (suc k) e q = sym (h k) ∙ q

  pub turn_on : (r : Release) → entry_at s at ≡ Ok (ReleaseEntry r) → release_refusal present last count r ≡ 0 → Rest s (at + 10) present (Some r) (count + 1) whole
  turn_on r e f = go rest.fuel rest.enough rest.same
    where
      go : (k : ℕ) → length s - at ≤ k → refusal_of (releases_from k s at present last count) ≡ whole → Rest s (at + 10) present (Some r) (count + 1) whole
      go zero l q = absurd (omega arith)
      go (suc k) l q = record {
        fuel = k;
        enough = omega arith;
        same = sym (passed_on r (releases_from k s (at + 10) present (Some r) (count + 1))) ∙ sym (ap refusal_of (takes s at present last count k more r e f)) ∙ q;
      }

-- ---- a whole input

module _ (s : List ℕ) where
  pub file_empty : length s ≡ 0 → Err (Alone 12) ≡ file_head s
  unfolding file_head releases_of
  file_empty e = rw (eq-eqb (length s) 0 e)

  module _ (some : length s ≡ 0 → ⊥) where
    pub file_behind : (k : Head) → head_of s ≡ Ok k → head_unless k (refusal_of (releases_from (length s) s k.end k.table.present None 0)) ≡ file_head s
    unfolding file_head releases_of
    file_behind k e = rw (ne_eqb (length s) 0 some, e)

    pub file_refused : (r : Refusal) → head_of s ≡ Err r → Err r ≡ file_head s
    unfolding file_head releases_of
    file_refused r e = rw (ne_eqb (length s) 0 some, e)
