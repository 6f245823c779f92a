-- An entry at a place of a slice: the same read in the rest from there, the same behind bytes in front, and no longer than what is left. Assumes
-- nothing.
use mathlib.Core.Path.{◌≡◌, refl, sym, ap, ◌∙◌}
use mathlib.Core.Bool.{Bool, true, false, cond}
use mathlib.Core.List.{List, ◌++◌}
use Prim.Native.Nat.{ℕ, ◌+◌, ◌-◌, ◌≤◌}
use native.Mathlib.Nat.{add_assoc, add-zero}
use native.Mathlib.Omega.{arith}
use borrow.Author.Tests.{leb-true}
use lib.Dec.{eqb, leb}
use lib.ListN.{length, take, drop, length-append}
use Rattle.words.specs.Words.{number_at}
use Rattle.words.proofs.Laws.{behind, read_in_rest}
use Rattle.entries.specs.Types.{Result, Ok, Err, Unreadable, CutShort, OtherKind, RecordEntry, JobDone, IntervalEnded, ReleaseSkipped}
use Rattle.entries.specs.Entries.{size, task_at, release_at, spacing_at, job_at, interval_at, record_entry_at, record_entry_size}

-- ---- In the rest from a place on

module _ (s : List ℕ) (at : ℕ) where
  abbrev pub rest : List ℕ
  rest = take (length s - at) (drop at s)

  pub kind_is : (k : ℕ) → number_at 1 rest 0 ≡ k → number_at 1 s at ≡ k
  kind_is k e = sym (read_in_rest 1 at 0 s ∙ ap (number_at 1 s) (add-zero at)) ∙ e

  pub task_is : task_at rest 0 ≡ task_at s at
  unfolding task_at
  task_is = rw (read_in_rest 1 at 1 s, read_in_rest 1 at 2 s, read_in_rest 1 at 3 s, read_in_rest 4 at 4 s, read_in_rest 4 at 8 s, read_in_rest 4 at 12 s)

  pub release_is : release_at rest 0 ≡ release_at s at
  unfolding release_at
  release_is = rw (read_in_rest 1 at 1 s, read_in_rest 8 at 2 s)

  pub spacing_is : spacing_at rest 0 ≡ spacing_at s at
  unfolding spacing_at
  spacing_is = rw (read_in_rest 1 at 1 s, read_in_rest 4 at 2 s)

  pub job_is : job_at rest 0 ≡ job_at s at
  unfolding job_at
  job_is = rw (read_in_rest 1 at 1 s, read_in_rest 8 at 2 s, read_in_rest 8 at 10 s, read_in_rest 8 at 18 s, read_in_rest 1 at 26 s)

  pub interval_is : interval_at rest 0 ≡ interval_at s at
  unfolding interval_at
  interval_is =
      rw (
        read_in_rest 8 at 1 s,
        read_in_rest 8 at 9 s,
        read_in_rest 1 at 17 s,
        read_in_rest 1 at 18 s,
        read_in_rest 1 at 19 s,
        read_in_rest 1 at 20 s,
        read_in_rest 1 at 21 s,
        read_in_rest 1 at 22 s,
        read_in_rest 1 at 23 s,
      )

-- ---- Bytes in front move the place

module _ (front s : List ℕ) where
  there : (w at k : ℕ) → number_at w (front ++ s) (length front + at + k) ≡ number_at w s (at + k)
  there w at k = ap (number_at w (front ++ s)) (add_assoc (length front) at k) ∙ behind w front s (at + k)

  job_behind : (at : ℕ) → job_at (front ++ s) (length front + at) ≡ job_at s at
  unfolding job_at
  job_behind at = rw (there 1 at 1, there 8 at 2, there 8 at 10, there 8 at 18, there 1 at 26)

  interval_behind : (at : ℕ) → interval_at (front ++ s) (length front + at) ≡ interval_at s at
  unfolding interval_at
  interval_behind at =
      rw (there 8 at 1, there 8 at 9, there 1 at 17, there 1 at 18, there 1 at 19, there 1 at 20, there 1 at 21, there 1 at 22, there 1 at 23)

  pub release_behind : (at : ℕ) → release_at (front ++ s) (length front + at) ≡ release_at s at
  unfolding release_at
  release_behind at = rw (there 1 at 1, there 8 at 2)

  pub left_behind : (at : ℕ) → length (front ++ s) - (length front + at) ≡ length s - at
  left_behind at = omega (arith, length-append front s)

  pub entry_behind : (at : ℕ) → record_entry_at (front ++ s) (length front + at) ≡ record_entry_at s at
  unfolding record_entry_at
  entry_behind at = rw (behind 1 front s at, left_behind at, job_behind at, interval_behind at, release_behind at)

-- ---- An entry of a record stands within the bytes

-- by the value of a test
either : (b : Bool) (x y : Result RecordEntry Unreadable) (n : ℕ) → (b ≡ true → record_entry_size x ≤ n) → record_entry_size y ≤ n → record_entry_size (cond b x y) ≤ n
either true x y n p q = p refl
either false x y n p q = q

whole : (k : ℕ) (x : Result RecordEntry Unreadable) (n : ℕ) → record_entry_size x ≡ k → record_entry_size (cond (leb k n) x (Err CutShort)) ≤ n
whole k x n e = either (leb k n) x (Err CutShort) n (λ f. omega (arith, e, leb-true k n f)) (omega arith)

pub entry_within : (s : List ℕ) (at : ℕ) → record_entry_size (record_entry_at s at) ≤ length s - at
unfolding record_entry_at
entry_within s at =
    let kind : ℕ = number_at 1 s at in
    let n : ℕ = length s - at in
    let job : Result RecordEntry Unreadable = Ok (JobDone (job_at s at)) in
    let interval : Result RecordEntry Unreadable = Ok (IntervalEnded (interval_at s at)) in
    let skip : Result RecordEntry Unreadable = Ok (ReleaseSkipped (release_at s at)) in
    let skipped : Result RecordEntry Unreadable = cond (eqb kind 18) (cond (leb (size 18) n) skip (Err CutShort)) (Err OtherKind) in
    let ended : Result RecordEntry Unreadable = cond (eqb kind 17) (cond (leb (size 17) n) interval (Err CutShort)) skipped in
    either (eqb kind 16) (cond (leb (size 16) n) job (Err CutShort)) ended n (λ e. whole (size 16) job n refl)
    (either (eqb kind 17) (cond (leb (size 17) n) interval (Err CutShort)) skipped n (λ e. whole (size 17) interval n refl)
    (either (eqb kind 18) (cond (leb (size 18) n) skip (Err CutShort)) (Err OtherKind) n (λ e. whole (size 18) skip n refl) (omega arith)))
