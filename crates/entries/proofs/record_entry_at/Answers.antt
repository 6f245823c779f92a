-- `entries::record_entry_at` meets its contract: the entry at a place is the one at the front of the rest from there, and that one by the tests on
-- the way to each answer. Assumes nothing.
use mathlib.Core.Path.{◌≡◌, refl, sym, ap, ◌∙◌}
use mathlib.Core.List.{List}
use Prim.Native.Nat.{ℕ, ◌-◌, ◌≤◌, ◌<◌}
use native.Mathlib.Omega.{arith}
use borrow.Author.Tests.{ne_eqb, le-leb, lt-leb}
use lib.ListN.{length}
use Rattle.words.specs.Words.{number_at}
use Rattle.words.proofs.Laws.{past}
use Rattle.entries.specs.Types.{Release, JobEntry, IntervalEntry, Ok, Err, CutShort, OtherKind, JobDone, IntervalEnded, ReleaseSkipped}
use Rattle.entries.specs.Entries.{size, release_at, job_at, interval_at, record_entry_at}
use Rattle.entries.proofs.Places.{rest, kind_is, job_is, interval_is, release_is}
use Rattle.entries.proofs.record_entry_at.Goals as goal

module _ (s : List ℕ) (at k : ℕ) (read : k ≡ number_at 1 (rest s at) 0) where
  is : (n : ℕ) → k ≡ n → number_at 1 s at ≡ n
  is n e = kind_is s at n (sym read ∙ e)

  a_job : (j : JobEntry) → k ≡ 16 → size 16 ≤ length s - at → j ≡ job_at (rest s at) 0 → Ok (JobDone j) ≡ record_entry_at s at
  unfolding record_entry_at
  a_job j e l f = rw (is 16 e, le-leb 27 (length s - at) l) (ap (λ x. Ok (JobDone x)) (f ∙ job_is s at))

  cut_job : k ≡ 16 → length s - at < size 16 → Err CutShort ≡ record_entry_at s at
  unfolding record_entry_at
  cut_job e l = rw (is 16 e, lt-leb 27 (length s - at) l)

  an_interval : (j : IntervalEntry) → k ≡ 17 → size 17 ≤ length s - at → j ≡ interval_at (rest s at) 0 → Ok (IntervalEnded j) ≡ record_entry_at s at
  unfolding record_entry_at
  an_interval j e l f = rw (is 17 e, le-leb 24 (length s - at) l) (ap (λ x. Ok (IntervalEnded x)) (f ∙ interval_is s at))

  cut_interval : k ≡ 17 → length s - at < size 17 → Err CutShort ≡ record_entry_at s at
  unfolding record_entry_at
  cut_interval e l = rw (is 17 e, lt-leb 24 (length s - at) l)

  a_skipped : (j : Release) → k ≡ 18 → size 18 ≤ length s - at → j ≡ release_at (rest s at) 0 → Ok (ReleaseSkipped j) ≡ record_entry_at s at
  unfolding record_entry_at
  a_skipped j e l f = rw (is 18 e, le-leb 10 (length s - at) l) (ap (λ x. Ok (ReleaseSkipped x)) (f ∙ release_is s at))

  cut_skipped : k ≡ 18 → length s - at < size 18 → Err CutShort ≡ record_entry_at s at
  unfolding record_entry_at
  cut_skipped e l = rw (is 18 e, lt-leb 10 (length s - at) l)

  no_kind : (k ≡ 16 → ⊥) → (k ≡ 17 → ⊥) → (k ≡ 18 → ⊥) → Err OtherKind ≡ record_entry_at s at
  unfolding record_entry_at
  no_kind a b c = let there : k ≡ number_at 1 s at = sym (is k refl) in rw (ne_eqb (number_at 1 s at) 16 (λ e. a (there ∙ e)), ne_eqb (number_at 1 s at) 17 (λ e. b (there ∙ e)), ne_eqb (number_at 1 s at) 18 (λ e. c (there ∙ e)))

behind_the_end : (s : List ℕ) (at : ℕ) → length s < at → Err OtherKind ≡ record_entry_at s at
unfolding record_entry_at
behind_the_end s at l = rw (past 1 s at (omega arith))

pub returns-then-s-at : goal.returns-then-s-at
returns-then-s-at c = let a = c.args in behind_the_end a.s.now a.at (omega (arith, c.if-s-at.true))

pub returns-in-16 : goal.returns-in-16
returns-in-16 c = let a = c.args in a_job a.s.now a.at _ c.get_u8.ensures _ c.in-16.is (omega (arith, c.if-rest-ge-JOB_SIZE.true)) c.front_job.ensures

pub returns-in-17 : goal.returns-in-17
returns-in-17 c = let a = c.args in an_interval a.s.now a.at _ c.get_u8.ensures _ c.in-17.is (omega (arith, c.if-rest-ge-INTERVAL_SIZE.true)) c.front_interval.ensures

pub returns-in-18 : goal.returns-in-18
returns-in-18 c = let a = c.args in a_skipped a.s.now a.at _ c.get_u8.ensures _ c.in-18.is (omega (arith, c.if-rest-ge-SKIPPED_SIZE.true)) c.front_release.ensures

pub returns-in-16-2 : goal.returns-in-16-2
returns-in-16-2 c = let a = c.args in cut_job a.s.now a.at _ c.get_u8.ensures c.in-16.is (omega (arith, c.if-rest-ge-JOB_SIZE.false))

pub returns-in-16-2-2 : goal.returns-in-16-2-2
returns-in-16-2-2 c = let a = c.args in cut_interval a.s.now a.at _ c.get_u8.ensures c.in-17.is (omega (arith, c.if-rest-ge-INTERVAL_SIZE.false))

pub returns-in-16-2-3 : goal.returns-in-16-2-3
returns-in-16-2-3 c = let a = c.args in cut_skipped a.s.now a.at _ c.get_u8.ensures c.in-18.is (omega (arith, c.if-rest-ge-SKIPPED_SIZE.false))

pub returns-in_default : goal.returns-in_default
returns-in_default c = let a = c.args in no_kind a.s.now a.at _ c.get_u8.ensures (λ e. omega (arith, e)) (λ e. omega (arith, e)) (λ e. omega (arith, e))
