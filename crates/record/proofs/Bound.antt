-- No record is longer than `record_each` bytes for each release of its file: one that is taken has a job done and at most three intervals; one that is
-- skipped has less.
use mathlib.Core.Path.{◌≡◌, refl}
use mathlib.Core.List.{List}
use Prim.Native.Nat.{ℕ, ◌*◌, ◌≤◌}
use native.Mathlib.Omega.{arith}
use lib.ListN.{length}
use Rattle.entries.specs.Limits as limits
use Rattle.table.specs.Head.{head_read, head_of}
use Rattle.rules.specs.Calls.{opened}
use Rattle.guarantees.specs.Types.{Table, State}
use Rattle.guarantees.proofs.Count.{at_most_three}
use Rattle.record.specs.Types.{Release}
use Rattle.run.specs.Files.{Releases, releases_of}
use Rattle.run.specs.Run.{record_bytes, moments_of}
use Rattle.record.proofs.Accepted.{Accepted, accepted}
use Rattle.record.proofs.Lengths.{length_record}
use Rattle.record.proofs.Ends.{is_open}
use Rattle.record.proofs.Feeding.{Fed}
use Rattle.record.proofs.FileClaim.{fed, completed, releases_so}

none_open : (table : Table) (marks : ℕ) → is_open (opened table marks).phase ≡ 0
unfolding opened
none_open table marks = refl

pub record_bound : (s : List ℕ) (rs : List Release) → releases_of s ≡ Releases rs → length (record_bytes (moments_of s rs)) ≤ limits.record_each * length rs
record_bound s rs h =
    let a : Accepted s rs = accepted s rs h in
    let d : State = opened (head_read (head_of s)).table (head_read (head_of s)).marked in
    let f : Fed (limits.budget (length rs)) d rs (moments_of s rs) = fed s rs a in
    omega (
      arith,
      length_record (moments_of s rs),
      releases_so s rs a,
      f.jobs,
      f.intervals,
      (completed s rs a).as_many,
      none_open (head_read (head_of s)).table (head_read (head_of s)).marked,
      at_most_three (head_read (head_of s)).table (head_read (head_of s)).marked f.calls,
    )
