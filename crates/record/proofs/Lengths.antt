-- How long a record is: 27 bytes for each job done, 24 for each interval ended and 10 for each release skipped.
use mathlib.Core.Path.{◌≡◌, refl, ap, ◌∙◌}
use mathlib.Core.Bool.{Bool, true, false, cond}
use mathlib.Core.List.{List, [], ◌∷◌, ◌++◌}
use Prim.Native.Nat.{ℕ, zero, suc, ◌+◌, ◌*◌}
use native.Mathlib.Omega.{arith}
use lib.ListN.{length, length-append}
use Rattle.sets.specs.Sets.{member, bit, count, size}
use Rattle.entries.specs.Entries.{entry_bytes, each, record_entry_size}
use Rattle.entries.proofs.Each.{each_both, each_one, entry_size}
use Rattle.rules.specs.Entries.{done_entries, skipped_entries, closed_entries, entries}
use Rattle.record.specs.Types.{RecordEntry, JobDone, IntervalEnded, ReleaseSkipped, Occurred, Option, JobEntry, None, Some, Closing, Unclosed, BeforeReleases, AfterReleases}
use Rattle.run.specs.Run.{Moment, record_entries, record_bytes}
use Rattle.record.specs.FileClaim.{is_job, jobs_done}
use Rattle.std.specs.Prelude.{Ok}

abbrev pub is_interval : Closing → ℕ
is_interval Unclosed = 0
is_interval (BeforeReleases e) = 1
is_interval (AfterReleases e) = 1

-- how many entries of kind 17 a record has
unfoldable pub releases_skipped : List Moment → ℕ
releases_skipped [] = 0
releases_skipped (m ∷ ms) = size m.occurred.skipped + releases_skipped ms

unfoldable pub intervals_ended : List Moment → ℕ
intervals_ended [] = 0
intervals_ended (m ∷ ms) = is_interval m.occurred.closed + intervals_ended ms

module _ (e : RecordEntry) where
  length_one : length (each entry_bytes (e ∷ [])) ≡ record_entry_size (Ok e)
  length_one = ap length (each_one entry_bytes e) ∙ entry_size e

length_both : (xs ys : List RecordEntry) → length (each entry_bytes (xs ++ ys)) ≡ length (each entry_bytes xs) + length (each entry_bytes ys)
length_both xs ys = ap length (each_both entry_bytes xs ys) ∙ length-append (each entry_bytes xs) (each entry_bytes ys)

length_done : (o : Option JobEntry) → length (each entry_bytes (done_entries o)) ≡ 27 * is_job o
unfolding each
length_done None = refl
length_done (Some e) = length_one (JobDone e)

length_skips : (k set t : ℕ) → length (each entry_bytes (skipped_entries k set t)) ≡ 10 * count k (λ n. member n set)
unfolding skipped_entries count each
length_skips zero set t = refl
length_skips (suc k) set t =
    length_both (skipped_entries k set t) (last (member k set))
    ∙ go (member k set) (length (each entry_bytes (skipped_entries k set t))) (count k (λ n. member n set)) (length_skips k set t)
  where
    last : Bool → List RecordEntry
    last b = cond b (ReleaseSkipped (record { task = k; time = t }) ∷ []) []

    go : (b : Bool) (x y : ℕ) → x ≡ 10 * y → x + length (each entry_bytes (cond b (ReleaseSkipped (record { task = k; time = t }) ∷ []) [])) ≡ 10 * (y + bit b)
    go true x y h = omega (arith, length_one (ReleaseSkipped (record { task = k; time = t })))
    go false x y h = omega arith

length_closed : (c : Closing) (skips : List RecordEntry) → length (each entry_bytes (closed_entries c skips)) ≡ 24 * is_interval c + length (each entry_bytes skips)
length_closed Unclosed skips = omega arith
length_closed (BeforeReleases e) skips = omega (arith, length_both (IntervalEnded e ∷ []) skips, length_one (IntervalEnded e))
length_closed (AfterReleases e) skips = omega (arith, length_both skips (IntervalEnded e ∷ []), length_one (IntervalEnded e))

length_moment : (t : ℕ) (o : Occurred) → length (each entry_bytes (entries t o)) ≡ 27 * is_job o.done + 24 * is_interval o.closed + 10 * size o.skipped
unfolding entries size
length_moment t o =
    let skips : List RecordEntry = skipped_entries 32 o.skipped t in
    omega (
      arith,
      length_both (done_entries o.done) (closed_entries o.closed skips),
      length_done o.done,
      length_closed o.closed skips,
      length_skips 32 o.skipped t,
    )

pub length_record : (ms : List Moment) → length (record_bytes ms) ≡ 27 * jobs_done ms + 24 * intervals_ended ms + 10 * releases_skipped ms
unfolding record_bytes record_entries each jobs_done intervals_ended releases_skipped
length_record [] = refl
length_record (m ∷ ms) = omega (arith, length_both (entries m.time m.occurred) (record_entries ms), length_moment m.time m.occurred, length_record ms)
