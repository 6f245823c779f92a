-- The releases that a record tells of: an entry of a job done has its task and its release's time, an entry of a release skipped its task
-- and its time. An interval tells of none. 4/13, "Support's reader must follow the new records": of a job whose release waited the entry
-- has the time at which the release came, so that it is attested as it was listed.
use Rattle.std.specs.Prelude.{leb, length, ◌∷◌, ◌+◌, ◌*◌, Result, Ok, Err}
use Rattle.entries.specs.Entries.{record_entry_at, record_entry_size}
use Rattle.run.specs.Files.{Checked, Rejected, Releases, with_release}
use Rattle.reading.specs.Types.{true, false, cond, List, [], ℕ, zero, suc, Release, AtEntry, JobEntry, RecordEntry, JobDone, IntervalEnded, ReleaseSkipped}
use Rattle.entries.specs.declared.Unreadable.{Unreadable}
use Rattle.entries.specs.Unreadable.{unreadable_number}

abbrev pub release_of : JobEntry → Release
release_of e = record { task = e.task; time = e.release }

-- an entry at a place, in front of what the entries behind it tell: a kind other than 16 to 18 is 2, a cut entry is 1
unfoldable pub attested_by : Result RecordEntry Unreadable → ℕ → Checked → Checked
attested_by (Err e) at behind = Rejected (AtEntry (unreadable_number e) at)
attested_by (Ok (JobDone e)) at behind = with_release (release_of e) behind
attested_by (Ok (IntervalEnded e)) at behind = behind
attested_by (Ok (ReleaseSkipped r)) at behind = with_release r behind

-- the entries from a place on, at most k of them: "trailing bytes count as a further entry"
unfoldable pub attested_from : ℕ → List ℕ → ℕ → Checked
attested_from zero s at = Releases []
attested_from (suc k) s at =
    elim (leb (length s) at) [
      | true ↦ Releases []
      | false ↦ let e : Result RecordEntry Unreadable = record_entry_at s at in attested_by e at (attested_from k s (at + record_entry_size e))
    ]

-- a record of some length has no more entries than bytes
abbrev pub attested : List ℕ → Checked
attested s = attested_from (length s) s 0

-- ---- Their order

-- by time and then task number, which is a byte
abbrev pub key : Release → ℕ
key r = r.time * 256 + r.task

unfoldable pub inserted : Release → List Release → List Release
inserted r [] = r ∷ []
inserted r (q ∷ qs) = cond (leb (key r) (key q)) (r ∷ q ∷ qs) (q ∷ inserted r qs)

unfoldable pub sorted : List Release → List Release
sorted [] = []
sorted (r ∷ rs) = inserted r (sorted rs)
