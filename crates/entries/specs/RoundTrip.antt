-- An entry that was written is taken apart again as the same entry.
use Rattle.std.specs.Prelude.{◌≡◌, List, ◌++◌, ℕ, ◌^◌, ◌<◌, length}
use Rattle.entries.specs.Types.{Option, None, Some, Release, ReleaseEntry, JobEntry, IntervalEntry, Ok, RecordEntry, JobDone, IntervalEnded, ReleaseSkipped}
use Rattle.entries.specs.Entries.{release_bytes, entry_at, entry_bytes, record_entry_at}

-- ---- Numbers that fit their fields: a time has 8 bytes, and no task has the number that stands for none

unfoldable pub TaskFits : Option ℕ → Type 0
TaskFits None = Unit {0}
TaskFits (Some n) = n ≡ 255 → ⊥

pub record JobFits (e : JobEntry) : Type 0 where
  pub release_fits : e.release < 256 ^ 8
  pub start_fits : e.start < 256 ^ 8
  pub completion_fits : e.completion < 256 ^ 8

pub record IntervalFits (e : IntervalEntry) : Type 0 where
  pub begin_fits : e.begin < 256 ^ 8
  pub end_fits : e.end < 256 ^ 8
  pub task_fits : TaskFits e.task
  pub copiedout_fits : TaskFits e.copiedout
  pub chosen_fits : TaskFits e.chosen
  pub promoted_fits : TaskFits e.promoted

unfoldable pub EntryFits : RecordEntry → Type 0
EntryFits (JobDone e) = JobFits e
EntryFits (IntervalEnded e) = IntervalFits e
EntryFits (ReleaseSkipped r) = r.time < 256 ^ 8

-- ---- The claim

-- bytes at any place, with any bytes before and behind them, are an entry
abbrev pub ReadAs : List ℕ → RecordEntry → Type 0
ReadAs bytes e = (front rest : List ℕ) → record_entry_at (front ++ (bytes ++ rest)) (length front) ≡ Ok e

pub record RoundTrip : Type 0 where
  pub entry : (e : RecordEntry) → EntryFits e → ReadAs (entry_bytes e) e
  -- and a release entry of an input
  pub release : (r : Release) → r.time < 256 ^ 8 → (front rest : List ℕ) →
      entry_at (front ++ (release_bytes r ++ rest)) (length front) ≡ Ok (ReleaseEntry r)
