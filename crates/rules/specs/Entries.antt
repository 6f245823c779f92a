-- The entries that an instant leaves in a record, in the order in which things occur: kind 16 at step a, kind 17 at the interval's end,
-- kind 18 at step c by rising task number. Bytes and printed lines are made of them one by one.
use Rattle.std.specs.Prelude.{◌∷◌, ◌++◌}
use Rattle.rules.specs.Types.{cond, List, [], ℕ, zero, suc, RecordEntry, JobDone, IntervalEnded, ReleaseSkipped, Option, JobEntry, None, Some, Closing, Unclosed, BeforeReleases, AfterReleases, Occurred}
use Rattle.sets.specs.Sets.{member}

abbrev pub done_entries : Option JobEntry → List RecordEntry
done_entries None = []
done_entries (Some e) = JobDone e ∷ []

unfoldable pub skipped_entries : ℕ → ℕ → ℕ → List RecordEntry
skipped_entries zero set t = []
skipped_entries (suc k) set t = skipped_entries k set t ++ cond (member k set) (ReleaseSkipped (record { task = k; time = t }) ∷ []) []

-- an interval that ends at step b stands before the skipped releases, one that ends at step f behind them
abbrev pub closed_entries : Closing → List RecordEntry → List RecordEntry
closed_entries Unclosed skips = skips
closed_entries (BeforeReleases e) skips = IntervalEnded e ∷ skips
closed_entries (AfterReleases e) skips = skips ++ (IntervalEnded e ∷ [])

-- of what occurred at a time
unfoldable pub entries : ℕ → Occurred → List RecordEntry
entries t o = done_entries o.done ++ closed_entries o.closed (skipped_entries 32 o.skipped t)
