-- The names that the definitions share. Those that lower crates declare are passed on to the crates above.
pub use Rattle.rules.specs.Types.{Closed, NoInterval, Span, Table, Head, Refusal, Alone, AtEntry, JobEntry, IntervalEntry, RecordEntry, JobDone, IntervalEnded, ReleaseSkipped, State, WaitingReleases, Stage, Interval, Phase, Between, Within}
pub use Rattle.rules.specs.declared.Closing.{Closing}
pub use Rattle.rules.specs.declared.Closing.TheVariants.{Unclosed, BeforeReleases, AfterReleases}
pub use Rattle.rules.specs.declared.Occurred.{Occurred}
pub use Rattle.rules.specs.Calls.{Step}
pub use Rattle.entries.specs.declared.TaskParameters.{TaskParameters}
pub use Rattle.entries.specs.declared.Release.{Release}
pub use Rattle.entries.specs.declared.Spacing.{Spacing}
pub use Rattle.entries.specs.declared.Entry.{Entry}
pub use Rattle.entries.specs.declared.Unreadable.{Unreadable}
pub use Rattle.entries.specs.declared.Unreadable.TheVariants.{CutShort, OtherKind}
pub use Rattle.entries.specs.declared.Entry.TheVariants.{TaskEntry, ReleaseEntry, SpacingEntry}
pub use Rattle.run.specs.declared.releases.Batch.{Batch}
pub use Rattle.run.specs.declared.Advanced.{Advanced}
pub use Rattle.std.specs.Prelude.{Result, Ok, Err, Bool, true, false, cond, not, ◌&&◌, ◌||◌, List, [], ◌∷◌, ◌++◌, ℕ, zero, suc, ◌+◌, ◌-◌, ◌*◌, ◌^◌, ◌≤◌, Option, None, Some}
pub use Rattle.rules.specs.Refusals.{Answer}
