-- The declared types and their variants, under their own names.
pub use Rattle.std.specs.Prelude.{Option, None, Some, Result, Ok, Err}
pub use Rattle.entries.specs.declared.TaskParameters.{TaskParameters}
pub use Rattle.entries.specs.declared.Release.{Release}
pub use Rattle.entries.specs.declared.Spacing.{Spacing}
pub use Rattle.entries.specs.declared.Entry.{Entry}
pub use Rattle.entries.specs.declared.Entry.TheVariants.{TaskEntry, ReleaseEntry, SpacingEntry}
pub use Rattle.entries.specs.declared.JobEntry.{JobEntry}
pub use Rattle.entries.specs.declared.IntervalEntry.{IntervalEntry}
pub use Rattle.entries.specs.declared.RecordEntry.{RecordEntry}
pub use Rattle.entries.specs.declared.RecordEntry.TheVariants.{JobDone, IntervalEnded, ReleaseSkipped}
pub use Rattle.entries.specs.declared.CallEntry.{CallEntry}
pub use Rattle.entries.specs.declared.Unreadable.{Unreadable}
pub use Rattle.entries.specs.declared.Unreadable.TheVariants.{CutShort, OtherKind}
pub use Rattle.entries.specs.declared.CallEntry.TheVariants.{InstantCall, MarkCall, EnquiryCall, CommitCall, MarksCall}
