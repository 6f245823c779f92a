-- The declared types and their variants, under their own names.
pub use Rattle.entries.specs.declared.Release.{Release}
pub use Rattle.entries.specs.declared.JobEntry.{JobEntry}
pub use Rattle.entries.specs.declared.IntervalEntry.{IntervalEntry}
pub use Rattle.entries.specs.declared.RecordEntry.{RecordEntry}
pub use Rattle.entries.specs.declared.Unreadable.{Unreadable}
pub use Rattle.entries.specs.declared.RecordEntry.TheVariants.{JobDone, IntervalEnded, ReleaseSkipped}
pub use Rattle.lines.specs.declared.Text.{Text}
