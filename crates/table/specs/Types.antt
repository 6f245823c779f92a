-- The declared types and their variants, under their own names.
pub use Rattle.entries.specs.declared.TaskParameters.{TaskParameters}
pub use Rattle.entries.specs.declared.Release.{Release}
pub use Rattle.entries.specs.declared.Spacing.{Spacing}
pub use Rattle.entries.specs.declared.Entry.{Entry}
pub use Rattle.entries.specs.declared.Unreadable.{Unreadable}
pub use Rattle.entries.specs.declared.Unreadable.TheVariants.{CutShort, OtherKind}
pub use Rattle.entries.specs.declared.Entry.TheVariants.{TaskEntry, ReleaseEntry, SpacingEntry}
pub use Rattle.table.specs.declared.Table.{Table}
pub use Rattle.table.specs.declared.Fault.{Fault}
pub use Rattle.table.specs.declared.Fault.TheVariants.{OutOfPlace, TaskNumber, Mark, Length, UnknownTask, NotRising, TooLate, TooMany, Spacing as SpacingFault}
pub use Rattle.table.specs.declared.Refusal.{Refusal}
pub use Rattle.table.specs.declared.Refusal.TheVariants.{Alone, AtEntry}
pub use Rattle.table.specs.declared.Head.{Head}
