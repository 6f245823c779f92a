-- The declared types and their variants, under their own names.
pub use Rattle.rules.specs.Types.{State, Result, Ok, Err}
pub use Rattle.rules.specs.declared.Call.TheVariants.{Instant, Mark, Marks}
pub use Rattle.entries.specs.declared.CallEntry.{CallEntry}
pub use Rattle.entries.specs.declared.Unreadable.{Unreadable}
pub use Rattle.entries.specs.declared.Unreadable.TheVariants.{CutShort, OtherKind}
pub use Rattle.entries.specs.declared.CallEntry.TheVariants.{InstantCall, MarkCall, EnquiryCall, CommitCall, MarksCall}
pub use Rattle.call_entries.specs.declared.Answered.{Answered}
