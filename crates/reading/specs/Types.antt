-- The names that the definitions share. Those that lower crates declare are passed on to the crates above.
pub use Rattle.record.specs.Types.{Bool, true, false, cond, List, [], ℕ, zero, suc, Release, Refusal, Alone, AtEntry, JobEntry, IntervalEntry, Option, None, Some, Occurred, Result, Ok, Err, Outcome}
pub use Rattle.record.specs.declared.Unwritten.{Unwritten}
pub use Rattle.record.specs.declared.Unwritten.TheVariants.{RefusedInput, TooShort}
pub use Rattle.entries.specs.declared.RecordEntry.{RecordEntry}
pub use Rattle.entries.specs.declared.RecordEntry.TheVariants.{JobDone, IntervalEnded, ReleaseSkipped}
