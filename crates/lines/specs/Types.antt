-- The declared types and their variants, under their own names.
pub use Rattle.rules.specs.Types.{Option, None, Some, JobEntry, IntervalEntry, RecordEntry, JobDone, IntervalEnded, ReleaseSkipped, Refusal, Alone, AtEntry}
pub use Rattle.rules.specs.declared.Closing.{Closing}
pub use Rattle.rules.specs.declared.Closing.TheVariants.{Unclosed, BeforeReleases, AfterReleases}
pub use Rattle.std.specs.Prelude.{Result, Ok, Err, ⊤, Option, None, Some}
pub use Rattle.rules.specs.declared.Occurred.{Occurred}
pub use Rattle.lines.specs.declared.Text.{Text}
pub use Rattle.rules.specs.Refusals.{Answer, MarkAnswer}
