-- The names that the definitions share. Those that lower crates declare are passed on to the crates above.
pub use Rattle.guarantees.specs.Types.{JobEntry, IntervalEntry, Table, Head, Refusal, Alone, AtEntry, State, WaitingReleases, Stage, Interval, Phase, Between, Within, Closed, NoInterval, Span, Clock, Unset, At, Option, None, Some, Closing, Unclosed, BeforeReleases, AfterReleases, Occurred, Answer, Err, Ok}
pub use Rattle.run.specs.Types.{RecordEntry, JobDone, IntervalEnded, ReleaseSkipped, TaskParameters, Release, Spacing, Entry, TaskEntry, ReleaseEntry, SpacingEntry}
pub use Rattle.pieces.specs.declared.Piece.{Piece}
pub use Rattle.rules.specs.Calls.{Step}
pub use Rattle.record.specs.declared.Unwritten.{Unwritten}
pub use Rattle.record.specs.declared.Unwritten.TheVariants.{RefusedInput, TooShort}
pub use Rattle.std.specs.Prelude.{Option, None, Some, Result, Ok, Err, Bool, true, false, cond, not, ◌&&◌, ◌||◌, List, [], ◌∷◌, ◌++◌, ℕ, zero, suc, ◌+◌, ◌*◌}

-- what comes of an input and a lent slice: the length of what was written, or why nothing was
abbrev pub Outcome : Type 0
Outcome = Result ℕ Unwritten
