-- The names that the definitions and the laws share: the declared types and their variants, and the library's.
pub use Rattle.table.specs.declared.Table.{Table}
pub use Rattle.rules.specs.State.{Clock, Unset, At, Closed, NoInterval, Span, Jobs, WaitingReleases, Processor, Idle, CopyingIn, Executing, Finished, CopyOut, NoCopyOut, CopyingOut, CopiedOut, CopyIn, Unchosen, NoneChosen, Copying, Loaded, Cancelled, Interval, Next, NoneNext, LoadedNext, PromotedNext, Outgoing, NoneOutgoing, AwaitsCopyOut, Phase, Between, Within, State, Stage}
pub use Rattle.rules.specs.Named.{Registers}
pub use Rattle.rules.specs.declared.ReleaseFates.{ReleaseFates}
pub use Rattle.rules.specs.declared.TasksAbove.{TasksAbove}
pub use Rattle.rules.specs.declared.View.{View}
pub use Rattle.entries.specs.declared.JobEntry.{JobEntry}
pub use Rattle.entries.specs.declared.IntervalEntry.{IntervalEntry}
pub use Rattle.entries.specs.declared.RecordEntry.{RecordEntry}
pub use Rattle.entries.specs.declared.RecordEntry.TheVariants.{JobDone, IntervalEnded, ReleaseSkipped}
pub use Rattle.rules.specs.declared.Closing.{Closing}
pub use Rattle.rules.specs.declared.Closing.TheVariants.{Unclosed, BeforeReleases, AfterReleases}
pub use Rattle.rules.specs.declared.Call.{Call}
pub use Rattle.rules.specs.declared.Call.TheVariants.{Instant, Mark, Marks}
pub use Rattle.rules.specs.declared.Occurred.{Occurred}
pub use Rattle.table.specs.declared.Refusal.{Refusal}
pub use Rattle.table.specs.declared.Refusal.TheVariants.{Alone, AtEntry}
pub use Rattle.table.specs.declared.Head.{Head}
pub use Rattle.std.specs.Prelude.{Result, Ok, Err, ⊤, ◌≡◌, refl, Bool, true, false, cond, not, ◌&&◌, ◌||◌, List, [], ◌∷◌, ◌++◌, ◌⊎◌, ℕ, zero, suc, ◌+◌, ◌-◌, ◌^◌, ◌≤◌, ◌<◌, min, Option, None, Some}
pub use Rattle.std.proofs.Common.{sym, ap, ◌∙◌, subst, inl, inr, ⊎_elim}
pub use Rattle.rules.specs.Refusals.{Answer, MarkAnswer}
