-- The names that the definitions and the proofs share. Those that lower crates declare are passed on to the crates above.
pub use Rattle.rules.specs.Types.{Clock, Unset, At, Closed, NoInterval, Span, Table, Jobs, WaitingReleases, Processor, Idle, CopyingIn, Executing, Finished, CopyOut, NoCopyOut, CopyingOut, CopiedOut, CopyIn, Unchosen, NoneChosen, Copying, Loaded, Cancelled, Interval, Next, NoneNext, LoadedNext, PromotedNext, Outgoing, NoneOutgoing, AwaitsCopyOut, Phase, Between, Within, State, Stage, Option, None, Some, JobEntry, IntervalEntry, Refusal, Alone, AtEntry, Head}
pub use Rattle.rules.specs.declared.Closing.{Closing}
pub use Rattle.rules.specs.declared.Closing.TheVariants.{Unclosed, BeforeReleases, AfterReleases}
pub use Rattle.rules.specs.declared.Call.{Call}
pub use Rattle.rules.specs.declared.Call.TheVariants.{Instant, Mark, Marks}
pub use Rattle.rules.specs.declared.Occurred.{Occurred}
pub use Rattle.dispatcher.specs.declared.Dispatcher.{Dispatcher}
pub use Rattle.dispatcher.specs.declared.Step.{Step}
pub use Rattle.dispatcher.specs.declared.Enquiry.{Enquiry}
pub use Rattle.dispatcher.specs.declared.MarkStep.{MarkStep}
pub use Rattle.std.specs.Prelude.{Result, Ok, Err, ◌≡◌, refl, cond, List, ℕ, Option, None, Some}
pub use Rattle.std.proofs.Common.{sym, ◌∙◌, ⊎_elim}
pub use Rattle.rules.specs.Refusals.{Answer}
