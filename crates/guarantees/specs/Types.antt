-- The names that the definitions and the laws share. Those that lower crates declare are passed on to the crates above.
pub use Rattle.dispatcher.specs.Types.{Call, Instant, Mark, Marks, Table, Jobs, WaitingReleases, Processor, Idle, CopyingIn, Executing, Finished, CopyOut, NoCopyOut, CopyingOut, CopiedOut, CopyIn, Unchosen, NoneChosen, Copying, Loaded, Cancelled, Interval, Next, NoneNext, LoadedNext, PromotedNext, Outgoing, NoneOutgoing, AwaitsCopyOut, Phase, Between, Within, State, Stage, Clock, Unset, At, Option, None, Some, Closed, NoInterval, Span, Ok, Refusal, Alone, AtEntry, Head, JobEntry, IntervalEntry, Closing, Unclosed, BeforeReleases, AfterReleases, Occurred, Answer, Err}
pub use Rattle.rules.specs.Calls.{Step}
pub use Rattle.std.specs.Prelude.{◌≡◌, refl, Bool, true, false, cond, not, ◌&&◌, ◌||◌, List, [], ◌∷◌, ◌++◌, ◌⊎◌, ◌↔◌, ℕ, zero, suc, ◌+◌, ◌-◌, ◌*◌, ◌^◌, ◌≤◌, ◌<◌, min}
pub use Rattle.std.proofs.Common.{sym, ap, ◌∙◌, subst, true≢false, append_assoc, inl, inr, ⊎_elim}
pub use Rattle.std.proofs.lemmas.Bool.{false≢true}
