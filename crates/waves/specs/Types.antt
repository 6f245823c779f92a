-- The names that the definitions share.
pub use Rattle.record.specs.Types.{Result, Ok, Err, Outcome, Bool, true, false, cond, List, [], ℕ, State, Release, Head}
pub use Rattle.record.specs.declared.Unwritten.{Unwritten}
pub use Rattle.record.specs.declared.Unwritten.TheVariants.{RefusedInput, TooShort}
pub use Rattle.rules.specs.View.{Values}
pub use Rattle.waves.specs.declared.Shown.{Shown}
pub use Rattle.waves.specs.declared.writing.Drawn.{Drawn}
