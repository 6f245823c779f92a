-- The releases stand within the input.
use Rattle.std.proofs.Common.{sym, ◌∙◌}
use Rattle.run.proofs.Advancing.{releases_within}
use Rattle.recorder.proofs.answer.Goals as goal

pub write_run-requires-clause-end_in_bounds : goal.write_run-requires-clause-end_in_bounds
write_run-requires-clause-end_in_bounds c = releases_within c.args.input.now _ (sym c.check_file.ensures ∙ c.in-Ok.is)
