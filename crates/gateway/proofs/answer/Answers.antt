-- The releases stand within the input.
use Rattle.std.proofs.Common.{sym, ◌∙◌}
use Rattle.run.proofs.Advancing.{releases_within}
use Rattle.gateway.proofs.answer.Goals as goal

pub print_run-requires : goal.print_run-requires
print_run-requires c = releases_within c.args.input.now _ (sym c.check_file.ensures ∙ c.in-Ok.is)
