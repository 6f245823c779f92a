-- The releases stand within the input.
use Rattle.std.proofs.Common.{sym, ◌∙◌}
use Rattle.run.proofs.Advancing.{releases_within}
use Rattle.reader.proofs.yields.Goals as goal

pub replays-requires : goal.replays-requires
replays-requires c = releases_within c.args.list.now _ (sym c.check_file.ensures ∙ c.in-Ok.is)
