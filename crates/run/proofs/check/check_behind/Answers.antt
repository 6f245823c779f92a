-- `run::check_behind` meets its contract: by what checking the releases found. Assumes nothing.
use mathlib.Core.Path.{sym, ap, ◌∙◌}
use Rattle.std.specs.Result.{result_err}
use Rattle.std.proofs.lemmas.Result.{err_from_is_err_and}
use Rattle.run.specs.Files.{head_unless}
use Rattle.run.proofs.check.check_behind.Goals as goal

pub returns-in_err-check_releases : goal.returns-in_err-check_releases
returns-in_err-check_releases c =
    let p = err_from_is_err_and c.from_residual.result c.from_residual.ensures.1 in
    rw (p.1, p.2) (ap (head_unless c.args.head) (sym (ap result_err c.in_err-check_releases.was) ∙ c.check_releases.ensures))

pub returns : goal.returns
returns c = ap (head_unless c.args.head) (sym (ap result_err c.in_ok-check_releases.was) ∙ c.check_releases.ensures)
