-- `waves::writing::write_file` meets its contract: by what checking the file found. Assumes nothing.
use mathlib.Core.Path.{sym, ◌∙◌}
use Rattle.std.proofs.lemmas.Result.{err_from_is_err_and}
use Rattle.record.proofs.Outcomes.{accepted_whole, runs_whole, refused_whole}
use Rattle.waves.proofs.Outcomes.{refused, whole_file}
use Rattle.waves.proofs.writing.write_file.Goals as goal

pub write_run-requires : goal.write_run-requires
write_run-requires c = runs_whole _ _ (sym c.check_file.ensures ∙ c.in_ok-part.was)

pub returns-in_err-part : goal.returns-in_err-part
returns-in_err-part c =
    let a = c.args in
    let p = err_from_is_err_and c.from_residual.result c.from_residual.ensures.1 in
    rw (p.1, p.2) (refused a.s.now a.out.now _ (refused_whole a.s.now a.out.now _ (sym c.check_file.ensures ∙ c.in_err-part.was)))

pub returns : goal.returns
returns c =
    let a = c.args in
    rw (whole_file a.s.now _ (accepted_whole a.s.now _ (sym c.check_file.ensures ∙ c.in_ok-part.was)) a.out.now) c.write_run.ensures
