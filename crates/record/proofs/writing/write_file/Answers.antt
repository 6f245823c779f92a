-- `record::write_file` meets its contract: by what checking the file found. Assumes nothing.
use mathlib.Core.Path.{sym, ◌∙◌}
use Rattle.std.proofs.lemmas.Result.{err_from_is_err_and}
use Rattle.record.proofs.Outcomes.{runs_whole, record_whole, refused_whole}
use Rattle.record.proofs.writing.write_file.Goals as goal

pub write_run-requires : goal.write_run-requires
write_run-requires c = runs_whole _ _ (sym c.check_file.ensures ∙ c.in_ok-head.was)

pub returns-in_err-head : goal.returns-in_err-head
returns-in_err-head c =
    let p = err_from_is_err_and c.from_residual.result c.from_residual.ensures.1 in
    rw (p.1, p.2) (refused_whole c.args.s.now c.args.out.now _ (sym c.check_file.ensures ∙ c.in_err-head.was))

pub returns : goal.returns
returns c = rw (record_whole c.args.s.now _ (sym c.check_file.ensures ∙ c.in_ok-head.was) c.args.out.now) c.write_run.ensures
