-- `run::check_file` meets its contract: by what reading the head found. Assumes nothing.
use mathlib.Core.Path.{sym, ◌∙◌}
use Rattle.std.proofs.lemmas.Result.{err_from_is_err_and}
use borrow.Author.Tests.{eqb-true, eqb-false}
use Rattle.run.proofs.Checking.{file_empty, file_behind, file_refused}
use Rattle.run.proofs.check.check_file.Goals as goal

pub returns-then-is_empty : goal.returns-then-is_empty
returns-then-is_empty c = file_empty c.args.s.now (eqb-true _ _ (sym c.is_empty.ensures ∙ c.if-is_empty.true))

pub returns-in_err-head_of : goal.returns-in_err-head_of
returns-in_err-head_of c =
    let p = err_from_is_err_and c.from_residual.result c.from_residual.ensures.1 in
    rw (p.1, p.2) (file_refused c.args.s.now (eqb-false _ _ (sym c.is_empty.ensures ∙ c.if-is_empty.false)) _ (sym c.head_of.ensures ∙ c.in_err-head_of.was))

pub returns : goal.returns
returns c =
    c.check_behind.ensures
    ∙ file_behind c.args.s.now (eqb-false _ _ (sym c.is_empty.ensures ∙ c.if-is_empty.false)) _ (sym c.head_of.ensures ∙ c.in_ok-head_of.was)
