-- `reading::listing::read_checked` meets its contract: by what reading the head alone finds. Assumes nothing.
use mathlib.Core.Path.{sym, ◌∙◌}
use Rattle.std.proofs.lemmas.Result.{err_from_is_err_and}
use Rattle.reading.proofs.Inputs.{refusal_is, opened_head}
use Rattle.reading.proofs.Outcomes.{not_opened, opened}
use Rattle.reading.proofs.listing.read_checked.Goals as goal

pub read_opened-requires : goal.read_opened-requires
read_opened-requires c = opened_head c.args.tasks.now _ (sym c.head_alone.ensures ∙ c.in_ok-head.was)

pub returns-in_err-head : goal.returns-in_err-head
returns-in_err-head c =
    let a = c.args in
    let p = err_from_is_err_and c.from_residual.result c.from_residual.ensures.1 in
    rw (p.1, p.2) (not_opened a.tasks.now a.stored.now a.out.now _ (refusal_is a.tasks.now _ (sym c.head_alone.ensures ∙ c.in_err-head.was)))

pub returns : goal.returns
returns c =
    let a = c.args in
    opened a.tasks.now a.stored.now a.out.now (opened_head a.tasks.now _ (sym c.head_alone.ensures ∙ c.in_ok-head.was)).opens c.read_opened.ensures
