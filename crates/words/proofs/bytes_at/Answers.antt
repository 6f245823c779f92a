-- `words::bytes_at` meets its contract: what is left of a slice, and 0 behind it. Assumes nothing.
use mathlib.Core.Path.{◌≡◌}
use Rattle.std.proofs.Common.{arith, drop}
use Rattle.std.proofs.lemmas.Grind.{common_steps}
use Rattle.words.proofs.Laws.{left_padded}
use Rattle.words.proofs.bytes_at.Goals as goal

pub returns-in-None : goal.returns-in-None
returns-in-None g c =
    let e : c.unwrap_or-rest.result.now ≡ drop c.args.at c.args.s.now = grind (arith, common_steps) in
    λ k l. rw (c.copy.ensures.after, e) (left_padded g.row.N _ c.args.at k c.args.s.now)
