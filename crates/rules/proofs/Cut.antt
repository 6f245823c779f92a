-- Opening from the front of the opening bytes. Assumes nothing.
use mathlib.Core.Path.{ap}
use Rattle.table.proofs.Alone.{alone_in_front}
use Rattle.rules.specs.Calls.{opened_from, opening}
use Rattle.rules.specs.Cut.{OpensFromFront}

pub opens_from_front : OpensFromFront
unfolding OpensFromFront opening
opens_from_front s = ap opened_from (alone_in_front s)
