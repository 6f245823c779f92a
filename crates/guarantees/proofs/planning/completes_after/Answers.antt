-- `guarantees::planning::completes_after` meets its contract: so many intervals of at most M, and the task's copy-out. Assumes nothing.
use Rattle.std.proofs.Common.{◌≡◌, ◌+◌, ◌-◌, ◌*◌, ◌^◌}
use Rattle.guarantees.specs.Types.{◌∙◌, ℕ, min}
use Rattle.guarantees.proofs.planning.completes_after.Goals as goal

of_these : {r k m u k' m' u' : ℕ} → r ≡ min (k * m + u) (2 ^ 64 - 1) → k ≡ k' → m ≡ m' → u ≡ u' → r ≡ min (k' * m' + u') (2 ^ 64 - 1)
of_these e a b c = e ∙ rw (a, b, c)

pub returns : goal.returns
returns c = of_these c.held.ensures c.intervals_by.ensures c.longest_interval-longest.ensures (c.from.ensures ∙ c.copyout_length-length.ensures)
