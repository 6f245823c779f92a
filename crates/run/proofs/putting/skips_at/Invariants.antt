use mathlib.Core.Path.{◌≡◌}
use lib.ListN.{length}
use Rattle.sets.specs.Sets.{lowest}
use Rattle.rules.proofs.Members.{Left}
use Rattle.rules.specs.Entries.{skipped_entries}
use Rattle.run.specs.Putting.{Puts}
use Rattle.run.proofs.putting.skips_at.Given as goal

abbrev pub invariant-loop-n : goal.invariant-loop-n
invariant-loop-n l =
    Left l.set l.n-iterator.left × Puts l.start (skipped_entries (lowest l.n-iterator.left) l.set l.time) l.initial.out l.at l.out × (length l.out ≡ length l.initial.out)
