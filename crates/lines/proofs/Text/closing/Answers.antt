-- `lines::Text::closing` meets its contract: by cases. Assumes nothing.
use Rattle.entries.specs.Entries.{each}
use Rattle.lines.specs.Types.{IntervalEnded}
use Rattle.lines.proofs.Laws.{nothing, one_entry}
use Rattle.lines.proofs.Text.closing.Goals as goal

pub returns-in-Unclosed : goal.returns-in-Unclosed
unfolding each
returns-in-Unclosed c = rw c.in-Unclosed.is (nothing c.args.self 72)

pub returns-in-BeforeReleases : goal.returns-in-BeforeReleases
returns-in-BeforeReleases c = rw c.in-BeforeReleases.is (one_entry (IntervalEnded _) c.interval.ensures)

pub returns-in-AfterReleases : goal.returns-in-AfterReleases
returns-in-AfterReleases c = rw c.in-AfterReleases.is (one_entry (IntervalEnded _) c.interval-in-AfterReleases.ensures)
