-- `lines::Text::done` meets its contract: by cases. Assumes nothing.
use Rattle.entries.specs.Entries.{each}
use Rattle.lines.specs.Types.{JobDone}
use Rattle.lines.proofs.Laws.{nothing, one_entry}
use Rattle.lines.proofs.Text.done.Goals as goal

pub returns-in-None : goal.returns-in-None
unfolding each
returns-in-None c = rw c.in-None.is (nothing c.args.self 73)

pub returns-in-Some : goal.returns-in-Some
returns-in-Some c = rw c.in-Some.is (one_entry (JobDone _) c.job.ensures)
