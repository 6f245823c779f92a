-- `record_lines::line_of` meets its contract: by the entry's kind. Assumes nothing.
use Rattle.record_lines.proofs.line_of.Goals as goal

pub returns-in-JobDone : goal.returns-in-JobDone
returns-in-JobDone c = rw c.in-JobDone.is c.job_line.ensures

pub returns-in-IntervalEnded : goal.returns-in-IntervalEnded
returns-in-IntervalEnded c = rw c.in-IntervalEnded.is c.interval_line.ensures

pub returns-in-ReleaseSkipped : goal.returns-in-ReleaseSkipped
returns-in-ReleaseSkipped c = rw c.in-ReleaseSkipped.is c.skipped_line.ensures
