-- `lines::served_lines` meets its contract: the job done, the interval closed, the answer. Assumes nothing.
use mathlib.Core.List.{[]}
use native.Mathlib.Omega.{arith}
use Rattle.entries.proofs.Each.{each_both}
use Rattle.rules.specs.Entries.{done_entries, closed_entries}
use Rattle.lines.specs.Lines.{line_of, served_lines}
use Rattle.lines.proofs.Laws.{printed, ◌then◌}
use Rattle.lines.proofs.served_lines.Goals as goal

pub returns : goal.returns
unfolding served_lines
returns c =
    let o = c.args.o in
    rw (each_both line_of (done_entries o.done) (closed_entries o.closed []))
    (printed c.empty.ensures (omega arith)
    ((c.done.ensures then c.closing.ensures) then c.answer.ensures))
