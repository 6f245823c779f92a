-- The lines of a run's record are those of its entries, in their order.
use Rattle.std.specs.Prelude.{◌≡◌, List, ℕ}
use Rattle.entries.specs.Entries.{each}
use Rattle.lines.specs.Lines.{line_of}
use Rattle.run.specs.Files.{Releases, releases_of}
use Rattle.run.specs.Run.{Moment, record_entries, record_bytes, moments_of}
use Rattle.record_lines.specs.Types.{Release}
use Rattle.record_lines.specs.Lines.{record_lines}

-- for every input that is accepted: the lines of its record's bytes are those of its run
unfoldable pub FilePrinted : Type 0
FilePrinted = (s : List ℕ) (rs : List Release) → releases_of s ≡ Releases rs →
    let ms : List Moment = moments_of s rs in record_lines (record_bytes ms) ≡ each line_of (record_entries ms)
