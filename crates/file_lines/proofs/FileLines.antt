-- The lines of the record of every input that is accepted are those of its run. Assumes nothing.
use Rattle.run.specs.Run.{moments_of}
use Rattle.record.proofs.FileFits.{file_fits}
use Rattle.file_lines.specs.FileLines.{FilePrinted}
use Rattle.file_lines.proofs.EntryLines.{record_printed}

pub file_printed : FilePrinted
unfolding FilePrinted
file_printed s rs h = record_printed (moments_of s rs) (file_fits s rs h)
