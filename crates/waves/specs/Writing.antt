-- The dump of an input in a lent slice: the file's refusals, then 13 with the length needed.
use Rattle.run.specs.Files.{Checked, Rejected, Releases, releases_of}
use Rattle.record.specs.Writing.{Written, written}
use Rattle.waves.specs.Types.{List, ℕ, Err, RefusedInput}
use Rattle.waves.specs.Dump.{dump}
use Rattle.waves.specs.Samples.{samples_of}

abbrev pub dumped_of : List ℕ → List ℕ → Checked → Written
dumped_of s lent (Rejected r) = record { outcome = Err (RefusedInput r); memory = lent }
dumped_of s lent (Releases rs) = written (dump (samples_of s rs)) lent

unfoldable pub dumped : List ℕ → List ℕ → Written
dumped s lent = dumped_of s lent (releases_of s)
