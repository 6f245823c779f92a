-- The outcomes of an input: its refusals are the file's, and of an accepted one the dump is that of its run. Assumes nothing.
use mathlib.Core.Path.{◌≡◌, refl, ap, ◌∙◌}
use mathlib.Core.List.{List}
use Prim.Native.Nat.{ℕ}
use native.Mathlib.Omega.{arith}
use lib.Dec.{leb}
use lib.ListN.{length}
use Rattle.sets.proofs.Laws.{by-test}
use Rattle.table.specs.declared.Refusal.{Refusal}
use Rattle.run.specs.Files.{Checked, Rejected, Releases, releases_of}
use Rattle.run.specs.Listed.{releases_at}
use Rattle.run.specs.Run.{moments_of, record_bytes}
use Rattle.run.proofs.Listing.{how_many}
use Rattle.record.specs.Writing.{Wrote, written, written_of, file}
use Rattle.record.proofs.Outcomes.{AllRead, listed_all}
use Rattle.waves.specs.Types.{Head, Err, RefusedInput}
use Rattle.waves.specs.Dump.{dump}
use Rattle.waves.specs.Samples.{samples_of}
use Rattle.waves.specs.Writing.{dumped_of, dumped}
use Rattle.waves.specs.Drawing.{whole_dump}

pub refused : (s lent : List ℕ) (r : Refusal) → Wrote (file s lent) (Err (RefusedInput r)) lent → Wrote (dumped s lent) (Err (RefusedInput r)) lent
unfolding file dumped written
refused s lent r w = go (releases_of s) w
  where
    go : (c : Checked) → Wrote (written_of s lent c) (Err (RefusedInput r)) lent → Wrote (dumped_of s lent c) (Err (RefusedInput r)) lent
    go (Rejected q) x = record { outcome_is = x.outcome_is; holds = refl }
    go (Releases rs) x =
        let bytes : List ℕ = record_bytes (moments_of s rs) in
        by-test (leb (length bytes) (length lent))
        (λ e. absurd (let z : ◌≡◌ {A = ℕ} 0 1 = cc (rw (e, written) at x.outcome_is) in omega arith))
        (λ e. absurd (let z : ◌≡◌ {A = ℕ} 0 1 = cc (rw (e, written) at x.outcome_is) in omega arith))

module _ (s : List ℕ) (k : Head) (read : AllRead s k) where
  same_run : dump (samples_of s (releases_at s k.end)) ≡ whole_dump s k
  unfolding samples_of moments_of
  same_run = rw (read.whole.tasks, how_many s k.end)

  pub whole_file : (lent : List ℕ) → dumped s lent ≡ written (whole_dump s k) lent
  unfolding dumped
  whole_file lent = ap (dumped_of s lent) (listed_all s k read.whole read.releases) ∙ ap (λ (b : List ℕ). written b lent) same_run
