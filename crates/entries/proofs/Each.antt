-- Entries one behind the other, and how long they are. Assumes nothing.
use mathlib.Core.Path.{◌≡◌, refl, sym, ap, ◌∙◌}
use mathlib.Core.List.{List, [], ◌∷◌, ◌++◌, append_assoc, append-nil}
use Prim.Native.Nat.{ℕ}
use native.Mathlib.Omega.{arith}
use lib.ListN.{length}
use Rattle.words.specs.Words.{bytes_of}
use Rattle.entries.specs.Types.{Ok, RecordEntry, JobDone, IntervalEnded, ReleaseSkipped}
use Rattle.entries.specs.Entries.{job_bytes, choice_bytes, interval_bytes, skipped_bytes, entry_bytes, each, record_entry_size}
use Rattle.entries.specs.RoundTrip.{EntryFits}

module _ (of : RecordEntry → List ℕ) where
  pub each_both : (xs ys : List RecordEntry) → each of (xs ++ ys) ≡ each of xs ++ each of ys
  unfolding each
  each_both [] ys = refl
  each_both (e ∷ xs) ys = ap (λ (l : List ℕ). of e ++ l) (each_both xs ys) ∙ sym (append_assoc (of e) (each of xs) (each of ys))

  pub each_one : (e : RecordEntry) → each of (e ∷ []) ≡ of e
  unfolding each
  each_one e = append-nil (of e)

pub entry_size : (e : RecordEntry) → length (entry_bytes e) ≡ record_entry_size (Ok e)
unfolding job_bytes choice_bytes interval_bytes skipped_bytes bytes_of
entry_size (JobDone e) = refl
entry_size (IntervalEnded e) = refl
entry_size (ReleaseSkipped r) = refl

-- an entry that fits its fields has some bytes
pub some : (e : RecordEntry) → EntryFits e → record_entry_size (Ok e) ≡ 0 → ⊥
unfolding EntryFits
some (JobDone e) h z = omega arith
some (IntervalEnded e) h z = omega arith
some (ReleaseSkipped r) h z = omega arith
