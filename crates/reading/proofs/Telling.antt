-- A run's record, taken apart, tells the releases of the run's moments: the entries one after the other. Assumes nothing.
use Rattle.std.proofs.Common.{◌∷◌, ◌++◌, ◌+◌}
use mathlib.Core.Path.{◌≡◌, refl, sym, ap, ap₂, ◌∙◌, subst}
use mathlib.Core.List.{append_assoc, append-nil}
use Prim.Native.Nat.{◌-◌, ◌≤◌, ◌<◌}
use native.Mathlib.Nat.{add_assoc}
use native.Mathlib.Omega.{arith}
use lib.ListN.{length, length-append}
use Rattle.sets.specs.Sets.{member}
use Rattle.entries.specs.Entries.{entry_bytes, each, record_entry_at, record_entry_size}
use Rattle.entries.specs.RoundTrip.{EntryFits}
use Rattle.entries.proofs.Each.{entry_size, some}
use Rattle.entries.proofs.RoundTrip.{round_trip}
use Rattle.rules.specs.Entries.{done_entries, skipped_entries, closed_entries, entries}
use Rattle.run.specs.Files.{Checked, Releases, releases_of}
use Rattle.run.specs.Run.{Moment, record_entries, record_bytes, moments_of}
use Rattle.record.specs.Types.{Closing, Unclosed, BeforeReleases, AfterReleases}
use Rattle.record.specs.Fits.{EntriesFit}
use Rattle.record.proofs.FileFits.{file_fits}
use Rattle.reading.specs.Types.{Bool, true, false, cond, List, [], ℕ, zero, suc, Release, Option, JobEntry, None, Some, Occurred, RecordEntry, JobDone, IntervalEnded, ReleaseSkipped}
use Rattle.reading.specs.Attested.{release_of, attested_by, attested_from, attested}
use Rattle.reading.proofs.RunAttested.{done_attested, skips_attested, moment_attested, run_attested}
use Rattle.reading.proofs.Noting.{in_front, front_more, front_all, attested_none, attested_one}
use Rattle.std.specs.Prelude.{Result, Ok}
use Rattle.entries.specs.declared.Unreadable.{Unreadable}

-- ---- entries one after the other

-- some bytes, wherever they stand, are entries that tell some releases
record Tells (bytes : List ℕ) (ps : List Release) : Type 0 where
  entries : ℕ
  no_more : entries ≤ length bytes
  tells : (s front rest : List ℕ) (at k : ℕ) → s ≡ front ++ (bytes ++ rest) → at ≡ length front
      → attested_from (entries + k) s at ≡ in_front ps (attested_from k s (at + length bytes))

none : Tells [] []
none = record { entries = 0; no_more = omega arith; tells = λ s front rest at k e a. unfold in_front in ap (λ (n : ℕ). attested_from n s at) (omega arith) ∙ ap (attested_from k s) (omega arith) }

both : (a b : List ℕ) (x y : List Release) → Tells a x → Tells b y → Tells (a ++ b) (x ++ y)
both a b x y p q = record {
  entries = p.entries + q.entries;
  no_more = omega (arith, length-append a b, p.no_more, q.no_more);
  tells = λ s front rest at k e h.
      ap (λ (n : ℕ). attested_from n s at) (add_assoc p.entries q.entries k)
      ∙ p.tells s front (b ++ rest) at (q.entries + k) (e ∙ ap (λ (l : List ℕ). front ++ l) (append_assoc a b rest)) h
      ∙ ap (in_front x)
      (q.tells s (front ++ a) rest (at + length a) k
      (e ∙ ap (λ (l : List ℕ). front ++ l) (append_assoc a b rest) ∙ sym (append_assoc front a (b ++ rest)))
      (omega (arith, length-append front a)))
      ∙ front_more x y (attested_from k s (at + length a + length b))
      ∙ ap (λ (n : ℕ). in_front (x ++ y) (attested_from k s n)) (omega (arith, length-append a b));
}

-- the releases that some entries tell
abbrev entry_attested : RecordEntry → List Release
entry_attested (JobDone e) = release_of e ∷ []
entry_attested (IntervalEnded e) = []
entry_attested (ReleaseSkipped r) = r ∷ []

unfoldable entries_attested : List RecordEntry → List Release
entries_attested [] = []
entries_attested (e ∷ es) = entry_attested e ++ entries_attested es

attested_so : (e : RecordEntry) → EntryFits e → (at : ℕ) (c : Checked) → attested_by (Ok e) at c ≡ in_front (entry_attested e) c
unfolding EntryFits attested_by in_front
attested_so (JobDone e) h at c = refl
attested_so (IntervalEnded e) h at c = refl
attested_so (ReleaseSkipped r) h at c = refl

entry_tells : (e : RecordEntry) → EntryFits e → Tells (entry_bytes e) (entry_attested e)
entry_tells e h =
    let bytes : List ℕ = entry_bytes e in
    let long : 0 < length bytes = some_bytes (length bytes) (λ z. some e h (sym (entry_size e) ∙ z)) in
    record {
      entries = 1;
      no_more = omega arith;
      tells = λ s front rest at k here a.
          let there : record_entry_at s at ≡ Ok e = rw (here, a) (round_trip.entry e h front rest) in
          let before : at < length s = rw (here, a) (omega (arith, length-append front (bytes ++ rest), length-append bytes rest)) in
          ap (λ (n : ℕ). attested_from n s at) (omega arith) ∙ attested_one k s at before
          ∙ ap (λ (x : Result RecordEntry Unreadable). attested_by x at (attested_from k s (at + record_entry_size x))) there ∙ attested_so e h at (attested_from k s (at + record_entry_size (Ok e)))
          ∙ ap (λ (n : ℕ). in_front (entry_attested e) (attested_from k s (at + n))) (sym (entry_size e));
    }
  where
    some_bytes : (n : ℕ) → (n ≡ 0 → ⊥) → 0 < n
    some_bytes n h = omega arith

entries_tell : (es : List RecordEntry) → EntriesFit es → Tells (each entry_bytes es) (entries_attested es)
unfolding each EntriesFit entries_attested
entries_tell [] h = none
entries_tell (e ∷ es) h = both (entry_bytes e) (each entry_bytes es) (entry_attested e) (entries_attested es) (entry_tells e h.0) (entries_tell es h.1)

-- ---- a whole record

attested_both : (xs ys : List RecordEntry) → entries_attested (xs ++ ys) ≡ entries_attested xs ++ entries_attested ys
unfolding entries_attested
attested_both [] ys = refl
attested_both (e ∷ xs) ys = ap (λ (l : List Release). entry_attested e ++ l) (attested_both xs ys) ∙ sym (append_assoc (entry_attested e) (entries_attested xs) (entries_attested ys))

attested_done : (o : Option JobEntry) → entries_attested (done_entries o) ≡ done_attested o
unfolding entries_attested
attested_done None = refl
attested_done (Some e) = refl

attested_skips : (k set t : ℕ) → entries_attested (skipped_entries k set t) ≡ skips_attested k set t
unfolding skipped_entries skips_attested entries_attested
attested_skips zero set t = refl
attested_skips (suc k) set t = attested_both (skipped_entries k set t) _ ∙ ap₂ (λ (x y : List Release). x ++ y) (attested_skips k set t) (go (member k set))
  where
    go : (b : Bool) → entries_attested (cond b (ReleaseSkipped (record { task = k; time = t }) ∷ []) []) ≡ cond b (record { task = k; time = t } ∷ []) []
    go true = refl
    go false = refl

attested_closed : (c : Closing) (skips : List RecordEntry) → entries_attested (closed_entries c skips) ≡ entries_attested skips
unfolding entries_attested
attested_closed Unclosed skips = refl
attested_closed (BeforeReleases e) skips = refl
attested_closed (AfterReleases e) skips = attested_both skips (IntervalEnded e ∷ []) ∙ append-nil (entries_attested skips)

run_tells : (ms : List Moment) → entries_attested (record_entries ms) ≡ run_attested ms
unfolding record_entries entries run_attested moment_attested entries_attested
run_tells [] = refl
run_tells (m ∷ ms) =
    let o : Occurred = m.occurred in
    let skips : List RecordEntry = skipped_entries 32 o.skipped m.time in
    attested_both (done_entries o.done ++ closed_entries o.closed skips) (record_entries ms)
    ∙ ap₂ (λ (x y : List Release). x ++ y)
    (attested_both (done_entries o.done) (closed_entries o.closed skips)
    ∙ ap₂ (λ (x y : List Release). x ++ y) (attested_done o.done) (attested_closed o.closed skips ∙ attested_skips 32 o.skipped m.time))
    (run_tells ms)

-- a run's record tells the releases of its moments
pub attested_record : (ms : List Moment) → EntriesFit (record_entries ms) → attested (record_bytes ms) ≡ Releases (run_attested ms)
attested_record ms h =
    let s : List ℕ = record_bytes ms in
    let p : Tells (record_bytes ms) (run_attested ms) = subst (Tells (record_bytes ms)) (run_tells ms) (unfold record_bytes in entries_tell (record_entries ms) h) in
    let n : ℕ = p.entries in
    ap (λ (k : ℕ). attested_from k s 0) (omega (arith, p.no_more))
    ∙ p.tells s [] [] 0 (length s - n) (sym (append-nil s)) refl
    ∙ ap (in_front (run_attested ms)) (attested_none (length s - n) s (0 + length s) (omega arith)) ∙ front_all (run_attested ms) [] ∙ ap Releases (append-nil (run_attested ms))

-- and so it is of every input that is accepted
pub file_attested : (s : List ℕ) (rs : List Release) → releases_of s ≡ Releases rs
    → attested (record_bytes (moments_of s rs)) ≡ Releases (run_attested (moments_of s rs))
file_attested s rs h = attested_record (moments_of s rs) (file_fits s rs h)
