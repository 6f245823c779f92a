-- An entry that was written is taken apart again as the same entry. Assumes nothing.
use mathlib.Core.Path.{◌≡◌, refl, sym, ap, ◌∙◌}
use mathlib.Core.List.{List, [], ◌∷◌, ◌++◌}
use Prim.Native.Nat.{ℕ, ◌+◌, ◌-◌, ◌^◌, ◌≤◌, ◌<◌}
use native.Mathlib.Nat.{add-zero}
use native.Mathlib.Omega.{arith}
use borrow.Author.Tests.{le-leb, ne_eqb}
use lib.ListN.{length}
use Rattle.words.specs.Words.{bytes_of, number_at}
use Rattle.words.proofs.Laws.{one_byte, behind, round_trip_at}
use Rattle.entries.specs.Types.{Ok, Option, None, Some, Release, ReleaseEntry, JobEntry, IntervalEntry, RecordEntry, JobDone, IntervalEnded, ReleaseSkipped}
use Rattle.entries.specs.Entries.{entry_at, release_at, release_bytes, task_byte, job_bytes, choice_bytes, interval_bytes, skipped_bytes, entry_bytes, task_of, job_at, interval_at, record_entry_at}
use Rattle.entries.specs.RoundTrip.{TaskFits, JobFits, IntervalFits, EntryFits, ReadAs, RoundTrip}
use Rattle.entries.proofs.Places.{release_behind, left_behind, entry_behind}

named : (t : Option ℕ) → TaskFits t → task_of (task_byte t) ≡ t
unfolding task_of TaskFits
named None h = refl
named (Some n) h = rw (ne_eqb n 255 h)

module _ (e : JobEntry) (rest : List ℕ) (fits : JobFits e) where
  job_there : job_at (job_bytes e ++ rest) 0 ≡ e
  unfolding job_at job_bytes bytes_of
  job_there =
      let s : List ℕ = job_bytes e ++ rest in
      let a : number_at 1 s 1 ≡ e.task = one_byte s 1 in
      let b : number_at 8 s 2 ≡ e.release =
      round_trip_at 8 e.release (16 ∷ e.task ∷ []) (bytes_of 8 e.start ++ (bytes_of 8 e.completion ++ (e.blocked ∷ rest))) fits.release_fits in
      let c : number_at 8 s 10 ≡ e.start =
      round_trip_at 8 e.start (16 ∷ e.task ∷ bytes_of 8 e.release) (bytes_of 8 e.completion ++ (e.blocked ∷ rest)) fits.start_fits in
      let d : number_at 8 s 18 ≡ e.completion =
      round_trip_at 8 e.completion (16 ∷ e.task ∷ (bytes_of 8 e.release ++ bytes_of 8 e.start)) (e.blocked ∷ rest) fits.completion_fits in
      let f : number_at 1 s 26 ≡ e.blocked = one_byte s 26 in
      rw (a, b, c, d, f)

  job_read : record_entry_at (job_bytes e ++ rest) 0 ≡ Ok (JobDone e)
  unfolding record_entry_at job_bytes bytes_of
  job_read =
      let s : List ℕ = job_bytes e ++ rest in
      let kind : number_at 1 s 0 ≡ 16 = one_byte s 0 in
      rw (kind, le-leb 27 (length s - 0) (omega arith), job_there)

module _ (e : IntervalEntry) (rest : List ℕ) (fits : IntervalFits e) where
  interval_there : interval_at (interval_bytes e ++ rest) 0 ≡ e
  unfolding interval_at interval_bytes choice_bytes bytes_of
  interval_there =
      let s : List ℕ = interval_bytes e ++ rest in
      let begin : number_at 8 s 1 ≡ e.begin = round_trip_at 8 e.begin (17 ∷ []) (bytes_of 8 e.end ++ (choice_bytes e ++ rest)) fits.begin_fits in
      let end : number_at 8 s 9 ≡ e.end = round_trip_at 8 e.end (17 ∷ bytes_of 8 e.begin) (choice_bytes e ++ rest) fits.end_fits in
      let half : number_at 1 s 17 ≡ e.half = one_byte s 17 in
      let task : task_of (number_at 1 s 18) ≡ e.task = ap task_of (one_byte s 18) ∙ named e.task fits.task_fits in
      let work : number_at 1 s 19 ≡ e.work = one_byte s 19 in
      let copiedout : task_of (number_at 1 s 20) ≡ e.copiedout = ap task_of (one_byte s 20) ∙ named e.copiedout fits.copiedout_fits in
      let chosen : task_of (number_at 1 s 21) ≡ e.chosen = ap task_of (one_byte s 21) ∙ named e.chosen fits.chosen_fits in
      let fate : number_at 1 s 22 ≡ e.fate = one_byte s 22 in
      let promoted : task_of (number_at 1 s 23) ≡ e.promoted = ap task_of (one_byte s 23) ∙ named e.promoted fits.promoted_fits in
      rw (begin, end, half, task, work, copiedout, chosen, fate, promoted)

  interval_read : record_entry_at (interval_bytes e ++ rest) 0 ≡ Ok (IntervalEnded e)
  unfolding record_entry_at interval_bytes choice_bytes bytes_of
  interval_read =
      let s : List ℕ = interval_bytes e ++ rest in
      let kind : number_at 1 s 0 ≡ 17 = one_byte s 0 in
      rw (kind, le-leb 24 (length s - 0) (omega arith), interval_there)

-- an entry of a task and a time, whatever its kind
timed_there : (kind : ℕ) (r : Release) (rest : List ℕ) → r.time < 256 ^ 8 → release_at (kind ∷ r.task ∷ (bytes_of 8 r.time ++ rest)) 0 ≡ r
unfolding release_at bytes_of
timed_there kind r rest fits =
    let s : List ℕ = kind ∷ r.task ∷ (bytes_of 8 r.time ++ rest) in
    let a : number_at 1 s 1 ≡ r.task = one_byte s 1 in
    let b : number_at 8 s 2 ≡ r.time = round_trip_at 8 r.time (kind ∷ r.task ∷ []) rest fits in
    rw (a, b)

module _ (n t : ℕ) (rest : List ℕ) (fits : t < 256 ^ 8) where
  abbrev skip : Release
  skip = record { task = n; time = t }

  skipped_read : record_entry_at (skipped_bytes n t ++ rest) 0 ≡ Ok (ReleaseSkipped skip)
  unfolding record_entry_at skipped_bytes bytes_of
  skipped_read =
      let s : List ℕ = skipped_bytes n t ++ rest in
      let kind : number_at 1 s 0 ≡ 18 = one_byte s 0 in
      rw (kind, le-leb 10 (length s - 0) (omega arith), timed_there 18 skip rest fits)

module _ (r : Release) (fits : r.time < 256 ^ 8) (front rest : List ℕ) where
  -- a release that was written stands there
  pub release_there : release_at (front ++ (release_bytes r ++ rest)) (length front) ≡ r
  unfolding release_bytes
  release_there =
      ap (release_at (front ++ (release_bytes r ++ rest))) (sym (add-zero (length front)))
      ∙ release_behind front (release_bytes r ++ rest) 0 ∙ timed_there 2 r rest fits

  release_read : entry_at (front ++ (release_bytes r ++ rest)) (length front) ≡ Ok (ReleaseEntry r)
  unfolding entry_at release_bytes bytes_of
  release_read =
      let s : List ℕ = release_bytes r ++ rest in
      let place : length front ≡ length front + 0 = sym (add-zero (length front)) in
      let kind : number_at 1 (front ++ s) (length front) ≡ 2 = ap (number_at 1 (front ++ s)) place ∙ behind 1 front s 0 ∙ one_byte s 0 in
      let room : 10 ≤ length (front ++ s) - length front = omega (arith, left_behind front s 0) in
      rw (kind, le-leb 10 (length (front ++ s) - length front) room, release_there)

-- and so it is at every place
anywhere : (bytes : List ℕ) (e : RecordEntry) → ((rest : List ℕ) → record_entry_at (bytes ++ rest) 0 ≡ Ok e) → ReadAs bytes e
anywhere bytes e h front rest =
    ap (record_entry_at (front ++ (bytes ++ rest))) (sym (add-zero (length front))) ∙ entry_behind front (bytes ++ rest) 0 ∙ h rest

entry_read : (e : RecordEntry) → EntryFits e → (rest : List ℕ) → record_entry_at (entry_bytes e ++ rest) 0 ≡ Ok e
unfolding EntryFits
entry_read (JobDone e) h rest = job_read e rest h
entry_read (IntervalEnded e) h rest = interval_read e rest h
entry_read (ReleaseSkipped r) h rest = skipped_read r.task r.time rest h

pub round_trip : RoundTrip
round_trip = record {
  entry = λ e h. anywhere (entry_bytes e) e (entry_read e h);
  release = λ r h front rest. release_read r h front rest;
}
