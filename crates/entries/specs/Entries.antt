-- Bytes: each entry is one byte of kind, then a body whose length the kind fixes. Numbers of several bytes have the lowest byte first.
use Rattle.std.specs.Prelude.{Bool, cond, List, [], ◌∷◌, ◌++◌, ℕ, ◌+◌, ◌-◌, eqb, leb, ◌≡◌, length, take, drop}
use Rattle.words.specs.Words.{bytes_of, number_at}
use Rattle.entries.specs.Types.{Option, None, Some, Result, Ok, Err, Unreadable, CutShort, OtherKind, TaskParameters, Release, Spacing, Entry, TaskEntry, ReleaseEntry, SpacingEntry, JobEntry, IntervalEntry, RecordEntry, JobDone, IntervalEnded, ReleaseSkipped}

-- the length of an entry of each kind, its kind byte included; 0 for what is no kind
abbrev pub size : ℕ → ℕ
size kind =
    cond (eqb kind 1) 16
    (cond (eqb kind 2) 10
    (cond (eqb kind 3) 6
    (cond (eqb kind 16) 27
    (cond (eqb kind 17) 24
    (cond (eqb kind 18) 10
    (cond (eqb kind 64) 13
    (cond (eqb kind 65) 3
    (cond (eqb kind 66) 13
    (cond (eqb kind 67) 21
    (cond (eqb kind 68) 6 0))))))))))

-- ---- An entry of the input, taken apart

-- kind 1: number, priority, mark (1 byte each), L, C, U (4 each)
unfoldable pub task_at : List ℕ → ℕ → TaskParameters
task_at s at = record {
  number = number_at 1 s (at + 1);
  priority = number_at 1 s (at + 2);
  mark = number_at 1 s (at + 3);
  copyin = number_at 4 s (at + 4);
  execution = number_at 4 s (at + 8);
  copyout = number_at 4 s (at + 12);
}

-- kind 2: task (1), time (8)
unfoldable pub release_at : List ℕ → ℕ → Release
release_at s at = record { task = number_at 1 s (at + 1); time = number_at 8 s (at + 2) }

-- kind 3 (8/13): task (1), spacing in ticks (4)
unfoldable pub spacing_at : List ℕ → ℕ → Spacing
spacing_at s at = record { task = number_at 1 s (at + 1); ticks = number_at 4 s (at + 2) }

-- the kind byte at a place is a release's, be the entry whole or cut short
abbrev pub is_release : List ℕ → ℕ → Bool
is_release s at = eqb (number_at 1 s at) 2

-- the entry whose kind byte is at a place before the end: 2 where the kind is not 1 to 3, 1 where the entry is cut short
unfoldable pub entry_at : List ℕ → ℕ → Result Entry Unreadable
entry_at s at =
    let kind : ℕ = number_at 1 s at in
    cond (eqb kind 1) (cond (leb (size 1) (length s - at)) (Ok (TaskEntry (task_at s at))) (Err CutShort))
    (cond (eqb kind 2) (cond (leb (size 2) (length s - at)) (Ok (ReleaseEntry (release_at s at))) (Err CutShort))
    (cond (eqb kind 3) (cond (leb (size 3) (length s - at)) (Ok (SpacingEntry (spacing_at s at))) (Err CutShort))
    (Err OtherKind)))

-- its length: 0 where it is refused
abbrev pub entry_size : Result Entry Unreadable → ℕ
entry_size (Err e) = 0
entry_size (Ok (TaskEntry p)) = size 1
entry_size (Ok (ReleaseEntry r)) = size 2
entry_size (Ok (SpacingEntry x)) = size 3

-- ---- A release entry, written

unfoldable pub release_bytes : Release → List ℕ
release_bytes r = 2 ∷ r.task ∷ bytes_of 8 r.time

-- ---- An entry of the record, written

-- 255 is "no task"
abbrev pub task_byte : Option ℕ → ℕ
task_byte None = 255
task_byte (Some n) = n

-- kind 16: task (1), release, execution start, completion (8 each), blocked intervals (1)
unfoldable pub job_bytes : JobEntry → List ℕ
job_bytes e =
    16 ∷ e.task ∷ (bytes_of 8 e.release ++ (bytes_of 8 e.start ++ (bytes_of 8 e.completion ++ (e.blocked ∷ []))))

-- kind 17: begin, end (8 each), processor's half, processor's task, work, task copied out, task chosen for copy-in, its fate,
-- task promoted at the end (1 each)
unfoldable pub choice_bytes : IntervalEntry → List ℕ
choice_bytes e =
    e.half ∷ task_byte e.task ∷ e.work ∷ task_byte e.copiedout ∷ task_byte e.chosen ∷ e.fate ∷ task_byte e.promoted ∷ []

unfoldable pub interval_bytes : IntervalEntry → List ℕ
interval_bytes e = 17 ∷ (bytes_of 8 e.begin ++ (bytes_of 8 e.end ++ choice_bytes e))

-- kind 18: task (1), time (8)
unfoldable pub skipped_bytes : ℕ → ℕ → List ℕ
skipped_bytes n t = 18 ∷ n ∷ bytes_of 8 t

-- an entry's bytes
abbrev pub entry_bytes : RecordEntry → List ℕ
entry_bytes (JobDone e) = job_bytes e
entry_bytes (IntervalEnded e) = interval_bytes e
entry_bytes (ReleaseSkipped r) = skipped_bytes r.task r.time

-- what each of some entries gives, one behind the other
unfoldable pub each : (RecordEntry → List ℕ) → List RecordEntry → List ℕ
each of [] = []
each of (e ∷ es) = of e ++ each of es

-- ---- An entry of the record, taken apart: each field at its place behind the kind byte, as it is written above

unfoldable pub task_of : ℕ → Option ℕ
task_of b = cond (eqb b 255) None (Some b)

unfoldable pub job_at : List ℕ → ℕ → JobEntry
job_at s at = record {
  task = number_at 1 s (at + 1);
  release = number_at 8 s (at + 2);
  start = number_at 8 s (at + 10);
  completion = number_at 8 s (at + 18);
  blocked = number_at 1 s (at + 26);
}

unfoldable pub interval_at : List ℕ → ℕ → IntervalEntry
interval_at s at = record {
  begin = number_at 8 s (at + 1);
  end = number_at 8 s (at + 9);
  half = number_at 1 s (at + 17);
  task = task_of (number_at 1 s (at + 18));
  work = number_at 1 s (at + 19);
  copiedout = task_of (number_at 1 s (at + 20));
  chosen = task_of (number_at 1 s (at + 21));
  fate = number_at 1 s (at + 22);
  promoted = task_of (number_at 1 s (at + 23));
}

-- the entry whose kind byte is at a place: 2 where the kind is not 16 to 18, as at the end of the bytes and behind it, then 1 where the
-- entry is cut short; kind 18 has the body of a release
unfoldable pub record_entry_at : List ℕ → ℕ → Result RecordEntry Unreadable
record_entry_at s at =
    let kind : ℕ = number_at 1 s at in
    cond (eqb kind 16) (cond (leb (size 16) (length s - at)) (Ok (JobDone (job_at s at))) (Err CutShort))
    (cond (eqb kind 17) (cond (leb (size 17) (length s - at)) (Ok (IntervalEnded (interval_at s at))) (Err CutShort))
    (cond (eqb kind 18) (cond (leb (size 18) (length s - at)) (Ok (ReleaseSkipped (release_at s at))) (Err CutShort))
    (Err OtherKind)))

-- its length: 0 where it is refused, whatever stands for why
abbrev pub size_unless : {E : Type 0} → Result RecordEntry E → ℕ
size_unless (Err e) = 0
size_unless (Ok (JobDone e)) = size 16
size_unless (Ok (IntervalEnded e)) = size 17
size_unless (Ok (ReleaseSkipped e)) = size 18

abbrev pub record_entry_size : Result RecordEntry Unreadable → ℕ
record_entry_size e = size_unless e

-- ---- An entry written into the front of a lent slice: all of it, or nothing where it does not fit

-- a slice with bytes laid over it from a place on
abbrev pub laid : ℕ → List ℕ → List ℕ → List ℕ
laid at bytes s = take at s ++ (bytes ++ drop (at + length bytes) s)

-- the length written, and what the slice holds then
pub record Put (bytes before : List ℕ) (size : ℕ) (after : List ℕ) : Type 0 where
  pub length_is : size ≡ cond (leb (length bytes) (length before)) (length bytes) 0
  pub holds : after ≡ cond (leb (length bytes) (length before)) (bytes ++ drop (length bytes) before) before
