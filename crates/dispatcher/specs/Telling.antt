-- What an instant tells, a word for each number: the next due time; the skipped releases; whether a job is done, whether an interval
-- closed and whether there is a due time; then the numbers of the job, and those of the interval. What does not occur leaves its words as
-- they were. Read back, the words give what occurred.
use Rattle.dispatcher.specs.Types.{List, ℕ, cond, JobEntry, IntervalEntry, Option, None, Some, Closed, NoInterval, Span, Closing, Unclosed, BeforeReleases, AfterReleases, Occurred}
use Rattle.std.specs.Prelude.{◌%◌, ◌^◌, set, ◌==◌, nat_lt, slice_index, slice_set}

-- ---- Told

-- no task is a number that no byte has, since in memory that no call made a task may be any byte; its lowest byte is that of no task
abbrev pub task_word : Option ℕ → ℕ
task_word None = 511
task_word (Some n) = n

unfoldable pub job_told : JobEntry → List ℕ → List ℕ
job_told e told =
    slice_set (slice_set (slice_set (slice_set (slice_set told 5 e.release) 6 e.start) 7 e.completion) 8 e.task) 9 e.blocked

unfoldable pub interval_told : IntervalEntry → List ℕ → List ℕ
interval_told e told =
    set (set (set (set (set (set (set (set (set told
    10 e.begin) 11 e.end) 12 e.half) 13 (task_word e.task)) 14 e.work)
    15 (task_word e.copiedout)) 16 (task_word e.chosen)) 17 e.fate) 18 (task_word e.promoted)

abbrev pub done_told : Option JobEntry → List ℕ → List ℕ
done_told None told = told
done_told (Some e) told = job_told e told

abbrev pub closing_told : Closing → List ℕ → List ℕ
closing_told Unclosed told = told
closing_told (BeforeReleases e) told = interval_told e told
closing_told (AfterReleases e) told = interval_told e told

abbrev pub due_told : Option ℕ → List ℕ → List ℕ
due_told None told = told
due_told (Some t) told = slice_set told 0 t

-- 1 where there is one; of an interval, 1 where it ended before the releases and 2 after them
abbrev pub done_number : Option JobEntry → ℕ
done_number None = 0
done_number (Some e) = 1

abbrev pub closing_number : Closing → ℕ
closing_number Unclosed = 0
closing_number (BeforeReleases e) = 1
closing_number (AfterReleases e) = 2

abbrev pub due_number : Option ℕ → ℕ
due_number None = 0
due_number (Some t) = 1

unfoldable pub told_of : Occurred → List ℕ → List ℕ
told_of o told =
    set (set (set (set (due_told o.due (closing_told o.closed (done_told o.done told)))
    1 o.skipped) 2 (done_number o.done)) 3 (closing_number o.closed)) 4 (due_number o.due)

-- ---- Told step by step

-- the job that is done, and whether there is one
abbrev pub job_and_whether : Option JobEntry → List ℕ → List ℕ
job_and_whether d told = slice_set (done_told d told) 2 (done_number d)

-- the interval that ended before the releases, and whether there is one; and where none did, one that ended after them
abbrev pub before_told : Closed → List ℕ → List ℕ
before_told NoInterval told = slice_set told 3 0
before_told (Span e) told = slice_set (interval_told e told) 3 1

abbrev pub after_told : Closed → List ℕ → List ℕ
after_told NoInterval told = told
after_told (Span e) told = slice_set (interval_told e told) 3 2

-- ---- Read back

abbrev pub task_in : ℕ → Option ℕ
task_in w = cond (nat_lt w 256) (Some w) None

unfoldable pub interval_in : List ℕ → IntervalEntry
interval_in told = record {
  begin = slice_index told 10;
  end = slice_index told 11;
  half = slice_index told 12 % 256;
  task = task_in (slice_index told 13);
  work = slice_index told 14 % 256;
  copiedout = task_in (slice_index told 15);
  chosen = task_in (slice_index told 16);
  fate = slice_index told 17 % 256;
  promoted = task_in (slice_index told 18);
}

abbrev pub job_in : List ℕ → JobEntry
job_in told = record {
  task = slice_index told 8 % 256;
  release = slice_index told 5;
  start = slice_index told 6;
  completion = slice_index told 7;
  blocked = slice_index told 9 % 256;
}

abbrev pub done_in : List ℕ → Option JobEntry
done_in told = cond (slice_index told 2 == 0) None (Some (job_in told))

abbrev pub closing_in : List ℕ → Closing
closing_in told =
    cond (slice_index told 3 == 0) Unclosed
    (cond (slice_index told 3 == 1) (BeforeReleases (interval_in told)) (AfterReleases (interval_in told)))

abbrev pub due_in : List ℕ → Option ℕ
due_in told = cond (slice_index told 4 == 0) None (Some (slice_index told 0))

unfoldable pub occurred_in : List ℕ → Occurred
unfolding interval_in
occurred_in told = record { done = done_in told; closed = closing_in told; skipped = slice_index told 1 % 2 ^ 32; due = due_in told }
