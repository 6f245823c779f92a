-- `entries::put_job` meets its contract: field by field, from the front. Assumes nothing.
use mathlib.Core.Path.{refl}
use mathlib.Core.List.{[], ◌∷◌, ◌++◌}
use Rattle.words.specs.Words.{bytes_of}
use Rattle.entries.proofs.Laws.{next, fits, too_long}
use Rattle.entries.specs.Entries.{job_bytes}
use borrow.Author.Rules.{rules}
use Rattle.entries.proofs.put_job.Goals as goal

pub returns-then-out-lt-JOB_SIZE : goal.returns-then-out-lt-JOB_SIZE
unfolding job_bytes bytes_of
returns-then-out-lt-JOB_SIZE c = too_long (job_bytes c.args.e) c.args.out.now (search rules)

pub returns : goal.returns
unfolding job_bytes bytes_of
returns c =
    let a = c.args in
    let old = a.out.now in
    let f1 = next ([]) old old (16 ∷ []) 0 refl c.put_byte.new.out c.put_byte.ensures refl in
    let f2 = next (16 ∷ []) old c.put_byte.new.out (a.e.task ∷ []) 1 refl c.put_byte-2.new.out c.put_byte-2.ensures f1 in
    let f3 = next ((16 ∷ []) ++ (a.e.task ∷ [])) old c.put_byte-2.new.out (bytes_of 8 a.e.release) 2 refl c.put_time.new.out c.put_time.ensures f2 in
    let f4 = next (((16 ∷ []) ++ (a.e.task ∷ [])) ++ (bytes_of 8 a.e.release)) old c.put_time.new.out (bytes_of 8 a.e.start) 10 refl c.put_time-2.new.out
    c.put_time-2.ensures f3 in
    let f5 = next ((((16 ∷ []) ++ (a.e.task ∷ [])) ++ (bytes_of 8 a.e.release)) ++ (bytes_of 8 a.e.start)) old c.put_time-2.new.out (bytes_of 8 a.e.completion) 18
    refl c.put_time-3.new.out c.put_time-3.ensures f4 in
    let f6 = next (((((16 ∷ []) ++ (a.e.task ∷ [])) ++ (bytes_of 8 a.e.release)) ++ (bytes_of 8 a.e.start)) ++ (bytes_of 8 a.e.completion)) old c.put_time-3.new.out
    (a.e.blocked ∷ []) 26 refl c.put_byte-3.new.out c.put_byte-3.ensures f5 in
    fits (job_bytes a.e) old c.put_byte-3.new.out (search rules) f6
