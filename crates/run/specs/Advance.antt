-- A run advanced by one instant, over the arrays that keep a dispatcher. The steps are the rules'; a run's instants are never refused, so
-- that nothing is refused here.
use Rattle.std.specs.Prelude.{◌≡◌, length, ◌∷◌, ◌-◌, ◌*◌, ◌^◌, ◌≤◌}
use Rattle.rules.specs.Instant.{due, sooner, step_a, step_e, step_f, at_g, occurred}
use Rattle.rules.specs.Registers.{phase_in}
use Rattle.rules.specs.Steps.{Stands, CopiesOut}
use Rattle.rules.specs.Kept.{Kept, kept, Whole, by_task, Beside, beside, registers_in, read}
use Rattle.entries.specs.Entries.{size}
use Rattle.rules.specs.Entries.{done_entries, entries}
use Rattle.run.specs.Types.{List, [], ℕ, RecordEntry, IntervalEnded, State, Stage, Closed, NoInterval, Span, Batch, Advanced}
use Rattle.run.specs.Listed.{releases_at}
use Rattle.run.specs.Run.{first_time, released_at, released_after}
use Rattle.run.specs.Putting.{Puts}

-- ---- The next releases

-- the set released at a time, of the releases from a slice's start on, and how many bytes their entries have
pub record Gathered (rest : List ℕ) (t : ℕ) (b : Batch) : Type 0 where
  pub set_is : b.set ≡ released_at t (releases_at rest 0)
  pub after : releases_at rest b.read ≡ released_after t (releases_at rest 0)
  pub read_is : b.read ≡ size 2 * (length (releases_at rest 0) - length (released_after t (releases_at rest 0)))
  pub within : b.read ≤ length rest

-- when the next instant is: the sooner of the next release and the next due time; the last tick stands for none
abbrev pub NextTick : List ℕ → List ℕ → List ℕ → ℕ → Type 0
NextTick rest times codes x =
    (sets : List ℕ) → Stands x (sooner (first_time (releases_at rest 0)) (due (phase_in (registers_in (kept times sets codes)))))

-- ---- The steps, with the entries that they leave

abbrev pub span_entries : Closed → List RecordEntry
span_entries NoInterval = []
span_entries (Span e) = IntervalEnded e ∷ []

-- the copy-out of step a
pub record CopyOutPut (t : ℕ) (k k' : Kept) (b : Beside) (out : List ℕ) (place : ℕ) (out' : List ℕ) : Type 0 where
  pub copies : CopiesOut t k k' b
  pub puts : Puts 0 (done_entries (step_a (read k b) t (read k b).phase).done) out place out'

abbrev pub CopyOutEnds : ℕ → List ℕ → List ℕ → List ℕ → List ℕ → List ℕ → List ℕ → ℕ → List ℕ → List ℕ → List ℕ → Type 0
CopyOutEnds t times release blocked sets codes out place sets' codes' out' =
    (priority columns waits : List ℕ) → Whole (kept times sets codes)
    → CopyOutPut t (kept times sets codes) (kept times sets' codes')
    (beside priority columns (by_task release blocked waits)) out place out'

-- the test of steps b and f, from a place on
pub record TestPut (after : Stage) (k' : Kept) (b' : Beside) (at : ℕ) (out : List ℕ) (place : ℕ) (out' : List ℕ) : Type 0 where
  pub whole : Whole k'
  pub state : read k' b' ≡ after.state
  pub puts : Puts at (span_entries after.closed) out place out'

abbrev pub EndsBefore : ℕ → ℕ → List ℕ → List ℕ → Kept → List ℕ → List ℕ → ℕ → Kept → List ℕ → List ℕ → Type 0
EndsBefore t at priority release k blocked out place k' blocked' out' =
    (columns waits : List ℕ) → Whole k
    → TestPut (step_f (read k (beside priority columns (by_task release blocked waits))) t)
    k' (beside priority columns (by_task release blocked' waits)) at out place out'

-- with the choice of step e before it
abbrev pub EndsAfter : ℕ → ℕ → List ℕ → List ℕ → List ℕ → Kept → List ℕ → List ℕ → ℕ → Kept → List ℕ → List ℕ → Type 0
EndsAfter t at priority release columns k blocked out place k' blocked' out' =
    (waits : List ℕ) → Whole k
    → let d : State = read k (beside priority columns (by_task release blocked waits)) in
    TestPut (step_f (step_e d t d.phase) t) k' (beside priority columns (by_task release blocked' waits)) at out place out'

-- steps a to g
pub record Steps (t set : ℕ) (k : Kept) (b : Beside) (out : List ℕ) (place : ℕ) (k' : Kept) (b' : Beside) (out' : List ℕ) : Type 0 where
  pub state : read k' b' ≡ at_g (read k b) t set
  pub puts : Puts 0 (entries t (occurred (read k b) t set)) out place out'

-- ---- A run advanced

-- no instant is left: nothing changes
pub record Ended (k : Kept) (b : Beside) (out : List ℕ) (x : Advanced) (k' : Kept) (b' : Beside) (out' : List ℕ) : Type 0 where
  pub numbers_are : k' ≡ k
  pub beside_is : b' ≡ b
  pub none_read : x.read ≡ 0
  pub none_put : x.size ≡ 0
  pub slice_is : out' ≡ out

-- the instant at its time, with the releases of that time, is made: what is left, how many bytes of the releases were read, and the
-- entries that it leaves
pub record Made (rest : List ℕ) (k : Kept) (b : Beside) (out : List ℕ) (x : Advanced) (k' : Kept) (b' : Beside) (out' : List ℕ) :
    Type 0 where
  pub gathered : (g : Batch) × (g.read ≡ x.read) × Gathered rest x.time g
  pub steps : Steps x.time (released_at x.time (releases_at rest 0)) k b out x.size k' b' out'

-- `rest` has the releases that are left, as entries that were checked
pub record Advances (rest : List ℕ) (k : Kept) (b : Beside) (out : List ℕ) (x : Advanced) (k' : Kept) (b' : Beside) (out' : List ℕ) :
    Type 0 where
  pub time_is : Stands x.time (sooner (first_time (releases_at rest 0)) (due (read k b).phase))
  pub ended : x.time ≡ 2 ^ 64 - 1 → Ended k b out x k' b' out'
  pub made : (x.time ≡ 2 ^ 64 - 1 → ⊥) → Made rest k b out x k' b' out'
