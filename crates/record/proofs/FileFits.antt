-- The numbers of the run of every input that is accepted fit their fields. Assumes nothing.
use mathlib.Core.Path.{◌≡◌, sym, subst}
use mathlib.Core.Bool.{true, false≢true}
use mathlib.Core.List.{List, [], ◌∷◌}
use Prim.Native.Nat.{ℕ}
use native.Mathlib.Omega.{arith}
use borrow.Author.Tests.{eq-eqb}
use lib.Dec.{eqb}
use Rattle.table.specs.Head.{head_read, head_of}
use Rattle.rules.specs.Instant.{at_g, occurred}
use Rattle.rules.specs.Entries.{entries}
use Rattle.rules.specs.Calls.{refusal, after_call}
use Rattle.guarantees.specs.Types.{State, Call, Instant, Mark, Marks}
use Rattle.guarantees.proofs.Walk
use Rattle.run.specs.Files.{Releases, releases_of}
use Rattle.run.specs.Run.{Moment, record_entries, moments_of}
use Rattle.record.specs.Types.{Release}
use Rattle.record.specs.FileClaim.{answers, AllServed}
use Rattle.record.specs.Cursor.{AllEarly}
use Rattle.record.specs.Fits.{EntriesFit}
use Rattle.record.proofs.FileClaim.{fed_file}
use Rattle.record.proofs.Fitting.{StateFits, both_fit, to_g, moment_fits, opened_fits}

-- what early instants that are served answer fits its fields
answers_fit : (cs : List Call) (d : State) → StateFits d → AllServed d cs → AllEarly cs → EntriesFit (record_entries (answers d cs))
unfolding AllServed AllEarly answers record_entries EntriesFit
answers_fit [] d h a l = tt
answers_fit (Mark n m ∷ cs) d h a l = absurd (false≢true a.0)
answers_fit (Marks set m ∷ cs) d h a l = absurd (false≢true a.0)
answers_fit (Instant t set ∷ cs) d h a l =
    let e : eqb (refusal d t set) 0 ≡ true = eq-eqb (refusal d t set) 0 a.1 in
    let g : StateFits (at_g d t set) = to_g t (omega (arith, l.0)) d set h in
    let rest : List Moment = answers (after_call d (Instant t set)) cs in
    rw e
    (both_fit (entries t (occurred d t set)) (record_entries rest) (moment_fits t (omega (arith, l.0)) d set h)
    (answers_fit cs _ (subst StateFits (sym (Walk.served d t set e)) g) a.2 l.1))

-- and so does the run of every input that is accepted: no instant of it is refused, and none is late
pub file_fits : (s : List ℕ) (rs : List Release) → releases_of s ≡ Releases rs → EntriesFit (record_entries (moments_of s rs))
file_fits s rs h =
    let f = fed_file s rs h in
    subst (λ (ms : List Moment). EntriesFit (record_entries ms)) f.gives (answers_fit f.calls _ (opened_fits (head_read (head_of s)).table (head_read (head_of s)).marked) f.all_served f.early)
