-- Small facts on single steps, which several of the proofs use.
use Rattle.std.proofs.Common.{◌≡◌, ◌&&◌, ◌<◌}
use Rattle.guarantees.specs.Types.{refl, sym, ap, subst, true, not, ℕ, Table, Option, None, Some, Processor, Interval, Phase, Between, Within, State}
use Rattle.sets.specs.Sets.{member, intersection}
use Rattle.sets.proofs.Laws.{right, union_right, intersection_in}
use lib.ListN.{get_or}
use Rattle.rules.specs.Order.{highest_of}
use Rattle.rules.specs.Instant.{processor_at, processor_task, resting, settled, step_c, step_e, over, with_candidates, choose, copying_out}
use Rattle.guarantees.proofs.Highest.{Best, best}
use Rattle.guarantees.proofs.Cases.{processor_cases, e_cases}

pub best_of : (d : State) (s : ℕ) → Best d.table.priority s (highest_of d s)
best_of d s = best d.table.priority (λ k. get_or d.jobs.release k 0) s

-- an interval is open, and its processor is this one
abbrev pub Opened : Processor → Phase → Type 0
Opened q (Between next outgoing) = ⊥
Opened q (Within j) = j.processor ≡ q

pub choose_opens : (d : State) (t : ℕ) (i : Interval) (q : Option ℕ) → Opened i.processor (choose d t i q).phase
unfolding choose
choose_opens d t i None = refl
choose_opens d t i (Some q) = refl

pub e_opens : (d : State) (t : ℕ) (q : Processor) → Opened q d.phase → Opened q (step_e d t d.phase).phase
e_opens d t q h =
    e_cases (λ x. Opened q x.phase) d t h
    (λ i e s u. subst (λ (z : Processor). Opened z (choose d t i (highest_of d d.jobs.ready)).phase) (subst (Opened q) e h) (choose_opens d t i (highest_of d d.jobs.ready)))

-- every task of one set is in another
abbrev pub Sub : ℕ → ℕ → Type 0
Sub s s' = (k : ℕ) → k < 32 → member k s ≡ true → member k s' ≡ true

pub settles : (i : Interval) → over i ≡ true → settled i.copyin ≡ true
settles i o =
    right (not (copying_out i.copyout)) (settled i.copyin)
    (right (resting i.processor) (not (copying_out i.copyout) && settled i.copyin) o)

-- what is taken at an instant is in the sets
pub record NewIn (d : State) (taken : ℕ) (i : Interval) : Type 0 where
  pub ready : Sub taken d.jobs.ready
  pub candidates : (k : ℕ) → k < 32 → member k taken ≡ true → member k d.marked ≡ true → member k i.candidates ≡ true

abbrev pub NewAt : State → ℕ → Phase → Type 0
NewAt d taken (Between next outgoing) = Unit {0}
NewAt d taken (Within i) = NewIn d taken i

pub c_new : (d : State) (t taken deferred : ℕ) → NewAt (step_c d t taken deferred) taken (step_c d t taken deferred).phase
unfolding step_c
c_new d t taken deferred = go d.phase
  where
    go : (p : Phase) → NewAt (step_c d t taken deferred) taken (with_candidates d taken p)
    go (Between next outgoing) = unfold with_candidates in tt
    go (Within i) = unfold with_candidates in record {
      ready = λ k l h. union_right d.jobs.ready taken k l h;
      candidates = λ k l h m. union_right i.candidates (intersection taken d.marked) k l (intersection_in taken d.marked k l h m);
    }

-- the end of a phase leaves the task that the processor has
pub processor_task_same : (table : Table) (t : ℕ) (q : Processor) → processor_task (processor_at table t q) ≡ processor_task q
processor_task_same table t q =
    processor_cases t table (λ x. processor_task x ≡ processor_task q) q refl (λ n u e x. ap processor_task (sym e)) (λ n s u e x. ap processor_task (sym e))
