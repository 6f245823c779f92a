-- Every state that calls made names tasks of the table alone, and no time and no count of it comes near the end of its type.
use Rattle.std.proofs.Common.{◌≡◌, ◌⊎◌, ◌+◌, ◌^◌, ◌≤◌, ◌<◌}
use Rattle.guarantees.specs.Types.{refl, sym, ap, ◌∙◌, subst, List, inl, inr, ℕ, min, Table, Jobs, WaitingReleases, NoneNext, NoneOutgoing, Phase, Between, State, Option, None, Some, Call}
use native.Mathlib.Omega.{arith}
use mathlib.Core.Path.{ap₂}
use borrow.Author.Tests.{eqb-true, eq-eqb, leb-true, leb-false}
use lib.Dec.{eqb, leb}
use lib.ListN.{get_or}
use Rattle.table.specs.Table.{copyin_length, execution_length, copyout_length}
use Rattle.sets.specs.Sets.{member, below, collect, union, intersection, difference}
use Rattle.sets.proofs.Laws.{by-test, member_task, union_none}
use Rattle.rules.specs.With.{with_jobs, with_phase, with_waiting, at_clock, later}
use Rattle.rules.specs.Instant.{too_soon, passing, step_a, step_b, step_c, step_d, step_e, step_g, taken, deferred, original, with_candidates, due, at_a, at_b, at_e, at_f, at_g, taken_at, deferred_at}
use Rattle.rules.specs.Calls.{opened, refusal}
use Rattle.rules.proofs.ByTask.{stamped_none}
use Rattle.guarantees.specs.History.{after_calls}
use Rattle.guarantees.specs.States.{Named, PlainTime, PlainState}
use Rattle.guarantees.proofs.Proper.{Fair}
use Rattle.guarantees.proofs.Walk.{after}
use Rattle.guarantees.proofs.Blocking.{Bounded, bounded_opened, bounded_quiet, bounded_a, bounded_e, bounded_g}
use Rattle.guarantees.proofs.Served.{Served-at, served_at, due_drop, NotBefore}
use Rattle.guarantees.proofs.Invariant.{Good, good_opened, good_after, drop_one, debt_less}
use Rattle.guarantees.proofs.Completion.{AtRest, rests, due_times}

-- ---- an instant at which nothing is due and nothing is released, while nothing waits

module _ (d : State) (t : ℕ) where
  abbrev no_jobs : Jobs
  no_jobs = record { pending = 0; ready = 0; release = d.jobs.release; blocked = d.jobs.blocked }

  abbrev none_waits : WaitingReleases
  none_waits = record { tasks = 0; times = d.waiting.times; before = d.waiting.before }

  abbrev idle : State
  idle = with_phase (with_waiting (with_jobs d no_jobs) none_waits) (Between NoneNext NoneOutgoing)

  idle_stays : d.waiting.before < 2 ^ 32 → at_g idle t 0 ≡ at_clock idle t
  unfolding at_g at_f at_e at_b at_a taken_at deferred_at step_a step_b step_c step_d step_e step_g passing too_soon taken deferred with_candidates union intersection difference collect below member
  idle_stays few = rw (union_none d.waiting.before few, stamped_none (original none_waits t) 0 d.jobs.release, stamped_none (λ k. 0) 0 d.jobs.blocked, stamped_none (λ k. t) 0 d.waiting.times)

  is_idle : AtRest d → d ≡ idle
  is_idle r = ap₂ (λ (j : Jobs) (p : Phase). with_phase (with_jobs d j) p) jobs r.phase ∙ ap (λ (w : WaitingReleases). with_phase (with_waiting (with_jobs d no_jobs) w) (Between NoneNext NoneOutgoing)) waits
    where
      jobs : d.jobs ≡ no_jobs
      jobs = ap₂ (λ (x y : ℕ). record { pending = x; ready = y; release = d.jobs.release; blocked = d.jobs.blocked }) r.pending r.ready

      waits : d.waiting ≡ none_waits
      waits = ap (λ (x : ℕ). record { tasks = x; times = d.waiting.times; before = d.waiting.before }) r.waiting

  nothing_begins : d.waiting.before < 2 ^ 32 → AtRest d → at_g d t 0 ≡ at_clock d t
  nothing_begins few r = subst (λ (x : State). at_g x t 0 ≡ at_clock x t) (sym (is_idle r)) (idle_stays few)

-- ---- every state that calls made

one_more : (c : ℕ) → c ≤ 2 → min (c + 1) 255 ≡ c + 1
one_more c l = omega arith

module _ (table : Table) (marks : ℕ) (fair : Fair table marks) where
  abbrev G : State → Type 0
  G d = Good table marks fair d

  named : (d : State) → G d → Named d.table d
  named d g =
      subst (λ (x : Table). Named x d) (sym g.table_is) (record {
        numbers = λ n k. member_task n table.present fair.present k;
        spaced = λ n l m. fair.spaced n m;
        marked = g.parted.marks;
        pending = g.parted.pending;
        ready = g.parted.ready;
        waiting = g.parted.waits;
        before = g.before_known;
        phase = g.parted.known;
      })

  -- up to here a time has room for every length
  plain_time : (t : ℕ) → t ≤ 3000000000 → PlainTime table t
  plain_time t l = record {
    copyin = λ n k. room (copyin_length table.columns n) (fair.copyins n k).1;
    execution = λ n k. room (execution_length table.columns n) (fair.executions n k).1;
    copyout = λ n k. room (copyout_length table.columns n) (fair.copyouts n k).1;
  }
    where
      room : (x : ℕ) → x ≤ 1000000 → later t x ≡ t + x
      room x m = omega arith

  -- and past it nothing is released, and nothing is due
  times : (d : State) (t set : ℕ) → G d → Served-at d t set → PlainTime d.table t ⊎ (at_g d t set ≡ at_clock d t)
  times d t set g s =
      by-test (leb t 3000000000)
      (λ l. inl (subst (λ (x : Table). PlainTime x t) (sym g.table_is) (plain_time t (leb-true t 3000000000 l))))
      (λ l. by-test (eqb set 0) (λ e. inr (late (leb-false t 3000000000 l) (eqb-true set 0 e))) (λ e. absurd (omega (arith, s.early e, leb-false t 3000000000 l))))
    where
      go : (x : Option ℕ) → due d.phase ≡ x → 3000000000 < t → at_g d t 0 ≡ at_clock d t
      go None e l = nothing_begins d t g.before_few (rests table marks fair d g e)
      go (Some u) e l =
          absurd (omega (arith, (due_times table marks fair d u g e).bound, debt_less d g.sound, drop_one (NotBefore t) u d.phase s.due (due_drop u d.phase e)))

      late : 3000000000 < t → set ≡ 0 → at_g d t set ≡ at_clock d t
      late l e = ap (at_g d t) e ∙ go (due d.phase) refl l

  pub plain : (calls : List Call) → PlainState (after_calls (opened table marks) calls)
  plain calls = record {
    named = named d good;
    behind = good.behind;
    counts = λ n l. (bounded n l).most;
    instants = λ t set e. record {
      times = times d t set good (served_at d t set (eq-eqb (refusal d t set) 0 e));
      counts_b = λ n l. one_more (get_or (at_a d t).state.jobs.blocked n 0) (bounded_a table.priority n l d t set (bounded n l)).most;
      counts_f = λ n l. one_more (get_or (at_e d t set).jobs.blocked n 0) (bounded_e table.priority n l d t set (bounded n l)).most;
    };
  }
    where
      d : State
      d = after_calls (opened table marks) calls

      good : G (after_calls (opened table marks) calls)
      good = good_after table marks fair calls (opened table marks) (good_opened table marks fair)

      bounded : (n : ℕ) (l : n < 32) → Bounded table.priority n l (after_calls (opened table marks) calls)
      bounded n l =
          after (Bounded table.priority n l) (λ d t set e h. bounded_g table.priority n l d t set h) (λ d m e h. bounded_quiet table.priority n l d m h)
          calls (opened table marks) (bounded_opened table.priority n l table marks refl)
