-- The claim accepts the plans' histories, since the theorem gives it of their calls; and each wrong history goes against a line of it.
use Prim.Native.Nat.{◌+◌, ◌*◌, ℕ, ◌≤◌, ◌<◌}
use mathlib.Core.Path.{◌≡◌, refl, sym, ap, ◌∙◌, subst}
use mathlib.Core.Bool.{Bool, true, false, cond, ◌&&◌, true≢false, false≢true}
use mathlib.Core.List.{List, [], ◌∷◌, ◌++◌}
use Rattle.table.specs.declared.Table.{Table}
use Rattle.entries.specs.declared.JobEntry.{JobEntry}
use Rattle.std.specs.Prelude.{Option, None, Some}
use Rattle.std.proofs.Common.{Ok}
use mathlib.Core.List.{append-nil}
use mathlib.Core.Logic.{◌⊎◌, inl, ⊎_elim}
use native.Mathlib.Omega.{arith}
use lib.ListN.{take, drop}
use Rattle.words.specs.Words
use Rattle.sets.specs.Sets
use Rattle.entries.specs.Entries
use Rattle.table.specs.Head
use Rattle.rules.specs.Order
use Rattle.rules.specs.Instant
use Rattle.rules.specs.Calls
use Rattle.guarantees.specs.Types.{Copying}
use Rattle.rules.specs.Instant.{due, copyin_task}
use Rattle.rules.specs.Calls.{opening, state_opened}
use Rattle.guarantees.specs.History
use Rattle.rules.specs.declared.Call.{Call}
use Rattle.guarantees.specs.History.{Event, Takes, Completes, history, after_calls, EmptySets}
use Rattle.guarantees.specs.Queries.{details, is_task, takes, completes, after, first, each, total, upto, situation, NoneOpen, waiting, original, taking, start, waited, intervals, completion}
use Rattle.guarantees.specs.Figure.{greatest, longest_interval, not_lower_in, before_start}
use Rattle.guarantees.specs.Claim.{Holds, Completed, TakenLater, AllCompleted, Claim, Demand3}
use Rattle.sets.proofs.Laws.{by-test, same_task}
use Rattle.histories.specs.Histories.{task, tasks, three, plans_table, spaced_tasks, spaced_table, AcceptsOf, Accepts, Refuses, PlansAccepted, WrongRefused, calls_a, history_a, calls_b, history_b, calls_c, history_c, calls_d, history_d, calls_e, history_e, calls_f, history_f, calls_f', history_f', calls_waiting, history_waiting, second_lower, second_finished, thrown_out_runs, third_idle, third_lower, copyout_late, four_intervals, copyout_not_at_once, completion_late, completion_missing, completion_unexecuted, begins_late, no_ticks, not_executed, loaded_late, promoted_early, execution_long, promoted_unmarked, starts_unasked, starts_twice, stops_unstarted, cut_short, one_waits, never_taken, two_wait, waited_unexecuted, before_13, before_17, job_1, Tells, OneEntry, WaitedEntry, taken_late, waits_for_nothing, taken_twice, completed_twice, runs_unreleased, executed_again, another_tick, instants_fall, nobody_promoted, promoted_late, promoted_beside_the_loaded, begins_twice, ends_twice, finishes_twice, gives_way_twice, FigureRefuses, FigureTells, unmarked_in_four, marked_in_three, marked_behind_idle, marked_idles, lasts_long, open_long, completes_behind_two, unmarked_late, marked_late, between_unstarted, between_unstopped, Marks, calls_one, taken_another, up_to_5, ReleasesRefused, calls_skipped, history_skipped, calls_third, history_third, RefusesSpaced, taken_at_0, SpacingsAccepted, SpacingsRefused, LastReleases, PlanEntries, waits_between, ends_late, stays_open, ends_a_tick_late, taken_unchosen, ends_behind_a_taking, begins_a_tick_late, lower_chosen, nobody_chosen, copyin_short, copyin_overdue, cancelled_at_its_end, gives_way_unchosen, over_and_open, left_open, left_copying, begins_for_nobody, ends_unchosen, open_for_a_release, open_for_a_deferral, waits_before_the_completion, taken_behind_the_begin, late_table, cancelled_late, not_thrown_out, slow_tasks, slow_table, calls_slow, history_slow, ends_copying_out, LaterEnd, calls_unmarked, history_unmarked, BoundsMet}
use Rattle.guarantees.specs.Intervals.{ended}
use Rattle.guarantees.specs.Entries.{lower_in, handed_in, marked_by}
use Rattle.guarantees.specs.Queries.{until}
use Rattle.guarantees.proofs.Tally.{nothing, tally, Found, found}
use Rattle.guarantees.proofs.Demand3.{demand_3}

-- ---- the plans, computed

-- what opening and the calls compute with
unfoldable computed : Unit {0}
unfolding Words.number_at Sets.member Sets.below Sets.collect Sets.union Sets.intersection Sets.difference Sets.insert Sets.remove Entries.task_at Entries.release_at Entries.spacing_at Entries.entry_at
    Head.outside Head.number_refused Head.mark_or_length_refusal Head.task_refusal Head.with_task Head.with_marked Head.ticks_refused Head.spacing_refusal Head.with_spacing Head.entry_refusal Head.with_entry Head.marked_with Head.behind_head Head.head_from Head.head_of Head.head_alone Order.better
    Order.highest_below Order.highest Order.higher_than Instant.processor_at Instant.copyout_at Instant.ended Instant.completed Instant.without_done Instant.step_a Instant.promoted Instant.blocks
    Instant.counted Instant.close Instant.interval_entry Instant.close_stage Instant.step_b Instant.previous_release Instant.too_soon Instant.passing Instant.taken Instant.deferred Instant.skipped Instant.stamped Instant.with_candidates Instant.step_c
    Instant.cancel Instant.cancel_by Instant.step_d Instant.choose Instant.choose_if Instant.step_e Instant.begin Instant.step_g Instant.sooner Instant.due Instant.at_a Instant.at_b Instant.taken_at
    Instant.deferred_at Instant.skipped_at Instant.at_e Instant.at_f Instant.at_g Instant.occurred Calls.opened Calls.opening Calls.unknown Calls.refusal Calls.served Calls.instant History.processor_events
    History.processor_events_in History.finish_events History.finish_events_in History.completion_events History.end_events History.take_events History.defer_events History.giving_events
    History.giving_events_in History.begin_events History.execution_events History.start_events History.happens Calls.after_call History.by_call History.after_calls History.history task tasks three
    plans_table spaced_tasks spaced_table slow_tasks slow_table calls_a history_a calls_b history_b calls_c history_c calls_d history_d calls_e history_e calls_f history_f calls_f' history_f' calls_waiting history_waiting calls_skipped history_skipped calls_third history_third
    calls_slow history_slow
computed = tt

-- the bytes are those of a table
record Opens (bytes : List ℕ) (table : Table) : Type 0 where
  served : opening bytes ≡ Ok (state_opened (opening bytes))
  read : (state_opened (opening bytes)).table ≡ table

opens : Opens tasks plans_table
unfolding computed
opens = record { served = refl; read = refl }

opens_spaced : Opens (spaced_tasks 5) (spaced_table 5) × Opens (spaced_tasks 6) (spaced_table 6)
unfolding computed
opens_spaced = (record { served = refl; read = refl }, record { served = refl; read = refl })

-- the history that some calls make, where they leave nothing due
record MakesOf (bytes : List ℕ) (calls : List Call) (h : List Event) : Type 0 where
  made : history (state_opened (opening bytes)) calls ≡ h
  at_rest : due (after_calls (state_opened (opening bytes)) calls).phase ≡ None

abbrev Makes : List Call → List Event → Type 0
Makes = MakesOf tasks

spaced_made : MakesOf (spaced_tasks 5) calls_f history_f × MakesOf (spaced_tasks 6) calls_f' history_f' × MakesOf (spaced_tasks 5) calls_skipped history_skipped × MakesOf (spaced_tasks 5) calls_third history_third
unfolding computed
spaced_made = (
  record { made = refl; at_rest = refl },
  record { made = refl; at_rest = refl },
  record { made = refl; at_rest = refl },
  record { made = refl; at_rest = refl },
)

plans_made : Makes calls_a history_a × Makes calls_b history_b × Makes calls_c history_c × Makes calls_d history_d × Makes calls_e history_e × Makes calls_f history_f × Makes calls_f' history_f' × Makes calls_waiting history_waiting
unfolding computed
plans_made = (
  record { made = refl; at_rest = refl },
  record { made = refl; at_rest = refl },
  record { made = refl; at_rest = refl },
  record { made = refl; at_rest = refl },
  record { made = refl; at_rest = refl },
  record { made = refl; at_rest = refl },
  record { made = refl; at_rest = refl },
  record { made = refl; at_rest = refl },
)

-- ---- the claim, by the theorem

accepts_of : (bytes : List ℕ) (table : Table) → Opens bytes table → (calls : List Call) (h : List Event) → MakesOf bytes calls h → AcceptsOf bytes table calls h
unfolding Demand3 EmptySets
accepts_of bytes table o calls h m =
    let claim : Claim (state_opened (opening bytes)) calls = demand_3 bytes (state_opened (opening bytes)) o.served calls in
    record {
      made = m.made;
      holds = subst (λ (t : Table). Holds t h) o.read (subst (λ (x : List Event). Holds (state_opened (opening bytes)).table x) m.made claim.of_the_list);
      completed =
          subst AllCompleted m.made
          (subst (λ (x : List Call). AllCompleted (history (state_opened (opening bytes)) x)) (append-nil calls) (claim.complete_every_job [] m.at_rest));
    }

accepts : (calls : List Call) (h : List Event) → Makes calls h → Accepts calls h
accepts = accepts_of tasks plans_table opens

pub plans_accepted : PlansAccepted
unfolding PlansAccepted
plans_accepted = (
  accepts calls_a history_a plans_made.0,
  accepts calls_b history_b plans_made.1,
  accepts calls_c history_c plans_made.2,
  accepts calls_d history_d plans_made.3,
  accepts calls_e history_e plans_made.4,
  accepts calls_f history_f plans_made.5,
  accepts calls_f' history_f' plans_made.6,
  accepts calls_waiting history_waiting plans_made.7,
)

-- ---- the wrong histories, each with the line that it goes against

no_task : (n : ℕ) → None ≡ Some n → ⊥
no_task n e = let z : ◌≡◌ {A = ℕ} 0 1 = cc in omega arith

not_never : (t : ℕ) → None ≡ Some t → ⊥
not_never t e = let z : ◌≡◌ {A = ℕ} 0 1 = cc in omega arith

never_is : (t : ℕ) → Some t ≡ None → ⊥
never_is t e = let z : ◌≡◌ {A = ℕ} 0 1 = cc in omega arith

other_tick : (t u : ℕ) → (t ≡ u → ⊥) → Some t ≡ Some u → ⊥
other_tick t u h e = h cc

refuses_second_lower : Refuses second_lower
unfolding second_lower after each upto plans_table three
refuses_second_lower h = (h.each_job (take 4 second_lower) (drop 5 second_lower) 1 1 true refl).marked_in_one refl 1 (omega arith) (omega arith) (omega arith)

refuses_second_finished : Refuses second_finished
unfolding second_finished after each upto plans_table three
refuses_second_finished h =
    (h.each_job (take 11 second_finished) (drop 12 second_finished) 1 4 true refl).marked_in_one refl 1 (omega arith) (omega arith) (omega arith)

other_task : (t u : ℕ) → (t ≡ u → ⊥) → Some t ≡ Some u → ⊥
other_task t u h e = h cc

task_none : (n : ℕ) → Some n ≡ None → ⊥
task_none n e = let z : ◌≡◌ {A = ℕ} 0 1 = cc in omega arith

refuses_thrown_out_runs : Refuses thrown_out_runs
unfolding thrown_out_runs after plans_table three Sets.member Sets.below Sets.collect Sets.insert Order.better Order.highest_below Order.highest
refuses_thrown_out_runs h = task_none 2 (h.each_interval.each_begin (take 23 thrown_out_runs) (drop 24 thrown_out_runs) 12 (Some 2) (Some 1) refl).1

refuses_third_idle : Refuses third_idle
unfolding third_idle after each upto plans_table three
refuses_third_idle h = (h.each_job (take 1 third_idle) (drop 2 third_idle) 2 0 false refl).third_on 2 (omega arith) (omega arith)

refuses_third_lower : Refuses third_lower
unfolding third_lower after each upto plans_table three
refuses_third_lower h = (h.each_job (take 1 third_lower) (drop 2 third_lower) 2 0 false refl).lower_in_two 2 (omega arith) (omega arith) (omega arith)

refuses_copyout_late : Refuses copyout_late
unfolding copyout_late first plans_table three
refuses_copyout_late h = no_task 1 ((h.each_executed (take 7 copyout_late) (drop 8 copyout_late) 1 1 None refl).copyout_begins 6 refl).1

refuses_four_intervals : Refuses four_intervals
unfolding four_intervals total
refuses_four_intervals h = let l : 4 ≤ 3 = h.at_most_three in omega arith

refuses_copyout_not_at_once : Refuses copyout_not_at_once
unfolding copyout_not_at_once first plans_table three
refuses_copyout_not_at_once h =
    other_tick 6 5 (λ e. omega arith) ((h.each_executed (take 6 copyout_not_at_once) (drop 7 copyout_not_at_once) 1 2 None refl).copyout_begins 5 refl).0

refuses_completion_late : Refuses completion_late
unfolding completion_late first after plans_table three
refuses_completion_late h =
    other_tick 7 6 (λ e. omega arith) ((h.each_executed (take 6 completion_late) (drop 7 completion_late) 1 2 None refl).copyout_ends 5 refl)

refuses_completion_missing : Refuses completion_missing
unfolding completion_missing first after plans_table three
refuses_completion_missing h = not_never 6 ((h.each_executed (take 6 completion_missing) (drop 7 completion_missing) 1 2 None refl).copyout_ends 5 refl)

refuses_completion_unexecuted : Refuses completion_unexecuted
unfolding completion_unexecuted after plans_table three
refuses_completion_unexecuted h =
    let x : (b : ℕ) × (Some 0 ≡ Some b) × (None ≡ None) × (None ≡ Some 1) × (1 ≡ b + 1) = h.each_completion (take 4 completion_unexecuted) (drop 5 completion_unexecuted) 1 1 refl in
    no_task 1 x.3

refuses_begins_late : Refuses begins_late
unfolding begins_late first after plans_table three
refuses_begins_late h = other_tick 50 0 (λ e. omega arith) (h.each_taking (take 1 begins_late) (drop 2 begins_late) 1 0 true refl refl)

refuses_no_ticks : Refuses no_ticks
unfolding no_ticks first after plans_table three
refuses_no_ticks h = never_is 2 ((h.each_execution (take 6 no_ticks) (drop 7 no_ticks) 1 2 None refl).execution_ends 2 refl)

refuses_not_executed : Refuses not_executed
unfolding not_executed first after plans_table three
refuses_not_executed h = not_never 2 ((h.each_execution (take 6 not_executed) (drop 7 not_executed) 1 2 None refl).loaded_starts refl)

refuses_loaded_late : Refuses loaded_late
unfolding loaded_late first after plans_table three
refuses_loaded_late h = other_tick 3 2 (λ e. omega arith) ((h.each_execution (take 6 loaded_late) (drop 7 loaded_late) 1 2 None refl).loaded_starts refl)

refuses_promoted_early : Refuses promoted_early
unfolding promoted_early first after plans_table three
refuses_promoted_early h =
    other_tick 1 3 (λ e. omega arith) ((h.each_execution (take 7 promoted_early) (drop 8 promoted_early) 1 1 None refl).promoted_starts refl)

refuses_execution_long : Refuses execution_long
unfolding execution_long first after plans_table three
refuses_execution_long h =
    other_tick 6 5 (λ e. omega arith) ((h.each_execution (take 6 execution_long) (drop 7 execution_long) 1 2 None refl).execution_ends 2 refl)

refuses_promoted_unmarked : Refuses promoted_unmarked
unfolding promoted_unmarked after plans_table three Sets.member Sets.below Sets.collect Sets.insert Order.better Order.highest_below Order.highest
refuses_promoted_unmarked h = task_none 2 (h.each_interval.each_begin (take 13 promoted_unmarked) (drop 14 promoted_unmarked) 5 (Some 2) (Some 1) refl).1

refuses_nobody_promoted : Refuses nobody_promoted
unfolding nobody_promoted after plans_table three Sets.member Sets.below Sets.collect Sets.insert Order.better Order.highest_below Order.highest
refuses_nobody_promoted h = no_task 1 (h.each_interval.each_begin (take 7 nobody_promoted) (drop 8 nobody_promoted) 1 None None refl).1

refuses_promoted_late : Refuses promoted_late
unfolding promoted_late after plans_table three Sets.member Sets.below Sets.collect Sets.insert Order.better Order.highest_below Order.highest
refuses_promoted_late h = task_none 2 (h.each_interval.each_begin (take 13 promoted_late) (drop 14 promoted_late) 5 (Some 2) (Some 1) refl).1

refuses_promoted_beside_the_loaded : Refuses promoted_beside_the_loaded
unfolding promoted_beside_the_loaded after plans_table three Sets.member Sets.below Sets.collect Sets.insert Order.better Order.highest_below Order.highest
refuses_promoted_beside_the_loaded h =
    other_task 2 1 (λ e. omega arith) (h.each_interval.each_begin (take 7 promoted_beside_the_loaded) (drop 8 promoted_beside_the_loaded) 2 (Some 2) None refl).1

refuses_begins_twice : Refuses begins_twice
unfolding begins_twice after
refuses_begins_twice h = true≢false (h.each_interval.each_begin (take 3 begins_twice) (drop 4 begins_twice) 0 None None refl).0

refuses_ends_twice : Refuses ends_twice
unfolding ends_twice after
refuses_ends_twice h = false≢true (h.each_interval.each_end (take 6 ends_twice) (drop 7 ends_twice) 2 refl)

refuses_finishes_twice : Refuses finishes_twice
unfolding finishes_twice after
refuses_finishes_twice h = let e : ◌≡◌ {A = ℕ} 1 0 = (h.each_interval.each_finish (take 6 finishes_twice) (drop 7 finishes_twice) 2 refl).1 in omega arith

refuses_gives_way_twice : Refuses gives_way_twice
unfolding gives_way_twice after
refuses_gives_way_twice h =
    ⊎_elim (λ e. let z : ◌≡◌ {A = ℕ} 2 0 = e in omega arith) (λ e. let z : ◌≡◌ {A = ℕ} 2 1 = e.0 in omega arith)
    (h.each_interval.each_giving (take 6 gives_way_twice) (drop 7 gives_way_twice) 2 refl).1

refuses_taken_late : Refuses taken_late
unfolding taken_late after first
refuses_taken_late h = other_tick 19 6 (λ e. omega arith) ((h.each_task 1).at_resuming (take 17 taken_late) (drop 18 taken_late) 6 5 refl refl)

refuses_two_wait : Refuses two_wait
unfolding two_wait after
refuses_two_wait h = never_is 3 ((h.each_task 1).at_waiting (take 13 two_wait) (drop 14 two_wait) 5 refl).1

refuses_waits_for_nothing : Refuses waits_for_nothing
unfolding waits_for_nothing after
refuses_waits_for_nothing h = ((h.each_task 1).at_waiting (take 14 waits_for_nothing) (drop 15 waits_for_nothing) 6 refl).0 refl

refuses_taken_twice : Refuses taken_twice
unfolding taken_twice after
refuses_taken_twice h = let e : ◌≡◌ {A = ℕ} 1 0 = (h.each_task 1).at_taking (take 6 taken_twice) (drop 7 taken_twice) 1 true refl in omega arith

refuses_completed_twice : Refuses completed_twice
unfolding completed_twice after
refuses_completed_twice h = let e : ◌≡◌ {A = ℕ} 1 3 = (h.each_task 1).at_completion (take 15 completed_twice) (drop 16 completed_twice) 6 refl in omega arith

refuses_runs_unreleased : Refuses runs_unreleased
unfolding runs_unreleased after
refuses_runs_unreleased h = let e : ◌≡◌ {A = ℕ} 0 1 = (h.each_task 1).at_execution (take 6 runs_unreleased) (drop 7 runs_unreleased) 2 None refl in omega arith

refuses_executed_again : Refuses executed_again
unfolding executed_again after
refuses_executed_again h = let e : ◌≡◌ {A = ℕ} 2 1 = (h.each_task 1).at_execution (take 13 executed_again) (drop 14 executed_again) 5 (Some 1) refl in omega arith

refuses_another_tick : Refuses another_tick
unfolding another_tick after
refuses_another_tick h = other_tick 3 0 (λ e. omega arith) (h.in_time.on_time (take 1 another_tick) (drop 2 another_tick) (Takes 1 0 true) refl refl)

refuses_instants_fall : Refuses instants_fall
unfolding instants_fall after
refuses_instants_fall h = let l : 5 < 3 = h.in_time.rising (take 3 instants_fall) (drop 4 instants_fall) 3 5 refl refl in omega arith

refuses_starts_unasked : Refuses starts_unasked
unfolding starts_unasked after plans_table three
refuses_starts_unasked h = no_task 1 (h.each_start (take 3 starts_unasked) (drop 4 starts_unasked) 1 0 refl).0

refuses_starts_twice : Refuses starts_twice
unfolding starts_twice after plans_table three
refuses_starts_twice h = never_is 2 (h.each_start (take 9 starts_twice) (drop 10 starts_twice) 1 4 refl).2

refuses_stops_unstarted : Refuses stops_unstarted
unfolding stops_unstarted after plans_table three
refuses_stops_unstarted h =
    let x : (s : ℕ) × (Some 1 ≡ Some 1) × (None ≡ None) × (None ≡ Some s) × (None ≡ None) × (2 ≡ s + 3) =
    h.each_stop (take 9 stops_unstarted) (drop 10 stops_unstarted) 1 2 refl in
    not_never x.0 x.3

refuses_cut_short : Refuses cut_short
unfolding cut_short after plans_table three
refuses_cut_short h =
    let x : (s : ℕ) × (None ≡ Some s) = h.each_end (take 9 cut_short) (drop 10 cut_short) 1 4 refl refl in not_never x.0 x.1

refuses_one_waits : Refuses one_waits
unfolding one_waits total
refuses_one_waits h = let l : 4 ≤ 3 = h.at_most_three in omega arith

refuses_incomplete : AllCompleted third_idle → ⊥
unfolding third_idle first
refuses_incomplete h = let x : Completed 2 (drop 2 third_idle) = h.each (take 1 third_idle) (drop 2 third_idle) 2 0 false refl in not_never x.done x.completes

-- a release that waits is taken, at the next completion of a job of its task
taking_there : (n : ℕ) (between : List Event) (later : List Event) (tick : ℕ) (m : Bool) → taking n between ≡ None → taking n (between ++ (Takes n tick m ∷ later)) ≡ Some tick
unfolding first
taking_there n [] later tick m h = ap (λ (b : Bool). cond b (Some tick) (taking n later)) (same_task n)
taking_there n (e ∷ between) later tick m h =
    by-test (takes e && is_task n (details e).task) (λ x. absurd (never_is (details e).tick (rw x at h))) (λ x. rw x (taking_there n between later tick m (rw x at h)))

completes_in : (n : ℕ) (between later : List Event) (c : ℕ) → completion n between ≡ Some c → completion n (between ++ later) ≡ Some c
unfolding first
completes_in n [] later c h = absurd (not_never c h)
completes_in n (e ∷ between) later c h =
    by-test (completes e && is_task n (details e).task) (λ x. rw x (rw x at h)) (λ x. rw x (completes_in n between later c (rw x at h)))

then_taken : (n : ℕ) (after : List Event) (x : TakenLater n after) → (taking n after ≡ Some x.tick) × (completion n after ≡ Some x.tick)
then_taken n after x = (
  ap (taking n) x.is_taken ∙ taking_there n x.between x.later x.tick x.marked x.next_taken,
  ap (completion n) x.is_taken ∙ completes_in n x.between (Takes n x.tick x.marked ∷ x.later) x.tick x.at_completion,
)

refuses_never_taken : AllCompleted never_taken → ⊥
unfolding never_taken first
refuses_never_taken h =
    let x : TakenLater 1 (drop 12 never_taken) = h.each_deferred (take 11 never_taken) (drop 12 never_taken) 1 5 refl in
    let e : None ≡ Some x.tick = (then_taken 1 (drop 12 never_taken) x).0 in not_never x.tick e

refuses_late_taking : AllCompleted taken_late → ⊥
unfolding taken_late first
refuses_late_taking h =
    let x : TakenLater 1 (drop 15 taken_late) = h.each_deferred (take 14 taken_late) (drop 15 taken_late) 1 5 refl in
    let e : Some 19 ≡ Some x.tick = (then_taken 1 (drop 15 taken_late) x).0 in
    let f : Some 6 ≡ Some x.tick = (then_taken 1 (drop 15 taken_late) x).1 in
    other_tick 6 19 (λ e. omega arith) (f ∙ sym e)

refuses_waited_unexecuted : AllCompleted waited_unexecuted → ⊥
unfolding waited_unexecuted first
refuses_waited_unexecuted h =
    let x : Completed 1 (drop 16 waited_unexecuted) = h.each (take 15 waited_unexecuted) (drop 16 waited_unexecuted) 1 6 true refl in not_never x.started x.starts

-- M of the plans' tasks
longest_is : longest_interval plans_table.present plans_table.columns ≡ 7
unfolding longest_interval greatest Sets.member plans_table three
longest_is = refl

refuses_waits_between : Refuses waits_between
unfolding waits_between first after each upto plans_table three
refuses_waits_between h =
    let x : 16 ≤ 0 + 2 * longest_interval plans_table.present plans_table.columns + 1 =
    (h.figure.each_job (take 1 waits_between) (drop 2 waits_between) 2 0 false refl).completes_within 16 refl in
    omega (arith, x, longest_is)

refuses_ends_late : Refuses ends_late
unfolding ends_late after
refuses_ends_late h =
    let x : 13 ≤ 5 + longest_interval plans_table.present plans_table.columns = h.figure.each_end (take 15 ends_late) [] 5 13 refl refl in
    omega (arith, x, longest_is)

refuses_stays_open : Refuses stays_open
unfolding stays_open after
refuses_stays_open h =
    let x : 13 ≤ 5 + longest_interval plans_table.present plans_table.columns = h.figure.each_instant (take 14 stays_open) [] 5 13 None refl refl refl in
    omega (arith, x, longest_is)

refuses_ends_a_tick_late : Refuses ends_a_tick_late
unfolding ends_a_tick_late after plans_table three Sets.member Sets.below Sets.collect Sets.insert Sets.remove Order.better Order.highest_below Order.highest
refuses_ends_a_tick_late h = false≢true (h.each_copyin.each_open (take 5 ends_a_tick_late) (drop 5 ends_a_tick_late) refl refl refl)

refuses_taken_unchosen : Refuses taken_unchosen
unfolding taken_unchosen after plans_table three Sets.member Sets.below Sets.collect Sets.insert Sets.remove Order.better Order.highest_below Order.highest
refuses_taken_unchosen h = false≢true (h.each_copyin.each_end (take 15 taken_unchosen) (drop 16 taken_unchosen) 7 refl)

refuses_begins_a_tick_late : Refuses begins_a_tick_late
unfolding begins_a_tick_late first after
refuses_begins_a_tick_late h = other_tick 3 2 (λ e. omega arith) (h.each_next (take 5 begins_a_tick_late) (drop 6 begins_a_tick_late) 1 2 (omega arith) refl refl)

refuses_ends_behind_a_taking : Refuses ends_behind_a_taking
unfolding ends_behind_a_taking after plans_table three Sets.member Sets.below Sets.collect Sets.insert Sets.remove Order.better Order.highest_below Order.highest
refuses_ends_behind_a_taking h = false≢true (h.each_copyin.each_open (take 10 ends_behind_a_taking) (drop 10 ends_behind_a_taking) refl refl refl)

refuses_lower_chosen : Refuses lower_chosen
unfolding lower_chosen after plans_table three Sets.member Sets.below Sets.collect Sets.insert Sets.remove Order.better Order.highest_below Order.highest
refuses_lower_chosen h = other_task 2 3 (λ e. omega arith) (ap copyin_task (h.each_copyin.each_finish (take 5 lower_chosen) (drop 6 lower_chosen) 3 refl).1)

refuses_nobody_chosen : Refuses nobody_chosen
unfolding nobody_chosen after plans_table three Sets.member Sets.below Sets.collect Sets.insert Sets.remove Order.better Order.highest_below Order.highest
refuses_nobody_chosen h = false≢true (h.each_copyin.each_end (take 11 nobody_chosen) (drop 12 nobody_chosen) 6 refl)

refuses_copyin_short : Refuses copyin_short
unfolding copyin_short after plans_table three Sets.member Sets.below Sets.collect Sets.insert Sets.remove Order.better Order.highest_below Order.highest
refuses_copyin_short h =
    let x : (u : ℕ) × (Copying 1 2 ≡ Copying 1 u) × (Some 1 ≡ Some u) = h.each_copyin.each_finish (take 4 copyin_short) (drop 5 copyin_short) 1 refl in
    let u : 2 ≡ x.0 = let z : Copying 1 2 ≡ Copying 1 x.0 = x.1 in cc in
    other_tick 1 x.0 (λ e. omega arith) x.2

refuses_copyin_overdue : Refuses copyin_overdue
unfolding copyin_overdue after plans_table three Sets.member Sets.below Sets.collect Sets.insert Sets.remove Order.better Order.highest_below Order.highest
refuses_copyin_overdue h = let x : 4 ≤ 2 = h.each_copyin.each_instant (take 3 copyin_overdue) (drop 4 copyin_overdue) 1 4 2 refl refl in omega arith

refuses_cancelled_at_its_end : Refuses cancelled_at_its_end
unfolding cancelled_at_its_end after plans_table three Sets.member Sets.below Sets.collect Sets.insert Sets.remove Order.better Order.highest_below Order.highest
refuses_cancelled_at_its_end h = (h.each_copyin.each_giving (take 11 cancelled_at_its_end) (drop 12 cancelled_at_its_end) 2 refl).1 4 refl refl

refuses_gives_way_unchosen : Refuses gives_way_unchosen
unfolding gives_way_unchosen after plans_table three Sets.member Sets.below Sets.collect Sets.insert Sets.remove Order.better Order.highest_below Order.highest
refuses_gives_way_unchosen h = other_task 3 2 (λ e. omega arith) (h.each_copyin.each_giving (take 6 gives_way_unchosen) (drop 7 gives_way_unchosen) 2 refl).0

refuses_over_and_open : Refuses over_and_open
unfolding over_and_open after plans_table three Sets.member Sets.below Sets.collect Sets.insert Sets.remove Order.better Order.highest_below Order.highest
refuses_over_and_open h = false≢true (h.each_copyin.each_open (take 5 over_and_open) (drop 5 over_and_open) refl refl refl)

refuses_left_open : Refuses left_open
unfolding left_open after plans_table three Sets.member Sets.below Sets.collect Sets.insert Sets.remove Order.better Order.highest_below Order.highest
refuses_left_open h = false≢true (h.each_copyin.each_open left_open [] refl refl refl)

refuses_left_copying : Refuses left_copying
unfolding left_copying after plans_table three Sets.member Sets.below Sets.collect Sets.insert Sets.remove Order.better Order.highest_below Order.highest
refuses_left_copying h = let x : 2 < 2 = h.each_copyin.each_copying left_copying [] 2 2 2 refl refl refl refl in omega arith

refuses_begins_for_nobody : Refuses begins_for_nobody
unfolding begins_for_nobody after plans_table three Sets.member Sets.below Sets.collect Sets.insert Sets.remove Order.better Order.highest_below Order.highest
refuses_begins_for_nobody h = false≢true (h.each_copyin.each_open begins_for_nobody [] refl refl refl)

refuses_ends_unchosen : Refuses ends_unchosen
unfolding ends_unchosen after
refuses_ends_unchosen h = let x : 5 ≤ 2 = h.each_step (take 15 ends_unchosen) (drop 16 ends_unchosen) (Takes 1 7 false) refl refl in omega arith

refuses_open_for_a_release : Refuses open_for_a_release
unfolding open_for_a_release after plans_table three Sets.member Sets.below Sets.collect Sets.insert Sets.remove Order.better Order.highest_below Order.highest
refuses_open_for_a_release h = false≢true (h.each_copyin.each_open (take 5 open_for_a_release) (drop 5 open_for_a_release) refl refl refl)

refuses_open_for_a_deferral : Refuses open_for_a_deferral
unfolding open_for_a_deferral after plans_table three Sets.member Sets.below Sets.collect Sets.insert Sets.remove Order.better Order.highest_below Order.highest
refuses_open_for_a_deferral h = false≢true (h.each_copyin.each_open (take 10 open_for_a_deferral) (drop 10 open_for_a_deferral) refl refl refl)

refuses_waits_before_the_completion : Refuses waits_before_the_completion
unfolding waits_before_the_completion after
refuses_waits_before_the_completion h =
    let x : 2 ≤ 0 = h.each_step (take 14 waits_before_the_completion) (drop 15 waits_before_the_completion) (Completes 1 6) refl refl in omega arith

refuses_taken_behind_the_begin : Refuses taken_behind_the_begin
unfolding taken_behind_the_begin after
refuses_taken_behind_the_begin h =
    let x : 6 ≤ 2 = h.each_step (take 3 taken_behind_the_begin) (drop 4 taken_behind_the_begin) (Takes 2 0 false) refl refl in omega arith

refuses_cancelled_late : Holds late_table cancelled_late → ⊥
unfolding cancelled_late after late_table three Sets.member Sets.below Sets.collect Sets.insert Sets.remove Order.better Order.highest_below Order.highest
refuses_cancelled_late h = let x : 3 ≤ 1 = h.each_copyin.each_rival (take 5 cancelled_late) (drop 5 cancelled_late) 3 1 refl refl (omega arith) refl refl in omega arith

refuses_not_thrown_out : Refuses not_thrown_out
unfolding not_thrown_out after plans_table three Sets.member Sets.below Sets.collect Sets.insert Sets.remove Order.better Order.highest_below Order.highest
refuses_not_thrown_out h = let x : 2 ≤ 1 = h.each_copyin.each_rival not_thrown_out [] 2 1 refl refl (omega arith) refl refl in omega arith

pub wrong_refused : WrongRefused
unfolding WrongRefused
wrong_refused = (
  refuses_second_lower,
  refuses_second_finished,
  refuses_thrown_out_runs,
  refuses_third_idle,
  refuses_third_lower,
  refuses_copyout_late,
  refuses_four_intervals,
  refuses_copyout_not_at_once,
  refuses_completion_late,
  refuses_completion_missing,
  refuses_completion_unexecuted,
  refuses_begins_late,
  refuses_no_ticks,
  refuses_not_executed,
  refuses_loaded_late,
  refuses_promoted_early,
  refuses_execution_long,
  refuses_promoted_unmarked,
  refuses_starts_unasked,
  refuses_starts_twice,
  refuses_stops_unstarted,
  refuses_cut_short,
  refuses_one_waits,
  refuses_two_wait,
  refuses_taken_late,
  refuses_waits_for_nothing,
  refuses_taken_twice,
  refuses_completed_twice,
  refuses_runs_unreleased,
  refuses_executed_again,
  refuses_another_tick,
  refuses_instants_fall,
  refuses_nobody_promoted,
  refuses_promoted_late,
  refuses_promoted_beside_the_loaded,
  refuses_begins_twice,
  refuses_ends_twice,
  refuses_finishes_twice,
  refuses_gives_way_twice,
  refuses_waits_between,
  refuses_ends_late,
  refuses_stays_open,
  refuses_ends_a_tick_late,
  refuses_taken_unchosen,
  refuses_ends_behind_a_taking,
  refuses_begins_a_tick_late,
  refuses_lower_chosen,
  refuses_nobody_chosen,
  refuses_copyin_short,
  refuses_copyin_overdue,
  refuses_cancelled_at_its_end,
  refuses_gives_way_unchosen,
  refuses_over_and_open,
  refuses_left_open,
  refuses_left_copying,
  refuses_begins_for_nobody,
  refuses_ends_unchosen,
  refuses_open_for_a_release,
  refuses_open_for_a_deferral,
  refuses_waits_before_the_completion,
  refuses_taken_behind_the_begin,
  refuses_cancelled_late,
  refuses_not_thrown_out,
  refuses_incomplete,
  refuses_never_taken,
  refuses_late_taking,
  refuses_waited_unexecuted,
)

-- ---- the later end

opens_slow : Opens slow_tasks slow_table
unfolding computed
opens_slow = record { served = refl; read = refl }

slow_made : MakesOf slow_tasks calls_slow history_slow
unfolding computed
slow_made = record { made = refl; at_rest = refl }

refuses_ends_copying_out : Holds slow_table ends_copying_out → ⊥
unfolding ends_copying_out after
refuses_ends_copying_out h = false≢true (h.each_copyin.each_end (take 18 ends_copying_out) (drop 19 ends_copying_out) 10 refl)

pub later_end : LaterEnd
unfolding LaterEnd
later_end = (accepts_of slow_tasks slow_table opens_slow calls_slow history_slow slow_made, refuses_ends_copying_out)

-- ---- the figure

refuses_unmarked_in_four : FigureRefuses unmarked_in_four
unfolding unmarked_in_four after each upto until not_lower_in plans_table three
refuses_unmarked_in_four h = let l : 4 ≤ 3 = (h.each_job (take 1 unmarked_in_four) (drop 2 unmarked_in_four) 2 0 false refl).intervals_at_most in omega arith

refuses_marked_in_three : FigureRefuses marked_in_three
unfolding marked_in_three after each upto until not_lower_in plans_table three
refuses_marked_in_three h = let l : 3 ≤ 2 = (h.each_job (take 4 marked_in_three) (drop 5 marked_in_three) 1 1 true refl).marked_at_most refl in omega arith

refuses_marked_behind_idle : FigureRefuses marked_behind_idle
unfolding marked_behind_idle after each upto until not_lower_in plans_table three
refuses_marked_behind_idle h = let l : 3 ≤ 2 = (h.each_job (take 1 marked_behind_idle) (drop 2 marked_behind_idle) 1 0 true refl).marked_at_most refl in omega arith

refuses_marked_idles : FigureRefuses marked_idles
unfolding marked_idles after each upto plans_table three
refuses_marked_idles h = false≢true (h.marked_second_on (take 1 marked_idles) (drop 2 marked_idles) 1 0 refl 1 (omega arith) (omega arith))

refuses_lasts_long : FigureRefuses lasts_long
unfolding lasts_long after longest_interval greatest Sets.member plans_table three
refuses_lasts_long h = let l : 8 ≤ 7 = h.each_end (take 5 lasts_long) (drop 6 lasts_long) 0 8 refl refl in omega arith

refuses_open_long : FigureRefuses open_long
unfolding open_long after longest_interval greatest Sets.member plans_table three
refuses_open_long h = let l : 8 ≤ 7 = h.each_instant (take 3 open_long) (drop 4 open_long) 0 8 None refl refl refl in omega arith

refuses_completes_behind_two : FigureRefuses completes_behind_two
unfolding completes_behind_two after first each upto until not_lower_in longest_interval greatest Sets.member plans_table three
refuses_completes_behind_two h =
    let l : 16 ≤ 15 = (h.each_job (take 1 completes_behind_two) (drop 2 completes_behind_two) 2 0 false refl).completes_within 16 refl in omega arith

refuses_unmarked_late : FigureRefuses unmarked_late
unfolding unmarked_late after first each upto until not_lower_in longest_interval greatest Sets.member plans_table three
refuses_unmarked_late h = let l : 24 ≤ 23 = (h.each_job (take 4 unmarked_late) (drop 5 unmarked_late) 2 1 false refl).completes_by 24 refl in omega arith

refuses_marked_late : FigureRefuses marked_late
unfolding marked_late after first each upto until not_lower_in longest_interval greatest Sets.member plans_table three
refuses_marked_late h = let l : 16 ≤ 15 = (h.each_job (take 1 marked_late) (drop 2 marked_late) 1 0 true refl).marked_completes_by refl 16 refl in omega arith

refuses_between_unstarted : FigureRefuses between_unstarted
unfolding between_unstarted after each total upto until not_lower_in before_start plans_table three
refuses_between_unstarted h =
    let l : 1 ≤ 0 = (h.each_reading (take 2 between_unstarted) (drop 3 between_unstarted) 2 0 false refl).by_starts (omega arith) in omega arith

refuses_between_unstopped : FigureRefuses between_unstopped
unfolding between_unstopped after each total upto until not_lower_in before_start plans_table three
refuses_between_unstopped h =
    let l : 1 ≤ 0 = (h.each_reading (take 2 between_unstopped) (drop 3 between_unstopped) 2 0 false refl).by_stops (omega arith) in omega arith

pub figure_tells : FigureTells
unfolding FigureTells
figure_tells = (
  (accepts calls_a history_a plans_made.0).holds.figure,
  refuses_unmarked_in_four,
  refuses_marked_in_three,
  refuses_marked_behind_idle,
  refuses_marked_idles,
  refuses_lasts_long,
  refuses_open_long,
  refuses_completes_behind_two,
  refuses_unmarked_late,
  refuses_marked_late,
  refuses_between_unstarted,
  refuses_between_unstopped,
)

-- ---- the entries

-- an entry that tells the truth, by the place among the events of the taking of its job, which is marked
tells : (es : List Event) (k taken : ℕ) (e : JobEntry)
    → es ≡ take k es ++ (Takes e.task taken true ∷ drop (k + 1) es)
    → taking e.task (drop (k + 1) es) ≡ None
    → e.release ≡ original (waiting e.task None (take k es)) taken
    → start e.task (drop (k + 1) es) ≡ Some e.start
    → e.blocked ≡ lower_in plans_table.priority e.task (waited e.task (situation NoneOpen (take k es)) (intervals (drop (k + 1) es)))
    → Tells es e.completion e
tells es k taken e taking_is last_taken release start_is blocked = record {
  before = take k es;
  after = drop (k + 1) es;
  taken = taken;
  marked = true;
  taking_is = taking_is;
  last_taken = last_taken;
  release = release;
  execution_start = start_is;
  completion = refl;
  blocked = blocked;
}

-- the walk along a history finds the last job of task 1, and no other
walked : (es : List Event) (t r s c b : ℕ) (h : Tells es t (job_1 r s c b))
    → Found 1 r (situation NoneOpen h.before) h.after (tally 1 nothing es)
walked es t r s c b h =
    subst (λ (u : ℕ). Found 1 u (situation NoneOpen h.before) h.after (tally 1 nothing es)) (sym h.release)
    (subst (Found 1 (original (waiting 1 None h.before) h.taken) (situation NoneOpen h.before) h.after)
    (ap (tally 1 nothing) (sym h.taking_is))
    (found 1 h.before h.after h.taken h.marked h.last_taken))

-- the numbers of an entry that tells the truth
module _ (es : List Event) (t r s c b : ℕ) (h : Tells es t (job_1 r s c b)) where
  its_release : (tally 1 nothing es).release ≡ Some r
  its_release = (walked es t r s c b h).release

  its_start : (tally 1 nothing es).started ≡ Some s
  its_start = (walked es t r s c b h).started ∙ h.execution_start

  its_count : b ≡ lower_in plans_table.priority 1 (tally 1 nothing es).waits
  its_count = h.blocked ∙ ap (lower_in plans_table.priority 1) (sym (walked es t r s c b h).waits)

job_found : ((tally 1 nothing before_13).release ≡ Some 4) × ((tally 1 nothing before_13).started ≡ Some 9) × (lower_in plans_table.priority 1 (tally 1 nothing before_13).waits ≡ 1)
unfolding tally lower_in before_13 history_b plans_table three
job_found = (refl, refl, refl)

pub one_entry : OneEntry
unfolding OneEntry before_13 history_b plans_table three after first each until lower_in
one_entry = (
  tells before_13 11 4 (job_1 4 9 13 1) refl refl refl refl refl,
  λ h. other_tick 4 3 (λ e. omega arith) (sym job_found.0 ∙ its_release before_13 13 3 9 13 1 h),
  λ h. other_tick 9 8 (λ e. omega arith) (sym job_found.1 ∙ its_start before_13 13 4 8 13 1 h),
  λ h. let e : ◌≡◌ {A = ℕ} 12 13 = h.completion in omega arith,
  λ h. let e : ◌≡◌ {A = ℕ} 0 1 = its_count before_13 13 4 9 13 0 h ∙ job_found.2 in omega arith,
  λ h. let e : ◌≡◌ {A = ℕ} 2 1 = its_count before_13 13 4 9 13 2 h ∙ job_found.2 in omega arith,
)

waited_found : ((tally 1 nothing before_17).release ≡ Some 3) × (lower_in plans_table.priority 1 (tally 1 nothing before_17).waits ≡ 0)
unfolding tally lower_in before_17 history_waiting plans_table three
waited_found = (refl, refl)

pub waited_entry : WaitedEntry
unfolding WaitedEntry before_17 history_waiting plans_table three after first each until lower_in
waited_entry = (
  tells before_17 26 11 (job_1 3 13 17 0) refl refl refl refl refl,
  λ h. other_tick 3 11 (λ e. omega arith) (sym waited_found.0 ∙ its_release before_17 17 11 13 17 0 h),
  λ h. other_tick 3 2 (λ e. omega arith) (sym waited_found.0 ∙ its_release before_17 17 2 13 17 0 h),
  λ h. let e : ◌≡◌ {A = ℕ} 1 0 = its_count before_17 17 3 13 17 1 h ∙ waited_found.1 in omega arith,
)

-- ---- the releases

handed : (handed_in 1 (state_opened (opening tasks)) calls_one ≡ 1) × (handed_in 2 (state_opened (opening tasks)) calls_one ≡ 0)
unfolding computed handed_in calls_one
handed = (refl, refl)

pub marks : Marks
unfolding computed Marks marked_by Calls.mark_refusal Calls.mark
marks = (refl, refl, refl, refl)

-- where no task has a spacing nothing comes too soon
unsooned : {A B : Type 0} → ((false ≡ true) × A) ⊎ B → (B → ⊥) → ⊥
unsooned h f = ⊎_elim (λ x. false≢true x.0) f h

pub releases_refused : ReleasesRefused
unfolding ReleasesRefused taken_another up_to_5 history_f after first Sets.member plans_table three
releases_refused = (
  λ h. let e : ◌≡◌ {A = ℕ} 1 0 = sym handed.0 ∙ h.each_handed in omega arith,
  λ h. let e : ◌≡◌ {A = ℕ} 0 1 = sym handed.1 ∙ h.each_handed in omega arith,
  λ h. ⊎_elim (λ e. false≢true e) (λ w. not_never w.0 w.1) (h.taken_from 0 refl),
  λ h. unsooned (h.skipped_by refl).1 (λ w. not_never w.0.0 w.0.1),
  λ h. unsooned (h.skipped_by refl).1 (λ w. never_is 6 w.1),
  λ h. false≢true (h.skipped_by refl).0,
  λ h. false≢true (h.behind_skipped refl ((5, refl), refl)),
)

-- ---- the spacings

-- a release at t that is late enough after the last one, at u, is no sooner
late_enough : (t gap u v : ℕ) → u + gap ≤ t → Some u ≡ Some v → t < v + gap → ⊥
late_enough t gap u v h e l = let z : u ≡ v = cc in omega arith

pub spacings_accepted : SpacingsAccepted
unfolding SpacingsAccepted taken_at_0 history_f' after first Sets.member spaced_table three
spacings_accepted = (
  accepts_of (spaced_tasks 5) (spaced_table 5) opens_spaced.0 calls_f history_f spaced_made.0,
  accepts_of (spaced_tasks 6) (spaced_table 6) opens_spaced.1 calls_f' history_f' spaced_made.1,
  accepts_of (spaced_tasks 5) (spaced_table 5) opens_spaced.0 calls_skipped history_skipped spaced_made.2,
  accepts_of (spaced_tasks 5) (spaced_table 5) opens_spaced.0 calls_third history_third spaced_made.3,
  record {
    taken_from = λ u e. inl refl;
    skipped_by = λ m. absurd (false≢true m);
    sooner_skipped = λ m x. absurd (late_enough 6 _ 0 x.1.0 (omega arith) x.1.1 x.1.2);
    behind_skipped = λ m x. absurd (not_never x.0.0 x.0.1);
  },
  record {
    taken_from = λ u e. absurd (not_never u e);
    skipped_by = λ m. (refl, inl (refl, (0, refl, omega arith)));
    sooner_skipped = λ m x. refl;
    behind_skipped = λ m x. refl;
  },
)

-- with any spacing that is longer
refuses_taken_closer : (s : ℕ) → 6 < s → RefusesSpaced s history_f'
unfolding history_f' after Sets.member spaced_table three
refuses_taken_closer s l h = let m : 0 + s ≤ 6 = (h.each_spacing 1 (omega arith) refl).at_taking (take 14 history_f') (drop 15 history_f') 6 0 true refl refl refl in omega arith

refuses_waits_sooner : (s : ℕ) → 5 < s → RefusesSpaced s history_f
unfolding history_f after Sets.member spaced_table three
refuses_waits_sooner s l h = let m : 0 + s ≤ 5 = (h.each_spacing 1 (omega arith) refl).at_waiting (take 11 history_f) (drop 12 history_f) 5 0 refl refl in omega arith

pub spacings_refused : SpacingsRefused
unfolding SpacingsRefused taken_at_0 history_f history_f' after first Sets.member spaced_table three
spacings_refused = (
  refuses_taken_closer _ (omega arith),
  refuses_waits_sooner _ (omega arith),
  λ h. ⊎_elim (λ x. late_enough 6 _ 0 x.1.0 (omega arith) x.1.1 x.1.2) (λ w. not_never w.0.0 w.0.1) (h.skipped_by refl).1,
  λ h. false≢true (h.sooner_skipped refl (refl, (0, refl, omega arith))),
  λ h. false≢true (h.sooner_skipped refl (refl, (0, refl, omega arith))),
  λ h. ⊎_elim (λ x. late_enough 10 _ 5 x.1.0 (omega arith) x.1.1 x.1.2) (λ w. not_never w.0.0 w.0.1) (h.skipped_by refl).1,
)

pub last_releases : LastReleases
unfolding LastReleases up_to_5 history_f history_f' after
last_releases = (refl, refl, refl, refl, refl, refl)

-- ---- the entries of intervals

pub plan_entries : PlanEntries
unfolding PlanEntries history_b history_c ended each after plans_table three Sets.member Sets.below Sets.collect Sets.insert Order.better Order.highest_below Order.highest
plan_entries = (refl, refl)

-- ---- the bounds on a job's intervals are met

unmarked_made : Makes calls_unmarked history_unmarked
unfolding computed Calls.mark_refusal Calls.mark calls_unmarked history_unmarked
unmarked_made = record { made = refl; at_rest = refl }

pub bounds_met : BoundsMet
unfolding BoundsMet history_unmarked history_b after each upto until not_lower_in plans_table three
bounds_met = (accepts calls_unmarked history_unmarked unmarked_made, (refl, refl), (refl, refl))
