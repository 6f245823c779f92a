-- Every plan, every row on releases that wait, on desks of equal standing, on the figure of 7/13 and on spacings, every refusal, every
-- random run and every waveform comes out of the definitions as it must.
use Rattle.std.specs.Prelude.{◌≡◌, refl, List}
use Rattle.words.specs.Words
use Rattle.sets.specs.Sets
use Rattle.entries.specs.Entries
use Rattle.table.specs.Table
use Rattle.table.specs.Head
use Rattle.rules.specs.Order
use Rattle.rules.specs.Instant
use Rattle.rules.specs.Calls
use Rattle.rules.specs.Entries as RuleEntries
use Rattle.run.specs.Files
use Rattle.run.specs.Run
use Rattle.guarantees.specs.History
use Rattle.record.specs.FileClaim
use Rattle.record.specs.Writing
use Rattle.lines.specs.Lines
use Rattle.waves.specs.Dump
use Rattle.waves.specs.Samples
use Rattle.waves.specs.Writing as WaveWriting
use Rattle.plans.specs.Rows.{Row, all_found, all_expected}
use Rattle.plans.specs.Rows
use Rattle.plans.specs.Plans.{plans}
use Rattle.plans.specs.Plans
use Rattle.plans.specs.Waiting.{waiting}
use Rattle.plans.specs.Waiting
use Rattle.plans.specs.Desks.{equals}
use Rattle.plans.specs.Desks
use Rattle.plans.specs.Sharp.{sharp}
use Rattle.plans.specs.Sharp
use Rattle.plans.specs.Refusals.{refusals}
use Rattle.plans.specs.Refusals
use Rattle.plans.specs.Spacings.{spacings, spacing_refusals}
use Rattle.plans.specs.Spacings
use Rattle.plans.specs.Runs.{runs}
use Rattle.plans.specs.Runs
use Rattle.plans.specs.Waveforms.{waveforms}
use Rattle.plans.specs.Waveforms

-- what the definitions compute with
unfoldable computed : Unit {0}
unfolding Words.bytes_of Words.number_at Words.room Words.written Sets.member Sets.below Sets.collect Sets.union Sets.intersection
    Sets.difference Sets.insert Sets.remove Sets.lowest_in Sets.lowest Entries.task_at Entries.release_at Entries.spacing_at
    Entries.entry_at Entries.job_bytes Entries.choice_bytes Entries.interval_bytes Entries.skipped_bytes Head.outside Head.number_refused
    Head.mark_or_length_refusal Head.behind_head Head.task_refusal Table.with_lengths Head.with_task Head.with_marked Head.ticks_refused
    Head.spacing_refusal Head.with_spacing Head.entry_refusal Head.with_entry Head.marked_with Head.head_from Head.head_of Head.head_alone
    Order.better Order.highest_below Order.highest Order.higher_than Instant.processor_at Instant.copyout_at Instant.ended
    Instant.completed Instant.without_done Instant.step_a Instant.promoted Instant.blocks Instant.counted Instant.closed_with
    Instant.close Instant.entry_with Instant.interval_entry Instant.close_stage Instant.step_b Instant.previous_release Instant.too_soon
    Instant.passing Instant.released Instant.taken Instant.deferred Instant.skipped Instant.stamped Instant.with_candidates Instant.step_c
    Instant.cancel Instant.cancel_by Instant.step_d Instant.choose Instant.choose_if Instant.step_e Instant.begin Instant.step_g
    Instant.sooner Instant.due Instant.at_a Instant.at_b Instant.taken_at Instant.deferred_at Instant.skipped_at Instant.steps_c_d
    Instant.steps_c_to_e Instant.at_e Instant.at_f Instant.at_g Instant.occurred Calls.opened Calls.opening Calls.unknown Calls.refusal
    Calls.mark_refusal Calls.marks_refusal Calls.after_call Files.rises Files.release_refusal Files.with_release
    Files.releases_from Files.releases_of RuleEntries.skipped_entries RuleEntries.entries Run.released_from Run.released_after Run.run
    Entries.each Run.record_entries Run.record_bytes Writing.written Run.moments_of Writing.file Rows.called FileClaim.answers
    History.after_calls Rows.with_put Rows.found Rows.all_found Rows.all_expected Rows.recorded Rows.refused Rows.answered
    Rows.answered_behind Plans.task Plans.spacing Plans.release Plans.tasks Plans.two_marked Plans.none Plans.interval Plans.job
    Plans.skipped Plans.record_A Plans.record_B Plans.record_C Plans.record_D Plans.record_E Plans.two_jobs Plans.record_F Plans.record_F'
    Plans.record_thrown_out Plans.record_higher_promoted Plans.record_higher_stays Plans.record_unmarked Plans.loaded_stays
    Plans.record_interval_over Plans.plans Waiting.record_in_its_turn Waiting.record_third_skipped Waiting.record_chosen_at_once
    Waiting.record_from_the_taking Waiting.record_marks Waiting.record_cancels Waiting.record_throws_out Waiting.record_belongs_to_next
    Waiting.waiting Refusals.unopened Refusals.refusals Spacings.executed Spacings.second_job Spacings.third_job Spacings.end_at_12
    Spacings.record_one_spacing_later Spacings.record_one_tick_sooner Spacings.record_after_a_skipped_one
    Spacings.record_after_one_behind_a_waiting Spacings.record_from_the_original_time Spacings.record_soon_at_a_taking
    Spacings.record_soon_while_pending Spacings.record_soon_in_idle_time Spacings.record_first Spacings.record_untested
    Spacings.record_soon_cancels_nothing Spacings.record_longest Spacings.spacings Spacings.spacing_refusals Desks.desks
    Desks.record_at_one_tick Desks.record_in_turn Desks.record_original_time Desks.record_cancels_nothing Desks.record_throws_out_nothing
    Desks.record_earlier_promoted Desks.record_lower_number_promoted Desks.record_passes_an_equal Desks.equals Sharp.three_alike
    Sharp.record_idle_second Sharp.record_higher_ahead Sharp.record_no_tick_left Sharp.record_one_tick_left Sharp.record_longest_of_two
    Sharp.sharp Runs.runs Lines.digits Lines.decimal Dump.ascii Dump.line Dump.header Dump.wires Dump.wire Dump.all Dump.changed Dump.mark
    Dump.change Dump.changes Dump.dump Samples.samples Samples.samples_of WaveWriting.dumped Rows.drawn Rows.not_drawn Waveforms.lines
    Waveforms.header Waveforms.dump_until Waveforms.dump_A Waveforms.dump_B Waveforms.dump_G Waveforms.waveforms
computed = tt

-- of some rows, what the definitions find is what must come
abbrev pub ComeOut : List Row → Type 0
ComeOut rows = all_found rows ≡ all_expected rows

plans_come : ComeOut plans
unfolding computed
plans_come = refl

waiting_come : ComeOut waiting
unfolding computed
waiting_come = refl

equals_come : ComeOut equals
unfolding computed
equals_come = refl

sharp_come : ComeOut sharp
unfolding computed
sharp_come = refl

spacings_come : ComeOut spacings
unfolding computed
spacings_come = refl

spacing_refusals_come : ComeOut spacing_refusals
unfolding computed
spacing_refusals_come = refl

refusals_come : ComeOut refusals
unfolding computed
refusals_come = refl

runs_come : ComeOut runs
unfolding computed
runs_come = refl

waveforms_come : ComeOut waveforms
unfolding computed
waveforms_come = refl

-- the table, part by part
pub record EveryRow : Type 0 where
  pub plans_out : ComeOut plans
  pub waiting_out : ComeOut waiting
  pub equals_out : ComeOut equals
  pub sharp_out : ComeOut sharp
  pub spacings_out : ComeOut spacings
  pub spacing_refusals_out : ComeOut spacing_refusals
  pub refusals_out : ComeOut refusals
  pub runs_out : ComeOut runs
  pub waveforms_out : ComeOut waveforms

pub table : EveryRow
table = record {
  plans_out = plans_come;
  waiting_out = waiting_come;
  equals_out = equals_come;
  sharp_out = sharp_come;
  spacings_out = spacings_come;
  spacing_refusals_out = spacing_refusals_come;
  refusals_out = refusals_come;
  runs_out = runs_come;
  waveforms_out = waveforms_come;
}
