-- `rules::step_a::processor_ends` meets its contract: by whether its phase ends now, and which it is. Assumes nothing.
use Rattle.std.proofs.Common.{◌≡◌}
use Rattle.rules.specs.Types.{refl, sym, List, ℕ, Table, Processor}
use borrow.Author.Tests.{ne_eqb}
use lib.ListN.{get_or}
use lib.Seq.{set-get_or}
use Rattle.rules.specs.Instant.{processor_at}
use Rattle.rules.specs.Registers.{as_processor}
use Rattle.rules.specs.Steps.{ProcessorTo}
use Rattle.rules.proofs.Parts.{processor_stays, processor_rests, processor_copied, processor_executed}
use Rattle.rules.proofs.Kept.{same_two}
use Rattle.rules.proofs.step_a.processor_ends.Goals as goal

-- what is kept of the processor stays
stays : (t : ℕ) (columns times codes : List ℕ)
    → ((table : Table) → table.columns ≡ columns
    → let p : Processor = as_processor (get_or codes 2 0) (get_or codes 3 0) (get_or times 1 0) (get_or times 2 0) in p ≡ processor_at table t p)
    → ProcessorTo t columns times codes times codes
stays t columns times codes is = record {
  kind = get_or codes 2 0;
  start = get_or times 1 0;
  until = get_or times 2 0;
  times_are = same_two times;
  codes_are = sym (set-get_or codes 2 0);
  is = is;
}

pub returns-then-times-t : goal.returns-then-times-t
returns-then-times-t c =
    let a = c.args in
    let times = a.times.now in
    let codes = a.codes.now in
    stays a.t a.columns.now times codes
    (λ table e. processor_stays table a.t (get_or codes 2 0) (get_or codes 3 0) (get_or times 1 0) (get_or times 2 0) c.if-times-t.true)

pub returns-then-kind-eq-COPYING_IN : goal.returns-then-kind-eq-COPYING_IN
returns-then-kind-eq-COPYING_IN c =
    let a = c.args in
    let times = a.times.now in
    let codes = a.codes.now in
    record {
      kind = 2;
      start = a.t;
      until = c.later-until.result;
      times_are = refl;
      codes_are = refl;
      is = λ table e. processor_copied table a.columns.now a.t (get_or codes 2 0) (get_or codes 3 0) (get_or times 1 0) (get_or times 2 0) c.execution_length.result c.later-until.result
          c.if-times-t.false c.if-kind-eq-COPYING_IN.true c.execution_length.ensures c.later-until.ensures e;
    }

pub returns-then-kind-eq-EXECUTING : goal.returns-then-kind-eq-EXECUTING
returns-then-kind-eq-EXECUTING c =
    let a = c.args in
    let times = a.times.now in
    let codes = a.codes.now in
    record {
      kind = 3;
      start = get_or times 1 0;
      until = get_or times 2 0;
      times_are = same_two times;
      codes_are = refl;
      is = λ table e. processor_executed table a.t (get_or codes 2 0) (get_or codes 3 0) (get_or times 1 0) (get_or times 2 0) c.if-times-t.false c.if-kind-eq-EXECUTING.true;
    }

pub returns-else-kind-eq-EXECUTING : goal.returns-else-kind-eq-EXECUTING
returns-else-kind-eq-EXECUTING c =
    let a = c.args in
    let times = a.times.now in
    let codes = a.codes.now in
    stays a.t a.columns.now times codes
    (λ table e. processor_rests table a.t (get_or codes 2 0) (get_or codes 3 0) (get_or times 1 0) (get_or times 2 0) (ne_eqb _ _ c.if-kind-eq-COPYING_IN.false) (ne_eqb _ _ c.if-kind-eq-EXECUTING.false))
