-- Demand 3: the claim holds of every list of calls.
use Rattle.std.proofs.Common.{◌≡◌, ◌∷◌, ◌++◌, ◌<◌, Ok}
use Rattle.guarantees.specs.Types.{refl, sym, ap, ◌∙◌, subst, Bool, true, false, List, append_assoc, ℕ, Table, Option, None, Some, State, Call}
use native.Mathlib.Omega.{arith}
use lib.ListN.{get_or}
use Rattle.sets.specs.Sets.{member, size}
use Rattle.sets.proofs.Laws.{none, same_task, member_task, size_none}
use Rattle.rules.specs.Instant.{due}
use Rattle.rules.specs.Calls.{opened, opening, row}
use Rattle.guarantees.specs.History.{Event, Completes, Takes, Defers, history, after_calls, EmptySets}
use Rattle.guarantees.specs.Queries.{Situation, NoneOpen, situation, intervals, total, is_take, taking, waiting, met}
use Rattle.guarantees.specs.Pending.{OneAtATime}
use Rattle.guarantees.specs.Intervals.{no_course}
use Rattle.guarantees.specs.Entries.{all_occurred, closed}
use Rattle.guarantees.specs.Figure.{PlainFigure}
use Rattle.guarantees.specs.Claim.{Lower, NotLower, InOrder, Holds, TakenLater, AllCompleted, Claim, Demand3}
use Rattle.guarantees.proofs.Proper.{Fair, Opens, opens}
use Rattle.guarantees.proofs.Walk.{after_append, history_append}
use Rattle.guarantees.proofs.Order.{Waits, Kept, kept, released_in}
use Rattle.guarantees.proofs.Totals.{total_append}
use Rattle.guarantees.proofs.Count.{at_most_three}
use Rattle.guarantees.proofs.Invariant.{Good, mass, good_opened, good_after}
use Rattle.guarantees.proofs.Engine.{Free, executed_in, copied_out_so, completed_so}
use Rattle.guarantees.proofs.CopyOuts.{copied_out}
use Rattle.guarantees.proofs.Processing.{execution_in, started_so, stopped_so, ended_so}
use Rattle.guarantees.proofs.Executions.{executed}
use Rattle.guarantees.proofs.Remembered.{tells}
use Rattle.guarantees.proofs.Closings.{all_done}
use Rattle.guarantees.proofs.Courses.{proceeds, Follows, courses}
use Rattle.guarantees.proofs.Causes.{cause}
use Rattle.guarantees.proofs.Choices.{all_copies}
use Rattle.guarantees.proofs.Sequence.{each_step}
use Rattle.guarantees.proofs.Known.{AllKnown, begins_known, completes_known, all_known}
use Rattle.guarantees.proofs.Serving.{all_served_jobs}
use Rattle.guarantees.proofs.Deferred.{taken_small, deferred_small, taken_later}
use Rattle.guarantees.proofs.Marks.{taken_marked, names_free}
use Rattle.guarantees.proofs.Fates.{balanced as releases-balanced, none_waits_so, placed}
use Rattle.guarantees.proofs.Turns.{one_at_a_time, in_time, resumed_in}
use Rattle.guarantees.proofs.Turning.{turns}
use Rattle.guarantees.proofs.LastReleases.{spaced, last_releases}
use Rattle.guarantees.proofs.Lasts.{lasts}
use Rattle.guarantees.proofs.Lasting.{next_in}
use Rattle.guarantees.proofs.Spans.{M}
use Rattle.guarantees.proofs.Figure.{plain_figure, figure}
use Rattle.guarantees.proofs.Counts.{counts_rise}
use Rattle.guarantees.proofs.Chosen.{first_come}
use Rattle.guarantees.proofs.Arithmetic.{plain}
use Rattle.guarantees.proofs.Completion.{AtRest, rests, drains, Drained, drained, balanced}

module _ (table : Table) (marks : ℕ) (fair : Fair table marks) where
  -- ---- the order

  not_lower : (n : ℕ) (r : Option ℕ) → NotLower table.priority n r → Lower table.priority n r → ⊥
  not_lower n None h l = l
  not_lower n (Some k) h l = omega arith

  in_order : (n : ℕ) (m : Bool) (at : Situation) (es : List Event)
      → Waits table.priority n m at (intervals es) → InOrder table.priority n m (met n at (intervals es))
  in_order n m at es w = record {
    lower_in_two = λ i a l. not_lower n (get_or (met n at (intervals es)) i None) (w.third i a l);
    third_on = w.third;
    marked_in_one = λ e i a l. not_lower n (get_or (met n at (intervals es)) i None) (w.later e i a l);
  }

  -- ---- the claim of each history

  follows : (calls : List Call) → Follows table.priority (closed (all_occurred (opened table marks) calls)) no_course (history (opened table marks) calls)
  follows calls = courses table marks calls

  holds : (calls : List Call) → Holds table (history (opened table marks) calls)
  holds calls = record {
    each_job = λ before after n t m e.
        in_order n m (situation NoneOpen before) after (released_in table.priority h before after n t m in_turn e).0;
    each_taking = λ before after n t m e. (released_in table.priority h before after n t m in_turn e).1;
    each_execution = λ before after n t l e. execution_in table.columns n h before after t l (executed table marks fair calls) e;
    each_interval = proceeds table.priority h (follows calls).executing;
    each_copyin = all_copies table marks fair calls;
    each_cause = λ before after n e. unfold opened in cause table.priority calls (opened table marks) refl before after n e;
    each_start = λ before after n s e. started_so table.columns h (executed table marks fair calls) before after n s e;
    each_stop = λ before after n u e. stopped_so table.columns h (executed table marks fair calls) before after n u e;
    each_end = λ before after n e x y. ended_so table.columns h (executed table marks fair calls) before after n e x y;
    each_next = λ before after n e l x y. next_in (M table fair.present) n h (lasts table marks fair n l calls) (turns table marks fair n l calls) before after e x y;
    each_executed = λ before after n t l e. executed_in table.columns n h before after t 0 l Free (copied_out table marks fair calls) e;
    each_copyout = λ before after n b r e. copied_out_so table.columns h (copied_out table marks fair calls) before after n b r e;
    each_completion = λ before after n c e. completed_so table.columns h (copied_out table marks fair calls) before after n c e;
    each_task = λ n. record {
      at_taking = λ before after t m e. (one n (taken_small (opened table marks) calls before after n t m e)).at_taking before after t m e;
      at_execution = λ before after t l e.
          (one n (small n (begins_known table.present before after t (Some n) l (subst (AllKnown table.present) e known)).0)).at_execution before after t l e;
      at_copyout = λ before after t r e.
          (one n (small n (begins_known table.present before after t r (Some n) (subst (AllKnown table.present) e known)).1)).at_copyout before after t r e;
      at_completion = λ before after c e. (one n (completes_small before after n c e)).at_completion before after c e;
      at_waiting = λ before after t e. (one n (deferred_small (opened table marks) calls before after n t e)).at_waiting before after t e;
      at_resuming = λ before after c u e w. (one n (completes_small before after n c e)).at_resuming before after c u e w;
    };
    each_spacing = λ n l s. spaced table marks fair n l calls s;
    in_time = in_time 0 h (turns table marks fair 0 (omega arith) calls);
    each_step = λ before after e x c. each_step table marks calls before after e x c;
    at_most_three = at_most_three table marks calls;
    figure = figure table h in_turn (copied_out table marks fair calls) (executed table marks fair calls)
        (λ n l. turns table marks fair n l calls) (λ n l. lasts table marks fair n l calls) (λ before after n t m e. taken_small (opened table marks) calls before after n t m e);
  }
    where
      h : List Event
      h = history (opened table marks) calls

      known : AllKnown table.present (history (opened table marks) calls)
      known = all_known table marks fair (opened table marks) calls (good_opened table marks fair)

      small : (n : ℕ) → member n table.present ≡ true → n < 32
      small n m = member_task n table.present fair.present m

      completes_small : (before after : List Event) (n c : ℕ) → history (opened table marks) calls ≡ before ++ (Completes n c ∷ after) → n < 32
      completes_small before after n c e = small n (completes_known table.present before after n c (subst (AllKnown table.present) e known))

      one : (n : ℕ) → n < 32 → OneAtATime n (history (opened table marks) calls)
      one n l = one_at_a_time n h (turns table marks fair n l calls)

      in_turn : Kept table.priority NoneOpen (history (opened table marks) calls)
      in_turn = unfold opened in kept table.priority (opened table marks) calls refl

  -- ---- the empty sets after a list

  -- no job is pending at the opening, and no release waits
  none_at_first : (size (opened table marks).jobs.pending ≡ 0) × (size (opened table marks).waiting.tasks ≡ 0)
  unfolding opened
  none_at_first = (size_none, size_none)

  module _ (calls : List Call) (p : (after_calls (opened table marks) calls).jobs.pending ≡ 0) (w : (after_calls (opened table marks) calls).waiting.tasks ≡ 0) where
    -- the job of a release that waited is one that is taken
    deferred_completed : (before after : List Event) (n t : ℕ) → history (opened table marks) calls ≡ before ++ (Defers n t ∷ after) → TakenLater n after
    deferred_completed before after n t e = go (taken_later (opened table marks) calls w before after n t (deferred_small (opened table marks) calls before after n t e) e)
      where
        small : n < 32
        small = deferred_small (opened table marks) calls before after n t e

        go : (between later : List Event) × (tick : ℕ) × (marked : Bool) × (after ≡ between ++ (Takes n tick marked ∷ later)) × (taking n between ≡ None) → TakenLater n after
        go x = record {
          between = x.0;
          later = x.1;
          tick = x.2;
          marked = x.3;
          is_taken = x.4;
          next_taken = x.5;
          at_completion = resumed_in n (history (opened table marks) calls) (turns table marks fair n small calls) before after x.0 x.1 t x.2 x.3 e x.4 x.5;
          completed =
              all_served_jobs table marks fair calls p (before ++ (Defers n t ∷ x.0)) x.1 n x.2 x.3
              (e ∙ ap (λ (y : List Event). before ++ (Defers n t ∷ y)) x.4 ∙ sym (append_assoc before (Defers n t ∷ x.0) (Takes n x.2 x.3 ∷ x.1)));
        }

    all_completed : AllCompleted (history (opened table marks) calls)
    all_completed = record {
      each = λ before after n t m e. all_served_jobs table marks fair calls p before after n t m e;
      as_many = omega (arith, balanced table marks fair (opened table marks) calls (good_opened table marks fair), none_at_first.0, ap size p, size_none);
      each_deferred = λ before after n t e. deferred_completed before after n t e;
    }

  claim : (calls : List Call) → Claim (opened table marks) calls
  claim calls = record {
    of_the_list = unfold opened in holds calls;
    entries = record {
      each_job = λ before after t set o e c. unfold opened in tells table marks fair before t set o e;
      each_done = all_done calls d;
      each_release = λ before after n e l. releases-balanced n l d before (none_waits n);
      each_instant = λ before after n t set o e l x. unfold opened in placed n l d before (none_waits n) table (λ s. (fair.spacings n s).0) (table_after before) (last_releases table marks fair n l before) t set o x;
      each_mark = λ before after n t set u m xs ys e x. taken_marked d before t set n u m xs ys (same_task n) x;
      each_mark_call = λ before after c n e l x h. unwaited before c n l x h;
      each_interval = unfold opened in sym (follows calls).says;
    };
    come_to_an_end = drains table marks fair (mass (after_calls d calls)) (after_calls d calls) good (omega arith);
    with_empty_sets = λ rest e. unfold opened in holds (calls ++ rest);
    nothing_pending = λ rest e. (at_rest rest e).pending;
    complete_every_job = λ rest e. all_completed (calls ++ rest) (at_rest rest e).pending (at_rest rest e).waiting;
    nothing_waits = λ rest e. (at_rest rest e).waiting;
    waiting_taken = λ rest e.
        ap (total is_take) (history_append calls rest d)
        ∙ omega (
          arith,
          total_append is_take (history d calls) (history (after_calls d calls) rest),
          (drained_by rest e).takes,
          ap (λ (g : State). size g.waiting.tasks) (after_append calls rest d),
          ap size (at_rest rest e).waiting,
          size_none,
        );
    counts = counts_rise table marks fair calls;
    plain = plain table marks fair calls;
    last_releases = λ n l. last_releases table marks fair n l calls;
    first_come = λ before after t set c e. first_come table marks before t set e;
  }
    where
      d : State
      d = opened table marks

      table_after : (before : List Call) → (after_calls (opened table marks) before).table ≡ table
      table_after before = (good_after table marks fair before (opened table marks) (good_opened table marks fair)).table_is

      none_waits : (n : ℕ) → member n (opened table marks).waiting.tasks ≡ false
      none_waits n = unfold opened in none n

      small : (n : ℕ) → member n table.present ≡ true → n < 32
      small n m = member_task n table.present fair.present m

      -- where a mark call is served nothing of its task waits
      unwaited : (before : List Call) (c : Call) (n : ℕ) → n < 32 → (row c).number (after_calls (opened table marks) before) ≡ 0 → member n (row c).names ≡ true
          → waiting n None (history (opened table marks) before) ≡ None
      unwaited before c n l x h =
          none_waits_so n l (opened table marks) before (none_waits n) (names_free (after_calls (opened table marks) before) n l c x h)

      good : Good table marks fair (after_calls (opened table marks) calls)
      good = good_after table marks fair calls (opened table marks) (good_opened table marks fair)

      drained_by : (rest : List Call) → EmptySets (after_calls (opened table marks) calls) rest → Drained table marks fair (after_calls (opened table marks) calls) rest
      drained_by rest e = drained table marks fair rest (after_calls (opened table marks) calls) good e

      at_rest : (rest : List Call) → EmptySets (after_calls (opened table marks) calls) rest → AtRest (after_calls (opened table marks) (calls ++ rest))
      at_rest rest e =
          rests table marks fair (after_calls (opened table marks) (calls ++ rest))
          (good_after table marks fair (calls ++ rest) (opened table marks) (good_opened table marks fair))
          (ap (λ (g : State). due g.phase) (after_append calls rest (opened table marks)) ∙ (drained_by rest e).never)

pub demand_3 : Demand3
unfolding Demand3
demand_3 bytes d e calls =
    let o : Opens d = opens bytes d e in
    subst (λ (x : State). Claim x calls) (sym o.fresh) (claim d.table d.marked o.proper.fair calls)

-- the figure of each table that opening serves
pub figure_opened : (bytes : List ℕ) (d : State) → opening bytes ≡ Ok d → PlainFigure d.table
figure_opened bytes d e = plain_figure d.table d.marked (opens bytes d e).proper.fair
