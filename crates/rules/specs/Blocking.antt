-- 3/13: "the set of tasks the interval can block: exactly the table's tasks with higher priority than the one executed, and none if the
-- processor idled." It is gathered before the jobs are walked; what they count does not change (`blocks`, `counted` of Instant).
use Rattle.std.specs.Prelude.{◌≡◌, ◌<◌}
use Rattle.rules.specs.Types.{true, cond, ℕ, Option, None, Some, Interval, Phase, Between, Within, State}
use Rattle.sets.specs.Sets.{member}
use Rattle.rules.specs.Order.{priority, higher}
use Rattle.rules.specs.Instant.{over, processor_task}

-- the task that the processor executed, in an interval at its end
abbrev pub executed_in : Phase → Option ℕ
executed_in (Between next outgoing) = None
executed_in (Within i) = cond (over i) (processor_task i.processor) None

unfoldable pub blockable : State → ℕ
blockable d = higher d (executed_in d.phase) d.table.present

-- In words: a task is in the set if and only if it is in the table, an interval is at its end whose processor
-- executed a job, and its priority is higher.
pub record CanBlock (d : State) (k : ℕ) : Type 0 where
  pub in_table : member k d.table.present ≡ true
  pub interval : Interval
  pub is_open : d.phase ≡ Within interval
  pub at_end : over interval ≡ true
  pub task : ℕ
  pub executed : processor_task interval.processor ≡ Some task
  pub is_higher : priority d k < priority d task
