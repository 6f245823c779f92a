-- Every state that calls made: it names only tasks of the table, and no time and no count of it comes near the end of its type. The
-- definitions hold a time at the last tick of a u64 (`later`) and a count at 255 (`counted`), so that every state has an answer; here it
-- is claimed that no run gets there: on every state that calls made they are document 01's, with plain arithmetic.
use Rattle.guarantees.specs.Types.{true, List, ℕ, min, Table, Processor, Idle, CopyingIn, Executing, Finished, CopyOut, NoCopyOut, CopyingOut, CopiedOut, CopyIn, Unchosen, NoneChosen, Copying, Loaded, Cancelled, Next, NoneNext, LoadedNext, PromotedNext, Outgoing, NoneOutgoing, AwaitsCopyOut, Phase, Between, Within, State}
use Rattle.std.specs.Prelude.{get_or, ◌≡◌, ◌⊎◌, ◌+◌, ◌≤◌, ◌<◌}
use Rattle.table.specs.Table.{copyin_length, execution_length, copyout_length}
use Rattle.sets.specs.Sets.{member}
use Rattle.rules.specs.With.{later, at_clock}
use Rattle.rules.specs.Instant.{at_a, at_e, at_g}
use Rattle.rules.specs.Calls.{refusal}

-- ---- The tasks that a state names

module _ (present : ℕ) where
  -- a task of the table
  abbrev pub Known : ℕ → Type 0
  Known n = member n present ≡ true

  abbrev pub set_known : ℕ → Type 0
  set_known s = (n : ℕ) → n < 32 → member n s ≡ true → Known n

  abbrev pub processor_known : Processor → Type 0
  processor_known Idle = Unit {0}
  processor_known (CopyingIn n until) = Known n
  processor_known (Executing n start until) = Known n
  processor_known (Finished n start) = Known n

  abbrev pub copyout_known : CopyOut → Type 0
  copyout_known NoCopyOut = Unit {0}
  copyout_known (CopyingOut n start until) = Known n
  copyout_known (CopiedOut n) = Known n

  abbrev pub copyin_known : CopyIn → Type 0
  copyin_known Unchosen = Unit {0}
  copyin_known NoneChosen = Unit {0}
  copyin_known (Copying n until) = Known n
  copyin_known (Loaded n) = Known n
  copyin_known (Cancelled n fate) = Known n

  abbrev pub next_known : Next → Type 0
  next_known NoneNext = Unit {0}
  next_known (LoadedNext n) = Known n
  next_known (PromotedNext n) = Known n

  abbrev pub outgoing_known : Outgoing → Type 0
  outgoing_known NoneOutgoing = Unit {0}
  outgoing_known (AwaitsCopyOut n start) = Known n

  abbrev pub phase_known : Phase → Type 0
  phase_known (Between next outgoing) = next_known next × outgoing_known outgoing
  phase_known (Within i) =
      copyin_known i.copyin × processor_known i.processor × copyout_known i.copyout × set_known i.candidates

-- the table has tasks below 32 alone, and every task that the state names is one of them
pub record Named (table : Table) (d : State) : Type 0 where
  pub numbers : (n : ℕ) → Known table.present n → n < 32
  pub spaced : set_known table.present table.spaced
  pub marked : set_known table.present d.marked
  pub pending : set_known table.present d.jobs.pending
  pub ready : set_known table.present d.jobs.ready
  pub waiting : set_known table.present d.waiting.tasks
  pub before : set_known table.present d.waiting.before
  pub phase : phase_known table.present d.phase

-- ---- The arithmetic of an instant

-- a time has room for every length of a task of the table
pub record PlainTime (table : Table) (t : ℕ) : Type 0 where
  pub copyin : (n : ℕ) → Known table.present n → later t (copyin_length table.columns n) ≡ t + copyin_length table.columns n
  pub execution : (n : ℕ) → Known table.present n →
      later t (execution_length table.columns n) ≡ t + execution_length table.columns n
  pub copyout : (n : ℕ) → Known table.present n → later t (copyout_length table.columns n) ≡ t + copyout_length table.columns n

-- each count has room for one more
abbrev pub PlainCounts : List ℕ → Type 0
PlainCounts blocked = (n : ℕ) → n < 32 → min (get_or blocked n 0 + 1) 255 ≡ get_or blocked n 0 + 1

-- An instant adds a length to its own time alone, where a phase begins, and one to a count where an interval ends: in step b, after
-- step a, or in step f, after step e.
pub record PlainInstant (d : State) (t set : ℕ) : Type 0 where
  -- an empty set is served at any time while nothing is due: then nothing begins, and the clock alone moves
  pub times : PlainTime d.table t ⊎ (at_g d t set ≡ at_clock d t)
  pub counts_b : PlainCounts (at_a d t).state.jobs.blocked
  pub counts_f : PlainCounts (at_e d t set).jobs.blocked

-- ---- The claim

pub record PlainState (d : State) : Type 0 where
  pub named : Named d.table d
  -- a release waits only behind a pending job of its task
  pub behind : (n : ℕ) → n < 32 → member n d.waiting.tasks ≡ true → member n d.jobs.pending ≡ true
  -- no job is blocked in more than two intervals
  pub counts : (n : ℕ) → n < 32 → get_or d.jobs.blocked n 0 ≤ 2
  pub instants : (t set : ℕ) → refusal d t set ≡ 0 → PlainInstant d t set
