-- The numbers of a dispatcher by name (specs/Named), and what stands beside them, read back as the state that the rules speak of.
use Rattle.rules.specs.Types.{Bool, cond, List, ℕ, Table, Clock, Option, None, Some, Processor, Idle, CopyingIn, Executing, Finished, CopyOut, NoCopyOut, CopyingOut, CopiedOut, CopyIn, Unchosen, NoneChosen, Copying, Loaded, Cancelled, Interval, Next, NoneNext, LoadedNext, PromotedNext, Outgoing, NoneOutgoing, AwaitsCopyOut, Phase, Between, Within, State, WaitingReleases, Registers}
use Rattle.std.specs.Prelude.{eqb, ltb, ◌||◌, ◌-◌}
use Rattle.entries.specs.Limits as limits

-- what is no task number stands for no task
abbrev pub as_task : ℕ → Option ℕ
as_task n = cond (ltb n limits.tasks) (Some n) None

-- ---- In an open interval

-- 0 idle, 1 copying in, 2 executing, 3 finished
abbrev pub as_processor : ℕ → ℕ → ℕ → ℕ → Processor
as_processor kind n start until =
    cond (eqb kind 0) Idle
    (cond (eqb kind 1) (CopyingIn n until)
    (cond (eqb kind 2) (Executing n start until) (Finished n start)))

-- 0 none, 1 copying out, 2 copied out
abbrev pub as_copyout : ℕ → ℕ → ℕ → ℕ → CopyOut
as_copyout kind n start until =
    cond (eqb kind 0) NoCopyOut
    (cond (eqb kind 1) (CopyingOut n start until) (CopiedOut n))

-- 0 unchosen, 1 none chosen, 2 copying, 3 loaded; 4 cancelled, 5 thrown out: two more than the fate
abbrev pub as_copyin : ℕ → ℕ → ℕ → CopyIn
as_copyin kind n until =
    cond (eqb kind 0) Unchosen
    (cond (eqb kind 1) NoneChosen
    (cond (eqb kind 2) (Copying n until)
    (cond (eqb kind 3) (Loaded n)
    (Cancelled n (kind - 2)))))

-- the engine holds a job: its copy-in is under way, or finished
abbrev pub is_held : ℕ → Bool
is_held kind = eqb kind 2 || eqb kind 3

abbrev pub processor_in : Registers → Processor
processor_in r = as_processor r.processor r.task r.start r.until

abbrev pub copyout_in : Registers → CopyOut
copyout_in r = as_copyout r.copyout r.outtask r.outstart r.outuntil

abbrev pub copyin_in : Registers → CopyIn
copyin_in r = as_copyin r.copyin r.intask r.inuntil

unfoldable pub interval_in : Registers → Interval
interval_in r = record {
  begin = r.begin;
  work = r.work;
  processor = processor_in r;
  copyout = copyout_in r;
  copyin = copyin_in r;
  candidates = r.candidates;
}

-- ---- Where none is open: `work` is that of the next interval

-- 0 none, 1 loaded, 2 promoted
abbrev pub as_next : ℕ → ℕ → Next
as_next work n = cond (eqb work 0) NoneNext (cond (eqb work 1) (LoadedNext n) (PromotedNext n))

-- 0 none
abbrev pub as_outgoing : ℕ → ℕ → ℕ → Outgoing
as_outgoing kind n start = cond (eqb kind 0) NoneOutgoing (AwaitsCopyOut n start)

-- `copyin` is 6 where no interval is open
unfoldable pub phase_in : Registers → Phase
phase_in r =
    cond (eqb r.copyin 6)
    (Between (as_next r.work r.task) (as_outgoing r.copyout r.outtask r.outstart))
    (Within (interval_in r))

-- ---- What stands beside the registers: the table, the clock, the arrays and the waiting releases

-- the arrays by task number that an instant changes: of each task's job the release time and the count of blocked intervals
pub record Arrays : Type 0 where
  pub release : List ℕ
  pub blocked : List ℕ

abbrev pub arrays : List ℕ → List ℕ → Arrays
arrays release blocked = record { release = release; blocked = blocked }

pub record Memory : Type 0 where
  pub table : Table
  pub clock : Clock
  pub arrays : Arrays
  pub waiting : WaitingReleases

abbrev pub waits : ℕ → List ℕ → ℕ → WaitingReleases
waits tasks times before = record { tasks = tasks; times = times; before = before }

-- ---- The state

-- with this phase
abbrev pub state_with : Memory → Registers → Phase → State
state_with m r p = record {
  table = m.table;
  marked = r.marked;
  clock = m.clock;
  half = r.half;
  jobs = record { pending = r.pending; ready = r.ready; release = m.arrays.release; blocked = m.arrays.blocked };
  waiting = m.waiting;
  phase = p;
}

unfoldable pub state_in : Memory → Registers → State
state_in m r = state_with m r (phase_in r)
