-- The state with one part another, and times.
use Rattle.std.specs.Prelude.{◌+◌, ◌-◌, ◌^◌}
use Rattle.rules.specs.Types.{List, ℕ, min, Jobs, WaitingReleases, At, Interval, CopyIn, Phase, State}

abbrev pub with_jobs : State → Jobs → State
with_jobs d j =
    record { table = d.table; marked = d.marked; clock = d.clock; half = d.half; jobs = j; waiting = d.waiting; phase = d.phase }

abbrev pub with_phase : State → Phase → State
with_phase d p =
    record { table = d.table; marked = d.marked; clock = d.clock; half = d.half; jobs = d.jobs; waiting = d.waiting; phase = p }

-- the state with other ready jobs
abbrev pub with_ready : State → ℕ → State
with_ready d s = with_jobs d (record { pending = d.jobs.pending; ready = s; release = d.jobs.release; blocked = d.jobs.blocked })

-- and with other counts of blocked intervals
abbrev pub with_blocked : State → List ℕ → State
with_blocked d b = with_jobs d (record { pending = d.jobs.pending; ready = d.jobs.ready; release = d.jobs.release; blocked = b })

-- the state with other waiting releases
abbrev pub with_waiting : State → WaitingReleases → State
with_waiting d w =
    record { table = d.table; marked = d.marked; clock = d.clock; half = d.half; jobs = d.jobs; waiting = w; phase = d.phase }

-- the state at an instant's time
abbrev pub at_clock : State → ℕ → State
at_clock d t =
    record { table = d.table; marked = d.marked; clock = At t; half = d.half; jobs = d.jobs; waiting = d.waiting; phase = d.phase }

abbrev pub with_copyin : Interval → CopyIn → Interval
with_copyin i c =
    record { begin = i.begin; work = i.work; processor = i.processor; copyout = i.copyout; copyin = c; candidates = i.candidates }

-- t and n ticks later, held at the last tick that a clock has, which no run reaches
abbrev pub later : ℕ → ℕ → ℕ
later t n = min (t + n) (2 ^ 64 - 1)
