-- What goes on now, read off the state: what the processor and the engine do, with whom and until when. The waveform shows the first
-- four, and a driver commands its hardware by all of it.
use Rattle.rules.specs.Types.{cond, ℕ, Option, None, Some, Processor, Idle, CopyingIn, Executing, Finished, CopyOut, NoCopyOut, CopyingOut, CopiedOut, CopyIn, Unchosen, NoneChosen, Copying, Loaded, Cancelled, Phase, Between, Within, State, View}
use Rattle.std.specs.Prelude.{eqb}
use Rattle.entries.specs.Entries.{task_byte}

-- ---- The four values of 5/13

-- "the task on the processor (nobody once its work has ended)": from its interval's begin, its own copy-in included, until its
-- execution's end
abbrev pub on_processor : Processor → Option ℕ
on_processor Idle = None
on_processor (CopyingIn n until) = Some n
on_processor (Executing n start until) = Some n
on_processor (Finished n start) = None

-- "the task being copied in by the engine": one that is cancelled or has ended is not being copied
abbrev pub copied_in : CopyIn → Option ℕ
copied_in Unchosen = None
copied_in NoneChosen = None
copied_in (Copying n until) = Some n
copied_in (Loaded n) = None
copied_in (Cancelled n fate) = None

-- "and the task being copied out"
abbrev pub copied_out : CopyOut → Option ℕ
copied_out NoCopyOut = None
copied_out (CopyingOut n start until) = Some n
copied_out (CopiedOut n) = None

-- "half 0 shows before the first interval, and idle time keeps the last half"
abbrev pub shown_half : ℕ → ℕ
shown_half half = cond (eqb half 1) 1 0

pub record Values : Type 0 where
  pub processor : Option ℕ
  pub copyin : Option ℕ
  pub copyout : Option ℕ
  pub half : ℕ

abbrev pub values_in : Phase → ℕ → Values
values_in (Between next outgoing) half = record { processor = None; copyin = None; copyout = None; half = shown_half half }
values_in (Within i) half = record {
  processor = on_processor i.processor;
  copyin = copied_in i.copyin;
  copyout = copied_out i.copyout;
  half = shown_half half;
}

abbrev pub values : State → Values
values d = values_in d.phase d.half

-- ---- Until when: the end of the phase under way, and 0 where there is none

abbrev pub processor_until : Processor → ℕ
processor_until Idle = 0
processor_until (CopyingIn n until) = until
processor_until (Executing n start until) = until
processor_until (Finished n start) = 0

abbrev pub copyin_until : CopyIn → ℕ
copyin_until Unchosen = 0
copyin_until NoneChosen = 0
copyin_until (Copying n until) = until
copyin_until (Loaded n) = 0
copyin_until (Cancelled n fate) = 0

abbrev pub copyout_until : CopyOut → ℕ
copyout_until NoCopyOut = 0
copyout_until (CopyingOut n start until) = until
copyout_until (CopiedOut n) = 0

-- ---- All of it: of the open interval its begin and work, 0 where none is open; what stands for no task is nobody

abbrev pub viewed_in : State → Phase → View
viewed_in d (Between next outgoing) = record {
  begin = 0;
  until = 0;
  inuntil = 0;
  outuntil = 0;
  pending = d.jobs.pending;
  waiting = d.waiting.tasks;
  marked = d.marked;
  opened = 0;
  work = 0;
  processor = task_byte None;
  copyin = task_byte None;
  copyout = task_byte None;
  half = (values d).half;
}
viewed_in d (Within i) = record {
  begin = i.begin;
  until = processor_until i.processor;
  inuntil = copyin_until i.copyin;
  outuntil = copyout_until i.copyout;
  pending = d.jobs.pending;
  waiting = d.waiting.tasks;
  marked = d.marked;
  opened = 1;
  work = i.work;
  processor = task_byte (values_in (Within i) d.half).processor;
  copyin = task_byte (values_in (Within i) d.half).copyin;
  copyout = task_byte (values_in (Within i) d.half).copyout;
  half = (values_in (Within i) d.half).half;
}

unfoldable pub viewed : State → View
viewed d = viewed_in d d.phase
