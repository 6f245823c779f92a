-- `entries::front_task` meets its contract: field by field. Assumes nothing.
use mathlib.Core.Path.{◌≡◌}
use mathlib.Core.List.{List}
use Prim.Native.Nat.{ℕ}
use Rattle.words.specs.Words.{number_at}
use Rattle.entries.specs.Types.{TaskParameters}
use Rattle.entries.specs.Entries.{task_at}
use Rattle.entries.proofs.front_task.Goals as goal

module _ (s : List ℕ) (number priority mark copyin execution copyout : ℕ) where
  abbrev entry : TaskParameters
  entry = record { number = number; priority = priority; mark = mark; copyin = copyin; execution = execution; copyout = copyout }

  made : number ≡ number_at 1 s 1 → priority ≡ number_at 1 s 2 → mark ≡ number_at 1 s 3 → copyin ≡ number_at 4 s 4 → execution ≡ number_at 4 s 8 → copyout ≡ number_at 4 s 12
      → entry ≡ task_at s 0
  unfolding task_at
  made a b c d e f = cc (a, b, c, d, e, f)

pub returns : goal.returns
returns c =
    made c.args.rest.now _ _ _ _ _ _
    c.get_u8.ensures
    c.get_u8-2.ensures
    c.get_u8-3.ensures
    c.get_u32.ensures
    c.get_u32-2.ensures
    c.get_u32-3.ensures
