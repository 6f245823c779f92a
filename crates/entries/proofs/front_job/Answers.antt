-- `entries::front_job` meets its contract: field by field. Assumes nothing.
use mathlib.Core.Path.{◌≡◌}
use mathlib.Core.List.{List}
use Prim.Native.Nat.{ℕ}
use Rattle.words.specs.Words.{number_at}
use Rattle.entries.specs.Types.{JobEntry}
use Rattle.entries.specs.Entries.{job_at}
use Rattle.entries.proofs.front_job.Goals as goal

module _ (s : List ℕ) (task release start completion blocked : ℕ) where
  abbrev entry : JobEntry
  entry = record { task = task; release = release; start = start; completion = completion; blocked = blocked }

  made : task ≡ number_at 1 s 1 → release ≡ number_at 8 s 2 → start ≡ number_at 8 s 10 → completion ≡ number_at 8 s 18 → blocked ≡ number_at 1 s 26
      → entry ≡ job_at s 0
  unfolding job_at
  made a b c d e = cc (a, b, c, d, e)

pub returns : goal.returns
returns c = made c.args.rest.now _ _ _ _ _ c.get_u8.ensures c.get_u64.ensures c.get_u64-2.ensures c.get_u64-3.ensures c.get_u8-2.ensures
