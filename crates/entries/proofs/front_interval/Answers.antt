-- `entries::front_interval` meets its contract: field by field. Assumes nothing.
use mathlib.Core.Path.{◌≡◌, ap, ◌∙◌}
use mathlib.Core.List.{List}
use Prim.Native.Nat.{ℕ}
use Rattle.words.specs.Words.{number_at}
use Rattle.entries.specs.Types.{Option, IntervalEntry}
use Rattle.entries.specs.Entries.{task_of, interval_at}
use Rattle.entries.proofs.front_interval.Goals as goal

module _ (s : List ℕ) (begin end half work fate : ℕ) (task copiedout chosen promoted : Option ℕ) where
  abbrev entry : IntervalEntry
  entry = record { begin = begin; end = end; half = half; task = task; work = work; copiedout = copiedout; chosen = chosen; fate = fate; promoted = promoted }

  made : begin ≡ number_at 8 s 1 → end ≡ number_at 8 s 9 → half ≡ number_at 1 s 17 → task ≡ task_of (number_at 1 s 18) → work ≡ number_at 1 s 19
      → copiedout ≡ task_of (number_at 1 s 20) → chosen ≡ task_of (number_at 1 s 21) → fate ≡ number_at 1 s 22 → promoted ≡ task_of (number_at 1 s 23)
      → entry ≡ interval_at s 0
  unfolding interval_at
  made a b c d e f g h i = cc (a, b, c, d, e, f, g, h, i)

pub returns : goal.returns
returns c =
    made c.args.rest.now _ _ _ _ _ _ _ _ _
    c.get_u64.ensures
    c.get_u64-2.ensures
    c.get_u8.ensures
    (c.task_of.ensures ∙ ap task_of c.get_u8-2.ensures)
    c.get_u8-3.ensures
    (c.task_of-2.ensures ∙ ap task_of c.get_u8-4.ensures)
    (c.task_of-3.ensures ∙ ap task_of c.get_u8-5.ensures)
    c.get_u8-6.ensures
    (c.task_of-4.ensures ∙ ap task_of c.get_u8-7.ensures)
