-- What whoever advances a run may rely on. Assumes nothing.
use mathlib.Core.Path.{◌≡◌, subst}
use mathlib.Core.List.{List}
use Prim.Native.Nat.{ℕ, ◌≤◌}
use lib.ListN.{length}
use Rattle.std.proofs.Common.{Option, None, Some, Ok}
use Rattle.table.specs.Head.{head_read, head_of}
use Rattle.table.proofs.Laws.{head_within}
use Rattle.rules.specs.Kept.{Kept, Beside}
use Rattle.run.specs.Types.{Head, Refusal}
use Rattle.run.specs.Files.{refusal_of, releases_of, head_unless, file_head}
use Rattle.run.specs.Advance.{Steps}

pub with_set : {t m n : ℕ} {k : Kept} {b : Beside} {out : List ℕ} {place : ℕ} {k' : Kept} {b' : Beside} {out' : List ℕ}
    → m ≡ n → Steps t m k b out place k' b' out' → Steps t n k b out place k' b' out'
with_set {t} {m} {n} {k} {b} {out} {place} {k'} {b'} {out'} e x = subst (λ (i : ℕ). Steps t i k b out place k' b' out') e x

-- the releases stand behind the head, within the input
pub releases_within : (s : List ℕ) (k : Head) → file_head s ≡ Ok k → k.end ≤ length s
unfolding file_head
releases_within s k = go (refusal_of (releases_of s))
  where
    go : (r : Option Refusal) → head_unless (head_read (head_of s)) r ≡ Ok k → k.end ≤ length s
    go None e = let same : head_read (head_of s) ≡ k = cc in subst (λ (j : Head). j.end ≤ length s) same (head_within s)
    go (Some r) e = absurd (cc)
