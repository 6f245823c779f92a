-- `rules::order::count_all` meets its contract: the tasks passed have one more where they are marked. Assumes nothing.
use Rattle.std.proofs.Common.{◌∷◌, ◌+◌, ◌≤◌, ◌<◌, ◌≡◌}
use Rattle.rules.specs.Types.{Bool, cond, List, [], ℕ, suc, min, refl, sym, ap, ◌∙◌}
use native.Mathlib.Omega.{arith}
use borrow.Author.Tests.{eqb-true, eqb-false}
use lib.Dec.{eqb}
use lib.ListN.{length, get_or, set, length-set, replicate}
use lib.Seq.{get_or-set_same, get_or-set_other, ext_get_or}
use Rattle.sets.proofs.Laws.{by-test, collected}
use Rattle.rules.specs.Instant.{counted}
use Rattle.rules.specs.Steps.{marked_in}
use Rattle.rules.proofs.ByTask.{each, each_length, each_at}
use Rattle.rules.proofs.order.count_all.Invariants.{counts_at, Made}
use Rattle.rules.proofs.order.count_all.Goals as goal

-- one more, held at 255
abbrev one_more : ℕ → ℕ → ℕ
one_more k x = min (x + 1) 255

is_counted : (s k : ℕ) (xs : List ℕ) → each one_more s k xs ≡ counted s k xs
unfolding each counted
is_counted s k [] = refl
is_counted s k (x ∷ xs) = rw (is_counted s (suc k) xs)

-- whether task j is both in the set and marked
-- of the tasks below k the new counts are made
module _ {s : ℕ} {marks counts : List ℕ} where
  start : Made s marks counts (replicate 32 0) 0
  start = record { long = refl; passed = omega arith; at = λ j l. absurd (omega arith) }

  make : {next : List ℕ} {k v : ℕ} → Made s marks counts next k → k < 32
      → v ≡ cond (counts_at s marks k) (min (get_or counts k 0 + 1) 255) (get_or counts k 0) → Made s marks counts (set next k v) (k + 1)
  make {next} {k} {v} h l e = record {
    long = length-set next k v ∙ h.long;
    passed = omega arith;
    at = λ j m.
        by-test (eqb j k)
        (λ f. rw (eqb-true j k f) (get_or-set_same next k v 0 (omega (arith, h.long)) ∙ e))
        (λ f. get_or-set_other next k j v 0 (eqb-false j k f) ∙ h.at j (omega (arith, eqb-false j k f)));
  }

  all_made : {next : List ℕ} {k : ℕ} → Made s marks counts next k → 32 ≤ k → length counts ≡ 32 → next ≡ counted (marked_in s marks) 0 counts
  all_made {next} {k} h l n =
      ext_get_or 0 next (each one_more (marked_in s marks) 0 counts) (h.long ∙ sym (each_length one_more (marked_in s marks) 0 counts ∙ n))
      (λ j m.
      let i : j < 32 = omega (arith, h.long) in
      h.at j (omega arith)
      ∙ ap (λ (b : Bool). cond b (min (get_or counts j 0 + 1) 255) (get_or counts j 0)) (sym (collected (counts_at s marks) j i))
      ∙ sym (each_at one_more (marked_in s marks) 0 j j (omega arith) counts (omega (arith, n))))
      ∙ is_counted (marked_in s marks) 0 counts

pub loop-k-init : goal.loop-k-init
loop-k-init c = start

pub loop-k-preserved : goal.loop-k-preserved
loop-k-preserved c = rw c.from-i.ensures (make c.loop-k.invariant (omega arith) (c.risen.ensures ∙ rw (c.contains.ensures, c.from-i.ensures)))

pub returns : goal.returns
returns c = all_made c.loop-k.invariant (omega arith) c.told-counts
