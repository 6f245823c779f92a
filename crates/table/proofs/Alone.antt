-- A head alone: where it is not refused, it is the head of all the bytes; and it is read from their front. Assumes nothing.
use mathlib.Core.Path.{◌≡◌, refl}
use mathlib.Core.Bool.{Bool, true, false, cond}
use mathlib.Core.List.{List}
use Prim.Native.Nat.{ℕ, ◌≤◌, ◌<◌}
use native.Mathlib.Omega.{arith}
use borrow.Author.Tests.{eqb-true, eqb-false, eq-eqb, ne_eqb}
use lib.Dec.{eqb}
use lib.ListN.{length, take}
use lib.Seq.{length-take-le}
use Rattle.std.proofs.Common.{Result, Ok, Err}
use Rattle.sets.proofs.Laws.{by-test}
use Rattle.entries.specs.Limits as limits
use Rattle.table.specs.Types.{Refusal, Alone, Head}
use Rattle.table.specs.Head.{head_read, head_of, with_nothing_behind, head_alone}
use Rattle.table.proofs.Front.{head_short, head_in_front, by_length}

-- the bytes are a head that is accepted, and nothing else
pub record Whole (s : List ℕ) : Type 0 where
  pub some : length s ≡ 0 → ⊥
  pub head : Head
  pub none_refused : head_of s ≡ Ok head
  pub whole : head.end ≡ length s

pub accepted : (s : List ℕ) (k : Head) → head_alone s ≡ Ok k → Whole s
unfolding head_alone
accepted s k h = go (eqb (length s) 0) (head_of s) refl refl h
  where
    go : (b : Bool) (r : Result Head Refusal) → eqb (length s) 0 ≡ b → head_of s ≡ r → cond b (Err (Alone 12)) (with_nothing_behind (length s) r) ≡ Ok k → Whole s
    go true r x y h = absurd (cc)
    go false (Err r) x y h = absurd (cc)
    go false (Ok j) x y h =
        by-test (eqb j.end (length s))
        (λ e. record { some = eqb-false (length s) 0 x; head = j; none_refused = y; whole = eqb-true j.end (length s) e })
        (λ e. absurd (let q = rw e at h in cc))

pub whole_head : (s : List ℕ) → Whole s → head_alone s ≡ head_of s
unfolding head_alone
whole_head s w = rw (ne_eqb (length s) 0 w.some, w.none_refused, eq-eqb w.head.end (length s) w.whole)

-- a head that ends before both lengths has an entry behind it in both
behind_alike : (m n : ℕ) (k : Result Head Refusal) → (head_read k).end < m → (head_read k).end < n → with_nothing_behind m k ≡ with_nothing_behind n k
behind_alike m n (Ok k) g h = rw (ne_eqb k.end m (λ e. omega arith), ne_eqb k.end n (λ e. omega arith))
behind_alike m n (Err r) g h = refl

pub alone_in_front : (s : List ℕ) → head_alone (take limits.head_most s) ≡ head_alone s
unfolding head_alone
alone_in_front s = by_length head_alone limits.head_most s inside
  where
    inside : limits.head_most ≤ length s → head_alone (take limits.head_most s) ≡ head_alone s
    inside l =
        let front : length (take limits.head_most s) ≡ limits.head_most = length-take-le limits.head_most s l in
        rw (
          ne_eqb (length (take limits.head_most s)) 0 (λ e. omega (arith, front)),
          ne_eqb (length s) 0 (λ e. omega arith),
          head_in_front s limits.head_most l (omega arith),
        )
        (behind_alike (length (take limits.head_most s)) (length s) (head_of s) (omega (arith, front, head_short s)) (omega (arith, head_short s)))
