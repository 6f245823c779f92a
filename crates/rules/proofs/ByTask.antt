-- A loop from member to member of a set that stores into an array at each: `take` and `defer`.
use Rattle.std.proofs.Common.{◌∷◌, ◌+◌, ◌^◌, ◌<◌, ◌≡◌}
use Rattle.rules.specs.Types.{cond, List, [], ℕ, zero, suc, refl, sym, ap, ◌∙◌}
use native.Mathlib.Omega.{arith}
use native.Mathlib.Nat.{le_of_suc-le-suc, not-suc-le-zero}
use borrow.Author.Tests.{eqb-true, eqb-false}
use lib.Dec.{eqb}
use lib.ListN.{length, get_or, set, length-set}
use lib.Seq.{get_or-set_same, get_or-set_other, ext_get_or}
use Rattle.sets.specs.Sets.{member}
use Rattle.sets.proofs.Laws.{by-test, none}
use Rattle.rules.specs.Instant.{stamped}
use Rattle.rules.proofs.Members.{Left, Turn, passed, start, at_start, at_end}

-- f at each task of a set, by its number and what it has, from task k on
unfoldable pub each : (ℕ → ℕ → ℕ) → ℕ → ℕ → List ℕ → List ℕ
each f s k [] = []
each f s k (x ∷ xs) = cond (member k s) (f k x) x ∷ each f s (suc k) xs

pub is_stamped : (s : ℕ) (f : ℕ → ℕ) (k : ℕ) (xs : List ℕ) → each (λ k x. f k) s k xs ≡ stamped s f k xs
unfolding each stamped
is_stamped s f k [] = refl
is_stamped s f k (x ∷ xs) = rw (is_stamped s f (suc k) xs)

pub stamped_none : (f : ℕ → ℕ) (k : ℕ) (xs : List ℕ) → stamped 0 f k xs ≡ xs
unfolding stamped
stamped_none f k [] = refl
stamped_none f k (x ∷ xs) = rw (none k, stamped_none f (suc k) xs)

pub each_length : (f : ℕ → ℕ → ℕ) (s k : ℕ) (xs : List ℕ) → length (each f s k xs) ≡ length xs
unfolding each
each_length f s k [] = refl
each_length f s k (x ∷ xs) = ap suc (each_length f s (suc k) xs)

pub each_at : (f : ℕ → ℕ → ℕ) (s k i n : ℕ) → n ≡ k + i → (xs : List ℕ) → i < length xs → get_or (each f s k xs) i 0 ≡ cond (member n s) (f n (get_or xs i 0)) (get_or xs i 0)
unfolding each
each_at f s k i n e [] l = absurd (not-suc-le-zero l)
each_at f s k zero n e (x ∷ xs) l = let h : n ≡ k = omega arith in rw h
each_at f s k (suc i) n e (x ∷ xs) l = each_at f s (suc k) i n (omega arith) xs (le_of_suc-le-suc l)

-- in a loop over a set, the tasks passed have f at what they had
pub record Stored (f : ℕ → ℕ → ℕ) (s left : ℕ) (old new : List ℕ) : Type 0 where
  pub members : Left s left
  pub long : length new ≡ length old
  pub at : (k : ℕ) → k < length new → get_or new k 0 ≡ cond (passed s left k) (f k (get_or old k 0)) (get_or old k 0)

module _ {f : ℕ → ℕ → ℕ} {s : ℕ} {old : List ℕ} where
  pub store_start : s < 2 ^ 32 → Stored f s s old old
  store_start l = record { members = start l; long = refl; at = λ k m. rw (at_start s k) }

  pub store : {left n after v : ℕ} {new : List ℕ} → Turn s left n after → Stored f s left old new → v ≡ f n (get_or new n 0) → Stored f s after old (set new n v)
  store {left} {n} {after} {v} {new} t h q = record {
    members = t.next;
    long = length-set new n v ∙ h.long;
    at = λ k m.
        let l : k < length new = omega (arith, length-set new n v) in
        rw (t.one_more k)
        (by-test (eqb k n)
        (λ e. let b : n < length new = omega (arith, eqb-true k n e) in rw (e, eqb-true k n e, get_or-set_same new n v 0 b, q, h.at n b, t.fresh))
        (λ e. rw (e, get_or-set_other new n k v 0 (eqb-false k n e)) (h.at k l)));
  }

  pub store_end : {left : ℕ} {new : List ℕ} → Stored f s left old new → left ≡ 0 → new ≡ each f s 0 old
  store_end {left} {new} h z =
      ext_get_or 0 new (each f s 0 old) (h.long ∙ sym (each_length f s 0 old))
      (λ k m. h.at k m ∙ rw (z, at_end s k) (sym (each_at f s 0 k k (omega arith) old (omega (arith, h.long)))))
