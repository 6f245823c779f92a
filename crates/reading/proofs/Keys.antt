-- How many releases of a list, and how many tasks of a set with their times, pass a test. Assumes nothing.
use Rattle.std.proofs.Common.{◌∷◌, ◌++◌, ◌+◌}
use mathlib.Core.Path.{◌≡◌, refl, ap, ◌∙◌}
use mathlib.Core.Bool.{not, ◌&&◌, ◌||◌}
use Prim.Native.Nat.{◌<◌}
use native.Mathlib.Nat.{not-suc-le-zero}
use native.Mathlib.Omega.{arith}
use borrow.Author.Tests.{eqb-true, eqb-false, ne_eqb}
use lib.Dec.{eqb}
use Rattle.sets.specs.Sets.{member, insert, remove, bit, count}
use Rattle.sets.proofs.Laws.{by-test, none, count_sum, count_none, inserted, removed}
use Rattle.reading.specs.Types.{Bool, true, false, cond, List, [], ℕ, zero, suc, Release}
use Rattle.reading.proofs.RunAttested.{tally, skips_attested}

-- ---- how many tasks pass a test

-- three counts together are three others, where they are so at each place
pub count_threes : (k : ℕ) (p q u r v s : ℕ → Bool) → ((n : ℕ) → n < k → bit (p n) + bit (q n) + bit (u n) ≡ bit (r n) + bit (v n) + bit (s n))
    → count k p + count k q + count k u ≡ count k r + count k v + count k s
unfolding count
count_threes zero p q u r v s h = refl
count_threes (suc k) p q u r v s h = omega (arith, count_threes k p q u r v s (λ n l. h n (omega arith)), h k (omega arith))

-- a test of one task alone
count_at : (k n : ℕ) (f : ℕ → Bool) → n < k → count k (λ m. eqb m n && f m) ≡ bit (f n)
unfolding count
count_at zero n f l = absurd (not-suc-le-zero l)
count_at (suc k) n f l =
    by-test (eqb k n)
    (λ e. rw e (ap (λ (x : ℕ). x + bit (f k)) (count_none k (λ m. eqb m n && f m) (λ m i. rw (ne_eqb m n (omega (arith, eqb-true k n e))))) ∙ rw (eqb-true k n e) (omega arith)))
    (λ e. rw e (omega (arith, count_at k n f (omega (arith, eqb-false k n e)))))

module _ (test : Release → Bool) where
  -- whether a release of task n at a time passes it
  abbrev pub hits : ℕ → ℕ → Bool
  hits t n = test (record { task = n; time = t })

  -- ---- of sets

  -- how many tasks of a set pass it, each with its time
  unfoldable pub among : ℕ → (ℕ → ℕ) → ℕ
  among set times = count 32 (λ n. member n set && hits (times n) n)

  pub among_none : (times : ℕ → ℕ) → among 0 times ≡ 0
  unfolding among
  among_none times = count_none 32 (λ n. member n 0 && hits (times n) n) (λ n l. rw (none n))

  module _ (n : ℕ) (times : ℕ → ℕ) (small : n < 32) where
    -- a set with one task more
    one_more : (more less : ℕ) → ((m : ℕ) → m < 32 → (f : Bool) → bit (member m more && f) ≡ bit (member m less && f) + bit (eqb m n && f))
        → among more times ≡ among less times + bit (hits (times n) n)
    unfolding among
    one_more more less h =
        count_sum 32 (λ m. member m more && hits (times m) m) (λ m. member m less && hits (times m) m) (λ m. eqb m n && hits (times m) m)
        (λ m l. h m l (hits (times m) m))
        ∙ ap (λ (x : ℕ). count 32 (λ m. member m less && hits (times m) m) + x) (count_at 32 n (λ m. hits (times m) m) small)

    -- a member is taken out
    pub among_removed : (set : ℕ) → member n set ≡ true → among set times ≡ among (remove n set) times + bit (hits (times n) n)
    among_removed set h =
        one_more set (remove n set)
        (λ m l f. rw (removed n set m l) (parts (eqb m n) (member m set) f (λ e. ap (λ (x : ℕ). member x set) (eqb-true m n e) ∙ h)))
      where
        parts : (e b f : Bool) → (e ≡ true → b ≡ true) → bit (b && f) ≡ bit ((not e && b) && f) + bit (e && f)
        parts true b f h = rw (h refl) (omega arith)
        parts false b f h = omega arith

    -- a task that is no member is put in
    pub among_inserted : (set : ℕ) → member n set ≡ false → among (insert n set) times ≡ among set times + bit (hits (times n) n)
    among_inserted set h =
        one_more (insert n set) set
        (λ m l f. rw (inserted n set m l) (parts (eqb m n) (member m set) f (λ e. ap (λ (x : ℕ). member x set) (eqb-true m n e) ∙ h)))
      where
        parts : (e b f : Bool) → (e ≡ true → b ≡ false) → bit ((e || b) && f) ≡ bit (b && f) + bit (e && f)
        parts true b f h = rw (h refl) (omega arith)
        parts false b f h = omega arith

  -- ---- of releases

  pub tally_append : (xs ys : List Release) → tally test (xs ++ ys) ≡ tally test xs + tally test ys
  unfolding tally
  tally_append [] ys = omega arith
  tally_append (x ∷ xs) ys = omega (arith, tally_append xs ys)

  -- the releases skipped are those of their set
  skips_counted : (j set t : ℕ) → tally test (skips_attested j set t) ≡ count j (λ n. member n set && hits t n)
  unfolding tally skips_attested count
  skips_counted zero set t = refl
  skips_counted (suc j) set t =
      tally_append (skips_attested j set t) (cond (member j set) (record { task = j; time = t } ∷ []) [])
      ∙ omega (arith, skips_counted j set t, go (member j set))
    where
      go : (b : Bool) → tally test (cond b (record { task = j; time = t } ∷ []) []) ≡ bit (b && hits t j)
      go true = omega arith
      go false = refl

  pub skips_tally : (set t : ℕ) → tally test (skips_attested 32 set t) ≡ among set (λ n. t)
  unfolding among
  skips_tally set t = skips_counted 32 set t
