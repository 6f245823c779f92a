-- The laws of a record's lines: a whole entry stands within the bytes, and its line stands before those of the entries behind it.
use mathlib.Core.Path.{◌≡◌, refl, sym, ap, ◌∙◌}
use mathlib.Core.List.{List, [], ◌++◌}
use Prim.Native.Nat.{ℕ, zero, suc, ◌+◌, ◌-◌, ◌≤◌}
use native.Mathlib.Omega.{arith}
use lib.ListN.{length}
use Rattle.entries.specs.Entries.{record_entry_at, record_entry_size}
use Rattle.entries.proofs.Places.{entry_within}
use Rattle.record_lines.specs.Types.{RecordEntry, Unreadable, JobDone, IntervalEnded, ReleaseSkipped}
use Rattle.record_lines.specs.Lines.{read_line, entry_line, entry_size, lines_from, lines_behind}
use Rattle.std.specs.Prelude.{Result, Ok, Err}

pub size_fits : (s : List ℕ) (at : ℕ) → entry_size s at ≤ length s - at
unfolding entry_size
size_fits s at = entry_within s at

no_line : (f : Result RecordEntry Unreadable) → record_entry_size f ≡ 0 → read_line f ≡ []
no_line (Err x) e = refl
no_line (Ok (JobDone x)) e = absurd (omega arith)
no_line (Ok (IntervalEnded x)) e = absurd (omega arith)
no_line (Ok (ReleaseSkipped x)) e = absurd (omega arith)

-- where no entry stands there is no line
pub no_entry : (s : List ℕ) (at : ℕ) → entry_size s at ≡ 0 → entry_line s at ≡ []
unfolding entry_size entry_line
no_entry s at e = no_line (record_entry_at s at) e

-- ---- the lines from a place on

pub none_left : (k : ℕ) (s : List ℕ) (at : ℕ) → entry_size s at ≡ 0 → lines_from k s at ≡ []
unfolding lines_from
none_left zero s at e = refl
none_left (suc k) s at e = rw (e, lines_from)

pub one_more : (k : ℕ) (s : List ℕ) (at n : ℕ) → entry_size s at ≡ suc n → lines_from (suc k) s at ≡ entry_line s at ++ lines_from k s (at + suc n)
unfolding lines_from
one_more k s at n e = rw (e, lines_from)

-- a longer count finds the same lines
stable : (j k : ℕ) (s : List ℕ) (at : ℕ) → length s - at ≤ j → length s - at ≤ k → lines_from j s at ≡ lines_from k s at
stable zero k s at h i = let e : entry_size s at ≡ 0 = omega (arith, size_fits s at) in none_left zero s at e ∙ sym (none_left k s at e)
stable (suc j) zero s at h i = let e : entry_size s at ≡ 0 = omega (arith, size_fits s at) in none_left (suc j) s at e ∙ sym (none_left zero s at e)
stable (suc j) (suc k) s at h i = go (entry_size s at) refl (λ n p. stable j k s (at + n) (omega arith) (omega arith))
  where
    go : (n : ℕ) → entry_size s at ≡ n → ((n : ℕ) → 1 ≤ n → lines_from j s (at + n) ≡ lines_from k s (at + n)) → lines_from (suc j) s at ≡ lines_from (suc k) s at
    go zero e more = none_left (suc j) s at e ∙ sym (none_left (suc k) s at e)
    go (suc n) e more = one_more j s at n e ∙ ap (λ (x : List ℕ). entry_line s at ++ x) (more (suc n) (omega arith)) ∙ sym (one_more k s at n e)

-- the line of an entry, and then those of the entries behind it
pub entry_first : (s : List ℕ) (at : ℕ) → (entry_size s at ≡ 0 → ⊥) → lines_behind s at ≡ entry_line s at ++ lines_behind s (at + entry_size s at)
entry_first s at h = go (entry_size s at) refl
  where
    go : (n : ℕ) → entry_size s at ≡ n → lines_behind s at ≡ entry_line s at ++ lines_behind s (at + n)
    go zero e = absurd (h e)
    go (suc n) e =
        let some : length s - at ≡ suc (length s - at - 1) = omega (arith, size_fits s at) in
        ap (λ (k : ℕ). lines_from k s at) some ∙ one_more (length s - at - 1) s at n e
        ∙ ap (λ (x : List ℕ). entry_line s at ++ x) (stable (length s - at - 1) (length s - (at + suc n)) s (at + suc n) (omega arith) (omega arith))
