-- What stands at the front of a slice: bytes that are moved there one by one, and bytes that stay.
use Rattle.std.proofs.Common.{zero-add, ◌≡◌, refl, sym, ap, ◌∙◌, Bool, true, false, List, ◌++◌, ℕ, ◌-◌, ◌≤◌, min, arith, length, take, drop, length-take, length-drop}
use lib.Dec.{leb}
use borrow.Author.Tests.{leb-true, leb-false}
use Rattle.std.proofs.Math.ListN.{drop_of_length-le}
use Rattle.std.proofs.Math.Seq.{slice, length-take-le, take-take}
use Rattle.std.specs.List.{copy_within}
use Rattle.std.proofs.lemmas.List.{take_min, drop-take}
use Rattle.streams.specs.Fronts.{Keeps}

-- ---- What is moved

-- from a place past the end on there is nothing, as from the end on
from_end : (xs : List ℕ) (from start : ℕ) → start ≡ min from (length xs) → drop start xs ≡ drop from xs
from_end xs from start e = go (leb from (length xs)) refl
  where
    go : (b : Bool) → leb from (length xs) ≡ b → drop start xs ≡ drop from xs
    go true h = ap (λ (k : ℕ). drop k xs) (omega (arith, e, leb-true from (length xs) h))
    go false h = drop_of_length-le xs {i = start} (omega (arith, e, leb-false from (length xs) h)) ∙ sym (drop_of_length-le xs {i = from} (omega (arith, leb-false from (length xs) h)))

-- the bytes between two places, as a part of a slice and by taking and dropping
part : (from end start stop : ℕ) (s : List ℕ) → stop ≡ min end (length s) → start ≡ min from stop
    → take (stop - start) (drop start s) ≡ slice from end s
part from end start stop s e f =
    sym (drop-take start (stop - start) s)
    ∙ ap (λ (k : ℕ). drop start (take k s)) (omega (arith, f) ∙ e)
    ∙ ap (λ (xs : List ℕ). drop start xs) (take_min end s)
    ∙ from_end (take end s) from start (f ∙ ap (min from) (e ∙ sym (length-take end s)))

pub kept : (from end start stop : ℕ) (s t : List ℕ) → stop ≡ min end (length s) → start ≡ min from stop
    → t ≡ copy_within s start stop 0 → Keeps from end s (stop - start) t
kept from end start stop s t e f h =
    let p = part from end start stop s e f in
    record {
      counts = sym (length-take-le (stop - start) (drop start s) (omega (arith, e, f, length-drop start s))) ∙ ap length p;
      within = (omega (arith, e, f), omega (arith, e, f));
      holds = h ∙ ap (λ (k : ℕ). take (stop - start) (drop start s) ++ drop k s) (zero-add (stop - start)) ∙ ap (λ (r : List ℕ). r ++ drop (stop - start) s) p;
    }

-- ---- What stays

-- what a longer front keeps, a shorter one keeps too
pub stays : (m n : ℕ) (s t u : List ℕ) → m ≤ n → take n t ≡ take n s → take m s ≡ take m u → take m t ≡ take m u
stays m n s t u h e f = sym (take-take m n t h) ∙ ap (λ (r : List ℕ). take m r) e ∙ take-take m n s h ∙ f
