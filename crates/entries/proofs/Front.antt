-- An entry in the front of a slice: as it is in the whole slice where the front has room for the longest entry behind the place. Assumes
-- nothing.
use mathlib.Core.Path.{◌≡◌, refl, sym, ◌∙◌}
use mathlib.Core.List.{List}
use Prim.Native.Nat.{ℕ, zero, suc, ◌+◌, ◌-◌, ◌≤◌}
use native.Mathlib.Omega.{arith}
use borrow.Author.Tests.{le-leb}
use lib.Dec.{leb}
use lib.ListN.{length, take}
use lib.Seq.{length-take-le, get_or-take}
use Rattle.words.specs.Words.{number_at}
use Rattle.entries.specs.Entries.{task_at, release_at, spacing_at, entry_at}

module _ (s : List ℕ) (e : ℕ) (inside : e ≤ length s) where
  pub number_in_front : (w at : ℕ) → at + w ≤ e → number_at w (take e s) at ≡ number_at w s at
  unfolding number_at
  number_in_front zero at l = refl
  number_in_front (suc w) at l = rw (number_in_front w at (omega arith), get_or-take e s (at + w) 0 (omega arith))

  -- both the front and the slice hold so many bytes from the place on
  pub fits_alike : (n at : ℕ) → at + n ≤ e → leb n (length (take e s) - at) ≡ leb n (length s - at)
  fits_alike n at l =
      le-leb n (length (take e s) - at) (omega (arith, length-take-le e s inside)) ∙ sym (le-leb n (length s - at) (omega arith))

  module _ (at : ℕ) where
    pub task_in_front : at + 16 ≤ e → task_at (take e s) at ≡ task_at s at
    unfolding task_at
    task_in_front room =
        rw (
          number_in_front 1 (at + 1) (omega arith),
          number_in_front 1 (at + 2) (omega arith),
          number_in_front 1 (at + 3) (omega arith),
          number_in_front 4 (at + 4) (omega arith),
          number_in_front 4 (at + 8) (omega arith),
          number_in_front 4 (at + 12) (omega arith),
        )

    pub release_in_front : at + 10 ≤ e → release_at (take e s) at ≡ release_at s at
    unfolding release_at
    release_in_front room = rw (number_in_front 1 (at + 1) (omega arith), number_in_front 8 (at + 2) (omega arith))

    pub spacing_in_front : at + 6 ≤ e → spacing_at (take e s) at ≡ spacing_at s at
    unfolding spacing_at
    spacing_in_front room = rw (number_in_front 1 (at + 1) (omega arith), number_in_front 4 (at + 2) (omega arith))

    pub entry_in_front : at + 16 ≤ e → entry_at (take e s) at ≡ entry_at s at
    unfolding entry_at
    entry_in_front room =
        rw (
          number_in_front 1 at (omega arith),
          fits_alike 16 at (omega arith),
          fits_alike 10 at (omega arith),
          fits_alike 6 at (omega arith),
          task_in_front room,
          release_in_front (omega arith),
          spacing_in_front (omega arith),
        )
