-- Bytes laid over a slice one after the other are laid over it together. Assumes nothing.
use mathlib.Core.Path.{◌≡◌, sym, ap, ◌∙◌}
use mathlib.Core.List.{List, [], ◌∷◌, ◌++◌, append_assoc}
use Prim.Native.Nat.{ℕ, ◌+◌, ◌-◌, ◌≤◌, ◌<◌}
use native.Mathlib.Nat.{mod-eq_of_lt}
use native.Mathlib.Omega.{arith}
use borrow.Author.Tests.{le-leb, lt-leb}
use lib.ListN.{length, take, drop, length-append, length-drop, take-append-drop}
use lib.Seq.{length-take-le, take-append_seam, drop-append-add, drop-drop}
use Rattle.words.specs.Words.{bytes_of, written}
use Rattle.words.proofs.Laws.{lent, written_whole, length_bytes}
use Rattle.entries.specs.Entries.{laid, Put}

-- a slice whose front is so, and whose rest is what stood there
abbrev pub Front : List ℕ → List ℕ → List ℕ → Type 0
Front front old s = s ≡ front ++ drop (length front) old

module _ (front old s bytes : List ℕ) where
  pub next : (n : ℕ) → n ≡ length front → (s' : List ℕ) → s' ≡ laid n bytes s → Front front old s → Front (front ++ bytes) old s'
  next n l s' e f =
      e ∙ ap (λ (k : ℕ). laid k bytes s) l ∙ ap (laid (length front) bytes) f
      ∙ rw (
        take-append_seam front (drop (length front) old),
        drop-append-add front (drop (length front) old) (length bytes),
        drop-drop (length bytes) (length front) old,
        append_assoc front bytes (drop (length (front ++ bytes)) old),
        length-append front bytes,
      )

-- the front of a slice, up to a place in it, is its own front
pub up_to : (n : ℕ) (old : List ℕ) → n ≤ length old → Front (take n old) old old
up_to n old l = rw (length-take-le n old l) (sym (take-append-drop n old))

-- the outcome of a writer whose bytes fit, and of one whose bytes do not
pub fits : (bytes old s : List ℕ) → length bytes ≤ length old → Front bytes old s → Put bytes old (length bytes) s
fits bytes old s l f = record { length_is = rw (le-leb (length bytes) (length old) l); holds = rw (le-leb (length bytes) (length old) l) f }

pub too_long : (bytes old : List ℕ) → length old < length bytes → Put bytes old 0 old
too_long bytes old l = record { length_is = rw (lt-leb (length bytes) (length old) l); holds = rw (lt-leb (length bytes) (length old) l) }

-- what a number's writer made of the rest from a place on
pub put_there : (w v at : ℕ) (s t : List ℕ) → at + w ≤ length s → t ≡ written w v (take (length s - at) (drop at s))
    → take at s ++ (t ++ drop (length s - at) (drop at s)) ≡ laid at (bytes_of w v) s
put_there w v at s t l e =
    lent (written w v) at s t e
    ∙ ap (λ (x : List ℕ). take at s ++ x)
    (written_whole w v (drop at s) (omega (arith, length-drop at s))
    ∙ ap (λ (x : List ℕ). bytes_of w v ++ x) (drop-drop w at s ∙ ap (λ (n : ℕ). drop (at + n) s) (sym (length_bytes w v))))

pub put_byte_there : (b at : ℕ) (s t : List ℕ) → b < 256 → at + 1 ≤ length s → t ≡ written 1 b (take (length s - at) (drop at s))
    → take at s ++ (t ++ drop (length s - at) (drop at s)) ≡ laid at (b ∷ []) s
unfolding bytes_of
put_byte_there b at s t h l e = put_there 1 b at s t l e ∙ ap (λ (x : ℕ). laid at (x ∷ []) s) (mod-eq_of_lt h)

-- bytes behind the front of a slice are laid over it
pub behind : (n : ℕ) (bytes old s : List ℕ) → n ≤ length old → Front (take n old ++ bytes) old s → s ≡ laid n bytes old
behind n bytes old s l f =
    f
    ∙ rw (append_assoc (take n old) bytes (drop (length (take n old ++ bytes)) old), length-append (take n old) bytes, length-take-le n old l)
