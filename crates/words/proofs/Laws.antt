-- The laws of numbers in bytes, over the width: lengths, bounds, the round trip, and how a number is made of its parts.
use mathlib.Core.Path.{◌≡◌, refl, sym, ap, ap₂, ◌∙◌}
use mathlib.Core.List.{List, [], ◌∷◌, ◌++◌, append-nil}
use Prim.Native.Nat.{ℕ, zero, suc, ◌+◌, ◌-◌, ◌*◌, ◌/◌, ◌%◌, ◌^◌, ◌≤◌, ◌<◌}
use native.Mathlib.Nat.{div-one, div-div-eq-div-mul, pow-suc, mul_comm, add-zero, add-suc, add_assoc, mul-zero, mul_assoc, mul-add, le_trans, le_of_eq, le-add_right}
use native.Mathlib.Omega.{arith}
use borrow.Author.Tests.{le-leb}
use lib.Pow.{pow-add}
use lib.ListN.{length, get_or, take, drop, replicate, length-drop, drop_of_length-le, get_or-eq_default}
use lib.Seq.{get_or-append-add, get_or-drop, take_all}
use Rattle.std.specs.Int.{byte_at, byte_worth, bytes_low_first, sum_through}
use Rattle.words.specs.Words.{bytes_of, number_at, written}

-- ---- the bytes of a number

pub length_bytes : (w v : ℕ) → length (bytes_of w v) ≡ w
unfolding bytes_of
length_bytes zero v = refl
length_bytes (suc w) v = ap suc (length_bytes w (v / 256))

pub byte_small : (w v k : ℕ) → get_or (bytes_of w v) k 0 < 256
unfolding bytes_of
byte_small zero v k = omega arith
byte_small (suc w) v zero = omega arith
byte_small (suc w) v (suc k) = byte_small w (v / 256) k

-- ---- a number of parts

-- a number of n + m bytes is the n low ones and the m after them
pub parts : (n m : ℕ) (s : List ℕ) (at : ℕ) → number_at (n + m) s at ≡ number_at n s at + 256 ^ n * number_at m s (at + n)
unfolding number_at
parts n zero s at = ap (λ (k : ℕ). number_at k s at) (add-zero n) ∙ omega (arith, mul-zero (256 ^ n))
parts n (suc m) s at =
    ap (λ (k : ℕ). number_at k s at) (add-suc n m)
    ∙ ap₂ (λ (x y : ℕ). x + y) (parts n m s at)
    (ap₂ (λ (x k : ℕ). x * get_or s k 0) (pow-add 256 n m) (sym (add_assoc at n m)) ∙ mul_assoc (256 ^ n) (256 ^ m) (get_or s (at + n + m) 0))
    ∙ add_assoc (number_at n s at) (256 ^ n * number_at m s (at + n)) (256 ^ n * (256 ^ m * get_or s (at + n + m) 0))
    ∙ ap (λ (x : ℕ). number_at n s at + x) (sym (mul-add (256 ^ n) (number_at m s (at + n)) (256 ^ m * get_or s (at + n + m) 0)))

pub one_byte : (s : List ℕ) (at : ℕ) → number_at 1 s at ≡ get_or s at 0
unfolding number_at
one_byte s at = omega (arith, ap (λ (k : ℕ). get_or s k 0) (add-zero at))

-- the lowest byte, and the number after it
pub first_byte : (w : ℕ) (s : List ℕ) (at : ℕ) → number_at (suc w) s at ≡ get_or s at 0 + 256 * number_at w s (at + 1)
first_byte w s at =
    ap (λ (k : ℕ). number_at k s at) (one_add w) ∙ parts 1 w s at ∙ ap (λ (x : ℕ). x + 256 * number_at w s (at + 1)) (one_byte s at)
  where
    one_add : (w : ℕ) → suc w ≡ 1 + w
    one_add w = omega arith

-- bytes in front move the place
pub behind : (w : ℕ) (front s : List ℕ) (at : ℕ) → number_at w (front ++ s) (length front + at) ≡ number_at w s at
unfolding number_at
behind zero front s at = refl
behind (suc w) front s at =
    ap₂ (λ (x b : ℕ). x + 256 ^ w * b) (behind w front s at)
    (ap (λ (k : ℕ). get_or (front ++ s) k 0) (add_assoc (length front) at w) ∙ get_or-append-add front s (at + w) 0)

-- a place in the rest of a slice is that place counted from where the rest begins
pub in_rest : (w at k : ℕ) (s : List ℕ) → number_at w (drop at s) k ≡ number_at w s (at + k)
unfolding number_at
in_rest zero at k s = refl
in_rest (suc w) at k s =
    ap₂ (λ (x b : ℕ). x + 256 ^ w * b) (in_rest w at k s)
    (get_or-drop at s (k + w) 0 ∙ ap (λ (i : ℕ). get_or s i 0) (sym (add_assoc at k w)))

-- ---- as the library has them

-- the bytes that `to_le_bytes` gives, from byte i on
bytes_from : (w i v : ℕ) → bytes_low_first i w v ≡ bytes_of w (v / 256 ^ i)
unfolding bytes_of
bytes_from zero i v = refl
bytes_from (suc w) i v = rw (bytes_from w (suc i) v, next i, here i)
  where
    here : (i : ℕ) → byte_at i v ≡ v / 256 ^ i % 256
    here zero = rw (div-one v) refl
    here (suc i) = refl

    next : (i : ℕ) → v / 256 ^ suc i ≡ v / 256 ^ i / 256
    next i = rw (pow-suc 256 i) (sym (div-div-eq-div-mul v (256 ^ i) 256))

pub bytes_made : (w v : ℕ) → bytes_low_first 0 w v ≡ bytes_of w v
bytes_made w v = bytes_from w 0 v ∙ ap (bytes_of w) (div-one v)

-- the number that `from_le_bytes` makes of bytes that stand at a place
pub number_made : (k : ℕ) (bytes s : List ℕ) (at : ℕ) → ((i : ℕ) → i < suc k → get_or bytes i 0 ≡ get_or s (at + i) 0)
    → sum_through (λ i. byte_worth i (get_or bytes i 0)) k ≡ number_at (suc k) s at
unfolding number_at
number_made zero bytes s at h = omega (arith, h 0 (omega arith))
number_made (suc k) bytes s at h =
    ap₂ (λ (x y : ℕ). x + y) (number_made k bytes s at (λ i l. h i (omega arith)))
    (mul_comm (get_or bytes (suc k) 0) (256 ^ suc k) ∙ ap (λ (b : ℕ). 256 ^ suc k * b) (h (suc k) (omega arith)))

-- ---- what is left of a slice, with zeros behind it

padded : (xs ys : List ℕ) (k : ℕ) → ((j : ℕ) → get_or ys j 0 ≡ 0) → get_or (xs ++ ys) k 0 ≡ get_or xs k 0
padded [] ys k h = h k
padded (x ∷ xs) ys zero h = refl
padded (x ∷ xs) ys (suc k) h = padded xs ys k h

zeros : (n k : ℕ) → get_or (replicate {A = ℕ} n 0) k 0 ≡ 0
zeros zero k = refl
zeros (suc n) zero = refl
zeros (suc n) (suc k) = zeros n k

pub left_padded : (n m at k : ℕ) (s : List ℕ) → get_or (drop at s ++ drop m (replicate n 0)) k 0 ≡ get_or s (at + k) 0
left_padded n m at k s =
    padded (drop at s) (drop m (replicate n 0)) k (λ j. get_or-drop m (replicate n 0) j 0 ∙ zeros n (m + j)) ∙ get_or-drop at s k 0

-- ---- the round trip

pub round_trip : (w v : ℕ) (rest : List ℕ) → v < 256 ^ w → number_at w (bytes_of w v ++ rest) 0 ≡ v
unfolding bytes_of number_at
round_trip zero v rest h = omega arith
round_trip (suc w) v rest h =
    let tail = bytes_of w (v / 256) ++ rest in
    first_byte w (v % 256 ∷ tail) 0
    ∙ omega (arith, behind w (v % 256 ∷ []) tail 0, round_trip w (v / 256) rest (omega arith))

pub round_trip_at : (w v : ℕ) (front rest : List ℕ) → v < 256 ^ w → number_at w (front ++ (bytes_of w v ++ rest)) (length front) ≡ v
round_trip_at w v front rest h =
    ap (λ (k : ℕ). number_at w (front ++ (bytes_of w v ++ rest)) k) (sym (add-zero (length front)))
    ∙ behind w front (bytes_of w v ++ rest) 0 ∙ round_trip w v rest h

-- ---- at the end of a slice

pub past : (w : ℕ) (s : List ℕ) (at : ℕ) → length s ≤ at → number_at w s at ≡ 0
unfolding number_at
past zero s at h = refl
past (suc w) s at h = rw (past w s at h, get_or-eq_default s 0 (le_trans h (le-add_right at w))) (omega (arith, mul-zero (256 ^ w)))

-- ---- writing into the front

pub written_whole : (w v : ℕ) (s : List ℕ) → w ≤ length s → written w v s ≡ bytes_of w v ++ drop w s
unfolding written
written_whole w v s h = rw (le-leb w (length s) h)

-- ---- the rest of a slice, lent to a writer

pub rest_whole : (at : ℕ) (s : List ℕ) → take (length s - at) (drop at s) ≡ drop at s
rest_whole at s = take_all (length s - at) (drop at s) (le_of_eq (length-drop at s))

-- the rest, borrowed to be read
pub read_in_rest : (w at k : ℕ) (s : List ℕ) → number_at w (take (length s - at) (drop at s)) k ≡ number_at w s (at + k)
read_in_rest w at k s = ap (λ (t : List ℕ). number_at w t k) (rest_whole at s) ∙ in_rest w at k s

-- what a writer made of the rest from a place on, said of the whole slice
pub lent : (writer : List ℕ → List ℕ) (at : ℕ) (s t : List ℕ) → t ≡ writer (take (length s - at) (drop at s))
    → take at s ++ (t ++ drop (length s - at) (drop at s)) ≡ take at s ++ writer (drop at s)
lent writer at s t e =
    ap₂ (λ (x y : List ℕ). take at s ++ (x ++ y)) (e ∙ ap writer (rest_whole at s)) (drop_of_length-le (drop at s) (le_of_eq (length-drop at s)))
    ∙ ap (λ (x : List ℕ). take at s ++ x) (append-nil (writer (drop at s)))
