-- Bytes put into a slice one behind the other. Assumes nothing.
use mathlib.Core.Path.{◌≡◌, refl, sym, ap, ap₂, ◌∙◌}
use mathlib.Core.Bool.{cond, false}
use mathlib.Core.List.{List, [], ◌∷◌, ◌++◌}
use Prim.Native.Nat.{ℕ, suc, ◌+◌, ◌-◌, ◌^◌, ◌≤◌, ◌<◌}
use native.Mathlib.Nat.{add-zero}
use native.Mathlib.Numerals.{add-one}
use native.Mathlib.Omega.{arith}
use borrow.Author.Tests.{ne_eqb}
use lib.Dec.{eqb}
use lib.ListN.{length, get_or, take, drop, set, length-append, take-append-drop}
use lib.Seq.{length-take-le, take_at, take-suc, drop-cons, drop-drop, append_snoc, set_at}
use Rattle.words.proofs.Laws.{lent}
use Rattle.entries.specs.Entries.{laid}
use Rattle.run.proofs.Slices.{laid_none, laid_both, laid_length}
use Rattle.sets.proofs.Laws.{by-test}
use Rattle.lines.specs.Lines.{digits, decimal, newline}
use Rattle.lines.proofs.Laws.{short}
use Rattle.waves.specs.Types.{Shown}
use Rattle.waves.specs.Dump.{wires, wire, all, if_new, changed, same, change, mark}
use Rattle.waves.specs.Printing.{Room, Lays}

pub nothing : (at : ℕ) (s : List ℕ) → at ≤ length s → Lays at [] s at s
nothing at s h = record { within = h; place_is = sym (add-zero at); holds = sym (laid_none at s) }

-- a byte stored is laid
pub stored : (at b : ℕ) (s : List ℕ) → at < length s → set s at b ≡ laid at (b ∷ []) s
stored at b s h =
    ap (λ (x : List ℕ). set x at b) (sym (take-append-drop at s) ∙ ap (λ (r : List ℕ). take at s ++ r) (drop-cons s at 0 h))
    ∙ set_at (take at s) (get_or s at 0) (drop (suc at) s) b at (length-take-le at s (omega arith))
    ∙ ap (λ (n : ℕ). take at s ++ (b ∷ drop n s)) (sym (add-one at))

-- a byte stored in front of bytes that are laid
pub before : (i b : ℕ) (tail s : List ℕ) → i < length s → set (laid (i + 1) tail s) i b ≡ laid i (b ∷ tail) s
before i b tail s h =
    let rest : List ℕ = tail ++ drop (i + 1 + length tail) s in
    let first : take (i + 1) s ≡ take i s ++ (get_or s i 0 ∷ []) = ap (λ (n : ℕ). take n s) (add-one i) ∙ take-suc s i 0 h in
    let more : i + 1 + length tail ≡ i + length (b ∷ tail) = omega arith in
    ap (λ (x : List ℕ). set (x ++ rest) i b) first
    ∙ ap (λ (x : List ℕ). set x i b) (append_snoc (take i s) (get_or s i 0) rest)
    ∙ set_at (take i s) (get_or s i 0) rest b i (length-take-le i s (omega arith))
    ∙ ap (λ (n : ℕ). take i s ++ (b ∷ (tail ++ drop n s))) more

-- bytes copied into the rest of a slice are laid
pub copied : (bytes : List ℕ) (at : ℕ) (s t : List ℕ) → t ≡ bytes ++ drop (length bytes) (take (length s - at) (drop at s))
    → take at s ++ (t ++ drop (length s - at) (drop at s)) ≡ laid at bytes s
copied bytes at s t e =
    let n : ℕ = length bytes in
    lent (λ (x : List ℕ). bytes ++ drop n x) at s t
    e
    ∙ ap (λ (x : List ℕ). take at s ++ (bytes ++ x)) (drop-drop n at s)

infixr 20 ◌then◌
pub ◌then◌ : {at p q : ℕ} {a b s t u : List ℕ} → Lays at a s p t → Lays p b t q u → Lays at (a ++ b) s q u
◌then◌ {at} {p} {q} {a} {b} {s} {t} {u} x y = record {
  within = x.within;
  place_is = y.place_is ∙ ap (λ (n : ℕ). n + length b) x.place_is ∙ omega (arith, length-append a b);
  holds = y.holds ∙ ap₂ (λ (n : ℕ) (l : List ℕ). laid n b l) x.place_is x.holds ∙ laid_both at a b s x.within;
}

-- what is laid at the start is the front
pub front : {p : ℕ} {a s t : List ℕ} → Lays 0 a s p t → take p t ≡ a
front {p} {a} {s} {t} x = ap (take p) x.holds ∙ take_at a (drop (0 + length a) s) p (omega (arith, x.place_is))

-- where there is room, the place stays within, and the slice keeps its length
pub grows : {at p : ℕ} {a s t : List ℕ} (most : ℕ) → Lays at a s p t → length a ≤ most → at + most ≤ length s → (p ≤ at + most) × (length t ≡ length s)
grows {at} {p} {a} {s} {t} most x h r = (omega (arith, x.place_is), ap length x.holds ∙ laid_length at a s (omega arith))

-- room for bytes is room for the first of them, and where those are laid there is room for the rest
pub first_room : {at : ℕ} {s : List ℕ} (a b : List ℕ) → Room at (a ++ b) s → Room at a s
first_room a b r = record { fits = omega (arith, r.fits, length-append a b) }

pub next_room : {at p : ℕ} {a s t : List ℕ} (b : List ℕ) → Lays at a s p t → Room at (a ++ b) s → Room p b t
next_room {at} {p} {a} {s} {t} b x r = record {
  fits = omega (arith, r.fits, x.place_is, ap length x.holds ∙ laid_length at a s (first_room a b r).fits, length-append a b);
}

-- ---- how long the lines are

pub new_is : (old new : ℕ) (l : List ℕ) → (old ≡ new → ⊥) → if_new old new l ≡ l
new_is old new l h = rw (ne_eqb old new h)

pub wires_size : (code n : ℕ) → length (wires code n) ≡ 12
unfolding wires
wires_size code n = refl

pub new_most : (old new code : ℕ) → length (if_new old new (wires code new)) ≤ 12
new_most old new code = by-test (eqb old new) (λ e. rw e (omega arith)) (λ e. rw e (omega (arith, wires_size code new)))

pub mark_size : (t : ℕ) → length (mark t) ≡ 2 + length (decimal t)
unfolding mark
mark_size t = omega (arith, length-append (decimal t) newline)

pub mark_most : (t : ℕ) → t < 10 ^ 20 → length (mark t) ≤ 22
unfolding mark
mark_most t h = omega (arith, short 19 t h, length-append (decimal t) newline)

pub wire_size : (code n : ℕ) → length (wire code n) ≡ 3
unfolding wire
wire_size code n = refl

pub new_wire_most : (old new code : ℕ) → length (if_new old new (wire code new)) ≤ 3
new_wire_most old new code = by-test (eqb old new) (λ e. rw e (omega arith)) (λ e. rw e (omega (arith, wire_size code new)))

-- ---- what an instant changes

-- what comes behind the first value, and behind the second
abbrev pub behind_second : Shown → Shown → List ℕ
behind_second v w = if_new v.copyout w.copyout (wires 99 w.copyout) ++ if_new v.half w.half (wire 100 w.half)

abbrev pub behind_first : Shown → Shown → List ℕ
behind_first v w = if_new v.copyin w.copyin (wires 98 w.copyin) ++ behind_second v w

pub change_is : (v : Shown) (t : ℕ) (w : Shown) → same v w ≡ false → change v (record { time = t; shown = w }) ≡ mark t ++ changed v w
unfolding change
change_is v t w e = rw e

pub new_wires_size : (old new code : ℕ) → length (if_new old new (wires code new)) ≡ cond (eqb old new) 0 12
new_wires_size old new code = by-test (eqb old new) (λ e. rw e) (λ e. rw e (wires_size code new))

pub new_wire_size : (old new code : ℕ) → length (if_new old new (wire code new)) ≡ cond (eqb old new) 0 3
new_wire_size old new code = by-test (eqb old new) (λ e. rw e) (λ e. rw e (wire_size code new))

pub change_size : (v : Shown) (t : ℕ) (w : Shown) → same v w ≡ false
    → length (change v (record { time = t; shown = w }))
    ≡ 2 + length (decimal t) + cond (eqb v.processor w.processor) 0 12 + cond (eqb v.copyin w.copyin) 0 12
    + cond (eqb v.copyout w.copyout) 0 12 + cond (eqb v.half w.half) 0 3
unfolding changed
change_size v t w e =
    let a : List ℕ = if_new v.processor w.processor (wires 97 w.processor) in
    let b : List ℕ = if_new v.copyin w.copyin (wires 98 w.copyin) in
    let c : List ℕ = if_new v.copyout w.copyout (wires 99 w.copyout) in
    let d : List ℕ = if_new v.half w.half (wire 100 w.half) in
    omega (
      arith,
      ap length (change_is v t w e),
      mark_size t,
      length-append (mark t) (a ++ (b ++ (c ++ d))),
      length-append a (b ++ (c ++ d)),
      length-append b (c ++ d),
      length-append c d,
      new_wires_size v.processor w.processor 97,
      new_wires_size v.copyin w.copyin 98,
      new_wires_size v.copyout w.copyout 99,
      new_wire_size v.half w.half 100,
    )

pub start_size : (w : Shown) → length (mark 0 ++ all w) ≡ 42
unfolding mark decimal digits all wires wire
start_size w = refl
