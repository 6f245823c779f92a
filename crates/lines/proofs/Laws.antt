-- The laws of texts and of decimal numbers: a number's digits by its last one, how many there are, and what is appended step by step.
use mathlib.Core.Path.{◌≡◌, refl, sym, ap, ap₂, subst, ◌∙◌}
use mathlib.Core.Bool.{Bool, true, false, cond}
use mathlib.Core.List.{List, [], ◌∷◌, ◌++◌, append_assoc, append-nil}
use Prim.Native.Nat.{ℕ, zero, suc, ◌+◌, ◌-◌, ◌/◌, ◌%◌, ◌^◌, ◌≤◌, ◌<◌}
use native.Mathlib.Nat.{le_of_lt}
use native.Mathlib.Numerals.{add-one}
use native.Mathlib.Omega.{arith}
use borrow.Author.Tests.{ltb-true, ltb-false, lt-ltb, le-ltb, le-leb, lt-leb, leb-true}
use lib.Dec.{ltb, leb}
use lib.ListN.{length, get_or, take, drop, replicate, set, length-append, take-append-drop}
use lib.Seq.{set-append_seam, take-append_seam, set_at, append_snoc, take-suc, drop-cons, length-take-le}
use Rattle.entries.specs.Entries.{each}
use Rattle.entries.proofs.Each.{each_one}
use Rattle.lines.specs.Types.{RecordEntry, Text}
use Rattle.lines.specs.Lines.{digits, decimal, line_of}
use Rattle.lines.specs.Text.{text_of, shown, room, written, Prints, Appended}

-- ---- a number's digits

-- a longer count finds the same digits
stable : (f g n : ℕ) → n ≤ f → n ≤ g → digits (suc f) n ≡ digits (suc g) n
unfolding digits
stable zero g n h k = rw (lt-ltb n 10 (omega arith))
stable (suc f) zero n h k = rw (lt-ltb n 10 (omega arith))
stable (suc f) (suc g) n h k = go (ltb n 10) refl (λ above. stable f g (n / 10) (omega arith) (omega arith))
  where
    go : (b : Bool) → ltb n 10 ≡ b → (10 ≤ n → digits (suc f) (n / 10) ≡ digits (suc g) (n / 10)) → digits (suc (suc f)) n ≡ digits (suc (suc g)) n
    go true e higher = rw e
    go false e higher = rw (e, higher (ltb-false n 10 e))

pub one_digit : (n : ℕ) → n < 10 → decimal n ≡ (48 + n) ∷ []
unfolding digits decimal
one_digit n h = rw (lt-ltb n 10 h)

pub last_digit : (n : ℕ) → 10 ≤ n → decimal n ≡ decimal (n / 10) ++ ((48 + n % 10) ∷ [])
unfolding digits decimal
last_digit zero h = absurd (omega arith)
last_digit (suc n) h = rw (le-ltb (suc n) 10 h, stable n (suc n / 10) (suc n / 10) (omega arith) (omega arith))

-- how many there are
pub more_digits : (n : ℕ) → 10 ≤ n → length (decimal n) ≡ length (decimal (n / 10)) + 1
more_digits n h = rw (last_digit n h) (length-append (decimal (n / 10)) ((48 + n % 10) ∷ []))

pub short : (k n : ℕ) → n < 10 ^ suc k → length (decimal n) ≤ suc k
short zero n h = rw (one_digit n h) (omega arith)
short (suc k) n h = go (ltb n 10) refl (λ above. short k (n / 10) (omega arith))
  where
    go : (b : Bool) → ltb n 10 ≡ b → (10 ≤ n → length (decimal (n / 10)) ≤ suc k) → length (decimal n) ≤ suc (suc k)
    go true e higher = rw (one_digit n (ltb-true n 10 e)) (omega arith)
    go false e higher = omega (arith, more_digits n (ltb-false n 10 e), higher (ltb-false n 10 e))

-- ---- texts

-- a byte stored behind a list's bytes
stored : (k : ℕ) (l : List ℕ) (b : ℕ) → set (l ++ replicate (suc k) 0) (length l) b ≡ (l ++ (b ∷ [])) ++ replicate k 0
stored k l b = set-append_seam l 0 (replicate k 0) b ∙ sym (append_assoc l (b ∷ []) (replicate k 0))

abbrev pub text : List ℕ → ℕ → Text
text x n = record { bytes = x; len = n }

pushed : (l : List ℕ) (b : ℕ) → length l < 224 → text (set (text_of l).bytes (length l) b) (length l + 1) ≡ text_of (l ++ (b ∷ []))
pushed l b h =
    let room : 224 - length l ≡ suc (223 - length l) = omega arith in
    let longer : length l + 1 ≡ length (l ++ (b ∷ [])) = omega (arith, length-append l (b ∷ [])) in
    let behind : 223 - length l ≡ 224 - length (l ++ (b ∷ [])) = omega arith in
    ap₂ text
    (ap (λ (k : ℕ). set (l ++ replicate k 0) (length l) b) room ∙ stored (223 - length l) l b ∙ ap (λ (k : ℕ). (l ++ (b ∷ [])) ++ replicate k 0) behind)
    longer

pub one_byte : (t : Text) (b : ℕ) → t.len < 224 → Appended t (text (set t.bytes t.len b) (t.len + 1)) (b ∷ []) 1
one_byte t b h = record {
  grows = λ l e. ap (λ (x : Text). text (set x.bytes x.len b) (x.len + 1)) e ∙ pushed l b (omega (arith, ap (λ (x : Text). x.len) e));
  fits = omega arith;
}

infixr 20 ◌then◌
pub ◌then◌ : {t r s : Text} {a b : List ℕ} {m n : ℕ} → Appended t r a m → Appended r s b n → Appended t s (a ++ b) (m + n)
◌then◌ {t} {r} {s} {a} {b} {m} {n} p q = record {
  grows = λ l e. subst (λ (x : List ℕ). s ≡ text_of x) (append_assoc l a b) (q.grows (l ++ a) (p.grows l e));
  fits = omega (arith, p.fits, q.fits);
}

pub nothing : (t : Text) (n : ℕ) → Appended t t [] n
nothing t n = record { grows = λ l e. e ∙ ap text_of (sym (append-nil l)); fits = omega arith }

pub at_most : {t r : Text} {a : List ℕ} {m : ℕ} (n : ℕ) → m ≤ n → Appended t r a m → Appended t r a n
at_most {t} {r} {a} {m} n h p = record { grows = p.grows; fits = omega (arith, p.fits) }

-- the line of one entry
pub one_entry : {t r : Text} (e : RecordEntry) {m : ℕ} → Appended t r (line_of e) m → Appended t r (each line_of (e ∷ [])) m
one_entry {t} {r} e {m} p = subst (λ (l : List ℕ). Appended t r l m) (sym (each_one line_of e)) p

-- what was appended to the text of no bytes
pub printed : {t r : Text} {a : List ℕ} {m : ℕ} → (t ≡ text_of []) × (t.len ≡ 0) → m ≤ 224 → Appended t r a m → Prints r a
printed {t} {r} {a} {m} e h p = record { whole = p.grows [] e.0; fits = omega (arith, p.fits, e.1) }

-- ---- a text in a lent slice

-- as many of the bytes as a text shows are what it shows
all_shown : (t : Text) → take (length (shown t)) t.bytes ≡ shown t
all_shown t =
    ap (λ (x : List ℕ). take (length (shown t)) x) (sym (take-append-drop t.len t.bytes))
    ∙ take-append_seam (shown t) (drop t.len t.bytes)

-- one byte more of those that are copied to the front
pub copied : (b o : List ℕ) (i : ℕ) → i < length b → i < length o → set (take i b ++ drop i o) i (get_or b i 0) ≡ take (i + 1) b ++ drop (i + 1) o
copied b o i hb ho =
    ap (λ (r : List ℕ). set (take i b ++ r) i (get_or b i 0)) (drop-cons o i 0 ho)
    ∙ set_at (take i b) (get_or o i 0) (drop (suc i) o) (get_or b i 0) i (length-take-le i b (le_of_lt hb))
    ∙ sym (append_snoc (take i b) (get_or b i 0) (drop (suc i) o))
    ∙ ap (λ (r : List ℕ). r ++ drop (suc i) o) (sym (take-suc b i 0 hb))
    ∙ ap (λ (k : ℕ). take k b ++ drop k o) (sym (add-one i))

pub all_copied : (t : Text) (s : List ℕ) (n : ℕ) → n ≡ length (shown t) → n ≤ length s
    → (n ≡ room t s) × (take n t.bytes ++ drop n s ≡ written t s)
unfolding room written
all_copied t s n e h =
    let fits : length (shown t) ≤ length s = omega arith in
    rw (le-leb (length (shown t)) (length s) fits)
    (e, ap (λ (k : ℕ). take k t.bytes ++ drop k s) e ∙ ap (λ (x : List ℕ). x ++ drop (length (shown t)) s) (all_shown t))

pub too_short : (t : Text) (s : List ℕ) → length s < length (shown t) → (0 ≡ room t s) × (s ≡ written t s)
unfolding room written
too_short t s h = rw (lt-leb (length (shown t)) (length s) h) (refl, refl)

pub room_fits : (t : Text) (s : List ℕ) → room t s ≤ length s
unfolding room
room_fits t s = go (leb (length (shown t)) (length s)) refl
  where
    go : (b : Bool) → leb (length (shown t)) (length s) ≡ b → cond b (length (shown t)) 0 ≤ length s
    go true e = leb-true (length (shown t)) (length s) e
    go false e = omega arith
