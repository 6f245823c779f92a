-- A dump's bytes, read by the viewer: words, numbers, marks and values. Assumes nothing.
use Rattle.std.proofs.Common.{◌&&◌, ◌∷◌, ◌++◌, ◌+◌, ◌*◌}
use mathlib.Core.Path.{◌≡◌, refl, sym, ap, ◌∙◌, subst}
use mathlib.Core.Bool.{true≢false}
use Prim.Native.Nat.{◌/◌, ◌%◌, ◌≤◌, ◌<◌}
use native.Mathlib.Omega.{arith}
use borrow.Author.Tests.{eqb-true, eqb-false, ne_eqb, lt-ltb, ltb-true, ltb-false, le-leb}
use lib.Dec.{eqb, ltb, leb}
use mathlib.Core.List.{append_assoc}
use Rattle.sets.proofs.Laws.{by-test}
use Rattle.lines.specs.Lines.{decimal, newline}
use Rattle.lines.proofs.Laws.{one_digit, last_digit}
use mathlib.Core.Bool.{not}
use Prim.Native.Nat.{zero, suc, ◌-◌}
use Rattle.waves.specs.Types.{Bool, true, false, List, [], ℕ}
use Rattle.waves.specs.Dump.{digit, wires, wire, mark}
use Rattle.waves.specs.Viewer.{blank, gathered, parted, words, Number, NoNumber, Is, number_from, number, At, Put, Events, Unread, with_event, Nothing, Value, timed, events}

-- ---- words

-- none of the bytes is a blank
unfoldable pub solid : List ℕ → Bool
solid [] = true
solid (c ∷ w) = not (blank c) && solid w

and_left : (a b : Bool) → (a && b) ≡ true → a ≡ true
and_left true b h = refl
and_left false b h = h

and_right : (a b : Bool) → (a && b) ≡ true → b ≡ true
and_right true b h = h
and_right false b h = absurd (true≢false (sym h))

not_true : (a : Bool) → not a ≡ true → a ≡ false
not_true true h = sym h
not_true false h = refl

parted_solid : (w : List ℕ) (b : ℕ) (r : List ℕ) → solid w ≡ true → blank b ≡ true → parted (w ++ (b ∷ r)) ≡ record { front = w; behind = words r }
unfolding parted words solid
parted_solid [] b r s h = rw h
parted_solid (c ∷ w) b r s h =
    let f : blank c ≡ false = not_true (blank c) (and_left (not (blank c)) (solid w) s) in
    rw (f, parted_solid w b r (and_right (not (blank c)) (solid w) s) h)

pub word_read : (c : ℕ) (w : List ℕ) (b : ℕ) (r : List ℕ) → solid (c ∷ w) ≡ true → blank b ≡ true → words ((c ∷ w) ++ (b ∷ r)) ≡ (c ∷ w) ∷ words r
unfolding words gathered
word_read c w b r s h = ap gathered (parted_solid (c ∷ w) b r s h)

-- ---- numbers

pub solid_both : (v w : List ℕ) → solid v ≡ true → solid w ≡ true → solid (v ++ w) ≡ true
unfolding solid
solid_both [] w p q = q
solid_both (c ∷ v) w p q = rw (and_left (not (blank c)) (solid v) p, solid_both v w (and_right (not (blank c)) (solid v) p) q)

-- a digit is no blank
pub digit_solid : (d : ℕ) → solid ((48 + d) ∷ []) ≡ true
unfolding solid
digit_solid d =
    let a : eqb (48 + d) 32 ≡ false = ne_eqb (48 + d) 32 (λ e. absurd (omega (arith, e))) in
    let b : eqb (48 + d) 9 ≡ false = ne_eqb (48 + d) 9 (λ e. absurd (omega (arith, e))) in
    let c : eqb (48 + d) 10 ≡ false = ne_eqb (48 + d) 10 (λ e. absurd (omega (arith, e))) in
    rw (a, b, c)

-- one digit more
taken : (base n d : ℕ) (w : List ℕ) → d < base → number_from base n ((48 + d) ∷ w) ≡ number_from base (base * n + d) w
unfolding number_from
taken base n d w l =
    let a : leb 48 (48 + d) ≡ true = le-leb 48 (48 + d) (omega arith) in
    let b : ltb (48 + d) (48 + base) ≡ true = lt-ltb (48 + d) (48 + base) (omega (arith, l)) in
    let e : (48 + d) - 48 ≡ d = omega arith in
    rw (a, b, e)

goes_on : (base n c : ℕ) (w : List ℕ) → (leb 48 c && ltb c (48 + base)) ≡ true → number_from base n (c ∷ w) ≡ number_from base (base * n + (c - 48)) w
unfolding number_from
goes_on base n c w t = rw t

stops : (base n c : ℕ) (w : List ℕ) → (leb 48 c && ltb c (48 + base)) ≡ false → number_from base n (c ∷ w) ≡ NoNumber
unfolding number_from
stops base n c w f = rw f

value : Number → ℕ
value NoNumber = 0
value (Is x) = x

is_none : Number → Bool
is_none NoNumber = true
is_none (Is x) = false

same_value : {n m : ℕ} → Is n ≡ Is m → n ≡ m
unfolding value
same_value e = ap value e

no_value : {m : ℕ} → NoNumber ≡ Is m → ⊥
unfolding is_none
no_value e = true≢false (ap is_none e)

ended : (base n : ℕ) → number_from base n [] ≡ Is n
unfolding number_from
ended base n = refl

behind_digits : (base n m d : ℕ) (w : List ℕ) → number_from base n w ≡ Is m → d < base → number_from base n (w ++ ((48 + d) ∷ [])) ≡ Is (base * m + d)
behind_digits base n m d [] h l = taken base n d [] l ∙ ended base (base * n + d) ∙ ap (λ (x : ℕ). Is (base * x + d)) (same_value (sym (ended base n) ∙ h))
behind_digits base n m d (c ∷ w) h l =
    by-test (leb 48 c && ltb c (48 + base))
    (λ t. goes_on base n c (w ++ ((48 + d) ∷ [])) t ∙ behind_digits base (base * n + (c - 48)) m d w (sym (goes_on base n c w t) ∙ h) l)
    (λ f. absurd (no_value (sym (stops base n c w f) ∙ h)))

-- a word of digits: some, all of them solid, and their number
pub record Digits (base : ℕ) (w : List ℕ) (n : ℕ) : Type 0 where
  pub is : number_from base 0 w ≡ Is n
  pub solid_is : solid w ≡ true
  pub some : number base w ≡ number_from base 0 w

one_more : {base n d : ℕ} (w : List ℕ) → Digits base w n → d < base → Digits base (w ++ ((48 + d) ∷ [])) (base * n + d)
one_more {base} {n} {d} w h l = record {
  is = behind_digits base 0 n d w h.is l;
  solid_is = solid_both w ((48 + d) ∷ []) h.solid_is (digit_solid d);
  some = some_of w;
}
  where
    some_of : (w : List ℕ) → number base (w ++ ((48 + d) ∷ [])) ≡ number_from base 0 (w ++ ((48 + d) ∷ []))
    some_of [] = refl
    some_of (c ∷ v) = refl

a_digit : {base d : ℕ} → d < base → Digits base ((48 + d) ∷ []) d
a_digit {base} {d} l = record { is = taken base 0 d [] l ∙ ended base (base * 0 + d) ∙ ap Is (omega arith); solid_is = digit_solid d; some = refl }

-- decimal numbers
pub decimal_read : (n : ℕ) → Digits 10 (decimal n) n
decimal_read n = go n n (omega arith)
  where
    less : (n : ℕ) → n < 10 → Digits 10 (decimal n) n
    less n l = subst (λ (w : List ℕ). Digits 10 w n) (sym (one_digit n l)) (a_digit l)

    go : (k n : ℕ) → n ≤ k → Digits 10 (decimal n) n
    go zero n l = less n (omega (arith, l))
    go (suc k) n l =
        by-test (ltb n 10)
        (λ t. less n (ltb-true n 10 t))
        (λ f.
        let h : 10 ≤ n = ltb-false n 10 f in
        let x : Digits 10 (decimal (n / 10) ++ ((48 + n % 10) ∷ [])) (10 * (n / 10) + n % 10) = one_more (decimal (n / 10)) (go k (n / 10) (omega (arith, l, h))) (omega arith) in
        subst (λ (w : List ℕ). Digits 10 w n) (sym (last_digit n h)) (subst (λ (m : ℕ). Digits 10 (decimal (n / 10) ++ ((48 + n % 10) ∷ [])) m) (omega arith) x))

-- ---- binary numbers of eight digits

pub binary_read : (n : ℕ) → n < 256
    → Digits 2 (digit (n / 128) ∷ digit (n / 64) ∷ digit (n / 32) ∷ digit (n / 16) ∷ digit (n / 8) ∷ digit (n / 4) ∷ digit (n / 2) ∷ digit n ∷ []) n
binary_read n l =
    more (n / 2) n (omega arith)
    (more (n / 4) (n / 2) (omega arith)
    (more (n / 8) (n / 4) (omega arith)
    (more (n / 16) (n / 8) (omega arith)
    (more (n / 32) (n / 16) (omega arith)
    (more (n / 64) (n / 32) (omega arith)
    (more (n / 128) (n / 64) (omega arith)
    (subst (λ (m : ℕ). Digits 2 (digit (n / 128) ∷ []) m) (omega (arith, l)) (a_digit {d = n / 128 % 2} (omega arith)))))))))
  where
    more : {w : List ℕ} (m k : ℕ) → 2 * m + k % 2 ≡ k → Digits 2 w m → Digits 2 (w ++ (digit k ∷ [])) k
    more {w} m k e h = subst (λ (x : ℕ). Digits 2 (w ++ (digit k ∷ [])) x) e (one_more w h (omega arith))

-- ---- time marks and values

-- what a dump's bytes tell, behind its declarations
abbrev pub told : List ℕ → Events
told s = events Nothing (words s)

pub mark_read : (t : ℕ) (r : List ℕ) → told (mark t ++ r) ≡ with_event (At t) (told r)
unfolding mark
mark_read t r =
    let d = decimal_read t in
    ap (λ (l : List ℕ). told (35 ∷ l)) (append_assoc (decimal t) newline r)
    ∙ ap (events Nothing) (word_read 35 (decimal t) 10 r (unfold solid in d.solid_is) refl)
    ∙ (unfold events in ap (λ (x : Number). timed x (told r)) (d.some ∙ d.is))

solid_code : (code : ℕ) → 48 ≤ code → solid (code ∷ []) ≡ true
solid_code code l = subst (λ (x : ℕ). solid (x ∷ []) ≡ true) (omega (arith, l)) (digit_solid (code - 48))

pub wires_read : (code n : ℕ) (r : List ℕ) → n < 256 → 48 ≤ code → told (wires code n ++ r) ≡ with_event (Put (code ∷ []) n) (told r)
unfolding wires
wires_read code n r l c =
    let d = binary_read n l in
    ap (events Nothing) (word_read 98 (digit (n / 128) ∷ digit (n / 64) ∷ digit (n / 32) ∷ digit (n / 16) ∷ digit (n / 8) ∷ digit (n / 4) ∷ digit (n / 2) ∷ digit n ∷ []) 32 (code ∷ (newline ++ r)) (unfold solid in d.solid_is) refl)
    ∙ ap (λ (ws : List (List ℕ)). events Nothing ((98 ∷ digit (n / 128) ∷ digit (n / 64) ∷ digit (n / 32) ∷ digit (n / 16) ∷ digit (n / 8) ∷ digit (n / 4) ∷ digit (n / 2) ∷ digit n ∷ []) ∷ ws)) (word_read code [] 10 r (solid_code code c) refl)
    ∙ (unfold events in ap (λ (x : Number). pending x) (d.some ∙ d.is))
  where
    pending : Number → Events
    pending x = elim x [ NoNumber ↦ Unread | Is m ↦ events (Value m) ((code ∷ []) ∷ words r) ]

pub wire_read : (code n : ℕ) (r : List ℕ) → n < 2 → 48 ≤ code → told (wire code n ++ r) ≡ with_event (Put (code ∷ []) n) (told r)
unfolding wire
wire_read code n r l c =
    ap (events Nothing) (word_read (48 + n) (code ∷ []) 10 r (solid_both ((48 + n) ∷ []) (code ∷ []) (digit_solid n) (solid_code code c)) refl)
    ∙ by_digit
  where
    zero_read : events Nothing ((48 ∷ code ∷ []) ∷ words r) ≡ with_event (Put (code ∷ []) 0) (told r)
    zero_read = unfold events in refl

    one_read : events Nothing ((49 ∷ code ∷ []) ∷ words r) ≡ with_event (Put (code ∷ []) 1) (told r)
    one_read = unfold events in refl

    by_digit : events Nothing (((48 + n) ∷ code ∷ []) ∷ words r) ≡ with_event (Put (code ∷ []) n) (told r)
    by_digit =
        by-test (eqb n 0)
        (λ e. subst (λ (x : ℕ). events Nothing (((48 + x) ∷ code ∷ []) ∷ words r) ≡ with_event (Put (code ∷ []) x) (told r)) {x = 0} (sym (eqb-true n 0 e)) zero_read)
        (λ e. subst (λ (x : ℕ). events Nothing (((48 + x) ∷ code ∷ []) ∷ words r) ≡ with_event (Put (code ∷ []) x) (told r)) {x = 1} (omega (arith, l, eqb-false n 0 e)) one_read)
