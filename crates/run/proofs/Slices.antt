-- Entries put into a slice one behind the other. Assumes nothing.
use mathlib.Core.Path.{◌≡◌, refl, sym, ap, ap₂, ◌∙◌}
use mathlib.Core.Bool.{true, false, cond}
use mathlib.Core.List.{List, [], ◌∷◌, ◌++◌, append_assoc, append-nil}
use Prim.Native.Nat.{ℕ, zero, suc, ◌+◌, ◌-◌, ◌*◌, ◌≤◌, ◌<◌}
use native.Mathlib.Nat.{add-zero, add_assoc, zero-add}
use native.Mathlib.Omega.{arith}
use borrow.Author.Tests.{le-leb, lt-leb, leb-true, leb-false}
use lib.Dec.{leb}
use lib.ListN.{length, take, drop, length-append, length-drop, take-append-drop}
use lib.Seq.{length-take-le, drop-drop}
use Rattle.sets.specs.Sets.{member, lowest}
use Rattle.sets.proofs.Laws.{by-test, lowest_first}
use Rattle.rules.proofs.Members.{Turn}
use Rattle.words.proofs.Laws.{lent, rest_whole}
use Rattle.entries.specs.Entries.{laid, Put, entry_bytes, each, record_entry_size}
use Rattle.entries.proofs.Laws.{Front, next, up_to, behind}
use Rattle.entries.proofs.Each.{each_both, each_one, entry_size}
use Rattle.rules.specs.Entries.{skipped_entries}
use Rattle.run.specs.Types.{Release, RecordEntry, ReleaseSkipped}
use Rattle.run.specs.Putting.{put_at, put_all, Puts}
use Rattle.std.specs.Prelude.{Ok}

-- ---- one after the other

put_both : (at : ℕ) (xs ys : List RecordEntry) (s : List ℕ) → put_all at (xs ++ ys) s ≡ put_all (at + length (each entry_bytes xs)) ys (put_all at xs s)
unfolding put_all each
put_both at [] ys s = ap (λ (n : ℕ). put_all n ys s) (sym (add-zero at))
put_both at (a ∷ xs) ys s =
    let bytes : List ℕ = entry_bytes a in
    put_both (at + length bytes) xs ys (put_at at bytes s)
    ∙ ap (λ (n : ℕ). put_all n ys (put_all (at + length bytes) xs (put_at at bytes s)))
    (add_assoc at (length bytes) (length (each entry_bytes xs)) ∙ ap (λ (n : ℕ). at + n) (sym (length-append bytes (each entry_bytes xs))))

pub none : (at : ℕ) (s : List ℕ) → Puts at [] s at s
unfolding put_all each
none at s = record { place_is = sym (add-zero at); holds = refl }

pub one : (at : ℕ) (e : RecordEntry) (s : List ℕ) {t : List ℕ} → t ≡ put_at at (entry_bytes e) s → Puts at (e ∷ []) s (at + record_entry_size (Ok e)) t
unfolding put_all
one at e s {t} h = record { place_is = ap (λ (k : ℕ). at + k) (sym (entry_size e) ∙ ap length (sym (each_one entry_bytes e))); holds = h }

module _ (at : ℕ) (xs ys : List RecordEntry) (s : List ℕ) (p : ℕ) (s' : List ℕ) (q : ℕ) (s'' : List ℕ) where
  pub both : Puts at xs s p s' → Puts p ys s' q s'' → Puts at (xs ++ ys) s q s''
  both x y = record {
    place_is = y.place_is ∙ ap (λ (k : ℕ). k + length (each entry_bytes ys)) x.place_is ∙ omega (arith, ap length (each_both entry_bytes xs ys), length-append (each entry_bytes xs) (each entry_bytes ys));
    holds = y.holds ∙ ap₂ (λ (k : ℕ) (z : List ℕ). put_all k ys z) x.place_is x.holds ∙ sym (put_both at xs ys s);
  }

-- ---- what a writer of an entry makes of the rest from a place on

put_front : (e s : List ℕ) (size : ℕ) (t : List ℕ) → Put e s size t → t ≡ cond (leb (length e) (length s)) (e ++ drop (length e) s) s
put_front e s size t p = p.holds

pub put_rest : (e : List ℕ) (at : ℕ) (s : List ℕ) (size : ℕ) (t : List ℕ) → at ≤ length s
    → Put e (take (length s - at) (drop at s)) size t → take at s ++ (t ++ drop (length s - at) (drop at s)) ≡ put_at at e s
put_rest e at s size t l p =
    by-test (leb (at + length e) (length s))
    (λ fits.
    let room : length e ≤ length (drop at s) = omega (arith, length-drop at s, leb-true (at + length e) (length s) fits) in
    rw fits
    (lent (λ x. e ++ drop (length e) x) at s t (rw w (rw (w, le-leb (length e) (length (drop at s)) room) at p.holds))
    ∙ ap (λ (x : List ℕ). take at s ++ (e ++ x)) (drop-drop (length e) at s)))
    (λ short.
    let tight : length (drop at s) < length e = omega (arith, length-drop at s, leb-false (at + length e) (length s) short) in
    rw short
    (lent (λ x. x) at s t (rw w (rw (w, lt-leb (length e) (length (drop at s)) tight) at p.holds)) ∙ take-append-drop at s))
  where
    w : take (length s - at) (drop at s) ≡ drop at s
    w = rest_whole at s

-- past the end nothing is put
pub put_past : (e : List ℕ) (at : ℕ) (s : List ℕ) → length s < at → s ≡ put_at at e s
put_past e at s l = rw (lt-leb (at + length e) (length s) (omega arith))

-- ---- where all fit, and where none does

pub laid_none : (at : ℕ) (s : List ℕ) → laid at [] s ≡ s
laid_none at s = ap (λ (n : ℕ). take at s ++ drop n s) (add-zero at) ∙ take-append-drop at s

pub laid_both : (at : ℕ) (a b s : List ℕ) → at ≤ length s → laid (at + length a) b (laid at a s) ≡ laid at (a ++ b) s
laid_both at a b s l =
    let size : length (take at s) ≡ at = length-take-le at s l in
    let one : Front (take at s ++ a) s (laid at a s) = next (take at s) s s a at (sym size) (laid at a s) refl (up_to at s l) in
    let n : at + length a ≡ length (take at s ++ a) = sym (length-append (take at s) a ∙ ap (λ (k : ℕ). k + length a) size) in
    let two : Front ((take at s ++ a) ++ b) s (laid (at + length a) b (laid at a s)) =
    next (take at s ++ a) s (laid at a s) b (at + length a) n (laid (at + length a) b (laid at a s)) refl one in
    behind at (a ++ b) s (laid (at + length a) b (laid at a s)) l (rw (append_assoc (take at s) a b) at two)

pub laid_length : (at : ℕ) (e s : List ℕ) → at + length e ≤ length s → length (laid at e s) ≡ length s
laid_length at e s l =
    omega (
      arith,
      length-append (take at s) (e ++ drop (at + length e) s),
      length-append e (drop (at + length e) s),
      length-take-le at s (omega arith),
      length-drop (at + length e) s,
    )

pub put_length : (at : ℕ) (e s : List ℕ) → length (put_at at e s) ≡ length s
put_length at e s = by-test (leb (at + length e) (length s)) (λ b. rw b (laid_length at e s (leb-true (at + length e) (length s) b))) (λ b. rw b)

pub rest_put_length : (e : List ℕ) (at : ℕ) (s : List ℕ) (size : ℕ) (t : List ℕ) {s' : List ℕ} → at ≤ length s
    → Put e (take (length s - at) (drop at s)) size t → s' ≡ take at s ++ (t ++ drop (length s - at) (drop at s)) → length s' ≡ length s
rest_put_length e at s size t l p h = ap length (h ∙ put_rest e at s size t l p) ∙ put_length at e s

pub put_all_length : (at : ℕ) (es : List RecordEntry) (s : List ℕ) → length (put_all at es s) ≡ length s
unfolding put_all
put_all_length at [] s = refl
put_all_length at (e ∷ es) s = put_all_length (at + length (entry_bytes e)) es (put_at at (entry_bytes e) s) ∙ put_length at (entry_bytes e) s

pub put_all_laid : (at : ℕ) (es : List RecordEntry) (s : List ℕ) → at + length (each entry_bytes es) ≤ length s → put_all at es s ≡ laid at (each entry_bytes es) s
unfolding put_all each
put_all_laid at [] s l = sym (laid_none at s)
put_all_laid at (e ∷ es) s l =
    let bytes : List ℕ = entry_bytes e in
    let n : length (bytes ++ each entry_bytes es) ≡ length bytes + length (each entry_bytes es) = length-append bytes (each entry_bytes es) in
    let first : at + length bytes ≤ length s = omega arith in
    ap (put_all (at + length bytes) es) (rw (le-leb (at + length bytes) (length s) first))
    ∙ put_all_laid (at + length bytes) es (laid at bytes s) (omega (arith, laid_length at bytes s first))
    ∙ laid_both at bytes (each entry_bytes es) s (omega arith)

-- ---- the rest of a slice, lent and handed back

pub rest_length : (place : ℕ) (out t : List ℕ) → length t ≡ length (take (length out - place) (drop place out)) → length (take place out ++ (t ++ drop (length out - place) (drop place out))) ≡ length out
rest_length place out t e =
    length-append (take place out) (t ++ drop (length out - place) (drop place out))
    ∙ ap (λ (n : ℕ). length (take place out) + n)
    (length-append t (drop (length out - place) (drop place out)) ∙ ap (λ (n : ℕ). n + length (drop (length out - place) (drop place out))) e
    ∙ sym (length-append (take (length out - place) (drop place out)) (drop (length out - place) (drop place out)))
    ∙ ap length (take-append-drop (length out - place) (drop place out)))
    ∙ sym (length-append (take place out) (drop place out))
    ∙ ap length (take-append-drop place out)

-- what was put into it, where there is room for all of it
module _ (es : List RecordEntry) (place : ℕ) (out t : List ℕ) (puts : t ≡ put_all 0 es (take (length out - place) (drop place out))) where
  pub rest_laid : place + length (each entry_bytes es) ≤ length out → take place out ++ (t ++ drop (length out - place) (drop place out)) ≡ laid place (each entry_bytes es) out
  rest_laid l =
      let w : take (length out - place) (drop place out) ≡ drop place out = rest_whole place out in
      let fits : 0 + length (each entry_bytes es) ≤ length (take (length out - place) (drop place out)) = rw w (omega (arith, length-drop place out)) in
      lent (λ (x : List ℕ). each entry_bytes es ++ drop (length (each entry_bytes es)) x) place out t
      (puts ∙ put_all_laid 0 es (take (length out - place) (drop place out)) fits
      ∙ ap (λ (n : ℕ). each entry_bytes es ++ drop n (take (length out - place) (drop place out))) (zero-add (length (each entry_bytes es))))
      ∙ ap (λ (x : List ℕ). take place out ++ (each entry_bytes es ++ x)) (drop-drop (length (each entry_bytes es)) place out)

pub rest_same : (place : ℕ) (out t : List ℕ) → t ≡ take (length out - place) (drop place out) → take place out ++ (t ++ drop (length out - place) (drop place out)) ≡ out
rest_same place out t e = lent (λ (x : List ℕ). x) place out t e ∙ take-append-drop place out

-- ---- the skipped releases, from task to task

-- no member from task i to task j: nothing is added
skips_same : (i j set t : ℕ) → i ≤ j → ((k : ℕ) → i ≤ k → k < j → member k set ≡ false) → skipped_entries j set t ≡ skipped_entries i set t
unfolding skipped_entries
skips_same i zero set t l h = let e : i ≡ 0 = omega arith in rw e
skips_same i (suc j) set t l h =
    by-test (leb i j)
    (λ e. rw (h j (leb-true i j e) (omega arith)) (append-nil (skipped_entries j set t) ∙ skips_same i j set t (leb-true i j e) (λ k a b. h k a (omega arith))))
    (λ e. let x : i ≡ suc j = omega (arith, leb-false i j e) in rw x)

abbrev skip : ℕ → ℕ → Release
skip n t = record { task = n; time = t }

pub skips_none : (set t : ℕ) → skipped_entries (lowest set) set t ≡ []
unfolding skipped_entries
skips_none set t = skips_same 0 (lowest set) set t (omega arith) (λ k a b. lowest_first set k b)

skips_one : (n set t : ℕ) → member n set ≡ true → skipped_entries (suc n) set t ≡ skipped_entries n set t ++ (ReleaseSkipped (skip n t) ∷ [])
unfolding skipped_entries
skips_one n set t e = rw e

pub skips_turn : (set left n after t : ℕ) → Turn set left n after → skipped_entries (lowest after) set t ≡ skipped_entries (lowest left) set t ++ (ReleaseSkipped (skip n t) ∷ [])
skips_turn set left n after t turn =
    skips_same (suc n) (lowest after) set t (omega (arith, turn.rises)) (λ k a b. turn.between k a b)
    ∙ rw turn.lowest_left (skips_one n set t turn.there)

pub skips_most : (k set t : ℕ) → length (each entry_bytes (skipped_entries k set t)) ≤ 10 * k
unfolding skipped_entries each
skips_most zero set t = omega arith
skips_most (suc k) set t =
    by-test (member k set)
    (λ e. rw e (omega (arith, skips_most k set t, ap length (each_both entry_bytes (skipped_entries k set t) (last ∷ [])), length-append (each entry_bytes (skipped_entries k set t)) (each entry_bytes (last ∷ [])), one_more)))
    (λ e. rw e (omega (arith, skips_most k set t, ap length (ap (each entry_bytes) (append-nil (skipped_entries k set t))))))
  where
    last : RecordEntry
    last = ReleaseSkipped (skip k t)

    one_more : length (each entry_bytes (ReleaseSkipped (skip k t) ∷ [])) ≡ 10
    one_more = ap length (each_one entry_bytes (ReleaseSkipped (skip k t))) ∙ entry_size (ReleaseSkipped (skip k t))
