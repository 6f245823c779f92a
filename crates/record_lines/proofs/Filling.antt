-- A slice that is filled with lines, one turn of the loop after the other. Assumes nothing.
use mathlib.Core.Path.{◌≡◌, refl, sym, ap, ◌∙◌, subst}
use mathlib.Core.Bool.{Bool, true, false, cond}
use mathlib.Core.List.{List, [], ◌∷◌, ◌++◌, append_assoc}
use Prim.Native.Nat.{ℕ, ◌+◌, ◌-◌, ◌≤◌, ◌<◌}
use native.Mathlib.Omega.{arith}
use borrow.Author.Tests.{leb-true, leb-false}
use lib.Dec.{leb}
use lib.ListN.{length, take, drop, replicate, length-append, length-drop, take-append-drop}
use lib.Seq.{take-append_seam, drop-drop}
use Rattle.words.proofs.Laws.{lent, rest_whole}
use Rattle.entries.proofs.Laws.{next}
use Rattle.lines.specs.Text.{shown, room, written, Prints}
use Rattle.record_lines.specs.Types.{Text}
use Rattle.record_lines.specs.Lines.{entry_line, entry_size, lines_behind, LineAt, HoldsLines, FilledWith}
use Rattle.record_lines.proofs.Laws.{size_fits, no_entry, entry_first}

pub none_yet : (s : List ℕ) (at : ℕ) (out : List ℕ) → HoldsLines s at out 0 at out
none_yet s at out = record {
  lines = [];
  len_is = refl;
  fits = omega arith;
  holds = refl;
  in_order = refl;
  ahead = omega arith;
  within = λ h. absurd (h refl);
}

-- a text shows the line that it prints
shown_is : (t : Text) (l : List ℕ) → Prints t l → shown t ≡ l
shown_is t l p = ap shown p.whole ∙ take-append_seam l (replicate (224 - length l) 0)

empty : (l : List ℕ) → length l ≡ 0 → l ≡ []
empty [] e = refl
empty (x ∷ l) e = absurd (omega arith)

-- a line that was put is whole, and one that was not is empty or does not fit
put_whole : (t : Text) (l rest : List ℕ) → Prints t l → (room t rest ≡ 0 → ⊥)
    → (room t rest ≡ length l) × (length l ≤ length rest) × (written t rest ≡ l ++ drop (length l) rest)
unfolding room written
put_whole t l rest p h = rw (shown_is t l p) (go (leb (length l) (length rest)) refl (rw (shown_is t l p) at h))
  where
    go : (b : Bool) → leb (length l) (length rest) ≡ b → (cond b (length l) 0 ≡ 0 → ⊥)
        → (cond b (length l) 0 ≡ length l) × (length l ≤ length rest) × (cond b (l ++ drop (length l) rest) rest ≡ l ++ drop (length l) rest)
    go true e h = (refl, leb-true (length l) (length rest) e, refl)
    go false e h = absurd (h refl)

put_none : (t : Text) (l rest : List ℕ) → Prints t l → room t rest ≡ 0 → (length l ≤ length rest → l ≡ []) × (written t rest ≡ rest)
unfolding room written
put_none t l rest p h = rw (shown_is t l p) (go (leb (length l) (length rest)) refl (rw (shown_is t l p) at h))
  where
    go : (b : Bool) → leb (length l) (length rest) ≡ b → cond b (length l) 0 ≡ 0
        → (length l ≤ length rest → l ≡ []) × (cond b (l ++ drop (length l) rest) rest ≡ rest)
    go true e h = (λ f. empty l h, ap (λ (x : List ℕ). x ++ drop (length x) rest) (empty l h))
    go false e h = (λ f. absurd (omega (arith, leb-false (length l) (length rest) e)), refl)

module _ (s : List ℕ) (at : ℕ) (before : List ℕ) (len here : ℕ) (out : List ℕ) (text : Text) (to n : ℕ) (t : List ℕ) where
  abbrev rest : List ℕ
  rest = take (length out - len) (drop len out)

  abbrev after : List ℕ
  after = take len out ++ (t ++ drop (length out - len) (drop len out))

  module _ (h : HoldsLines s at before len here out) (same : length out ≡ length before) (l : LineAt s here text to) (e : n ≡ room text rest) where
    abbrev line : List ℕ
    line = entry_line s here

    rest_length : length rest ≡ length before - len
    rest_length = rw (rest_whole len out) (omega (arith, length-drop len out))

    -- a line that was put is an entry's, and stands behind the others
    pub goes_on : (n ≡ 0 → ⊥) → (len + n ≤ length before) × (here < to) × (to ≤ length s) × (n ≡ length line)
    goes_on m =
        let p = put_whole text line rest l.prints (λ z. m (e ∙ z)) in
        let some : entry_size s here ≡ 0 → ⊥ = λ z. m (e ∙ p.0 ∙ ap length (no_entry s here z)) in
        let whole : n ≡ length line = e ∙ p.0 in
        let fit : 1 ≤ entry_size s here = positive (entry_size s here) some in
        (omega (arith, p.1, rest_length, h.fits), omega (arith, l.next_is), omega (arith, l.next_is, size_fits s here), whole)
      where
        positive : (k : ℕ) → (k ≡ 0 → ⊥) → 1 ≤ k
        positive k f = omega (arith, f)

    pub turned : (n ≡ 0 → ⊥) → t ≡ written text rest → HoldsLines s at before (len + n) to after
    turned m w =
        let g = goes_on m in
        let p = put_whole text line rest l.prints (λ z. m (e ∙ z)) in
        let size : n ≡ length line = g.3 in
        let some : entry_size s here ≡ 0 → ⊥ = λ z. m (size ∙ ap length (no_entry s here z)) in
        record {
          lines = h.lines ++ line;
          len_is = omega (arith, size, h.len_is, length-append h.lines line);
          fits = g.0;
          holds =
              next h.lines before out line len h.len_is after
              (lent (λ x. line ++ drop (length line) x) len out t (w ∙ p.2) ∙ ap (λ (x : List ℕ). take len out ++ (line ++ x)) (drop-drop (length line) len out))
              h.holds;
          in_order =
              append_assoc h.lines line (lines_behind s to)
              ∙ ap (λ (x : List ℕ). h.lines ++ x) (ap (λ (k : ℕ). line ++ lines_behind s k) l.next_is ∙ sym (entry_first s here some))
              ∙ h.in_order;
          ahead = omega (arith, g.1, h.ahead);
          within = λ z. (omega (arith, g.1, h.ahead), g.2);
        }

    pub stopped : n ≡ 0 → t ≡ written text rest → FilledWith s at before len here after
    stopped z w =
        let p = put_none text line rest l.prints (sym e ∙ z) in
        let kept : after ≡ out = lent (λ x. x) len out t (w ∙ p.1) ∙ take-append-drop len out in
        record { held = subst (λ (x : List ℕ). HoldsLines s at before len here x) (sym kept) h; stops = λ f. p.0 (omega (arith, rest_length)) }
