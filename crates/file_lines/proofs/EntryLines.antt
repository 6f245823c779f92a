-- The lines of a record's bytes are those of its entries, in order. Assumes nothing.
use mathlib.Core.Path.{◌≡◌, refl, sym, ap, ap₂, ◌∙◌}
use mathlib.Core.List.{List, [], ◌∷◌, ◌++◌, append_assoc, append-nil}
use Prim.Native.Nat.{ℕ, zero, suc, ◌+◌, ◌-◌}
use native.Mathlib.Nat.{add_assoc, add-zero}
use native.Mathlib.Omega.{arith}
use lib.ListN.{length}
use Rattle.entries.specs.Entries.{entry_bytes, each, record_entry_at, record_entry_size}
use Rattle.entries.specs.RoundTrip.{EntryFits}
use Rattle.entries.proofs.Places.{left_behind, entry_behind}
use Rattle.entries.proofs.Each.{some}
use Rattle.entries.proofs.Each.{entry_size as length_is}
use Rattle.entries.proofs.RoundTrip.{round_trip}
use Rattle.lines.specs.Lines.{line_of}
use Rattle.record.specs.Fits.{EntriesFit}
use Rattle.run.specs.Run.{Moment, record_entries, record_bytes}
use Rattle.record_lines.specs.Types.{RecordEntry}
use Rattle.record_lines.specs.Lines.{read_line, entry_line, entry_size, lines_from, lines_behind, record_lines}
use Rattle.record_lines.proofs.Laws.{none_left, one_more, entry_first}
use Rattle.std.specs.Prelude.{Ok}

-- ---- bytes in front move the place

module _ (front s : List ℕ) where
  lines_from_behind : (k at : ℕ) → lines_from k (front ++ s) (length front + at) ≡ lines_from k s at
  unfolding lines_from entry_size entry_line
  lines_from_behind zero at = refl
  lines_from_behind (suc k) at = go (entry_size s at) refl (λ n. lines_from_behind k (at + n))
    where
      size : entry_size (front ++ s) (length front + at) ≡ entry_size s at
      size = ap record_entry_size (entry_behind front s at)

      go : (n : ℕ) → entry_size s at ≡ n → ((n : ℕ) → lines_from k (front ++ s) (length front + (at + n)) ≡ lines_from k s (at + n))
          → lines_from (suc k) (front ++ s) (length front + at) ≡ lines_from (suc k) s at
      go zero e more = none_left (suc k) (front ++ s) (length front + at) (size ∙ e) ∙ sym (none_left (suc k) s at e)
      go (suc n) e more =
          one_more k (front ++ s) (length front + at) n (size ∙ e)
          ∙ ap₂ (λ (x y : List ℕ). x ++ y) (ap read_line (entry_behind front s at))
          (ap (lines_from k (front ++ s)) (add_assoc (length front) at (suc n)) ∙ more (suc n))
          ∙ sym (one_more k s at n e)

  pub lines_moved : lines_behind (front ++ s) (length front) ≡ record_lines s
  lines_moved =
      ap (lines_behind (front ++ s)) (sym (add-zero (length front))) ∙ lines_from_behind (length (front ++ s) - (length front + 0)) 0
      ∙ ap (λ (k : ℕ). lines_from k s 0) (left_behind front s 0)

-- ---- the lines of entries one after the other

abbrev pub Gives : List ℕ → List ℕ → Type 0
Gives bytes lines = (rest : List ℕ) → record_lines (bytes ++ rest) ≡ lines ++ record_lines rest

none : Gives [] []
none rest = refl

both : (a b x y : List ℕ) → Gives a x → Gives b y → Gives (a ++ b) (x ++ y)
both a b x y p q rest =
    ap record_lines (append_assoc a b rest) ∙ p (b ++ rest) ∙ ap (λ (l : List ℕ). x ++ l) (q rest) ∙ sym (append_assoc x y (record_lines rest))

-- an entry at the front gives its line
entry_gives : (e : RecordEntry) → EntryFits e → Gives (entry_bytes e) (line_of e)
unfolding entry_size entry_line
entry_gives e h rest =
    let bytes : List ℕ = entry_bytes e in
    let s : List ℕ = bytes ++ rest in
    let there : record_entry_at s 0 ≡ Ok e = round_trip.entry e h [] rest in
    let size : entry_size s 0 ≡ record_entry_size (Ok e) = ap record_entry_size there in
    let place : 0 + entry_size s 0 ≡ length bytes = omega (arith, size, length_is e) in
    let more : lines_behind s (0 + entry_size s 0) ≡ record_lines rest = ap (lines_behind s) place ∙ lines_moved bytes rest in
    entry_first s 0 (λ z. some e h (sym size ∙ z)) ∙ ap₂ (λ (x y : List ℕ). x ++ y) (ap read_line there) more

-- ---- the lines of a whole record

entries_give : (es : List RecordEntry) → EntriesFit es → Gives (each entry_bytes es) (each line_of es)
unfolding each EntriesFit
entries_give [] h = none
entries_give (e ∷ es) h = both (entry_bytes e) (each entry_bytes es) (line_of e) (each line_of es) (entry_gives e h.0) (entries_give es h.1)

-- the lines of a record's bytes are the J, I and S lines of its entries
pub record_printed : (ms : List Moment) → EntriesFit (record_entries ms) → record_lines (record_bytes ms) ≡ each line_of (record_entries ms)
unfolding lines_from record_bytes
record_printed ms h = ap record_lines (sym (append-nil (record_bytes ms))) ∙ entries_give (record_entries ms) h [] ∙ append-nil (each line_of (record_entries ms))
