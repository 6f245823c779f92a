-- A whole dump: the header, the instants, and the start where there was none. Assumes nothing.
use mathlib.Core.Path.{◌≡◌, refl, sym, ap, ap₂, ◌∙◌, subst}
use mathlib.Core.Bool.{Bool, true, false}
use mathlib.Core.List.{List, ◌++◌, append-nil}
use Prim.Native.Nat.{ℕ, ◌+◌, ◌≤◌}
use native.Mathlib.Nat.{zero-add}
use native.Mathlib.Omega.{arith}
use lib.ListN.{length, length-append}
use Rattle.entries.specs.Entries.{laid}
use Rattle.rules.specs.Calls.{opened}
use Rattle.table.specs.declared.Head.{Head}
use Rattle.dispatcher.specs.Dispatcher.{state_of}
use Rattle.dispatcher.specs.declared.Dispatcher.{Dispatcher}
use Rattle.run.specs.Listed.{releases_at}
use Rattle.run.specs.Run.{run}
use Rattle.sets.proofs.Laws.{by-test}
use Rattle.run.proofs.Slices.{laid_both, laid_length}
use Rattle.record.specs.Cursor.{Cursor, start as run_start, KeptAt}
use Rattle.record.proofs.Running.{is_start}
use Rattle.waves.specs.Types.{Drawn}
use Rattle.waves.specs.Dump.{ascii, line, header}
use Rattle.waves.specs.Samples.{seen, samples}
use Rattle.waves.specs.Drawing.{start, run_rest, run_dump, Space, Drew, Draws}
use Rattle.waves.proofs.Seeing.{at_opening}
use Rattle.waves.proofs.Drawing.{whole_dump}

pub header_size : length header ≡ 191
unfolding header line ascii
header_size = refl

pub of_piece : {a b before : List ℕ} {place : ℕ} {keep : Bool} {after : List ℕ} → a ≡ b → KeptAt a before place keep after → KeptAt b before place keep after
of_piece {a} {b} {before} {place} {keep} {after} e x = subst (λ (l : List ℕ). KeptAt l before place keep after) e x

module _ {s : List ℕ} {c : Cursor} {budget : ℕ} {out : List ℕ} {keep : Bool} (r : Space s c budget (run_dump s c budget) out 0 keep) where
  parts : run_dump s c budget ≡ header ++ run_rest s c budget
  parts = whole_dump (seen c.state) (samples (run budget c.state (releases_at s c.at)))

  lengths : length (run_dump s c budget) ≡ 191 + length (run_rest s c budget)
  lengths = ap length parts ∙ length-append header (run_rest s c budget) ∙ ap (λ (n : ℕ). n + length (run_rest s c budget)) header_size

  pub header_room : keep ≡ true → 0 + length header ≤ length out
  header_room h = omega (arith, r.kept h, lengths, header_size)

  module _ {out₁ : List ℕ} (x : KeptAt header out 0 keep out₁) where
    same : length out₁ ≡ length out
    same = by-test keep (λ h. ap length (x.holds h) ∙ laid_length 0 header out (header_room h)) (λ h. ap length (x.unchanged h))

    pub space : Space s c budget (run_rest s c budget) out₁ 191 keep
    space = record { kept = λ h. omega (arith, r.kept h, lengths, same); few = r.few; near = omega arith; served = r.served }

    module _ {y : Drawn} {out₂ : List ℕ} (g : Drew s c budget out₁ 191 keep y out₂) where
      -- what stands behind the header is laid behind it
      laid_all : {n : ℕ} {out₃ : List ℕ} → n ≡ 191 + length (run_rest s c budget) → (keep ≡ true → out₃ ≡ laid 191 (run_rest s c budget) out₁) → (keep ≡ false → out₃ ≡ out₁)
          → Draws (run_dump s c budget) out keep n out₃
      laid_all {n} {out₃} e put none = record {
        size_is = e ∙ sym lengths;
        holds = λ h.
            put h ∙ ap₂ (λ (i : ℕ) (l : List ℕ). laid i (run_rest s c budget) l) (sym header_size ∙ sym (zero-add (length header))) (x.holds h)
            ∙ laid_both 0 header (run_rest s c budget) out (omega arith) ∙ ap (λ (l : List ℕ). laid 0 l out) (sym parts);
        unchanged = λ h. none h ∙ x.unchanged h;
      }

      pub all_drawn : y.begun ≡ true → Draws (run_dump s c budget) out keep y.size out₂
      all_drawn h =
          let w : g.done ≡ run_rest s c budget = sym (append-nil g.done) ∙ rw h at g.whole in
          laid_all (g.size_is ∙ ap (λ (l : List ℕ). 191 + length l) w) (λ k. g.holds k ∙ ap (λ (l : List ℕ). laid 191 l out₁) w) g.unchanged

      module _ (h : y.begun ≡ false) where
        abbrev last : List ℕ
        last = start (seen c.state)

        whole : g.done ++ start (seen c.state) ≡ run_rest s c budget
        whole = rw h at g.whole

        more : length (run_rest s c budget) ≡ length g.done + length (start (seen c.state))
        more = ap length (sym whole) ∙ length-append g.done last

        same₂ : length out₂ ≡ length out₁
        same₂ = by-test keep (λ k. ap length (g.holds k) ∙ laid_length 191 g.done out₁ (omega (arith, r.kept k, lengths, more, same))) (λ k. ap length (g.unchanged k))

        pub start_room : keep ≡ true → y.size + length (start (seen c.state)) ≤ length out₂
        start_room k = omega (arith, r.kept k, lengths, more, g.size_is, same, same₂)

        pub start_drawn : {n : ℕ} {out₃ : List ℕ} → n ≡ length (start (seen c.state)) → KeptAt (start (seen c.state)) out₂ y.size keep out₃ → Draws (run_dump s c budget) out keep (y.size + n) out₃
        start_drawn {n} {out₃} e z =
            laid_all (omega (arith, more, g.size_is))
            (λ k.
            z.holds k ∙ ap₂ (λ (i : ℕ) (l : List ℕ). laid i last l) g.size_is (g.holds k)
            ∙ laid_both 191 g.done last out₁ (omega (arith, r.kept k, lengths, same)) ∙ ap (λ (l : List ℕ). laid 191 l out₁) whole)
            (λ k. z.unchanged k ∙ g.unchanged k)

-- ---- from the state that was opened

module _ (k : Head) (d : Dispatcher) (e : state_of d ≡ opened k.table k.marked) where
  pub from_start : {s : List ℕ} {budget : ℕ} {out : List ℕ} {keep : Bool} → Space s (run_start k) budget (run_dump s (run_start k) budget) out 0 keep
      → Space s (record { state = state_of d; at = k.end }) budget (run_dump s (record { state = state_of d; at = k.end }) budget) out 0 keep
  from_start {s} {budget} {out} {keep} r = subst (λ (c : Cursor). Space s c budget (run_dump s c budget) out 0 keep) (is_start k d e) r

  pub to_start : (s : List ℕ) (budget : ℕ) {out : List ℕ} {keep : Bool} {n : ℕ} {out' : List ℕ} → Draws (run_dump s (record { state = state_of d; at = k.end }) budget) out keep n out'
      → Draws (run_dump s (run_start k) budget) out keep n out'
  to_start s budget {out} {keep} {n} {out'} x = subst (λ (c : Cursor). Draws (run_dump s c budget) out keep n out') (sym (is_start k d e)) x

  pub nobody : record { processor = 255; copyin = 255; copyout = 255; half = 0 } ≡ seen (state_of d)
  nobody = at_opening k.table k.marked ∙ ap seen (sym e)
