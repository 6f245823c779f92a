-- A number's digits put into a slice, the last one first. Assumes nothing.
use mathlib.Core.Path.{◌≡◌, refl, sym, ap, ◌∙◌}
use mathlib.Core.List.{List, [], ◌∷◌, ◌++◌, append-nil}
use Prim.Native.Nat.{ℕ, ◌+◌, ◌-◌, ◌/◌, ◌%◌, ◌≤◌, ◌<◌}
use native.Mathlib.Omega.{arith}
use borrow.Author.Tests.{ltb-true, ltb-false}
use lib.Dec.{ltb}
use lib.ListN.{length, set, length-append, length-set}
use lib.Seq.{append_snoc}
use Rattle.sets.proofs.Laws.{by-test}
use Rattle.entries.specs.Entries.{laid}
use Rattle.lines.specs.Lines.{decimal}
use Rattle.lines.proofs.Laws.{one_digit, last_digit, more_digits}
use Rattle.run.proofs.Slices.{laid_none}
use Rattle.waves.specs.Printing.{Lays}
use Rattle.waves.proofs.Laying.{before}

pub some_digits : (n : ℕ) → 1 ≤ length (decimal n)
some_digits n = by-test (ltb n 10) (λ e. omega (arith, ap length (one_digit n (ltb-true n 10 e)))) (λ e. omega (arith, more_digits n (ltb-false n 10 e)))

-- digits are left, and those behind them are put
pub record Behind (out₀ : List ℕ) (at n i left : ℕ) (out : List ℕ) : Type 0 where
  pub tail : List ℕ
  pub digits : decimal n ≡ decimal left ++ tail
  pub place : i + 1 ≡ at + length (decimal left)
  pub holds : out ≡ laid (i + 1) tail out₀
  pub same : length out ≡ length out₀
  pub room : at + length (decimal n) ≤ length out₀

pub begins : (out : List ℕ) (at n i : ℕ) → i ≡ at + length (decimal n) - 1 → at + length (decimal n) ≤ length out → Behind out at n i n out
begins out at n i e r = record {
  tail = [];
  digits = sym (append-nil (decimal n));
  place = omega (arith, some_digits n);
  holds = sym (laid_none (i + 1) out);
  same = refl;
  room = r;
}

module _ {out₀ : List ℕ} {at n i left : ℕ} {out : List ℕ} (x : Behind out₀ at n i left out) where
  pub inside : i < length out₀
  inside = omega (arith, x.place, x.room, ap length x.digits, length-append (decimal left) x.tail)

  module _ (h : 10 ≤ left) where
    pub ahead : 1 ≤ i
    ahead = omega (arith, x.place, more_digits left h, some_digits (left / 10))

    pub step : Behind out₀ at n (i - 1) (left / 10) (set out i (48 + left % 10))
    step =
        let d : ℕ = 48 + left % 10 in
        let here : i ≡ i - 1 + 1 = omega (arith, ahead) in
        record {
          tail = d ∷ x.tail;
          digits = x.digits ∙ ap (λ (l : List ℕ). l ++ x.tail) (last_digit left h) ∙ append_snoc (decimal (left / 10)) d x.tail;
          place = omega (arith, x.place, more_digits left h, ahead);
          holds = ap (λ (l : List ℕ). set l i d) x.holds ∙ before i d x.tail out₀ inside ∙ ap (λ (k : ℕ). laid k (d ∷ x.tail) out₀) here;
          same = length-set out i d ∙ x.same;
          room = x.room;
        }

  pub ends : (size : ℕ) → size ≡ length (decimal n) → left < 10 → Lays at (decimal n) out₀ (at + size) (set out i (48 + left))
  ends size e h =
      let d : ℕ = 48 + left in
      let one : decimal left ≡ d ∷ [] = one_digit left h in
      let here : i ≡ at = omega (arith, x.place, ap length one) in
      record {
        within = omega (arith, x.room);
        place_is = ap (λ (k : ℕ). at + k) e;
        holds =
            ap (λ (l : List ℕ). set l i d) x.holds ∙ before i d x.tail out₀ inside ∙ ap (λ (k : ℕ). laid k (d ∷ x.tail) out₀) here
            ∙ ap (λ (l : List ℕ). laid at l out₀) (sym (x.digits ∙ ap (λ (l : List ℕ). l ++ x.tail) one));
      }
