-- A text put at the front of a slice, or behind its first bytes.
use Rattle.std.proofs.Common.{◌≡◌, ap, ◌∙◌, Bool, cond, List, ℕ, ◌+◌, ◌-◌, ◌≤◌, ◌<◌, arith, length, drop, length-drop}
use borrow.Author.Tests.{le-leb, lt-leb}
use borrow.Rule.Slice.PartMut.{mid_of}
use Rattle.std.proofs.Math.Seq.{take_all}
use Rattle.lines.specs.declared.Text.{Text}
use Rattle.lines.specs.Text.{room}
use Rattle.lines.proofs.Laws.{room_fits}
use Rattle.printing.specs.Gathering.{place, Gathers}

pub at_front : (s : List ℕ) (len : ℕ) (t : Text) (n : ℕ) → length s - len < 224 → n ≡ room t s → Gathers s len t n
at_front s len t n h e =
    let p : place s len ≡ 0 = ap (λ (b : Bool). cond b len 0) (lt-leb 224 (length s - len) h) in
    record { keeps = rw p (omega (arith, e)); within = omega (arith, e, room_fits t s) }

-- the bytes behind the first ones
pub rest : (s : List ℕ) (len : ℕ) → mid_of len (length s - len) s ≡ drop len s
rest s len = take_all (length s - len) (drop len s) (omega (arith, length-drop len s))

pub at_end : (s : List ℕ) (len n : ℕ) (t : Text) → 224 ≤ length s - len
    → n ≡ room t (mid_of len (length s - len) s) → Gathers s len t (len + n)
at_end s len n t h e =
    let p : place s len ≡ len = ap (λ (b : Bool). cond b len 0) (le-leb 224 (length s - len) h) in
    let m : n ≡ room t (drop len s) = e ∙ ap (room t) (rest s len) in
    record { keeps = rw p (ap (λ (k : ℕ). len + k) m); within = omega (arith, m, room_fits t (drop len s), length-drop len s) }
