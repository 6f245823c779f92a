-- A run held against a record: how far the two agree. Assumes nothing.
use mathlib.Core.Path.{◌≡◌, refl, sym, ap, ap₂, ◌∙◌, subst}
use mathlib.Core.Bool.{Bool, true, false, cond, ◌&&◌, true≢false}
use mathlib.Core.List.{List, [], ◌∷◌, ◌++◌, append-nil, append_assoc}
use Prim.Native.Nat.{ℕ, zero, suc, ◌+◌, ◌-◌, ◌≤◌, ◌<◌}
use native.Mathlib.Nat.{zero-add, suc-add}
use native.Mathlib.Numerals.{add-one}
use native.Mathlib.Omega.{arith}
use borrow.Author.Tests.{eq-eqb, eqb-true, eqb-false}
use lib.Dec.{eqb}
use lib.ListN.{length, take, drop, get_or, length-take, length-drop}
use lib.Seq.{length-take-le, take-suc, take_all, take_at, drop_at}
use Rattle.sets.proofs.Laws.{by-test, left, right}
use Rattle.rules.specs.Calls.{opened}
use Rattle.dispatcher.specs.declared.Dispatcher.{Dispatcher}
use Rattle.dispatcher.specs.Dispatcher.{state_of}
use Rattle.entries.specs.Entries.{each}
use Rattle.run.specs.Run.{run, record_entries, record_bytes}
use Rattle.pieces.specs.Pieces.{Makes}
use Rattle.pieces.proofs.Reaching.{same_slice, front}
use Rattle.std.proofs.Common.{Ok, Err}
use Rattle.record.specs.Types.{Head, Refusal, Piece}
use Rattle.record.specs.Cursor.{Cursor, Served, Room, start, run_bytes, budget_at}
use Rattle.record.proofs.Running.{is_start, splits, served_on}
use Rattle.table.specs.Head.{head_read, head_of}
use Rattle.run.specs.Files.{Checked, Rejected, Releases, refusal_of, releases_of, head_unless, file_head}
use Rattle.record.proofs.Outcomes.{AllRead, accepted_whole, listed_all, same_run}
use Rattle.reading.specs.Parts.{Tells}
use Rattle.reading.specs.Reading.{same_bytes, yielded_by, yields}

-- ---- two lists of bytes

pub same_true : (a b : List ℕ) → a ≡ b → same_bytes a b ≡ true
unfolding same_bytes
same_true [] [] e = refl
same_true [] (y ∷ b) e = absurd (let z : ◌≡◌ {A = ℕ} 0 1 = cc in omega arith)
same_true (x ∷ a) [] e = absurd (let z : ◌≡◌ {A = ℕ} 0 1 = cc in omega arith)
same_true (x ∷ a) (y ∷ b) e = let p : x ≡ y = cc in let q : a ≡ b = cc in rw (eq-eqb x y p) (same_true a b q)

pub true_same : (a b : List ℕ) → same_bytes a b ≡ true → a ≡ b
unfolding same_bytes
true_same [] [] e = refl
true_same [] (y ∷ b) e = absurd (true≢false (sym e))
true_same (x ∷ a) [] e = absurd (true≢false (sym e))
true_same (x ∷ a) (y ∷ b) e = go (eqb x y) refl e (λ q. true_same a b q)
  where
    go : (t : Bool) → eqb x y ≡ t → cond t (same_bytes a b) false ≡ true → (same_bytes a b ≡ true → a ≡ b) → x ∷ a ≡ y ∷ b
    go true p q f = let u : x ≡ y = eqb-true x y p in let v : a ≡ b = f q in cc
    go false p q f = absurd (true≢false (sym q))

pub same_false : (a b : List ℕ) → (a ≡ b → ⊥) → false ≡ same_bytes a b
same_false a b f = by-test (same_bytes a b) (λ e. absurd (f (true_same a b e))) (λ e. sym e)

-- one byte after the other: those passed are the same or not
pub alike_none : (a b : List ℕ) → Tells true (take 0 a) (take 0 b)
alike_none a b = record { same = λ e. refl; shows = λ e. refl }

pub alike_more : (a b : List ℕ) (i : ℕ) (x y : Bool) → i < length a → length a ≡ length b → Tells x (take i a) (take i b) → y ≡ (x && eqb (get_or a i 0) (get_or b i 0))
    → Tells y (take (i + 1) a) (take (i + 1) b)
alike_more a b i x y l n h e = record {
  same = λ t.
      let both : (x && eqb (get_or a i 0) (get_or b i 0)) ≡ true = sym e ∙ t in
      one a l ∙ ap₂ (λ (f : List ℕ) (v : ℕ). f ++ (v ∷ [])) (h.same (left x _ both)) (eqb-true (get_or a i 0) (get_or b i 0) (right x _ both)) ∙ sym (one b (omega arith));
  shows = λ t.
      let d : take i a ++ (get_or a i 0 ∷ []) ≡ take i b ++ (get_or b i 0 ∷ []) = sym (one a l) ∙ t ∙ one b (omega arith) in
      let size : length (take i a) ≡ length (take i b) = length-take-le i a (omega arith) ∙ sym (length-take-le i b (omega arith)) in
      e ∙ rw (h.shows (front (take i a) (take i b) (get_or a i 0) (get_or b i 0) size d), eq-eqb (get_or a i 0) (get_or b i 0) (last (take i a) (take i b) (get_or a i 0) (get_or b i 0) size d));
}
  where
    one : (s : List ℕ) → i < length s → take (i + 1) s ≡ take i s ++ (get_or s i 0 ∷ [])
    one s m = ap (λ (k : ℕ). take k s) (add-one i) ∙ take-suc s i 0 m

    front : (p q : List ℕ) (v w : ℕ) → length p ≡ length q → p ++ (v ∷ []) ≡ q ++ (w ∷ []) → p ≡ q
    front p q v w m d = sym (take_at p (v ∷ []) (length p) refl) ∙ ap (take (length p)) d ∙ take_at q (w ∷ []) (length p) (sym m)

    last : (p q : List ℕ) (v w : ℕ) → length p ≡ length q → p ++ (v ∷ []) ≡ q ++ (w ∷ []) → v ≡ w
    last p q v w m d =
        let z : v ∷ [] ≡ w ∷ [] = sym (drop_at p (v ∷ []) (length p) refl) ∙ ap (drop (length p)) d ∙ drop_at q (w ∷ []) (length p) (sym m) in cc

-- whether the next bytes are those of another list, found by holding one against the other where there are enough
pub too_few : (s : List ℕ) (at : ℕ) (made : List ℕ) (n : ℕ) → n ≤ length made → length s - at < n → Tells false (take n (drop at s)) (take n made)
too_few s at made n l m = record {
  same = λ e. absurd (true≢false (sym e));
  shows = λ e. absurd (omega (arith, ap length e, length-take-le n made l, length-take n (drop at s), length-drop at s));
}

-- a front, and the next bytes behind it
take_more : (n m : ℕ) (s : List ℕ) → take n s ++ take m (drop n s) ≡ take (n + m) s
take_more zero m s = ap (λ (k : ℕ). take k s) (sym (zero-add m))
take_more (suc n) m [] = none m
  where
    none : (m : ℕ) → ◌≡◌ {A = List ℕ} (take m []) (take (suc n + m) [])
    none m = rw (suc-add n m) (empty m)
      where
        empty : (m : ℕ) → ◌≡◌ {A = List ℕ} (take m []) []
        empty zero = refl
        empty (suc m) = refl
take_more (suc n) m (x ∷ s) = rw (suc-add n m) (ap (λ (l : List ℕ). x ∷ l) (take_more n m s))

-- ---- how far a run and a record agree

-- what the record has so far and what is to come make the whole
pub record Holding (s whole stored : List ℕ) (c : Cursor) (size left : ℕ) : Type 0 where
  pub rest : take size stored ++ run_bytes s c left ≡ whole
  pub within : size ≤ length stored
  pub served : Served s c

module _ (s stored : List ℕ) (k : Head) (budget : ℕ) (d : Dispatcher) (e : state_of d ≡ opened k.table k.marked) where
  pub begins : Room s (start k) budget stored false → Holding s (run_bytes s (record { state = state_of d; at = k.end }) budget) stored (record { state = state_of d; at = k.end }) 0 budget
  begins r = record { rest = refl; within = omega arith; served = subst (λ (c : Cursor). Served s c) (is_start k d e) r.served }

  pub as_started : {x : Bool} → x ≡ same_bytes (run_bytes s (record { state = state_of d; at = k.end }) budget) stored → x ≡ same_bytes (run_bytes s (start k) budget) stored
  as_started {x} h = subst (λ (c : Cursor). x ≡ same_bytes (run_bytes s c budget) stored) (sym (is_start k d e)) h

module _ {s whole stored : List ℕ} (d : Dispatcher) {at size left : ℕ} (h : Holding s whole stored (record { state = state_of d; at = at }) size left) where
  -- no instant is left: the record is the whole, or it is longer
  pub ended : left ≡ 0 → eqb size (length stored) ≡ same_bytes whole stored
  unfolding run record_bytes record_entries each
  ended e =
      let is : whole ≡ take size stored = sym h.rest ∙ ap (λ (n : ℕ). take size stored ++ run_bytes s (record { state = state_of d; at = at }) n) e ∙ append-nil (take size stored) in
      let long : length whole ≡ size = ap length is ∙ length-take-le size stored h.within in
      by-test (eqb size (length stored))
      (λ x. x ∙ sym (same_true whole stored (is ∙ take_all size stored (omega (arith, eqb-true size (length stored) x)))))
      (λ x. x ∙ same_false whole stored (λ y. eqb-false size (length stored) x (sym long ∙ ap length y)))

  module _ {made : List ℕ} {x : Piece} {made' : List ℕ} (m : Makes (take (length s - at) (drop at s)) d left made x made') where
    abbrev to_come : List ℕ
    to_come = run_bytes s (record { state = state_of x.state; at = at + x.read }) x.left

    pub whole_piece : x.size ≤ length made'
    whole_piece = omega (arith, m.fits, same_slice m)

    parts : take size stored ++ (take x.size made' ++ run_bytes s (record { state = state_of x.state; at = at + x.read }) x.left) ≡ whole
    parts =
        ap (λ (l : List ℕ). take size stored ++ (l ++ to_come)) (front m)
        ∙ ap (λ (l : List ℕ). take size stored ++ l) (sym (splits s at d m h.served)) ∙ h.rest

    -- the next bytes of the record are others
    pub differs : (take x.size (drop size stored) ≡ take x.size made' → ⊥) → false ≡ same_bytes whole stored
    differs n = same_false whole stored (λ e.
        let same : take size stored ++ (take x.size made' ++ to_come) ≡ stored = parts ∙ e in
        n (ap (λ (l : List ℕ). take x.size (drop size l)) (sym same)
        ∙ ap (take x.size) (drop_at (take size stored) (take x.size made' ++ to_come) size (length-take-le size stored h.within))
        ∙ take_at (take x.size made') to_come x.size (length-take-le x.size made' whole_piece)))

    -- or they are those of the piece
    pub reaches : take x.size (drop size stored) ≡ take x.size made' → size + x.size ≤ length stored
    reaches e = omega (arith, ap length e, length-take-le x.size made' whole_piece, length-take x.size (drop size stored), length-drop size stored)

    pub goes_on : take x.size (drop size stored) ≡ take x.size made' → Holding s whole stored (record { state = state_of x.state; at = at + x.read }) (size + x.size) x.left
    goes_on e = record {
      rest = ap (λ (l : List ℕ). l ++ to_come) (sym (take_more size x.size stored)) ∙ append_assoc (take size stored) (take x.size (drop size stored)) to_come
          ∙ ap (λ (l : List ℕ). take size stored ++ (l ++ to_come)) e ∙ parts;
      within = reaches e;
      served = served_on s at d m h.served;
    }

-- ---- an input by what checking it found

module _ (s stored : List ℕ) where
  pub yields_accepted : (k : Head) → file_head s ≡ Ok k → same_bytes (run_bytes s (start k) (budget_at s (start k))) stored ≡ yields s stored
  unfolding yielded_by
  yields_accepted k is =
      let read : AllRead s k = accepted_whole s k is in
      sym (ap (yielded_by s stored) (listed_all s k read.whole read.releases) ∙ ap (λ (x : List ℕ). same_bytes x stored) (same_run s k read.whole read.releases))

  pub yields_refused : (r : Refusal) → file_head s ≡ Err r → false ≡ yields s stored
  unfolding yielded_by file_head
  yields_refused r is = go (releases_of s) is
    where
      go : (c : Checked) → head_unless (head_read (head_of s)) (refusal_of c) ≡ Err r → false ≡ yielded_by s stored c
      go (Rejected q) e = refl
      go (Releases rs) e = absurd (cc)
