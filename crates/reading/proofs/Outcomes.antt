-- What comes of the releases that a record tells: the list where its run has this record, else 18. Assumes nothing.
use mathlib.Core.Path.{◌≡◌, refl, sym, ap, ◌∙◌, subst}
use mathlib.Core.Bool.{true, false}
use mathlib.Core.List.{List, [], ◌∷◌, ◌++◌}
use mathlib.Core.Logic.{◌⊎◌, inl, inr}
use Prim.Native.Nat.{ℕ, zero, suc, ◌-◌, ◌*◌, ◌≤◌}
use native.Mathlib.Omega.{arith}
use lib.ListN.{length, take, drop, length-append}
use lib.Seq.{drop_at, take_at, length-take-le}
use Rattle.std.proofs.Common.{None, Some}
use Rattle.std.specs.Prelude.{IsOk}
use Rattle.rules.specs.State.{State}
use Rattle.rules.specs.Calls.{opening}
use Rattle.run.specs.Files.{Checked, Rejected, Releases, refusal_of}
use Rattle.record.specs.Writing.{Wrote, written}
use Rattle.reading.specs.Types.{Release, Refusal, Alone, Result, Ok, Err, Outcome, RefusedInput}
use Rattle.reading.specs.declared.collecting.Collected.{Collected}
use Rattle.reading.specs.Attested.{attested, sorted}
use Rattle.reading.specs.Reading.{list_bytes, input_of, yields, listed_if, read_attested, read_opened, reading}
use Rattle.reading.specs.Acceptance.{Accepts}
use Rattle.reading.specs.Sorting.{Sorts}
use Rattle.reading.specs.Parts.{releases_in, Notes, none_noted, Collects, Lent}
use Rattle.reading.specs.Pieces.{front}
use Rattle.reading.proofs.Noting.{attested_short, notes_begin}
use Rattle.reading.proofs.Laying.{Rebuilt}
use Rattle.reading.proofs.Ordering.{keys_sorted}
use Rattle.reading.proofs.Acceptance.{unlistable, accepts}

-- ---- the list, or 18

module _ (tasks stored lent : List ℕ) (rs : List Release) where
  listed : {outcome : Outcome} {after : List ℕ} → yields (input_of tasks rs) stored ≡ true → Wrote (written (list_bytes rs) lent) outcome after
      → Wrote (listed_if tasks stored lent rs) outcome after
  unfolding listed_if
  listed e h = rw e h

  pub not_listed : yields (input_of tasks rs) stored ≡ false → Wrote (listed_if tasks stored lent rs) (Err (RefusedInput (Alone 18))) lent
  unfolding listed_if
  not_listed e = rw e (record { outcome_is = refl; holds = refl })

-- the part of the input behind the task entries is the list
drop_front : (n e : ℕ) (s : List ℕ) → take (e - n) (drop n s) ≡ drop n (take e s)
drop_front zero e s = ap (λ (k : ℕ). take k s) (less e)
  where
    less : (e : ℕ) → e - 0 ≡ e
    less e = omega arith
drop_front (suc n) zero s = ap (λ (k : ℕ). take k (drop (suc n) s)) (less n)
  where
    less : (n : ℕ) → 0 - suc n ≡ 0
    less n = omega arith
drop_front (suc n) (suc e) [] = none (suc e - suc n)
  where
    none : (k : ℕ) → ◌≡◌ {A = List ℕ} (take k []) []
    none zero = refl
    none (suc k) = refl
drop_front (suc n) (suc e) (x ∷ s) = ap (λ (k : ℕ). take k (drop n s)) (less n e) ∙ drop_front n e s
  where
    less : (n e : ℕ) → suc e - suc n ≡ e - n
    less n e = omega arith

module _ (tasks keys stored lent : List ℕ) {before : List ℕ} {size : ℕ} {after : List ℕ} (h : Rebuilt tasks keys before size after) where
  list_part : take (size - length tasks) (drop (length tasks) after) ≡ list_bytes (releases_in keys)
  list_part =
      drop_front (length tasks) size after ∙ ap (drop (length tasks)) h.holds ∙ drop_at tasks (list_bytes (releases_in keys)) (length tasks) refl

  pub listed_part : {outcome : Outcome} {out : List ℕ} → yields (take size after) stored ≡ true
      → Wrote (written (take (size - length tasks) (drop (length tasks) after)) lent) outcome out → Wrote (listed_if tasks stored lent (releases_in keys)) outcome out
  listed_part {outcome} {out} e w =
      listed tasks stored lent (releases_in keys) (ap (λ (x : List ℕ). yields x stored) (sym h.holds) ∙ e)
      (subst (λ (x : List ℕ). Wrote (written x lent) outcome out) list_part w)

  pub not_listed_part : yields (take size after) stored ≡ false → Wrote (listed_if tasks stored lent (releases_in keys)) (Err (RefusedInput (Alone 18))) lent
  not_listed_part e = not_listed tasks stored lent (releases_in keys) (ap (λ (x : List ℕ). yields x stored) (sym h.holds) ∙ e)

-- ---- what a record's entries tell

module _ (tasks stored lent keys : List ℕ) {x : Collected} {after : List ℕ} (h : Collects stored none_noted keys x after) where
  -- an entry is refused
  pub entry_refused : (r : Refusal) → x.refusal ≡ Some r → Wrote (read_attested tasks stored lent (attested stored)) (Err (RefusedInput r)) lent
  entry_refused r f = go (attested stored) (sym f ∙ h.refusal_is)
    where
      go : (c : Checked) → Some r ≡ refusal_of c → Wrote (read_attested tasks stored lent c) (Err (RefusedInput r)) lent
      go (Rejected q) e = let same : r ≡ q = cc in record { outcome_is = ap (λ (y : Refusal). Err (RefusedInput y)) same; holds = refl }
      go (Releases rs) e = absurd (cc)

  module _ (e : x.refusal ≡ None) where
    abbrev rs : List Release
    rs = (front stored).releases

    pub noted : Notes (front stored).releases x.noted after
    noted = h.notes [] (notes_begin keys)

    -- no list can have them
    pub impossible : {input : List ℕ} → Lent tasks stored keys input → x.noted.possible ≡ false
        → Wrote (read_attested tasks stored lent (attested stored)) (Err (RefusedInput (Alone 18))) lent
    impossible o p =
        subst (λ (c : Checked). Wrote (read_attested tasks stored lent c) (Err (RefusedInput (Alone 18))) lent) (sym (h.whole e))
        (not_listed tasks stored lent (sorted rs) (unlistable tasks stored rs o.opens noted.fit (λ early few. noted.not p early (many o.enough few))))
      where
        many : (4096 ≤ length keys) ⊎ (length stored ≤ 10 * length keys) → length (front stored).releases ≤ 4096 → length (front stored).releases ≤ length after
        many (inl m) few = omega (arith, h.same_length)
        many (inr m) few = omega (arith, h.same_length, attested_short stored (front stored).releases (h.whole e))

    -- the numbers in their order stand for the list
    pub possible : (ks lent-keys : List ℕ) {outcome : Outcome} {out : List ℕ} → x.noted.possible ≡ true → Sorts (take x.noted.count after) ks → lent-keys ≡ ks
        → Wrote (listed_if tasks stored lent (releases_in lent-keys)) outcome out → Wrote (read_attested tasks stored lent (attested stored)) outcome out
    possible ks lent-keys {outcome} {out} p s same w =
        let is : releases_in ks ≡ sorted rs = keys_sorted rs ks noted.fit (subst (λ (y : List ℕ). Sorts y ks) (noted.noted p).0 s) in
        subst (λ (c : Checked). Wrote (read_attested tasks stored lent c) outcome out) (sym (h.whole e))
        (subst (λ (qs : List Release). Wrote (listed_if tasks stored lent qs) outcome out) (ap releases_in same ∙ is) w)

-- the numbers in their order, put back where they stood
module _ (count : ℕ) (front ks rest : List ℕ) (s : Sorts (take count front) ks) (l : count ≤ length front) where
  as_many : length ks ≡ count
  as_many = s.permutes.same_length ∙ length-take-le count front l

  pub front_is : take count (ks ++ rest) ≡ ks
  front_is = take_at ks rest count as_many

  pub front_within : count ≤ length (ks ++ rest)
  front_within = omega (arith, as_many, length-append ks rest)

  pub front_length : count ≡ length (take count (ks ++ rest))
  front_length = sym (ap length front_is ∙ as_many)

-- ---- task entries that are refused

module _ (tasks stored lent : List ℕ) where
  pub not_opened : (r : Refusal) → opening tasks ≡ Err r → Wrote (reading tasks stored lent) (Err (RefusedInput r)) lent
  unfolding reading
  not_opened r e = rw e (record { outcome_is = refl; holds = refl })

  -- task entries that open
  pub opened : {outcome : Outcome} {out : List ℕ} → IsOk (opening tasks) → Wrote (read_attested tasks stored lent (attested stored)) outcome out → Wrote (reading tasks stored lent) outcome out
  unfolding reading
  opened {outcome} {out} e w = go (opening tasks) e
    where
      go : (r : Result State Refusal) → IsOk r → Wrote (read_opened tasks stored lent r) outcome out
      go (Ok d) e = w
      go (Err r) e = absurd (cc)

-- ---- acceptance, of what was read

pub accepted : (tasks stored lent : List ℕ) {outcome : Outcome} {after : List ℕ} → Wrote (reading tasks stored lent) outcome after → Accepts tasks stored lent outcome after
accepted tasks stored lent {outcome} {after} w =
    subst (λ (x : Outcome). Accepts tasks stored lent x after) (sym w.outcome_is)
    (subst (λ (x : List ℕ). Accepts tasks stored lent (reading tasks stored lent).outcome x) (sym w.holds) (accepts tasks stored lent))
