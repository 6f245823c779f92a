-- Release entries laid one behind the other for numbers, and the input that they make behind the task entries. Assumes nothing.
use mathlib.Core.Path.{◌≡◌, refl, sym, ap, ap₂, ◌∙◌, subst}
use mathlib.Core.List.{List, [], ◌∷◌, ◌++◌, append_assoc, append-nil}
use Prim.Native.Nat.{ℕ, suc, ◌+◌, ◌-◌, ◌*◌, ◌≤◌, ◌<◌}
use mathlib.Core.Bool.{Bool, true, false, cond}
use native.Mathlib.Nat.{zero-add}
use native.Mathlib.Numerals.{add-one}
use native.Mathlib.Omega.{arith}
use borrow.Author.Tests.{le-leb, lt-leb, leb-true}
use lib.Dec.{leb}
use lib.ListN.{length, take, drop, get_or, length-append, length-drop, drop_of_length-le}
use lib.Seq.{length-take-le, take-suc, take_all, take_at, drop_at, drop-drop}
use Rattle.words.specs.Words.{bytes_of}
use Rattle.words.proofs.Laws.{rest_whole}
use Rattle.entries.specs.Entries.{release_bytes, laid, Put}
use Rattle.run.proofs.Slices.{put_rest, put_length, laid_none, laid_both}
use Rattle.run.specs.Putting.{put_at}
use Rattle.reading.specs.Types.{Release}
use Rattle.reading.specs.Reading.{list_bytes, input_of}
use Rattle.reading.specs.Parts.{release_in, releases_in}

pub release_size : (r : Release) → length (release_bytes r) ≡ 10
unfolding release_bytes bytes_of
release_size r = refl

pub list_length : (rs : List Release) → length (list_bytes rs) ≡ 10 * length rs
unfolding list_bytes
list_length [] = refl
list_length (r ∷ rs) = omega (arith, length-append (release_bytes r) (list_bytes rs), release_size r, list_length rs)

pub releases_length : (ks : List ℕ) → length (releases_in ks) ≡ length ks
unfolding releases_in
releases_length [] = refl
releases_length (k ∷ ks) = ap suc (releases_length ks)

pub input_length : (tasks ks : List ℕ) → length (input_of tasks (releases_in ks)) ≡ length tasks + 10 * length ks
input_length tasks ks = length-append tasks (list_bytes (releases_in ks)) ∙ ap (λ (n : ℕ). length tasks + n) (list_length (releases_in ks) ∙ ap (λ (n : ℕ). 10 * n) (releases_length ks))

-- the entries of one number more
laid_more : (ks : List ℕ) (k : ℕ) → list_bytes (releases_in (ks ++ (k ∷ []))) ≡ list_bytes (releases_in ks) ++ release_bytes (release_in k)
unfolding list_bytes releases_in
laid_more [] k = append-nil (release_bytes (release_in k))
laid_more (x ∷ xs) k =
    ap (λ (l : List ℕ). release_bytes (release_in x) ++ l) (laid_more xs k)
    ∙ sym (append_assoc (release_bytes (release_in x)) (list_bytes (releases_in xs)) (release_bytes (release_in k)))

-- how far the entries are laid
pub record Laying (keys before : List ℕ) (i at : ℕ) (out : List ℕ) : Type 0 where
  pub within : i ≤ length keys
  pub place : at ≡ 10 * i
  pub same : length out ≡ length before
  pub holds : out ≡ laid 0 (list_bytes (releases_in (take i keys))) before

pub begins : (keys before : List ℕ) → Laying keys before 0 0 before
unfolding list_bytes releases_in
begins keys before = record { within = omega arith; place = refl; same = refl; holds = sym (laid_none 0 before) }

module _ {keys before : List ℕ} {i at : ℕ} {out : List ℕ} (h : Laying keys before i at out) (room : 10 * length keys ≤ length before) where
  module _ (l : i < length keys) (size : ℕ) (t : List ℕ)
      (put : Put (release_bytes (release_in (get_or keys i 0))) (take (length out - at) (drop at out)) size t) where
    abbrev e : List ℕ
    e = release_bytes (release_in (get_or keys i 0))

    fits : at + length (release_bytes (release_in (get_or keys i 0))) ≤ length out
    fits = omega (arith, h.place, h.same, release_size (release_in (get_or keys i 0)))

    pub size_is : size ≡ 10
    size_is =
        put.length_is ∙ rw (rest_whole at out, le-leb (length e) (length (drop at out)) (omega (arith, fits, length-drop at out))) (release_size (release_in (get_or keys i 0)))

    pub goes_on : Laying keys before (i + 1) (at + size) (take at out ++ (t ++ drop (length out - at) (drop at out)))
    goes_on =
        let is : take at out ++ (t ++ drop (length out - at) (drop at out)) ≡ put_at at e out = put_rest e at out size t (omega (arith, fits)) put in
        let ks : List ℕ = take i keys in
        let place : at ≡ 0 + length (list_bytes (releases_in ks)) =
        omega (arith, h.place, list_length (releases_in ks), releases_length ks, length-take-le i keys (omega arith)) in
        record {
          within = omega arith;
          place = omega (arith, h.place, size_is);
          same = ap length is ∙ put_length at e out ∙ h.same;
          holds = is ∙ rw (le-leb (at + length e) (length out) fits)
              (ap₂ (λ (n : ℕ) (s : List ℕ). laid n e s) place h.holds
              ∙ laid_both 0 (list_bytes (releases_in ks)) e before (omega arith)
              ∙ ap (λ (x : List ℕ). laid 0 x before) (sym (ap (λ (n : ℕ). list_bytes (releases_in (take n keys))) (add-one i)
              ∙ ap (λ (x : List ℕ). list_bytes (releases_in x)) (take-suc keys i 0 l) ∙ laid_more ks (get_or keys i 0))));
        }

  pub ends : length keys ≤ i → out ≡ laid 0 (list_bytes (releases_in keys)) before
  ends l = h.holds ∙ ap (λ (x : List ℕ). laid 0 (list_bytes (releases_in x)) before) (take_all i keys l)

-- ---- behind the task entries

-- there is no room
pub no_room : (bytes before : List ℕ) → length before < length bytes → Put bytes before 0 before
no_room bytes before l = record { length_is = rw (lt-leb (length bytes) (length before) l); holds = rw (lt-leb (length bytes) (length before) l) }

pub put_within : {bytes before after : List ℕ} {size : ℕ} → Put bytes before size after → size ≤ length before
put_within {bytes} {before} {after} {size} put = go (leb (length bytes) (length before)) refl put.length_is
  where
    go : (b : Bool) → leb (length bytes) (length before) ≡ b → size ≡ cond b (length bytes) 0 → size ≤ length before
    go true e f = omega (arith, f, leb-true (length bytes) (length before) e)
    go false e f = omega (arith, f)

module _ (tasks keys before : List ℕ) (room : length tasks + 10 * length keys ≤ length before) where
  abbrev list : List ℕ
  list = list_bytes (releases_in keys)

  abbrev input : List ℕ
  input = input_of tasks (releases_in keys)

  enough : leb (length (input_of tasks (releases_in keys))) (length before) ≡ true
  enough = le-leb (length input) (length before) (omega (arith, input_length tasks keys))

  rebuilt : (mid t : List ℕ) → mid ≡ tasks ++ drop (length tasks) before
      → t ≡ laid 0 (list_bytes (releases_in keys)) (take (length mid - length tasks) (drop (length tasks) mid))
      → Put (input_of tasks (releases_in keys)) before (length tasks + 10 * length keys) (take (length tasks) mid ++ (t ++ drop (length mid - length tasks) (drop (length tasks) mid)))
  rebuilt mid t m e =
      let n : ℕ = length tasks in
      let front : mid ≡ tasks ++ drop n before = m in
      let behind : drop n mid ≡ drop n before = ap (drop n) front ∙ drop_at tasks (drop n before) n refl in
      let none : drop (length mid - n) (drop n mid) ≡ [] = drop_of_length-le (drop n mid) {i = length mid - n} (omega (arith, length-drop n mid)) in
      let laid-list : t ≡ list ++ drop (length list) (drop n before) =
      e ∙ ap (laid 0 list) (rest_whole n mid ∙ behind) ∙ ap (λ (k : ℕ). list ++ drop k (drop n before)) (zero-add (length list)) in
      record {
        length_is = rw enough (sym (input_length tasks keys));
        holds = rw enough
            (ap (λ (y : List ℕ). y ++ (t ++ drop (length mid - n) (drop n mid))) (ap (take n) front ∙ take_at tasks (drop n before) n refl)
            ∙ ap (λ (y : List ℕ). tasks ++ (t ++ y)) none ∙ ap (λ (y : List ℕ). tasks ++ y) (append-nil t ∙ laid-list)
            ∙ sym (append_assoc tasks list (drop (length list) (drop n before)))
            ∙ ap (λ (y : List ℕ). input ++ y) (drop-drop (length list) n before ∙ ap (λ (k : ℕ). drop k before) (sym (length-append tasks list))));
      }

  -- the place behind the task entries, as it was answered
  pub rebuilt_from : (from : ℕ) → from ≡ length tasks → (mid t : List ℕ) → mid ≡ tasks ++ drop (length tasks) before
      → t ≡ laid 0 (list_bytes (releases_in keys)) (take (length mid - from) (drop from mid))
      → Put (input_of tasks (releases_in keys)) before (from + 10 * length keys) (take from mid ++ (t ++ drop (length mid - from) (drop from mid)))
  rebuilt_from from e mid t m x =
      subst (λ (n : ℕ). Put (input_of tasks (releases_in keys)) before (n + 10 * length keys) (take n mid ++ (t ++ drop (length mid - n) (drop n mid)))) (sym e)
      (rebuilt mid t m (subst (λ (n : ℕ). t ≡ laid 0 (list_bytes (releases_in keys)) (take (length mid - n) (drop n mid))) e x))

-- an input in the front of a slice
pub record Rebuilt (tasks keys before : List ℕ) (size : ℕ) (after : List ℕ) : Type 0 where
  pub same_length : length after ≡ length before
  pub size_is : size ≡ length (input_of tasks (releases_in keys))
  pub holds : take size after ≡ input_of tasks (releases_in keys)

pub in_room : (tasks keys before : List ℕ) → length tasks + 10 * length keys ≤ length before → {size : ℕ} {after : List ℕ}
    → Put (input_of tasks (releases_in keys)) before size after → Rebuilt tasks keys before size after
in_room tasks keys before room {size} {after} put =
    let all : List ℕ = input_of tasks (releases_in keys) in
    let is : size ≡ length all = put.length_is ∙ rw (enough tasks keys before room) in
    let has : after ≡ all ++ drop (length all) before = put.holds ∙ rw (enough tasks keys before room) in
    record {
      same_length = ap length has ∙ omega (arith, length-append all (drop (length all) before), length-drop (length all) before, input_length tasks keys);
      size_is = is;
      holds = ap₂ take is has ∙ take_at all (drop (length all) before) (length all) refl;
    }
