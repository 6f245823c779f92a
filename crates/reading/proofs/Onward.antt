-- Pieces of a record one after the other: a whole entry stays what it is where bytes come behind it, and what is attested behind a place is attested of the
-- bytes from there on. Assumes nothing.
use mathlib.Core.Path.{◌≡◌, refl, sym, ap, ◌∙◌}
use mathlib.Core.Bool.{Bool, true, false, ◌&&◌, cond}
use mathlib.Core.List.{List, [], ◌∷◌, ◌++◌, append-nil, append_assoc}
use Prim.Native.Nat.{ℕ, zero, suc, ◌+◌, ◌-◌, ◌≤◌, ◌<◌}
use native.Mathlib.Nat.{add_assoc, add-zero, zero-add, suc_inj}
use native.Mathlib.Omega.{arith}
use borrow.Author.Tests.{le-leb, leb-true, leb-false}
use lib.Dec.{eqb, leb}
use lib.ListN.{length, take, drop, length-append, take-append-drop, length-drop}
use lib.Seq.{take-append_seam, length-take-le}
use Rattle.words.specs.Words.{number_at}
use Rattle.sets.proofs.Laws.{by-test}
use Rattle.entries.specs.Entries.{job_at, interval_at, release_at, record_entry_at, record_entry_size}
use Rattle.entries.proofs.Front.{number_in_front}
use Rattle.entries.proofs.Places.{entry_behind, entry_within}
use Rattle.run.specs.Files.{Checked, Rejected, Releases, with_release}
use Rattle.rules.specs.State.{State}
use Rattle.rules.specs.Calls.{opening}
use Rattle.reading.specs.Types.{Release, Refusal, Alone, AtEntry, Result, Ok, Err, RecordEntry, JobDone, IntervalEnded, ReleaseSkipped}
use Rattle.reading.specs.Attested.{attested, attested_by, attested_from, release_of}
use Rattle.reading.specs.Reading.{same_bytes, read_attested, read_opened, reading}
use Rattle.reading.specs.Pieces.{Front, front_by, front_from, front, Going, at_start, go_on, gone, joined, behind, at_end, TellInPieces, opened_in_pieces, ReadInPieces, SameInPieces}
use Rattle.reading.proofs.Noting.{attested_none, attested_one}
use Rattle.entries.specs.declared.Unreadable.{Unreadable}
use Rattle.entries.specs.declared.Unreadable.TheVariants.{CutShort, OtherKind}

-- ---- Bytes that come behind

module _ (a b : List ℕ) (at : ℕ) where
  number_on : (w k : ℕ) → at + k + w ≤ length a → number_at w (a ++ b) (at + k) ≡ number_at w a (at + k)
  number_on w k l =
      sym (number_in_front (a ++ b) (length a) (omega (arith, length-append a b)) w (at + k) l)
      ∙ ap (λ (s : List ℕ). number_at w s (at + k)) (take-append_seam a b)

  kind_on : at < length a → number_at 1 (a ++ b) at ≡ number_at 1 a at
  kind_on l =
      sym (number_in_front (a ++ b) (length a) (omega (arith, length-append a b)) 1 at (omega arith))
      ∙ ap (λ (s : List ℕ). number_at 1 s at) (take-append_seam a b)

  room_on : (n : ℕ) → n ≤ length a - at → leb n (length (a ++ b) - at) ≡ true
  room_on n l = le-leb n (length (a ++ b) - at) (omega (arith, length-append a b))

  job_on : at + 27 ≤ length a → job_at (a ++ b) at ≡ job_at a at
  unfolding job_at
  job_on l = rw (number_on 1 1 (omega arith), number_on 8 2 (omega arith), number_on 8 10 (omega arith), number_on 8 18 (omega arith), number_on 1 26 (omega arith))

  interval_on : at + 24 ≤ length a → interval_at (a ++ b) at ≡ interval_at a at
  unfolding interval_at
  interval_on l =
      rw (
        number_on 8 1 (omega arith),
        number_on 8 9 (omega arith),
        number_on 1 17 (omega arith),
        number_on 1 18 (omega arith),
        number_on 1 19 (omega arith),
        number_on 1 20 (omega arith),
        number_on 1 21 (omega arith),
        number_on 1 22 (omega arith),
        number_on 1 23 (omega arith),
      )

  release_on : at + 10 ≤ length a → release_at (a ++ b) at ≡ release_at a at
  unfolding release_at
  release_on l = rw (number_on 1 1 (omega arith), number_on 8 2 (omega arith))

  -- one that is whole is the same
  pub entry_on : 0 < record_entry_size (record_entry_at a at) → record_entry_at (a ++ b) at ≡ record_entry_at a at
  unfolding record_entry_at
  entry_on h =
      by-test (eqb kind 16)
      (λ e. by-test (leb 27 left)
      (λ f. let l = leb-true 27 left f in rw (kind_on (omega arith), e, f, room_on 27 l, job_on (omega arith)))
      (λ f. none CutShort (rw (e, f))))
      (λ e. by-test (eqb kind 17)
      (λ e2. by-test (leb 24 left)
      (λ f. let l = leb-true 24 left f in rw (kind_on (omega arith), e, e2, f, room_on 24 l, interval_on (omega arith)))
      (λ f. none CutShort (rw (e, e2, f))))
      (λ e2. by-test (eqb kind 18)
      (λ e3. by-test (leb 10 left)
      (λ f. let l = leb-true 10 left f in rw (kind_on (omega arith), e, e2, e3, f, room_on 10 l, release_on (omega arith)))
      (λ f. none CutShort (rw (e, e2, e3, f))))
      (λ e3. none OtherKind (rw (e, e2, e3)))))
    where
      kind : ℕ
      kind = number_at 1 a at

      left : ℕ
      left = length a - at

      none : (n : Unreadable) → record_entry_at a at ≡ Err n → record_entry_at (a ++ b) at ≡ record_entry_at a at
      none n e = absurd (omega (arith, h, ap record_entry_size e))

-- ---- What is attested from a place on

-- behind an entry that is refused nothing counts
by_alike : (e : Result RecordEntry Unreadable) (at : ℕ) (c d : Checked) → (0 < record_entry_size e → c ≡ d) → attested_by e at c ≡ attested_by e at d
unfolding attested_by
by_alike (Err n) at c d h = refl
by_alike (Ok (JobDone x)) at c d h = ap (with_release (release_of x)) (h (omega arith))
by_alike (Ok (IntervalEnded x)) at c d h = h (omega arith)
by_alike (Ok (ReleaseSkipped r)) at c d h = ap (with_release r) (h (omega arith))

-- a longer count tells the same
attested_fuel : (k j : ℕ) (s : List ℕ) (at : ℕ) → length s - at ≤ k → length s - at ≤ j → attested_from k s at ≡ attested_from j s at
attested_fuel zero j s at l m = attested_none zero s at (omega arith) ∙ sym (attested_none j s at (omega arith))
attested_fuel (suc k) zero s at l m = attested_none (suc k) s at (omega arith) ∙ sym (attested_none zero s at (omega arith))
attested_fuel (suc k) (suc j) s at l m =
    by-test (leb (length s) at)
    (λ e. attested_none (suc k) s at (leb-true (length s) at e) ∙ sym (attested_none (suc j) s at (leb-true (length s) at e)))
    (λ e.
    let n : at < length s = leb-false (length s) at e in
    attested_one k s at n
    ∙ by_alike (record_entry_at s at) at _ _ (λ p. attested_fuel k j s (at + record_entry_size (record_entry_at s at)) (omega arith) (omega arith))
    ∙ sym (attested_one j s at n))

with_behind : (r : Release) (rs : List Release) (n : ℕ) (c : Checked) → with_release r (behind rs n c) ≡ behind (r ∷ rs) n c
unfolding with_release
with_behind r rs n (Rejected x) = refl
with_behind r rs n (Releases qs) = refl

behind_with : (r : Release) (n : ℕ) (c : Checked) → with_release r (behind [] n c) ≡ behind [] n (with_release r c)
unfolding with_release
behind_with r n (Rejected x) = refl
behind_with r n (Releases qs) = refl

by_moved : (e : Result RecordEntry Unreadable) (n at : ℕ) (c : Checked) → attested_by e (n + at) (behind [] n c) ≡ behind [] n (attested_by e at c)
unfolding attested_by
by_moved (Err x) n at c = refl
by_moved (Ok (JobDone x)) n at c = behind_with (release_of x) n c
by_moved (Ok (IntervalEnded x)) n at c = refl
by_moved (Ok (ReleaseSkipped r)) n at c = behind_with r n c

-- bytes in front move the places
attested_moved : (k : ℕ) (f s : List ℕ) (at : ℕ) → attested_from k (f ++ s) (length f + at) ≡ behind [] (length f) (attested_from k s at)
attested_moved zero f s at = unfold attested_from in refl
attested_moved (suc k) f s at =
    by-test (leb (length s) at)
    (λ e. attested_none (suc k) (f ++ s) (length f + at) (omega (arith, leb-true (length s) at e, length-append f s))
    ∙ ap (behind [] (length f)) (sym (attested_none (suc k) s at (leb-true (length s) at e))))
    (λ e.
    let l : at < length s = leb-false (length s) at e in
    let x : Result RecordEntry Unreadable = record_entry_at s at in
    attested_one k (f ++ s) (length f + at) (omega (arith, length-append f s))
    ∙ ap (λ (y : Result RecordEntry Unreadable). attested_by y (length f + at) (attested_from k (f ++ s) (length f + at + record_entry_size y))) (entry_behind f s at)
    ∙ ap (λ (p : ℕ). attested_by x (length f + at) (attested_from k (f ++ s) p)) (add_assoc (length f) at (record_entry_size x))
    ∙ ap (attested_by x (length f + at)) (attested_moved k f s (at + record_entry_size x))
    ∙ by_moved x (length f) at (attested_from k s (at + record_entry_size x))
    ∙ ap (behind [] (length f)) (sym (attested_one k s at l)))

-- from a place on, what the bytes from there on tell
from_rest : (k : ℕ) (a b : List ℕ) (at : ℕ) → at ≤ length a → length (a ++ b) - at ≤ k → attested_from k (a ++ b) at ≡ behind [] at (attested (drop at a ++ b))
from_rest k a b at l m =
    let n : length (take at a) ≡ at = length-take-le at a l in
    let rest : List ℕ = drop at a ++ b in
    let whole : take at a ++ rest ≡ a ++ b = sym (append_assoc (take at a) (drop at a) b) ∙ ap (λ (s : List ℕ). s ++ b) (take-append-drop at a) in
    sym (ap (λ (s : List ℕ). attested_from k s (length (take at a) + 0)) whole ∙ ap (attested_from k (a ++ b)) (add-zero (length (take at a)) ∙ n))
    ∙ attested_moved k (take at a) rest 0
    ∙ ap (λ (p : ℕ). behind [] p (attested_from k rest 0)) n
    ∙ ap (behind [] at) (attested_fuel k (length rest) rest 0 (omega (arith, length-append (drop at a) b, length-drop at a, length-append a b)) (omega arith))

-- a whole entry of a piece, and what is attested behind it
one : (k : ℕ) (a b : List ℕ) (at : ℕ) (e : Result RecordEntry Unreadable) (c : Checked) → record_entry_at a at ≡ e → 0 < record_entry_size e → length (a ++ b) - at ≤ k
    → (at + record_entry_size e ≤ length a → (j : ℕ) → length (a ++ b) - (at + record_entry_size e) ≤ j → attested_from j (a ++ b) (at + record_entry_size e) ≡ c)
    → attested_from k (a ++ b) at ≡ attested_by e at c
one zero a b at e c is p m h = absurd (omega (arith, entry_within a at, ap record_entry_size is, length-append a b))
one (suc k) a b at e c is p m h =
    let within : at + record_entry_size e ≤ length a = omega (arith, entry_within a at, ap record_entry_size is) in
    attested_one k (a ++ b) at (omega (arith, within, length-append a b))
    ∙ ap (λ (x : Result RecordEntry Unreadable). attested_by x at (attested_from k (a ++ b) (at + record_entry_size x))) (entry_on a b at (omega (arith, p, ap record_entry_size is)) ∙ is)
    ∙ ap (attested_by e at) (h within k (omega arith))

-- behind a front, what the rest of the piece tells with the bytes that come
abbrev Goes : ℕ → List ℕ → List ℕ → ℕ → Front → Type 0
Goes k a b at f = attested_from k (a ++ b) at ≡ behind f.releases f.end (attested (drop f.end a ++ b))

by_front : (k : ℕ) (a b : List ℕ) (at : ℕ) (f : ℕ → Front) (e : Result RecordEntry Unreadable) → record_entry_at a at ≡ e → at ≤ length a → length (a ++ b) - at ≤ k
    → ((n : ℕ) → at + n ≤ length a → (j : ℕ) → length (a ++ b) - (at + n) ≤ j → Goes j a b (at + n) (f (at + n)))
    → Goes k a b at (front_by e at (f (at + record_entry_size e)))
unfolding front_by attested_by
by_front k a b at f (Err n) is l m h = from_rest k a b at l m
by_front k a b at f (Ok (JobDone x)) is l m h =
    let g : Front = f (at + 27) in
    let c : Checked = attested (drop g.end a ++ b) in
    one k a b at (Ok (JobDone x)) (behind g.releases g.end c) is (omega arith) m (h 27) ∙ with_behind (release_of x) g.releases g.end c
by_front k a b at f (Ok (IntervalEnded x)) is l m h =
    let g : Front = f (at + 24) in
    one k a b at (Ok (IntervalEnded x)) (behind g.releases g.end (attested (drop g.end a ++ b))) is (omega arith) m (h 24)
by_front k a b at f (Ok (ReleaseSkipped r)) is l m h =
    let g : Front = f (at + 10) in
    let c : Checked = attested (drop g.end a ++ b) in
    one k a b at (Ok (ReleaseSkipped r)) (behind g.releases g.end c) is (omega arith) m (h 10) ∙ with_behind r g.releases g.end c

onward : (j k : ℕ) (a b : List ℕ) (at : ℕ) → at ≤ length a → length (a ++ b) - at ≤ k → Goes k a b at (front_from j a at)
unfolding front_from
onward zero k a b at l m = from_rest k a b at l m
onward (suc j) k a b at l m = by_front k a b at (front_from j a) (record_entry_at a at) refl l m (λ n w i x. onward j i a b (at + n) w x)

pub attested_onward : (a b : List ℕ) → attested (a ++ b) ≡ behind (front a).releases (front a).end (attested (drop (front a).end a ++ b))
attested_onward a b = onward (length a) (length (a ++ b)) a b 0 (omega arith) (omega arith)

-- ---- Piece by piece

behind_both : (rs qs : List Release) (n m : ℕ) (c : Checked) → behind rs n (behind qs m c) ≡ behind (rs ++ qs) (n + m) c
behind_both rs qs n m (Rejected (Alone x)) = refl
behind_both rs qs n m (Rejected (AtEntry x at)) = ap (λ (p : ℕ). Rejected (AtEntry x p)) (sym (add_assoc n m at))
behind_both rs qs n m (Releases ps) = ap Releases (sym (append_assoc rs qs ps))

behind_none : (c : Checked) → behind [] 0 c ≡ c
behind_none (Rejected (Alone x)) = refl
behind_none (Rejected (AtEntry x at)) = ap (λ (p : ℕ). Rejected (AtEntry x p)) (zero-add at)
behind_none (Releases qs) = refl

all_attested : (g : Going) (ps : List (List ℕ)) → at_end (gone g ps) ≡ behind g.releases g.place (attested (g.carried ++ joined ps))
unfolding gone joined
all_attested g [] = ap (λ (s : List ℕ). behind g.releases g.place (attested s)) (sym (append-nil g.carried))
all_attested g (p ∷ ps) =
    let s : List ℕ = g.carried ++ p in
    all_attested (go_on g p) ps
    ∙ sym (behind_both g.releases (front s).releases g.place (front s).end (attested (drop (front s).end s ++ joined ps)))
    ∙ ap (behind g.releases g.place) (sym (attested_onward s (joined ps)) ∙ ap attested (append_assoc g.carried p (joined ps)))

pub tell_in_pieces : TellInPieces
unfolding TellInPieces
tell_in_pieces pieces = all_attested at_start pieces ∙ behind_none (attested (joined pieces))

pub read_in_pieces : ReadInPieces
unfolding ReadInPieces TellInPieces reading
read_in_pieces tasks pieces lent = go (opening tasks)
  where
    go : (r : Result State Refusal) → opened_in_pieces tasks pieces lent r ≡ read_opened tasks (joined pieces) lent r
    go (Ok d) = ap (read_attested tasks (joined pieces) lent) (tell_in_pieces pieces)
    go (Err r) = refl

pub same_in_pieces : SameInPieces
unfolding SameInPieces same_bytes
same_in_pieces [] [] rest others e = refl
same_in_pieces [] (y ∷ b) rest others e = absurd (omega (arith, e))
same_in_pieces (x ∷ a) [] rest others e = absurd (omega (arith, e))
same_in_pieces (x ∷ a) (y ∷ b) rest others e = go (eqb x y) (same_in_pieces a b rest others (suc_inj e))
  where
    go : (t : Bool) → same_bytes (a ++ rest) (b ++ others) ≡ (same_bytes a b && same_bytes rest others) → cond t (same_bytes (a ++ rest) (b ++ others)) false ≡ (cond t (same_bytes a b) false && same_bytes rest others)
    go true h = h
    go false h = refl
