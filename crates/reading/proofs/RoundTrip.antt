-- What was written for an input that is accepted is read back as exactly its release entries. Assumes nothing.
use Rattle.std.proofs.Common.{◌∷◌, ◌++◌, ◌+◌}
use mathlib.Core.Path.{◌≡◌, refl, sym, ap, ap₂, ◌∙◌}
use Prim.Native.Nat.{◌-◌, ◌/◌, ◌%◌, ◌≤◌, ◌<◌}
use native.Mathlib.Nat.{add-zero}
use native.Mathlib.Numerals.{add-one}
use native.Mathlib.Omega.{arith}
use borrow.Author.Tests.{leb-true, leb-false}
use lib.Dec.{leb}
use lib.ListN.{length, take, drop, get_or, take-append-drop, drop_of_length-le}
use lib.Seq.{take_at, drop-cons}
use Rattle.sets.proofs.Laws.{by-test}
use Rattle.words.specs.Words.{bytes_of, number_at}
use Rattle.words.proofs.Laws.{one_byte, first_byte}
use Rattle.entries.specs.Entries.{entry_at, release_at, release_bytes}
use Rattle.table.specs.Head.{head_read, head_of}
use Rattle.run.specs.Files.{Checked, Rejected, Releases, refusal_of, release_refusal, releases_from, releases_of}
use Rattle.run.specs.Run.{record_bytes, moments_of}
use Rattle.run.proofs.Checking
use Rattle.record.specs.Types.{Option, None, Some, Entry, TaskEntry, ReleaseEntry, SpacingEntry}
use Rattle.record.specs.Writing.{written, written_of, file}
use Rattle.record.proofs.Accepted.{Accepted, accepted, with_first}
use Rattle.record.proofs.Outcomes.{entry_release}
use Rattle.record.proofs.TasksAlone.{opens}
use Rattle.reading.specs.Types.{List, [], ℕ, zero, suc, Release, Ok, Outcome}
use Rattle.reading.specs.Reading.{list_bytes, input_of, reading}
use Rattle.reading.specs.Acceptance.{Yields, AllBytes, RoundTrip}
use Rattle.reading.proofs.Noting.{same_releases}
use Rattle.reading.proofs.Acceptance.{reads}
use Rattle.std.specs.Prelude.{Result, Err}
use Rattle.entries.specs.declared.Unreadable.{Unreadable}

module _ (s : List ℕ) (bytes : AllBytes s) where
  -- a byte in front of those behind it
  byte_back : (x at : ℕ) → number_at 1 s at ≡ x → at < length s → x ∷ drop (at + 1) s ≡ drop at s
  byte_back x at e l = ap₂ (λ (y n : ℕ). y ∷ drop n s) (sym e ∙ one_byte s at) (add-one at) ∙ sym (drop-cons s at 0 l)

  -- the bytes of a number that was read are those that it was read from
  bytes_back : (w at : ℕ) → at + w ≤ length s → bytes_of w (number_at w s at) ++ drop (at + w) s ≡ drop at s
  unfolding bytes_of
  bytes_back zero at l = ap (λ (n : ℕ). drop n s) (add-zero at)
  bytes_back (suc w) at l =
      let v : ℕ = number_at (suc w) s at in
      let low : v % 256 ≡ get_or s at 0 = omega (arith, first_byte w s at, bytes at) in
      let high : v / 256 ≡ number_at w s (at + 1) = omega (arith, first_byte w s at, bytes at) in
      let next : at + suc w ≡ at + 1 + w = omega arith in
      rw (low, high, next)
      (ap (λ (l : List ℕ). get_or s at 0 ∷ l) (bytes_back w (at + 1) (omega arith)) ∙ byte_back (get_or s at 0) at (one_byte s at) (omega arith))

  -- and so are those of a release
  release_back : (at : ℕ) (r : Release) → entry_at s at ≡ Ok (ReleaseEntry r) → release_bytes r ++ drop (at + 10) s ≡ drop at s
  unfolding release_bytes release_at
  release_back at r e =
      let whole : 10 ≤ length s - at = Checking.release_whole s at r e in
      let kind : number_at 1 s at ≡ 2 = (entry_release s at r e).0 in
      let n : ℕ = number_at 1 s (at + 1) in
      let rest : bytes_of 8 (number_at 8 s (at + 2)) ++ drop (at + 10) s ≡ drop (at + 2) s =
      ap (λ (k : ℕ). bytes_of 8 (number_at 8 s (at + 2)) ++ drop k s) (ten at) ∙ bytes_back 8 (at + 2) (omega arith) in
      ap (λ (q : Release). release_bytes q ++ drop (at + 10) s) (entry_release s at r e).1
      ∙ ap (λ (l : List ℕ). 2 ∷ n ∷ l) rest
      ∙ ap (λ (l : List ℕ). 2 ∷ l) (ap (λ (k : ℕ). n ∷ drop k s) (two at) ∙ byte_back n (at + 1) refl (omega arith)) ∙ byte_back 2 at kind (omega arith)
    where
      two : (at : ℕ) → at + 2 ≡ at + 1 + 1
      two at = omega arith

      ten : (at : ℕ) → at + 10 ≡ at + 2 + 8
      ten at = omega arith

  none_left : (at : ℕ) (rs : List Release) → length s ≤ at → Releases rs ≡ Releases [] → list_bytes rs ≡ drop at s
  none_left at rs l e = ap list_bytes (same_releases rs [] e) ∙ (unfold list_bytes in sym (drop_of_length-le s l))

  -- the entries of releases that were read are the bytes that they were read from
  list_back : (k at present : ℕ) (last : Option Release) (count : ℕ) (rs : List Release) → length s - at ≤ k → releases_from k s at present last count ≡ Releases rs
      → list_bytes rs ≡ drop at s
  unfolding list_bytes
  list_back zero at present last count rs l h = none_left at rs (omega arith) (sym h ∙ (unfold releases_from in refl))
  list_back (suc k) at present last count rs l h =
      by-test (leb (length s) at)
      (λ b. none_left at rs (leb-true (length s) at b) (sym h ∙ (unfold releases_from in rw (b, releases_from))))
      (λ b. go (leb-false (length s) at b) (entry_at s at) refl (λ r qs e. list_back k (at + 10) present (Some r) (count + 1) qs (omega (arith, leb-false (length s) at b)) e))
    where
      More : Type 0
      More = (r : Release) (qs : List Release) → releases_from k s (at + 10) present (Some r) (count + 1) ≡ Releases qs → list_bytes qs ≡ drop (at + 10) s

      go_release : at < length s → (r : Release) (n : ℕ) → entry_at s at ≡ Ok (ReleaseEntry r) → release_refusal present last count r ≡ n → More → list_bytes rs ≡ drop at s
      go_release m r zero e f more =
          let c : Checked = releases_from k s (at + 10) present (Some r) (count + 1) in
          let w = with_first r c rs (sym (Checking.takes s at present last count k m r e f) ∙ h) in
          ap list_bytes w.2 ∙ ap (λ (l : List ℕ). release_bytes r ++ l) (more r w.0 w.1) ∙ release_back at r e
      go_release m r (suc n) e f more = absurd (let q = sym (Checking.refuses s at present last count k m r (suc n) e f (omega arith)) ∙ ap refusal_of h in cc)

      go : at < length s → (i : Result Entry Unreadable) → entry_at s at ≡ i → More → list_bytes rs ≡ drop at s
      go m (Err n) e more = absurd (let q = sym (Checking.malformed s at present last count k m n e) ∙ ap refusal_of h in cc)
      go m (Ok (TaskEntry p)) e more = absurd (let q = sym (Checking.task_late s at present last count k m p e) ∙ ap refusal_of h in cc)
      go m (Ok (SpacingEntry p)) e more = absurd (let q = sym (Checking.spacing_late s at present last count k m p e) ∙ ap refusal_of h in cc)
      go m (Ok (ReleaseEntry r)) e more = go_release m r (release_refusal present last count r) e refl more

-- what was written is the front of the slice
recorded : (bytes lent : List ℕ) (n : ℕ) → (written bytes lent).outcome ≡ Ok n → take n (written bytes lent).memory ≡ bytes
unfolding written
recorded bytes lent n h =
    by-test (leb (length bytes) (length lent))
    (λ b. rw b (take_at bytes (drop (length bytes) lent) n (recorded_is (length bytes) n (rw b at h))))
    (λ b. absurd (let z : ◌≡◌ {A = ℕ} 0 1 = cc (rw b at h) in omega arith))
  where
    recorded_is : (m n : ℕ) → ◌≡◌ {A = Outcome} (Ok m) (Ok n) → m ≡ n
    recorded_is m n e = cc

pub round_trip : RoundTrip
unfolding RoundTrip file
round_trip s out lent n bytes h = go (releases_of s) refl h
  where
    tasks : List ℕ
    tasks = take (head_read (head_of s)).end s

    go : (c : Checked) → releases_of s ≡ c → (written_of s out c).outcome ≡ Ok n
        → reading tasks (take n (written_of s out c).memory) lent ≡ written (drop (head_read (head_of s)).end s) lent
    go (Rejected r) e h = absurd (let z : ◌≡◌ {A = ℕ} 0 1 = cc in omega arith)
    go (Releases rs) e h =
        let a : Accepted s rs = accepted s rs e in
        let list : list_bytes rs ≡ drop (head_read (head_of s)).end s =
        list_back s bytes (length s) (head_read (head_of s)).end (head_read (head_of s)).table.present None 0 rs (omega arith) a.read in
        let whole : input_of tasks rs ≡ s = ap (λ (l : List ℕ). tasks ++ l) list ∙ take-append-drop (head_read (head_of s)).end s in
        let record_is : List ℕ = record_bytes (moments_of s rs) in
        let y : Yields tasks rs record_is = record {
          opens = rw (opens s rs a);
          admissible = ap releases_of whole ∙ e;
          its_record = ap (λ (x : List ℕ). record_bytes (moments_of x rs)) whole;
        } in
        ap (λ (x : List ℕ). reading tasks x lent) (recorded record_is out n h) ∙ reads tasks record_is lent rs y ∙ ap (λ (l : List ℕ). written l lent) list
