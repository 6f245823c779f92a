-- The input made of task entries that open a dispatcher and a list of releases: its head is theirs, and what is read behind it is the list.
-- Assumes nothing.
use Rattle.std.proofs.Common.{◌∷◌, ◌++◌, ◌+◌, Result, Ok, Err}
use Rattle.std.specs.Prelude.{IsOk}
use mathlib.Core.Path.{◌≡◌, refl, sym, ap, ap₂, ◌∙◌, subst}
use mathlib.Core.List.{append_assoc}
use mathlib.Core.Logic.{inr}
use Prim.Native.Nat.{zero, ◌-◌, ◌^◌, ◌≤◌, ◌<◌}
use native.Mathlib.Omega.{arith}
use borrow.Author.Tests.{eq-eqb, leb-true, leb-false}
use lib.Dec.{leb}
use lib.ListN.{length, take, length-append}
use lib.Seq.{length-take-le, take-append_seam, get_or-append_seam}
use Rattle.sets.proofs.Laws.{by-test}
use Rattle.words.specs.Words.{bytes_of, number_at}
use Rattle.words.proofs.Laws.{one_byte}
use Rattle.entries.specs.Entries.{entry_at, entry_size, release_bytes}
use Rattle.entries.specs.Limits as limits
use Rattle.entries.proofs.RoundTrip.{release_there}
use Rattle.table.specs.Head.{no_table, behind_head, entry_refusal, with_entry, marked_with, head_read, head_from, head_of, head_alone}
use Rattle.table.proofs.Laws.{behind_end, behind_release, is_whole, at_end, refuses, takes}
use Rattle.table.proofs.Front.{head_short, behind_in_front, alike}
use Rattle.table.proofs.Alone.{Whole, whole_head}
use Rattle.table.proofs.Alone as Alone
use Rattle.rules.specs.Calls.{opened_from, opening}
use Rattle.guarantees.specs.Types.{Table, Refusal, Head}
use Rattle.run.specs.Files.{Releases, refusal_of, releases_of}
use Rattle.run.specs.Listed.{releases_at}
use Rattle.run.proofs.Listing.{here, none}
use Rattle.record.specs.Types.{Entry, None}
use Rattle.record.proofs.Accepted.{Accepted, accepted}
use Rattle.record.proofs.Outcomes
use Rattle.record.proofs.TasksAlone.{unlike}
use Rattle.reading.specs.Types.{true, false, List, [], ℕ, suc, Release}
use Rattle.reading.specs.Reading.{list_bytes, input_of}
use Rattle.reading.specs.Parts.{ReadHead, Opened}
use Rattle.reading.proofs.RunAttested.{tally}
use Rattle.reading.proofs.Noting.{same_releases}
use Rattle.reading.proofs.Ordering.{first_none, past_time}
use Rattle.entries.specs.declared.Unreadable.{Unreadable}

-- ---- the task entries

-- what is known of task entries that open a dispatcher
pub opens : (tasks : List ℕ) → IsOk (opening tasks) → Whole tasks
unfolding opening
opens tasks h = go (head_alone tasks) refl h
  where
    go : (r : Result Head Refusal) → head_alone tasks ≡ r → IsOk (opened_from r) → Whole tasks
    go (Ok k) e h = Alone.accepted tasks k e
    go (Err r) e h = absurd (cc)

-- a head alone is refused as opening is
pub refusal_is : (tasks : List ℕ) (r : Refusal) → head_alone tasks ≡ Err r → opening tasks ≡ Err r
unfolding opening
refusal_is tasks r e = ap opened_from e

-- and where it is not, it is the head that the dispatcher opens from
pub opened_head : (tasks : List ℕ) (k : Head) → head_alone tasks ≡ Ok k → Opened tasks k
unfolding opening
opened_head tasks k e = record { opens = rw e; is = sym (whole_head tasks (Alone.accepted tasks k e)) ∙ e }

-- a head is no longer than the longest
pub opens_short : (tasks : List ℕ) → IsOk (opening tasks) → length tasks ≤ limits.longest_head
opens_short tasks h =
    let o : Whole tasks = opens tasks h in
    let same : (head_read (head_of tasks)).end ≡ o.head.end = ap (λ (x : Result Head Refusal). (head_read x).end) o.none_refused in
    omega (arith, head_short tasks, same, o.whole)

-- what is read from the bytes in front of an end or a release, up to there, is read from the whole
module _ (s : List ℕ) (e : ℕ) (inside : e ≤ length s) (behind : behind_head s e ≡ true) where
  -- nothing is left of them
  stop : (k j at : ℕ) (t : Table) (m : ℕ) (r : Result Head Refusal) → e ≡ at → head_from k (take e s) at t m ≡ r → head_from j s at t m ≡ r
  stop k j at t m r a x =
      at_end s at t m j (subst (λ (n : ℕ). behind_head s n ≡ true) a behind)
      ∙ sym (at_end (take e s) at t m k (behind_end (take e s) at (omega (arith, length-take-le e s inside)))) ∙ x

  tasks_on : (k j at : ℕ) (t : Table) (m : ℕ) (r : Head) → at ≤ e → e - at ≤ k → length s - at ≤ j → head_from k (take e s) at t m ≡ Ok r → r.end ≡ e
      → head_from j s at t m ≡ Ok r
  tasks_on zero j at t m r l f g x z = stop zero j at t m (Ok r) (omega arith) x
  tasks_on (suc k) zero at t m r l f g x z = stop (suc k) zero at t m (Ok r) (omega arith) x
  tasks_on (suc k) (suc j) at t m r l f g x z =
      by-test (leb e at)
      (λ b. stop (suc k) (suc j) at t m (Ok r) (omega (arith, leb-true e at b)) x)
      (λ b. go (leb-false e at b)
      (λ some w h. tasks_on k j (at + entry_size i) (with_entry t i) (marked_with m i) r w (omega arith) (omega arith) h z))
    where
      i : Result Entry Unreadable
      i = entry_at (take e s) at

      More : Type 0
      More = 0 < entry_size i → at + entry_size i ≤ e → head_from k (take e s) (at + entry_size i) (with_entry t i) (marked_with m i) ≡ Ok r
          → head_from j s (at + entry_size i) (with_entry t i) (marked_with m i) ≡ Ok r

      go_entry : behind_head (take e s) at ≡ false → behind_head s at ≡ false → (n : ℕ) → entry_refusal t i ≡ n → More → head_from (suc j) s at t m ≡ Ok r
      go_entry b c zero q more =
          let w = is_whole (take e s) at t i refl q in
          let room : at + entry_size i ≤ e = omega (arith, w.some, w.within, length-take-le e s inside) in
          takes s at t m j c i (sym (alike s e inside at i w.some room (inr refl))) q ∙ more w.some room (sym (takes (take e s) at t m k b i refl q) ∙ x)
      go_entry b c (suc n) q more = absurd (unlike r (suc n) at (sym (refuses (take e s) at t m k b i refl (suc n) q (omega arith)) ∙ x))

      go : at < e → More → head_from (suc j) s at t m ≡ Ok r
      go l more =
          let same : behind_head (take e s) at ≡ behind_head s at = behind_in_front s e inside at l in
          by-test (behind_head s at)
          (λ b. at_end s at t m (suc j) b ∙ sym (at_end (take e s) at t m (suc k) (same ∙ b)) ∙ x)
          (λ b. go_entry (same ∙ b) b (entry_refusal t i) refl more)

-- behind task entries a list's entries begin with a release
list_behind : (tasks : List ℕ) (rs : List Release) → behind_head (input_of tasks rs) (length tasks) ≡ true
unfolding list_bytes release_bytes
list_behind tasks [] = behind_end (tasks ++ []) (length tasks) (omega (arith, length-append tasks []))
list_behind tasks (r ∷ rs) =
    behind_release (input_of tasks (r ∷ rs)) (length tasks)
    (eq-eqb (number_at 1 (input_of tasks (r ∷ rs)) (length tasks)) 2
    (one_byte (input_of tasks (r ∷ rs)) (length tasks) ∙ get_or-append_seam tasks 2 (r.task ∷ (bytes_of 8 r.time ++ list_bytes rs)) 0))

pub same_head : (tasks : List ℕ) (rs : List Release) → IsOk (opening tasks) → head_of (input_of tasks rs) ≡ head_of tasks
unfolding head_of
same_head tasks rs h =
    let o : Whole tasks = opens tasks h in
    let s : List ℕ = input_of tasks rs in
    let front : take (length tasks) s ≡ tasks = take-append_seam tasks (list_bytes rs) in
    tasks_on s (length tasks) (omega (arith, length-append tasks (list_bytes rs))) (list_behind tasks rs) (length tasks) (length s) 0 no_table 0 o.head
    (omega arith) (omega arith) (omega arith) (ap (λ (x : List ℕ). head_from (length tasks) x 0 no_table 0) front ∙ o.none_refused) o.whole
    ∙ sym o.none_refused

-- ---- the list

-- a list's entries, read one by one
pub read_head : (tasks : List ℕ) (rs : List Release) (k : Head) → Opened tasks k → ReadHead (input_of tasks rs) k
read_head tasks rs k o = record {
  some = λ e. (opens tasks o.opens).some (omega (arith, e, length-append tasks (list_bytes rs)));
  is = same_head tasks rs o.opens ∙ o.is;
}

pub listed : (front : List ℕ) (rs : List Release) → tally past_time rs ≡ 0 → releases_at (front ++ list_bytes rs) (length front) ≡ rs
unfolding list_bytes
listed front [] h = none (front ++ []) (length front) (omega (arith, length-append front []))
listed front (r ∷ rs) h =
    let first = first_none past_time r rs h in
    let more : List ℕ = front ++ release_bytes r in
    let s : List ℕ = front ++ (release_bytes r ++ list_bytes rs) in
    let ten : length (release_bytes r) ≡ 10 = unfold release_bytes bytes_of in refl in
    here s (length front) (omega (arith, length-append front (release_bytes r ++ list_bytes rs), length-append (release_bytes r) (list_bytes rs)))
    ∙ ap₂ (λ (q : Release) (qs : List Release). q ∷ qs) (release_there r (leb-false (256 ^ 8) r.time first.0) front (list_bytes rs))
    (ap₂ releases_at (sym (append_assoc front (release_bytes r) (list_bytes rs))) (omega (arith, length-append front (release_bytes r))) ∙ listed more rs first.1)

-- the releases of an input that is accepted are those of the list that made it
pub reads_list : (tasks : List ℕ) (rs qs : List Release) → IsOk (opening tasks) → tally past_time rs ≡ 0 → releases_of (input_of tasks rs) ≡ Releases qs
    → qs ≡ rs
reads_list tasks rs qs h small e =
    let s : List ℕ = input_of tasks rs in
    let k : Head = head_read (head_of s) in
    let a : Accepted s qs = accepted s qs e in
    let end : k.end ≡ length tasks = ap (λ (x : Result Head Refusal). (head_read x).end) (same_head tasks rs h ∙ (opens tasks h).none_refused) ∙ (opens tasks h).whole in
    same_releases qs (releases_at s k.end)
    (sym a.read ∙ (Outcomes.accepted s k.table.present (length s) k.end None 0 (omega arith) (omega arith) (ap refusal_of a.read)).list)
    ∙ ap (releases_at s) end ∙ listed tasks rs small
