-- The writers' outcomes, and the releases of a file that is accepted as they stand in its bytes. Assumes nothing.
use mathlib.Core.Path.{◌≡◌, refl, sym, ap, ◌∙◌, subst}
use mathlib.Core.Bool.{Bool, true, false}
use mathlib.Core.List.{List, ◌∷◌, ◌++◌}
use Prim.Native.Nat.{ℕ, zero, suc, ◌+◌, ◌-◌, ◌/◌, ◌≤◌, ◌<◌}
use native.Mathlib.Nat.{zero-add}
use native.Mathlib.Omega.{arith}
use borrow.Author.Tests.{le-leb, lt-leb, leb-true, leb-false, eq-eqb, ne_eqb, eqb-true, eqb-false}
use lib.Dec.{eqb, leb}
use lib.ListN.{length, drop}
use Rattle.std.proofs.Common.{Option, None, Some}
use Rattle.sets.proofs.Laws.{by-test}
use Rattle.words.specs.Words.{number_at}
use Rattle.entries.specs.Entries.{size, laid, entry_at, release_at}
use Rattle.entries.specs.Limits as limits
use Rattle.table.specs.Head.{head_read, head_of}
use Rattle.table.proofs.Laws.{head_within}
use Rattle.record.specs.Types.{Release, Entry, TaskEntry, ReleaseEntry, SpacingEntry, Option, None, Some, Head, Refusal, Alone, Outcome, RefusedInput, TooShort, Result, Ok, Err}
use Rattle.run.specs.Files.{Checked, Rejected, Releases, refusal_of, with_release, release_refusal, releases_from, releases_behind, releases_of, head_unless, file_head}
use Rattle.run.specs.Listed.{releases_at}
use Rattle.run.specs.Run.{moments_of, record_bytes}
use Rattle.record.specs.Writing.{Written, outcome_number, outcome_value, Wrote, WroteInNumbers, written, written_of, file}
use Rattle.record.specs.Cursor.{start, Served, run_bytes, budget_at, Runs, ReadWhole}
use Rattle.run.proofs.Checking.{release_whole, few, passed_on, takes}
use Rattle.run.proofs.Listing.{here, none, how_many}
use Rattle.record.proofs.Bound.{record_bound}
use Rattle.record.proofs.FileClaim.{fed_file}
use Rattle.entries.specs.declared.Unreadable.{Unreadable}

-- ---- the outcomes

pub in_numbers : {w : Written} {outcome : Outcome} {memory : List ℕ} → Wrote w outcome memory → WroteInNumbers w outcome memory
in_numbers e = record { wrote = e; number = ap outcome_number e.outcome_is; value = ap outcome_value e.outcome_is }

module _ (bytes before : List ℕ) where
  pub fits : (size : ℕ) (after : List ℕ) → size ≡ length bytes → length bytes ≤ length before → after ≡ laid 0 bytes before → Wrote (written bytes before) (Ok size) after
  unfolding written
  fits size after e l h = record {
    outcome_is = rw (le-leb (length bytes) (length before) l) (ap Ok e);
    holds = rw (le-leb (length bytes) (length before) l) (h ∙ ap (λ (n : ℕ). bytes ++ drop n before) (zero-add (length bytes)));
  }

  pub too_short : (size : ℕ) → size ≡ length bytes → length before < length bytes → Wrote (written bytes before) (Err (TooShort size)) before
  unfolding written
  too_short size e l = record { outcome_is = rw (lt-leb (length bytes) (length before) l) (ap (λ (n : ℕ). Err (TooShort n)) e); holds = rw (lt-leb (length bytes) (length before) l) }

-- ---- the releases of a file that is accepted

-- a release entry that is taken apart has its kind, and is the release that stands there
pub entry_release : (s : List ℕ) (at : ℕ) (r : Release) → entry_at s at ≡ Ok (ReleaseEntry r) → (number_at 1 s at ≡ 2) × (r ≡ release_at s at)
unfolding entry_at
entry_release s at r e =
    by-test (eqb (number_at 1 s at) 1)
    (λ a. by-test (leb 16 (length s - at)) (λ b. absurd (let z : ◌≡◌ {A = ℕ} 0 1 = cc (rw (a, b) at e) in omega arith)) (λ b. absurd (let z : ◌≡◌ {A = ℕ} 0 1 = cc (rw (a, b) at e) in omega arith)))
    (λ a. by-test (eqb (number_at 1 s at) 2)
    (λ b. by-test (leb (size 2) (length s - at)) (λ d. (eqb-true (number_at 1 s at) 2 b, cc (rw (a, b, d) at e))) (λ d. absurd (let z : ◌≡◌ {A = ℕ} 0 1 = cc (rw (a, b, d) at e) in omega arith)))
    (λ b. by-test (eqb (number_at 1 s at) 3)
    (λ d. by-test (leb 6 (length s - at)) (λ f. absurd (let z : ◌≡◌ {A = ℕ} 0 1 = cc (rw (a, b, d, f) at e) in omega arith)) (λ f. absurd (let z : ◌≡◌ {A = ℕ} 0 1 = cc (rw (a, b, d, f) at e) in omega arith)))
    (λ d. absurd (let z : ◌≡◌ {A = ℕ} 0 1 = cc (rw (a, b, d) at e) in omega arith))))

pub record Accepted (s : List ℕ) (at count : ℕ) (c : Checked) : Type 0 where
  pub list : c ≡ Releases (releases_at s at)
  pub small : count + (length s - at) / size 2 ≤ limits.releases

module _ (s : List ℕ) (present : ℕ) where
  pub accepted : (k at : ℕ) (last : Option Release) (count : ℕ) → count ≤ limits.releases → length s - at ≤ k → refusal_of (releases_from k s at present last count) ≡ None
      → Accepted s at count (releases_from k s at present last count)
  unfolding releases_from with_release
  accepted zero at last count n l h = record { list = ap Releases (sym (none s at (omega arith))); small = omega arith }
  accepted (suc k) at last count n l h = go_end (leb (length s) at) refl (λ r c a b g. accepted k (at + size 2) (Some r) c a b g)
    where
      whole : Checked
      whole = releases_from (suc k) s at present last count

      More : Type 0
      More = (r : Release) (c : ℕ) → c ≤ limits.releases → length s - (at + size 2) ≤ k → refusal_of (releases_from k s (at + size 2) present (Some r) c) ≡ None → Accepted s (at + size 2) c (releases_from k s (at + size 2) present (Some r) c)

      go_refusal : (r : Release) (x : ℕ) → at < length s → entry_at s at ≡ Ok (ReleaseEntry r) → release_refusal present last count r ≡ x → More → Accepted s at count whole
      go_refusal r zero m e f rec =
          let t : whole ≡ with_release r (releases_from k s (at + size 2) present (Some r) (count + 1)) = takes s at present last count k m r e f in
          let g : refusal_of (releases_from k s (at + size 2) present (Some r) (count + 1)) ≡ None =
          sym (passed_on r (releases_from k s (at + size 2) present (Some r) (count + 1))) ∙ ap refusal_of (sym t) ∙ h in
          let w : size 2 ≤ length s - at = release_whole s at r e in
          let i : Accepted s (at + size 2) (count + 1) (releases_from k s (at + size 2) present (Some r) (count + 1)) =
          rec r (count + 1) (omega (arith, few present last count r f)) (omega arith) g in
          record {
            list = t ∙ ap (with_release r) i.list ∙ ap Releases (ap (λ (y : Release). y ∷ releases_at s (at + size 2)) (entry_release s at r e).1 ∙ sym (here s at w));
            small = omega (arith, i.small, w);
          }
      go_refusal r (suc x) m e f rec = absurd (let z : ◌≡◌ {A = ℕ} 0 1 = cc (rw (lt-leb (length s) at m, releases_from, e, f) at h) in omega arith)

      go_entry : (e : Result Entry Unreadable) → at < length s → entry_at s at ≡ e → More → Accepted s at count whole
      go_entry (Err x) m e rec = absurd (let z : ◌≡◌ {A = ℕ} 0 1 = cc (rw (lt-leb (length s) at m, releases_from, e) at h) in omega arith)
      go_entry (Ok (TaskEntry p)) m e rec = absurd (let z : ◌≡◌ {A = ℕ} 0 1 = cc (rw (lt-leb (length s) at m, releases_from, e) at h) in omega arith)
      go_entry (Ok (SpacingEntry q)) m e rec = absurd (let z : ◌≡◌ {A = ℕ} 0 1 = cc (rw (lt-leb (length s) at m, releases_from, e) at h) in omega arith)
      go_entry (Ok (ReleaseEntry r)) m e rec = go_refusal r (release_refusal present last count r) m e refl rec

      go_end : (b : Bool) → leb (length s) at ≡ b → More → Accepted s at count whole
      go_end true e rec =
          let x : length s - at ≡ 0 = omega (arith, leb-true (length s) at e) in
          record { list = rw (e, releases_from) (ap Releases (sym (none s at (omega arith)))); small = omega arith }
      go_end false e rec = go_entry (entry_at s at) (leb-false (length s) at e) refl rec

-- ---- an input whose task entries were read

-- no instant of its run is refused, and none is late
all_served : (s : List ℕ) → releases_of s ≡ Releases (releases_at s (head_read (head_of s)).end) → Served s (start (head_read (head_of s)))
unfolding head_of
all_served s h =
    let f = fed_file s (releases_at s (head_read (head_of s)).end) h in
    record {
      within = head_within s;
      calls = f.calls;
      feeds = f.feeds;
      all_served = f.all_served;
      early = f.early;
    }

module _ (s : List ℕ) (k : Head) (read : ReadWhole s k) where
  pub checked_from : releases_of s ≡ releases_from (length s) s k.end k.table.present None 0
  unfolding releases_of
  checked_from =
      rw (ne_eqb (length s) 0 read.some, read.tasks)

  module _ (h : refusal_of (releases_from (length s) s k.end k.table.present None 0) ≡ None) where
    all : Accepted s k.end 0 (releases_from (length s) s k.end k.table.present None 0)
    all = accepted s k.table.present (length s) k.end None 0 (omega arith) (omega arith) h

    pub listed_all : releases_of s ≡ Releases (releases_at s k.end)
    listed_all = checked_from ∙ all.list

    pub same_run : record_bytes (moments_of s (releases_at s k.end)) ≡ run_bytes s (start k) (budget_at s (start k))
    unfolding moments_of
    same_run = rw (read.tasks, how_many s k.end)

    pub runs : Runs s (start k)
    runs = record {
      few = omega (arith, all.small);
      short = omega (arith, ap length same_run, how_many s k.end, record_bound s (releases_at s k.end) listed_all);
      served = subst (λ (x : Head). Served s (start x)) (ap head_read read.tasks) (all_served s (subst (λ (x : Head). releases_of s ≡ Releases (releases_at s x.end)) (sym (ap head_read read.tasks)) listed_all));
    }

    pub whole_file : (lent : List ℕ) → file s lent ≡ written (run_bytes s (start k) (budget_at s (start k))) lent
    unfolding file
    whole_file lent = ap (written_of s lent) listed_all ∙ ap (λ (b : List ℕ). written b lent) same_run

  pub refused_late : (lent : List ℕ) (r : Refusal) → refusal_of (releases_from (length s) s k.end k.table.present None 0) ≡ Some r
      → Wrote (file s lent) (Err (RefusedInput r)) lent
  unfolding file
  refused_late lent r e =
      let x : releases_of s ≡ Rejected r = checked_from ∙ rejected (releases_from (length s) s k.end k.table.present None 0) r e in
      rw x (record { outcome_is = refl; holds = refl })
    where
      rejected : (c : Checked) (r : Refusal) → refusal_of c ≡ Some r → c ≡ Rejected r
      rejected (Rejected x) r e = cc
      rejected (Releases rs) r e = absurd (cc)

-- an input that is refused by its task entries, or since it is empty
module _ (s lent : List ℕ) where
  pub refused_early : (r : Refusal) → (length s ≡ 0 → ⊥) → head_of s ≡ Err r → Wrote (file s lent) (Err (RefusedInput r)) lent
  unfolding file releases_of
  refused_early r some e = rw (ne_eqb (length s) 0 some, e) (record { outcome_is = refl; holds = refl })

  pub refused_empty : length s ≡ 0 → Wrote (file s lent) (Err (RefusedInput (Alone 12))) lent
  unfolding file releases_of
  refused_empty e = rw (eq-eqb (length s) 0 e) (record { outcome_is = refl; holds = refl })

-- ---- an input by what checking it found

-- none is refused: the head was read whole, and so were the releases behind it
pub record AllRead (s : List ℕ) (k : Head) : Type 0 where
  pub whole : ReadWhole s k
  pub releases : refusal_of (releases_from (length s) s k.end k.table.present None 0) ≡ None

module _ (s : List ℕ) where
  abbrev behind : Head → Option Refusal
  behind k = refusal_of (releases_from (length s) s k.end k.table.present None 0)

  -- by whether the input is empty, what the head says, and what the releases say
  head_cases : (P : Result Head Refusal → Type 0) → (length s ≡ 0 → P (Err (Alone 12))) → ((r : Refusal) → (length s ≡ 0 → ⊥) → head_of s ≡ Err r → P (Err r))
      → ((k : Head) → (length s ≡ 0 → ⊥) → head_of s ≡ Ok k → P (head_unless k (behind k))) → P (file_head s)
  unfolding file_head releases_of
  head_cases P none early late =
      by-test (eqb (length s) 0)
      (λ e. rw e (none (eqb-true (length s) 0 e)))
      (λ e. rw e (go (eqb-false (length s) 0 e) (head_of s) refl))
    where
      go : (length s ≡ 0 → ⊥) → (h : Result Head Refusal) → head_of s ≡ h → P (head_unless (head_read h) (refusal_of (releases_behind s h)))
      go some (Ok k) e = late k some e
      go some (Err r) e = early r some e

  pub accepted_whole : (k : Head) → file_head s ≡ Ok k → AllRead s k
  accepted_whole k h =
      head_cases (λ (x : Result Head Refusal). x ≡ Ok k → AllRead s k)
      (λ e f. absurd (cc))
      (λ r some e f. absurd (cc))
      (λ j some e f. late j some e (behind j) refl f)
      h
    where
      late : (j : Head) → (length s ≡ 0 → ⊥) → head_of s ≡ Ok j → (q : Option Refusal) → behind j ≡ q → head_unless j q ≡ Ok k → AllRead s k
      late j some e None g f = let same : j ≡ k = cc in subst (AllRead s) same (record { whole = record { some = some; tasks = e }; releases = g })
      late j some e (Some r) g f = absurd (cc)

  pub runs_whole : (k : Head) → file_head s ≡ Ok k → Runs s (start k)
  runs_whole k h = runs s k (accepted_whole k h).whole (accepted_whole k h).releases

  pub record_whole : (k : Head) → file_head s ≡ Ok k → (lent : List ℕ) → file s lent ≡ written (run_bytes s (start k) (budget_at s (start k))) lent
  record_whole k h = whole_file s k (accepted_whole k h).whole (accepted_whole k h).releases

  pub refused_whole : (lent : List ℕ) (r : Refusal) → file_head s ≡ Err r → Wrote (file s lent) (Err (RefusedInput r)) lent
  refused_whole lent r h =
      head_cases (λ (x : Result Head Refusal). x ≡ Err r → Wrote (file s lent) (Err (RefusedInput r)) lent)
      (λ e f. let same : Alone 12 ≡ r = cc in subst (λ (x : Refusal). Wrote (file s lent) (Err (RefusedInput x)) lent) same (refused_empty s lent e))
      (λ q some e f. let same : q ≡ r = cc in subst (λ (x : Refusal). Wrote (file s lent) (Err (RefusedInput x)) lent) same (refused_early s lent q some e))
      (λ j some e f. late j some e (behind j) refl f)
      h
    where
      late : (j : Head) → (length s ≡ 0 → ⊥) → head_of s ≡ Ok j → (q : Option Refusal) → behind j ≡ q → head_unless j q ≡ Err r → Wrote (file s lent) (Err (RefusedInput r)) lent
      late j some e None g f = absurd (cc)
      late j some e (Some q) g f = let same : q ≡ r = cc in refused_late s j (record { some = some; tasks = e }) lent r (g ∙ ap Some same)
