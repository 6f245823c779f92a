-- A file's dispatcher opens from the task entries alone: the bytes in front of an accepted file's releases open it. So what holds of every dispatcher
-- that opening returns holds of it.
use mathlib.Core.Path.{◌≡◌, refl, sym, ap, ◌∙◌, subst}
use mathlib.Core.Bool.{false}
use mathlib.Core.Logic.{◌⊎◌, inl, inr, ⊎_elim}
use mathlib.Core.List.{List}
use Prim.Native.Nat.{ℕ, zero, suc, ◌+◌, ◌-◌, ◌≤◌, ◌<◌}
use native.Mathlib.Omega.{arith}
use lib.ListN.{length, take}
use lib.Seq.{length-take-le}
use Rattle.std.proofs.Common.{Some}
use Rattle.sets.specs.Sets.{member}
use Rattle.sets.proofs.Laws.{by-test, none}
use Rattle.entries.specs.Entries.{entry_at, entry_size}
use Rattle.table.specs.Head.{no_table, behind_head, entry_refusal, with_entry, marked_with, refused_at, read_to, head_read, head_from, head_of}
use Rattle.table.proofs.Laws.{behind_end, is_whole, at_end, refuses, takes}
use Rattle.table.proofs.Front.{behind_in_front, alike}
use Rattle.table.proofs.Alone.{Whole, whole_head}
use Rattle.rules.specs.Calls.{opened, opened_from, opening}
use Rattle.guarantees.specs.Types.{Table, AtEntry, Head, Call}
use Rattle.guarantees.specs.Claim.{Claim, Demand3}
use Rattle.guarantees.proofs.Proper
use Rattle.guarantees.proofs.Proper.{Fair}
use Rattle.guarantees.proofs.Demand3.{demand_3}
use Rattle.record.specs.Types.{Release, Entry, TaskEntry, ReleaseEntry, SpacingEntry, Option, None, Ok}
use Rattle.run.specs.Files.{Releases, refusal_of, release_refusal, releases_from}
use Rattle.run.proofs.Checking
use Rattle.record.proofs.Accepted.{Accepted}
use Rattle.std.specs.Prelude.{Result, Err}
use Rattle.entries.specs.declared.Unreadable.{Unreadable}
use Rattle.entries.specs.Unreadable.{unreadable_number}

pub unlike : (r : Head) (n at : ℕ) → refused_at n at ≡ Ok r → ⊥
unlike r n at e = cc

-- ---- the entries one after another

-- what is read from a place on, to an end, is read from the bytes up to that end
pub record Prefix (s : List ℕ) (at : ℕ) (t : Table) (m : ℕ) (r : Head) : Type 0 where
  pub onward : at ≤ r.end
  pub inside : r.end ≤ length s
  pub some_entry : (read_to t m at ≡ Ok r) ⊎ (at < r.end)
  pub same : (k : ℕ) → r.end - at ≤ k → head_from k (take r.end s) at t m ≡ Ok r

prefix_none : (s : List ℕ) (at : ℕ) (t : Table) (m : ℕ) → at ≤ length s → Prefix s at t m (head_read (read_to t m at))
prefix_none s at t m l = record {
  onward = omega arith;
  inside = l;
  some_entry = inl refl;
  same = λ k h. at_end (take at s) at t m k (behind_end (take at s) at (omega (arith, length-take-le at s l)));
}

prefix_more : (s : List ℕ) (at : ℕ) (t : Table) (m : ℕ) (x : Result Entry Unreadable) (r : Head) → behind_head s at ≡ false → entry_at s at ≡ x
    → entry_refusal t x ≡ 0 → Prefix s (at + entry_size x) (with_entry t x) (marked_with m x) r → Prefix s at t m r
prefix_more s at t m x r b e q h =
    let some : 0 < entry_size x = (is_whole s at t x e q).some in
    record {
      onward = omega (arith, h.onward);
      inside = h.inside;
      some_entry = inr (omega (arith, h.onward));
      same = λ k l. go some k l;
    }
  where
    go : 0 < entry_size x → (k : ℕ) → r.end - at ≤ k → head_from k (take r.end s) at t m ≡ Ok r
    go some zero l = absurd (omega (arith, h.onward))
    go some (suc k) l =
        takes (take r.end s) at t m k (behind_in_front s r.end h.inside at (omega (arith, h.onward)) ∙ b) x
        (alike s r.end h.inside at x some h.onward (inl e) ∙ e) q
        ∙ h.same k (omega arith)

prefix : (k : ℕ) (s : List ℕ) (at : ℕ) (t : Table) (m : ℕ) (r : Head) → at ≤ length s → head_from k s at t m ≡ Ok r → Prefix s at t m r
prefix zero s at t m r l e = unfold head_from in subst (Prefix s at t m) (ap head_read e) (prefix_none s at t m l)
prefix (suc k) s at t m r l e =
    by-test (behind_head s at)
    (λ b. subst (Prefix s at t m) (ap head_read (sym (at_end s at t m (suc k) b) ∙ e)) (prefix_none s at t m l))
    (λ b. go b (entry_refusal t x) refl
    (λ q. prefix k s (at + entry_size x) (with_entry t x) (marked_with m x) r (omega (arith, (is_whole s at t x refl q).within, l)) (sym (takes s at t m k b x refl q) ∙ e)))
  where
    x : Result Entry Unreadable
    x = entry_at s at

    go : behind_head s at ≡ false → (n : ℕ) → entry_refusal t x ≡ n
        → (entry_refusal t x ≡ 0 → Prefix s (at + entry_size x) (with_entry t x) (marked_with m x) r) → Prefix s at t m r
    go b zero q f = prefix_more s at t m x r b refl q (f q)
    go b (suc n) q f = absurd (unlike r (suc n) at (sym (refuses s at t m k b x refl (suc n) q (omega arith)) ∙ e))

-- ---- a file that is accepted has a task

unknown_first : (present : ℕ) (last : Option Release) (count : ℕ) (r : Release) → member r.task present ≡ false → release_refusal present last count r ≡ 8
unfolding release_refusal
unknown_first present last count r e = rw e

no_release : (k : ℕ) (s : List ℕ) (at : ℕ) (last : Option Release) (count : ℕ) (rs : List Release) → at < length s → releases_from (suc k) s at 0 last count ≡ Releases rs → ⊥
no_release k s at last count rs l e = go (entry_at s at) refl
  where
    not_read : (n : ℕ) → refusal_of (releases_from (suc k) s at 0 last count) ≡ Some (AtEntry n at) → ⊥
    not_read n x = let y = sym (ap refusal_of e) ∙ x in cc

    go : (i : Result Entry Unreadable) → entry_at s at ≡ i → ⊥
    go (Err n) x = not_read (unreadable_number n) (Checking.malformed s at 0 last count k l n x)
    go (Ok (TaskEntry p)) x = not_read 3 (Checking.task_late s at 0 last count k l p x)
    go (Ok (SpacingEntry p)) x = not_read 3 (Checking.spacing_late s at 0 last count k l p x)
    go (Ok (ReleaseEntry r)) x = not_read 8 (Checking.refuses s at 0 last count k l r 8 x (unknown_first 0 last count r (none r.task)) (omega arith))

module _ (s : List ℕ) (rs : List Release) (a : Accepted s rs) where
  all : Prefix s 0 no_table 0 (head_read (head_of s))
  all = unfold head_of in prefix (length s) s 0 no_table 0 (head_read (head_of s)) (omega arith) a.tasks

  some_task : (head_read (head_of s)).end ≡ 0 → ⊥
  some_task e =
      ⊎_elim
      (λ x. go (length s) refl (subst (λ (k : Head). releases_from (length s) s k.end k.table.present None 0 ≡ Releases rs) (sym (ap head_read x)) a.read))
      (λ x. omega arith) all.some_entry
    where
      go : (n : ℕ) → length s ≡ n → releases_from n s 0 0 None 0 ≡ Releases rs → ⊥
      go zero l h = a.some_byte l
      go (suc n) l h = no_release n s 0 None 0 rs (omega arith) h

  before_length : length (take (head_read (head_of s)).end s) ≡ (head_read (head_of s)).end
  before_length = length-take-le (head_read (head_of s)).end s all.inside

  before_same : head_of (take (head_read (head_of s)).end s) ≡ Ok (head_read (head_of s))
  unfolding head_of
  before_same = all.same (length (take (head_read (head_of s)).end s)) (omega (arith, before_length))

  pub opens : opening (take (head_read (head_of s)).end s) ≡ Ok (opened (head_read (head_of s)).table (head_read (head_of s)).marked)
  unfolding opening
  opens =
      let b : List ℕ = take (head_read (head_of s)).end s in
      let whole : Whole b = record {
        some = λ e. some_task (sym before_length ∙ e);
        head = head_read (head_of s);
        none_refused = before_same;
        whole = sym before_length;
      } in
      ap opened_from (whole_head b whole ∙ before_same)

  -- so its table is one that opening serves
  pub fair : Fair (head_read (head_of s)).table (head_read (head_of s)).marked
  unfolding opened
  fair = (Proper.opens (take (head_read (head_of s)).end s) _ opens).proper.fair

  -- and the claim for lists holds of its dispatcher
  pub claim : (calls : List Call) → Claim (opened (head_read (head_of s)).table (head_read (head_of s)).marked) calls
  unfolding Demand3
  claim calls = demand_3 (take (head_read (head_of s)).end s) _ opens calls
