-- `head_from` by cases, one law for each way that a turn of the reading goes. Assumes nothing.
use mathlib.Core.Path.{◌≡◌, refl, sym, ap, subst, ◌∙◌}
use mathlib.Core.Bool.{Bool, true, false, cond, not, ◌||◌}
use mathlib.Core.Logic.{◌⊎◌, inl, inr, ⊎_elim}
use mathlib.Core.List.{List}
use Prim.Native.Nat.{ℕ, zero, suc, ◌+◌, ◌-◌, ◌≤◌, ◌<◌}
use native.Mathlib.Omega.{arith}
use borrow.Author.Tests.{eqb-false, leb-true, le-leb, leb-false, lt-leb, ltb-false}
use lib.Dec.{eqb, leb, ltb}
use lib.ListN.{length}
use Rattle.std.proofs.Common.{Result}
use Rattle.sets.specs.Sets.{member}
use Rattle.sets.proofs.Laws.{by-test, clash, either_right}
use Rattle.words.specs.Words.{number_at}
use Rattle.entries.specs.Entries.{is_release, entry_at, entry_size, task_at, release_at, spacing_at}
use Rattle.entries.specs.Limits as limits
use Rattle.table.specs.Types.{TaskParameters, Spacing, Entry, TaskEntry, ReleaseEntry, SpacingEntry, Table, Fault, OutOfPlace, TaskNumber, Mark, Length, UnknownTask, NotRising, TooLate, TooMany, SpacingFault, Refusal, Head}
use Rattle.table.specs.Refusals.{fault_number}
use Rattle.table.specs.Head.{no_table, behind_head, number_refused, mark_or_length_refusal, after_spacings, task_refusal, ticks_refused, spacing_refusal, entry_refusal, with_entry, marked_with, refused_at, read_to, head_read, head_from, head_of}
use Rattle.std.specs.Prelude.{Ok, Err}
use Rattle.entries.specs.declared.Unreadable.{Unreadable}
use Rattle.entries.specs.declared.Unreadable.TheVariants.{CutShort, OtherKind}

-- ---- a turn of the reading

module _ (s : List ℕ) (at : ℕ) where
  pub behind_end : length s ≤ at → behind_head s at ≡ true
  unfolding behind_head
  behind_end h = rw (le-leb (length s) at h)

  pub behind_release : is_release s at ≡ true → behind_head s at ≡ true
  unfolding behind_head
  behind_release h = either_right (leb (length s) at) (is_release s at) h

  pub before_release : at < length s → is_release s at ≡ false → behind_head s at ≡ false
  unfolding behind_head
  before_release l h = rw (lt-leb (length s) at l, h)

-- an entry that is taken is whole, and not of no length
pub record Stands (n : ℕ) (x : Result Entry Unreadable) : Type 0 where
  pub some : 0 < entry_size x
  pub within : entry_size x ≤ n
  pub short : entry_size x ≤ 16

module _ (s : List ℕ) (at : ℕ) (t : Table) where
  entry_whole : entry_refusal t (entry_at s at) ≡ 0 → Stands (length s - at) (entry_at s at)
  unfolding entry_at entry_refusal
  entry_whole =
      let kind : ℕ = number_at 1 s at in
      either (eqb kind 1) (cond (leb 16 left) (Ok (TaskEntry (task_at s at))) (Err CutShort)) _ (fits 16 (Ok (TaskEntry (task_at s at))) refl (omega arith) (omega arith))
      (either (eqb kind 2) (cond (leb 10 left) (Ok (ReleaseEntry (release_at s at))) (Err CutShort)) _ (fits 10 (Ok (ReleaseEntry (release_at s at))) refl (omega arith) (omega arith))
      (either (eqb kind 3) (cond (leb 6 left) (Ok (SpacingEntry (spacing_at s at))) (Err CutShort)) (Err OtherKind) (fits 6 (Ok (SpacingEntry (spacing_at s at))) refl (omega arith) (omega arith))
      (λ e. absurd (omega arith))))
    where
      left : ℕ
      left = length s - at

      Taken : Result Entry Unreadable → Type 0
      Taken x = entry_refusal t x ≡ 0 → Stands left x

      either : (b : Bool) (x y : Result Entry Unreadable) → Taken x → Taken y → Taken (cond b x y)
      either true x y h g = h
      either false x y h g = g

      fits : (k : ℕ) (x : Result Entry Unreadable) → entry_size x ≡ k → 0 < k → k ≤ 16 → Taken (cond (leb k left) x (Err CutShort))
      fits k x e l m =
          by-test (leb k left)
          (λ b. rw b (λ r. record { some = omega arith; within = omega (arith, leb-true k left b); short = omega arith }))
          (λ b. rw b (λ r. absurd (omega arith)))

  pub is_whole : (x : Result Entry Unreadable) → entry_at s at ≡ x → entry_refusal t x ≡ 0 → Stands (length s - at) x
  is_whole x e r = subst (λ (y : Result Entry Unreadable). Stands (length s - at) y) e (entry_whole (ap (entry_refusal t) e ∙ r))

module _ (s : List ℕ) (at : ℕ) (t : Table) (m : ℕ) where
  pub at_end : (k : ℕ) → behind_head s at ≡ true → head_from k s at t m ≡ read_to t m at
  unfolding head_from
  at_end zero h = refl
  at_end (suc k) h = rw (h, head_from)

  module _ (k : ℕ) (more : behind_head s at ≡ false) (x : Result Entry Unreadable) (e : entry_at s at ≡ x) where
    pub refuses : (n : ℕ) → entry_refusal t x ≡ n → (n ≡ 0 → ⊥) → head_from (suc k) s at t m ≡ refused_at n at
    unfolding head_from
    refuses zero r h = absurd (h refl)
    refuses (suc n) r h = rw (more, head_from, e, r)

    pub takes : entry_refusal t x ≡ 0 → head_from (suc k) s at t m ≡ head_from k s (at + entry_size x) (with_entry t x) (marked_with m x)
    unfolding head_from
    takes r = rw (more, head_from, e, r) (ap (λ (y : Result Entry Unreadable). head_from k s (at + entry_size y) (with_entry t y) (marked_with m y)) e)

-- what is left to read, read from here, gives what the whole gives
pub record Rest (s : List ℕ) (at : ℕ) (t : Table) (m : ℕ) : Type 0 where
  pub fuel : ℕ
  pub enough : length s - at ≤ fuel
  pub same : head_from fuel s at t m ≡ head_of s

module _ (s : List ℕ) (at : ℕ) (t : Table) (m : ℕ) (rest : Rest s at t m) (l : at < length s) where
  pub turn : (x : Result Head Refusal) → ((k : ℕ) → head_from (suc k) s at t m ≡ x) → x ≡ head_of s
  turn x h = go rest.fuel rest.enough rest.same
    where
      go : (k : ℕ) → length s - at ≤ k → head_from k s at t m ≡ head_of s → x ≡ head_of s
      go zero e q = absurd (omega arith)
      go (suc k) e q = sym (h k) ∙ q

  pub turn_on : (size : ℕ) (t' : Table) (m' : ℕ) → 0 < size → ((k : ℕ) → head_from (suc k) s at t m ≡ head_from k s (at + size) t' m') → Rest s (at + size) t' m'
  turn_on size t' m' some h = go rest.fuel rest.enough rest.same
    where
      go : (k : ℕ) → length s - at ≤ k → head_from k s at t m ≡ head_of s → Rest s (at + size) t' m'
      go zero e q = absurd (omega arith)
      go (suc k) e q = record { fuel = k; enough = omega arith; same = sym (h k) ∙ q }

-- ---- the refusals of an entry, in their order

-- where no number is answered no test has passed
pub none_passed : (a b : Bool) (x y z : ℕ) → cond a (suc x) (cond b (suc y) z) ≡ 0 → (a ≡ false) × (b ≡ false) × (z ≡ 0)
none_passed true b x y z h = absurd (omega arith)
none_passed false true x y z h = absurd (omega arith)
none_passed false false x y z h = (refl, refl, h)

neither : (a b : Bool) → (a || b) ≡ false → (a ≡ false) × (b ≡ false)
neither true b h = clash true refl h
neither false b h = (refl, h)

-- a task that is taken has a new number
pub number_new : (t : Table) (p : TaskParameters) → task_refusal t.present t.spaced p ≡ 0 → (p.number < 32) × (member p.number t.present ≡ false)
unfolding task_refusal number_refused
number_new t p e =
    let f = none_passed (after_spacings t.spaced) (leb limits.tasks p.number || member p.number t.present) 2 3 (mark_or_length_refusal p) e in
    let x = neither (leb limits.tasks p.number) (member p.number t.present) f.1 in
    (omega (arith, leb-false limits.tasks p.number x.0), x.1)

-- what a spacing that is taken is
pub record SpacingTaken (t : Table) (x : Spacing) : Type 0 where
  pub known : member x.task t.present ≡ true
  pub some : 0 < x.ticks
  pub most : x.ticks ≤ limits.longest_spacing
  pub new : member x.task t.spaced ≡ false

pub spacing_taken : (t : Table) (x : Spacing) → spacing_refusal t.present t.spaced x ≡ 0 → SpacingTaken t x
unfolding spacing_refusal ticks_refused
spacing_taken t x e =
    let f = none_passed (not (member x.task t.present)) (eqb x.ticks 0 || (ltb limits.longest_spacing x.ticks || member x.task t.spaced)) 7 18 0 e in
    let g = neither (eqb x.ticks 0) (ltb limits.longest_spacing x.ticks || member x.task t.spaced) f.1 in
    let h = neither (ltb limits.longest_spacing x.ticks) (member x.task t.spaced) g.1 in
    record {
      known = not_false (member x.task t.present) f.0;
      some = omega (arith, eqb-false x.ticks 0 g.0);
      most = ltb-false limits.longest_spacing x.ticks h.0;
      new = h.1;
    }
  where
    not_false : (b : Bool) → not b ≡ false → b ≡ true
    not_false true e = refl
    not_false false e = clash true refl e

-- ---- where the head ends

-- what holds of a place and the table read up to it, and goes on from an entry that is taken to the next, holds where reading ends
module _ (s : List ℕ) (Holds : ℕ → Table → Type 0)
    (on : (at : ℕ) (t : Table) (x : Result Entry Unreadable) → entry_at s at ≡ x → entry_refusal t x ≡ 0 → Holds at t → Holds (at + entry_size x) (with_entry t x))
  where
    abbrev Ends : Result Head Refusal → Type 0
    Ends x = ((head_read x).end ≡ 0) ⊎ Holds (head_read x).end (head_read x).table

    pub ends : (k at : ℕ) (t : Table) (m : ℕ) → Holds at t → Ends (head_from k s at t m)
    ends zero at t m h = unfold head_from in inr h
    ends (suc k) at t m h =
        by-test (behind_head s at)
        (λ b. subst Ends (sym (at_end s at t m (suc k) b)) (inr h))
        (λ b. go b (entry_refusal t x) refl (λ r. ends k (at + entry_size x) (with_entry t x) (marked_with m x) (on at t x refl r h)))
      where
        x : Result Entry Unreadable
        x = entry_at s at

        go : behind_head s at ≡ false → (n : ℕ) → entry_refusal t x ≡ n
            → (entry_refusal t x ≡ 0 → Ends (head_from k s (at + entry_size x) (with_entry t x) (marked_with m x))) → Ends (head_from (suc k) s at t m)
        go b zero r more = subst Ends (sym (takes s at t m k b x refl r)) (more r)
        go b (suc n) r more = subst Ends (sym (refuses s at t m k b x refl (suc n) r (omega arith))) (inl refl)

pub head_within : (s : List ℕ) → (head_read (head_of s)).end ≤ length s
unfolding head_of
head_within s =
    ⊎_elim (λ e. omega arith) (λ h. h)
    (ends s (λ at t. at ≤ length s) (λ at t x e r h. let w = is_whole s at t x e r in omega (arith, w.some, w.within)) (length s) 0 no_table 0 (omega arith))

-- ---- what is wrong with an entry has a number

pub fault_some : (f : Fault) → fault_number f ≡ 0 → ⊥
fault_some OutOfPlace e = omega arith
fault_some TaskNumber e = omega arith
fault_some Mark e = omega arith
fault_some Length e = omega arith
fault_some UnknownTask e = omega arith
fault_some NotRising e = omega arith
fault_some TooLate e = omega arith
fault_some TooMany e = omega arith
fault_some SpacingFault e = omega arith
