-- An input's entries, checked entry by entry: its head, then release entries rising strictly by time and then task number, no more of them
-- than `limits.releases`.
use Rattle.run.specs.Types.{Bool, true, false, cond, not, List, [], ℕ, zero, suc, Release, TaskEntry, ReleaseEntry, SpacingEntry, Option, None, Some, Head, Refusal, Alone, AtEntry}
use Rattle.std.specs.Prelude.{ltb, leb, eqb, length, ◌&&◌, ◌||◌, ◌∷◌, ◌+◌, Option, None, Some, Result, Ok, Err}
use Rattle.sets.specs.Sets.{member}
use Rattle.entries.specs.Entries.{size, entry_at}
use Rattle.entries.specs.Limits as limits
use Rattle.entries.specs.Unreadable.{unreadable_number}
use Rattle.table.specs.Head.{head_read, head_of}

unfoldable pub rises : Option Release → Release → Bool
rises None r = true
rises (Some l) r = ltb l.time r.time || (eqb l.time r.time && ltb l.task r.task)

-- 8, 10, 9, 11, in this order, of a release after `count` others; 0 is none
unfoldable pub release_refusal : ℕ → Option Release → ℕ → Release → ℕ
release_refusal present last count r =
    cond (not (member r.task present)) 8
    (cond (ltb limits.last_release r.time) 10
    (cond (not (rises last r)) 9
    (cond (leb limits.releases count) 11 0)))

-- the releases, or the first refusal
pub data Checked : Type 0 where
  Rejected : Refusal → Checked
  Releases : List Release → Checked

abbrev pub refusal_of : Checked → Option Refusal
refusal_of (Rejected r) = Some r
refusal_of (Releases rs) = None

unfoldable pub with_release : Release → Checked → Checked
with_release r (Rejected n) = Rejected n
with_release r (Releases rs) = Releases (r ∷ rs)

-- the entries from a place on, at most k of them, with the tasks present: 2, 1, then 3 of a task or a spacing and 8, 10, 9, 11 of a release
unfoldable pub releases_from : ℕ → List ℕ → ℕ → ℕ → Option Release → ℕ → Checked
releases_from zero s at present last count = Releases []
releases_from (suc k) s at present last count =
    elim (leb (length s) at) [
      | true ↦ Releases []
      | false ↦ elim (entry_at s at) [
        | Err e ↦ Rejected (AtEntry (unreadable_number e) at)
        | Ok (TaskEntry p) ↦ Rejected (AtEntry 3 at)
        | Ok (SpacingEntry x) ↦ Rejected (AtEntry 3 at)
        | Ok (ReleaseEntry r) ↦ elim (release_refusal present last count r) [
          | zero ↦ with_release r (releases_from k s (at + size 2) present (Some r) (count + 1))
          | suc n ↦ Rejected (AtEntry (suc n) at)
        ]
      ]
    ]

abbrev pub releases_behind : List ℕ → Result Head Refusal → Checked
releases_behind s (Ok k) = releases_from (length s) s k.end k.table.present None 0
releases_behind s (Err r) = Rejected r

-- 12 where the input is empty
unfoldable pub releases_of : List ℕ → Checked
releases_of s = cond (eqb (length s) 0) (Rejected (Alone 12)) (releases_behind s (head_of s))

-- ---- The head of an input that is accepted; of one that is refused the first refusal

abbrev pub head_unless : Head → Option Refusal → Result Head Refusal
head_unless k None = Ok k
head_unless k (Some r) = Err r

unfoldable pub file_head : List ℕ → Result Head Refusal
file_head s = head_unless (head_read (head_of s)) (refusal_of (releases_of s))
