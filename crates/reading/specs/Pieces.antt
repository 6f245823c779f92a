-- A record in pieces: what its front tells, and how the bytes behind that go on.
use Rattle.std.specs.Prelude.{◌≡◌, ◌&&◌, length, drop, ◌∷◌, ◌++◌, ◌+◌}
use Rattle.entries.specs.Entries.{record_entry_at, record_entry_size}
use Rattle.rules.specs.State.{State}
use Rattle.rules.specs.Calls.{opening}
use Rattle.run.specs.Files.{Checked, Rejected, Releases}
use Rattle.record.specs.Writing.{Written}
use Rattle.reading.specs.Types.{List, [], ℕ, zero, suc, Release, Refusal, Alone, AtEntry, Result, Ok, Err, RecordEntry, JobDone, IntervalEnded, ReleaseSkipped}
use Rattle.reading.specs.Attested.{release_of, attested}
use Rattle.reading.specs.Reading.{same_bytes, turned_away, read_attested, reading}
use Rattle.entries.specs.declared.Unreadable.{Unreadable}

-- ---- The whole entries at the front of some bytes

-- the releases that they tell of, and the place behind them
pub record Front : Type 0 where
  pub releases : List Release
  pub end : ℕ

-- a whole entry at a place, in front of those behind it
unfoldable pub front_by : Result RecordEntry Unreadable → ℕ → Front → Front
front_by (Err e) at behind = record { releases = []; end = at }
front_by (Ok (JobDone e)) at behind = record { releases = release_of e ∷ behind.releases; end = behind.end }
front_by (Ok (IntervalEnded e)) at behind = behind
front_by (Ok (ReleaseSkipped r)) at behind = record { releases = r ∷ behind.releases; end = behind.end }

-- from a place on, at most k of them: at the end of the bytes no whole entry stands
unfoldable pub front_from : ℕ → List ℕ → ℕ → Front
front_from zero s at = record { releases = []; end = at }
front_from (suc k) s at = let e : Result RecordEntry Unreadable = record_entry_at s at in front_by e at (front_from k s (at + record_entry_size e))

abbrev pub front : List ℕ → Front
front s = front_from (length s) s 0

-- ---- One piece after the other

-- how far it has come: the releases of the whole entries, the place behind them, and the bytes from there on, which are carried over
pub record Going : Type 0 where
  pub releases : List Release
  pub place : ℕ
  pub carried : List ℕ

abbrev pub at_start : Going
at_start = record { releases = []; place = 0; carried = [] }

abbrev pub go_on : Going → List ℕ → Going
go_on g piece =
    let s : List ℕ = g.carried ++ piece in
    record { releases = g.releases ++ (front s).releases; place = g.place + (front s).end; carried = drop (front s).end s }

unfoldable pub gone : Going → List (List ℕ) → Going
gone g [] = g
gone g (p ∷ ps) = gone (go_on g p) ps

unfoldable pub joined : List (List ℕ) → List ℕ
joined [] = []
joined (p ∷ ps) = p ++ joined ps

-- a place of the bytes from another place on
abbrev pub moved : ℕ → Refusal → Refusal
moved n (Alone x) = Alone x
moved n (AtEntry x at) = AtEntry x (n + at)

-- what is attested behind some releases and a place
abbrev pub behind : List Release → ℕ → Checked → Checked
behind rs n (Rejected r) = Rejected (moved n r)
behind rs n (Releases qs) = Releases (rs ++ qs)

-- what is attested where no more pieces come
abbrev pub at_end : Going → Checked
at_end g = behind g.releases g.place (attested g.carried)

-- the pieces tell what the record tells
unfoldable pub TellInPieces : Type 0
TellInPieces = (pieces : List (List ℕ)) → at_end (gone at_start pieces) ≡ attested (joined pieces)

-- ---- The outcome

abbrev pub opened_in_pieces : List ℕ → List (List ℕ) → List ℕ → Result State Refusal → Written
opened_in_pieces tasks pieces lent (Ok d) = read_attested tasks (joined pieces) lent (at_end (gone at_start pieces))
opened_in_pieces tasks pieces lent (Err r) = turned_away r lent

-- from the task entries and a record's pieces, what comes of the record
unfoldable pub ReadInPieces : Type 0
ReadInPieces = (tasks : List ℕ) (pieces : List (List ℕ)) (lent : List ℕ) →
    opened_in_pieces tasks pieces lent (opening tasks) ≡ reading tasks (joined pieces) lent

-- a run and a record are the same if a piece of each is, and what is behind it
unfoldable pub SameInPieces : Type 0
SameInPieces = (a b rest others : List ℕ) → length a ≡ length b →
    same_bytes (a ++ rest) (b ++ others) ≡ (same_bytes a b && same_bytes rest others)
