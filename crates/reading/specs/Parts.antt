-- What the functions within promise: the releases that a record tells, noted as numbers in a lent slice, and the input that they make.
use Rattle.std.specs.Prelude.{◌≡◌, ◌⊎◌, ◌+◌, ◌*◌, ◌/◌, ◌%◌, ◌^◌, ◌≤◌, ◌<◌, length, take, ◌∷◌, ◌++◌, None, Some, Option, IsOk}
use Rattle.entries.specs.Entries.{size}
use Rattle.entries.specs.Limits as limits
use Rattle.entries.specs.declared.Unreadable.{Unreadable}
use Rattle.entries.specs.Unreadable.{unreadable_number}
use Rattle.table.specs.declared.Head.{Head}
use Rattle.table.specs.Head.{head_of}
use Rattle.rules.specs.Calls.{opening}
use Rattle.run.specs.Files.{Releases, refusal_of}
use Rattle.reading.specs.Types.{Bool, true, false, List, [], ℕ, Release, Result, Ok, Err, RecordEntry, JobDone, IntervalEnded, ReleaseSkipped}
use Rattle.reading.specs.declared.collecting.Noted.{Noted}
use Rattle.reading.specs.declared.collecting.Collected.{Collected}
use Rattle.reading.specs.Attested.{release_of, attested, key}
use Rattle.reading.specs.Pieces.{front}

-- ---- An entry taken apart

-- the release that it tells of
abbrev pub told_by : RecordEntry → Option Release
told_by (JobDone e) = Some (release_of e)
told_by (IntervalEnded e) = None
told_by (ReleaseSkipped r) = Some r

-- the number by which what stands for one is refused; 0 where it is not
abbrev pub fault : Result RecordEntry Unreadable → ℕ
fault (Ok e) = 0
fault (Err x) = unreadable_number x

-- ---- Releases as numbers

unfoldable pub keys_of : List Release → List ℕ
keys_of [] = []
keys_of (r ∷ rs) = key r ∷ keys_of rs

abbrev pub release_in : ℕ → Release
release_in k = record { task = k % 256; time = k / 256 }

unfoldable pub releases_in : List ℕ → List Release
releases_in [] = []
releases_in (k ∷ ks) = release_in k ∷ releases_in ks

-- the fields of an entry hold them
unfoldable pub AllFit : List Release → Type 0
AllFit [] = Unit {0}
AllFit (r ∷ rs) = ((r.task < 256) × (r.time < 2 ^ 64)) × AllFit rs

unfoldable pub AllEarly : List Release → Type 0
AllEarly [] = Unit {0}
AllEarly (r ∷ rs) = (r.time ≤ limits.last_release) × AllEarly rs

-- ---- Noted in a slice

-- some releases are noted: they stand in the slice's front as numbers; or no list can have them, since one is too late or they are too many
pub record Notes (rs : List Release) (n : Noted) (keys : List ℕ) : Type 0 where
  pub fit : AllFit rs
  pub within : n.count ≤ length keys
  pub noted : n.possible ≡ true → (take n.count keys ≡ keys_of rs) × AllEarly rs
  pub not : n.possible ≡ false → AllEarly rs → length rs ≤ length keys → ⊥

abbrev pub attested_release : Option Release → List Release
attested_release None = []
attested_release (Some r) = r ∷ []

pub record NotesMore (n : Noted) (told : Option Release) (before : List ℕ) (x : Noted) (after : List ℕ) : Type 0 where
  pub same_length : length after ≡ length before
  pub within : n.count ≤ length before → x.count ≤ length after
  pub more : (rs : List Release) → Notes rs n before → Notes (rs ++ attested_release told) x after

-- none yet
abbrev pub none_noted : Noted
none_noted = record { count = 0; possible = true }

-- what was noted before goes on with what the whole entries at the front tell; where none is refused, that is all that the bytes tell
pub record Collects (s : List ℕ) (n : Noted) (before : List ℕ) (x : Collected) (after : List ℕ) : Type 0 where
  pub same_length : length after ≡ length before
  pub within : n.count ≤ length before → x.noted.count ≤ length after
  pub refusal_is : x.refusal ≡ refusal_of (attested s)
  pub whole : x.refusal ≡ None → attested s ≡ Releases (front s).releases
  pub notes : (rs : List Release) → Notes rs n before → Notes (rs ++ (front s).releases) x.noted after

-- ---- Bytes held against others

-- whether two lists are the same
pub record Tells (x : Bool) (a b : List ℕ) : Type 0 where
  pub same : x ≡ true → a ≡ b
  pub shows : a ≡ b → x ≡ true

-- ---- The input that the numbers make

-- an input's head, as it was read
pub record ReadHead (s : List ℕ) (k : Head) : Type 0 where
  pub some : length s ≡ 0 → ⊥
  pub is : head_of s ≡ Ok k

-- task entries that open a dispatcher, and their head
pub record Opened (tasks : List ℕ) (k : Head) : Type 0 where
  pub opens : IsOk (opening tasks)
  pub is : head_of tasks ≡ Ok k

-- memory for reading: task entries that open a dispatcher; room for as many numbers as a file may have releases, or as the record can
-- tell of; and for the input that they make
pub record Lent (tasks stored keys input : List ℕ) : Type 0 where
  pub opens : IsOk (opening tasks)
  pub enough : (limits.releases ≤ length keys) ⊎ (length stored ≤ size 2 * length keys)
  pub room : limits.longest_head + size 2 * length keys ≤ length input
