-- The entries of an instant, put into the front of a lent slice one behind the other, as far as they fit whole.
use Rattle.std.specs.Prelude.{◌≡◌, leb, length, ◌∷◌, ◌+◌}
use Rattle.entries.specs.Entries.{laid, entry_bytes, each}
use Rattle.run.specs.Types.{cond, List, [], ℕ, RecordEntry}

-- bytes laid over a slice from a place on, where they fit
abbrev pub put_at : ℕ → List ℕ → List ℕ → List ℕ
put_at at bytes s = cond (leb (at + length bytes) (length s)) (laid at bytes s) s

-- one entry behind the other
unfoldable pub put_all : ℕ → List RecordEntry → List ℕ → List ℕ
put_all at [] s = s
put_all at (e ∷ es) s = put_all (at + length (entry_bytes e)) es (put_at at (entry_bytes e) s)

-- what the slice holds, and the place behind the entries, whether they fit or not
pub record Puts (at : ℕ) (es : List RecordEntry) (before : List ℕ) (place : ℕ) (after : List ℕ) : Type 0 where
  pub place_is : place ≡ at + length (each entry_bytes es)
  pub holds : after ≡ put_all at es before
