-- Document 01's number of bytes that are no entry: one that is cut short, and one of another kind.
use Rattle.std.specs.Prelude.{ℕ}
use Rattle.entries.specs.Types.{Unreadable, CutShort, OtherKind}

abbrev pub unreadable_number : Unreadable → ℕ
unreadable_number CutShort = 1
unreadable_number OtherKind = 2
