-- The call entries of a session, taken apart: one byte of kind, then a body whose length the kind fixes, as in an input.
use Rattle.std.specs.Prelude.{cond, List, ℕ, ◌+◌, ◌-◌, eqb, leb, length}
use Rattle.words.specs.Words.{number_at}
use Rattle.entries.specs.Entries.{size}
use Rattle.entries.specs.Types.{Result, Ok, Err, CallEntry, Unreadable, CutShort, OtherKind, InstantCall, MarkCall, EnquiryCall, CommitCall, MarksCall}

-- kind 64, an instant: time (8), set (4)
unfoldable pub instant_at : List ℕ → ℕ → Result CallEntry Unreadable
instant_at s at = cond (leb (size 64) (length s - at)) (Ok (InstantCall (number_at 8 s (at + 1)) (number_at 4 s (at + 9)))) (Err CutShort)

-- kind 65, a mark call: task (1), mark (1)
unfoldable pub mark_at : List ℕ → ℕ → Result CallEntry Unreadable
mark_at s at = cond (leb (size 65) (length s - at)) (Ok (MarkCall (number_at 1 s (at + 1)) (number_at 1 s (at + 2)))) (Err CutShort)

-- 9/13, kind 66, an enquiry: time (8), set (4)
unfoldable pub enquiry_at : List ℕ → ℕ → Result CallEntry Unreadable
enquiry_at s at = cond (leb (size 66) (length s - at)) (Ok (EnquiryCall (number_at 8 s (at + 1)) (number_at 4 s (at + 9)))) (Err CutShort)

-- 9/13, kind 67, a commit: ticket (8), time (8), set (4)
unfoldable pub commit_at : List ℕ → ℕ → Result CallEntry Unreadable
commit_at s at =
    cond (leb (size 67) (length s - at)) (Ok (CommitCall (number_at 8 s (at + 1)) (number_at 8 s (at + 9)) (number_at 4 s (at + 17)))) (Err CutShort)

-- 10/13, kind 68, marks for a set of tasks: set (4), mark (1)
unfoldable pub marks_at : List ℕ → ℕ → Result CallEntry Unreadable
marks_at s at = cond (leb (size 68) (length s - at)) (Ok (MarksCall (number_at 4 s (at + 1)) (number_at 1 s (at + 5)))) (Err CutShort)

-- the call whose kind byte is at a place; where the bytes end there, it is cut short
unfoldable pub call_at : List ℕ → ℕ → Result CallEntry Unreadable
call_at s at =
    let kind : ℕ = number_at 1 s at in
    cond (leb (length s) at) (Err CutShort)
    (cond (eqb kind 64) (instant_at s at)
    (cond (eqb kind 65) (mark_at s at)
    (cond (eqb kind 66) (enquiry_at s at)
    (cond (eqb kind 67) (commit_at s at)
    (cond (eqb kind 68) (marks_at s at) (Err OtherKind))))))

-- how many bytes a whole call takes; 0 for what is none
abbrev pub call_size : Result CallEntry Unreadable → ℕ
call_size (Err e) = 0
call_size (Ok (InstantCall t set)) = size 64
call_size (Ok (MarkCall n m)) = size 65
call_size (Ok (EnquiryCall t set)) = size 66
call_size (Ok (CommitCall k t set)) = size 67
call_size (Ok (MarksCall set m)) = size 68
