-- A whole call stands within the bytes.
use mathlib.Core.Path.{◌≡◌, refl}
use mathlib.Core.Bool.{Bool, true, false, cond}
use mathlib.Core.List.{List}
use Prim.Native.Nat.{ℕ, ◌+◌, ◌-◌, ◌≤◌}
use native.Mathlib.Omega.{arith}
use borrow.Author.Tests.{leb-true}
use lib.Dec.{eqb, leb}
use lib.ListN.{length}
use Rattle.words.specs.Words.{number_at}
use Rattle.entries.specs.Types.{Result, Ok, Err, CallEntry, Unreadable, CutShort, OtherKind, InstantCall, MarkCall, EnquiryCall, CommitCall, MarksCall}
use Rattle.entries.specs.Entries.{size}
use Rattle.entries.specs.Calls.{instant_at, mark_at, enquiry_at, commit_at, marks_at, call_at, call_size}

-- by the value of a test
either : (b : Bool) (x y : Result CallEntry Unreadable) (n : ℕ) → (b ≡ true → call_size x ≤ n) → call_size y ≤ n → call_size (cond b x y) ≤ n
either true x y n p q = p refl
either false x y n p q = q

instant_fits : (s : List ℕ) (at : ℕ) → call_size (instant_at s at) ≤ length s - at
unfolding instant_at
instant_fits s at =
    either (leb (size 64) (length s - at)) (Ok (InstantCall (number_at 8 s (at + 1)) (number_at 4 s (at + 9)))) (Err CutShort) (length s - at)
    (λ e. leb-true (size 64) (length s - at) e)
    (omega arith)

mark_fits : (s : List ℕ) (at : ℕ) → call_size (mark_at s at) ≤ length s - at
unfolding mark_at
mark_fits s at =
    either (leb (size 65) (length s - at)) (Ok (MarkCall (number_at 1 s (at + 1)) (number_at 1 s (at + 2)))) (Err CutShort) (length s - at)
    (λ e. leb-true (size 65) (length s - at) e)
    (omega arith)

enquiry_fits : (s : List ℕ) (at : ℕ) → call_size (enquiry_at s at) ≤ length s - at
unfolding enquiry_at
enquiry_fits s at =
    either (leb (size 66) (length s - at)) (Ok (EnquiryCall (number_at 8 s (at + 1)) (number_at 4 s (at + 9)))) (Err CutShort) (length s - at)
    (λ e. leb-true (size 66) (length s - at) e)
    (omega arith)

commit_fits : (s : List ℕ) (at : ℕ) → call_size (commit_at s at) ≤ length s - at
unfolding commit_at
commit_fits s at =
    either (leb (size 67) (length s - at)) (Ok (CommitCall (number_at 8 s (at + 1)) (number_at 8 s (at + 9)) (number_at 4 s (at + 17)))) (Err CutShort) (length s - at)
    (λ e. leb-true (size 67) (length s - at) e)
    (omega arith)

marks_fits : (s : List ℕ) (at : ℕ) → call_size (marks_at s at) ≤ length s - at
unfolding marks_at
marks_fits s at =
    either (leb (size 68) (length s - at)) (Ok (MarksCall (number_at 4 s (at + 1)) (number_at 1 s (at + 5)))) (Err CutShort) (length s - at)
    (λ e. leb-true (size 68) (length s - at) e)
    (omega arith)

call_fits : (s : List ℕ) (at : ℕ) → call_size (call_at s at) ≤ length s - at
unfolding call_at
call_fits s at =
    let marks = cond (eqb (number_at 1 s at) 68) (marks_at s at) (Err OtherKind) in
    let commit = cond (eqb (number_at 1 s at) 67) (commit_at s at) marks in
    let enquiry = cond (eqb (number_at 1 s at) 66) (enquiry_at s at) commit in
    let mark = cond (eqb (number_at 1 s at) 65) (mark_at s at) enquiry in
    either (leb (length s) at) (Err CutShort) (cond (eqb (number_at 1 s at) 64) (instant_at s at) mark) (length s - at) (λ e. omega arith)
    (either (eqb (number_at 1 s at) 64) (instant_at s at) mark (length s - at) (λ e. instant_fits s at)
    (either (eqb (number_at 1 s at) 65) (mark_at s at) enquiry (length s - at) (λ e. mark_fits s at)
    (either (eqb (number_at 1 s at) 66) (enquiry_at s at) commit (length s - at) (λ e. enquiry_fits s at)
    (either (eqb (number_at 1 s at) 67) (commit_at s at) marks (length s - at) (λ e. commit_fits s at)
    (either (eqb (number_at 1 s at) 68) (marks_at s at) (Err OtherKind) (length s - at) (λ e. marks_fits s at) (omega arith))))))

pub size_fits : (s : List ℕ) (at : ℕ) {entry : Result CallEntry Unreadable} {size : ℕ} → size ≡ call_size entry → entry ≡ call_at s at → size ≤ length s - at
size_fits s at e f = rw (e, f) (call_fits s at)
