-- `reading::collecting::note` meets its contract. Assumes nothing.
use native.Mathlib.Omega.{arith}
use borrow.Author.Tests.{not-true, not-false}
use Rattle.reading.proofs.Noting.{notes_none, notes_full, notes_late, notes_one}
use Rattle.reading.proofs.collecting.note.Goals as goal

pub returns-in_default : goal.returns-in_default
returns-in_default c = rw c.in_default.is (notes_none _ _)

pub returns-then-keys-count : goal.returns-then-keys-count
returns-then-keys-count c = rw c.in-Some.is (notes_full _ _ _ (omega arith, omega arith) c.if-keys-count.true)

pub returns-then-time-gt-LAST_RELEASE : goal.returns-then-time-gt-LAST_RELEASE
returns-then-time-gt-LAST_RELEASE c = rw c.in-Some.is (notes_late _ _ _ (omega arith, omega arith) c.if-time-gt-LAST_RELEASE.true)

pub returns : goal.returns
returns c = rw c.in-Some.is (notes_one _ _ _ (omega arith, omega arith) (omega arith) (omega arith))
