-- Why a call is refused, and document 01's number of it.
use Rattle.std.specs.Prelude.{ℕ, Result, Ok, Err, ⊤}
use Rattle.rules.specs.declared.refusal.CallRefusal.{CallRefusal}
use Rattle.rules.specs.declared.refusal.CallRefusal.TheVariants.{BadMark, LateRelease, NotAfter, PastDue, UnknownTask, BusyTask, OldTicket}
use Rattle.rules.specs.declared.Occurred.{Occurred}

abbrev pub call_number : CallRefusal → ℕ
call_number BadMark = 6
call_number LateRelease = 10
call_number NotAfter = 14
call_number PastDue = 15
call_number UnknownTask = 16
call_number BusyTask = 17
call_number OldTicket = 20

-- of a call that may be refused: 0 where it is not
abbrev pub number_in : Result ⊤ CallRefusal → ℕ
number_in (Ok x) = 0
number_in (Err e) = call_number e

-- What the rules answer: what occurred at an instant, or the number of its refusal; and a mark call's answer.
abbrev pub Answer : Type 0
Answer = Result Occurred ℕ

abbrev pub MarkAnswer : Type 0
MarkAnswer = Result ⊤ ℕ

-- an answer with document 01's number
abbrev pub numbered : {A : Type 0} → Result A CallRefusal → Result A ℕ
numbered (Ok x) = Ok x
numbered (Err e) = Err (call_number e)
