-- A mark call on a dispatcher where it is kept promises of what stands there afterwards what the call by value
-- promises of the state that it hands back.
use Rattle.std.specs.Prelude.{ℕ, Result, ⊤}
use Rattle.dispatcher.specs.declared.Dispatcher.{Dispatcher}
use Rattle.rules.specs.declared.refusal.CallRefusal.{CallRefusal}
use Rattle.dispatcher.specs.Dispatcher.{MarkAnswers, MarksAnswers}

abbrev pub MarksKept : Dispatcher → ℕ → ℕ → Result ⊤ CallRefusal → Dispatcher → Type 0
MarksKept d n m answer after = MarkAnswers d n m (record { state = after; answer = answer })

-- 10/13, and one of a set of tasks
abbrev pub MarksAllKept : Dispatcher → ℕ → ℕ → Result ⊤ CallRefusal → Dispatcher → Type 0
MarksAllKept d set m answer after = MarksAnswers d set m (record { state = after; answer = answer })
