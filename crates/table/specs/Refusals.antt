-- Document 01's number and place of a refused input.
use Rattle.std.specs.Prelude.{ℕ, Option, None, Some, Result, Ok, Err}
use Rattle.table.specs.Types.{Fault, OutOfPlace, TaskNumber, Mark, Length, UnknownTask, NotRising, TooLate, TooMany, SpacingFault, Refusal, Alone, AtEntry}

-- an input: 12 returns the number alone, 1 to 11, and 19, the place of the entry's kind byte too; the place is 0 where there is none
abbrev pub refusal_number : Option Refusal → ℕ
refusal_number None = 0
refusal_number (Some (Alone n)) = n
refusal_number (Some (AtEntry n at)) = n

abbrev pub refusal_place : Option Refusal → ℕ
refusal_place None = 0
refusal_place (Some (Alone n)) = 0
refusal_place (Some (AtEntry n at)) = at

-- what is wrong with an entry
abbrev pub fault_number : Fault → ℕ
fault_number OutOfPlace = 3
fault_number TaskNumber = 4
fault_number Mark = 6
fault_number Length = 7
fault_number UnknownTask = 8
fault_number NotRising = 9
fault_number TooLate = 10
fault_number TooMany = 11
fault_number SpacingFault = 19

-- 0 where nothing is
abbrev pub number_found : {A : Type 0} → Result A Fault → ℕ
number_found (Ok x) = 0
number_found (Err f) = fault_number f
