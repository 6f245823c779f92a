-- The claim on a promise: what opening from bytes returns, and, where it serves them, the claim for every list of calls and of requests
-- from the state returned, each read as the rules have it.
use Rattle.std.specs.Prelude.{◌≡◌, Result, Ok}
use Rattle.std.specs.Result.{result_err}
use Rattle.guarantees.specs.Types.{List, ℕ, Refusal, Call}
use Rattle.table.specs.Refusals.{refusal_number, refusal_place}
use Rattle.rules.specs.Calls.{opening}
use Rattle.dispatcher.specs.declared.Dispatcher.{Dispatcher}
use Rattle.dispatcher.specs.Dispatcher.{state_of, opening_of}
use Rattle.guarantees.specs.Figure.{PlainFigure}
use Rattle.guarantees.specs.Claim.{Claim}
use Rattle.guarantees.specs.Requests.{Request, LookFirst}

pub record OpenedWithClaim (bytes : List ℕ) (r : Result Dispatcher Refusal) : Type 0 where
  pub opens : opening_of r ≡ opening bytes
  -- and in document 01's numbers: the refusal's and the place of its entry
  pub number : refusal_number (result_err r) ≡ refusal_number (result_err (opening bytes))
  pub place : refusal_place (result_err r) ≡ refusal_place (result_err (opening bytes))
  pub claim : (d : Dispatcher) → r ≡ Ok d → (calls : List Call) → Claim (state_of d) calls
  -- 7/13: and its table's figure is plain
  pub figure : (d : Dispatcher) → r ≡ Ok d → PlainFigure (state_of d).table
  -- 9/13: the first ticket, and what holds of enquiries and commits
  pub ticket : (d : Dispatcher) → r ≡ Ok d → d.ticket ≡ 0
  pub look_first : (d : Dispatcher) → r ≡ Ok d → (requests : List Request) → LookFirst (state_of d) requests
