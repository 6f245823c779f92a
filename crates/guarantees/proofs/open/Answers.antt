-- `guarantees::open` meets its contract: opening, with demand 3. Assumes nothing.
use mathlib.Core.Path.{◌≡◌, sym, ap, ◌∙◌}
use Rattle.std.specs.Prelude.{Result, Ok, Err}
use Rattle.std.specs.Result.{result_err}
use Rattle.std.proofs.lemmas.Result.{IfOk-at_ok}
use Rattle.table.specs.Refusals.{refusal_number, refusal_place}
use Rattle.rules.specs.Calls.{opening}
use Rattle.dispatcher.specs.Dispatcher.{state_of, opening_of}
use Rattle.dispatcher.specs.declared.Dispatcher.{Dispatcher}
use Rattle.guarantees.specs.Types.{List, ℕ, State, Refusal, Call}
use Rattle.guarantees.proofs.Requests.{look_first}
use Rattle.guarantees.specs.Claim.{Claim}
use Rattle.guarantees.proofs.Demand3.{demand_3, figure_opened}
use Rattle.guarantees.specs.Claim
use Rattle.guarantees.proofs.open.Goals as goal

-- of the dispatcher returned
module _ (bytes : List ℕ) (r : Result Dispatcher Refusal) (e : opening_of r ≡ opening bytes) (d : Dispatcher) (f : r ≡ Ok d) where
  serves : opening bytes ≡ Ok (state_of d)
  serves = sym e ∙ ap opening_of f

  claimed : (calls : List Call) → Claim (state_of d) calls
  unfolding Claim.Demand3
  claimed calls = demand_3 bytes (state_of d) serves calls

pub returns : goal.returns
returns c =
    let e = c.open.ensures.opens in
    let s = c.args.s.now in
    let r = c.open.result in
    -- the refusal is the same
    let same : result_err r ≡ result_err (opening s) = refusal_same r (opening s) e in
    record {
      opens = e;
      number = ap refusal_number same;
      place = ap refusal_place same;
      claim = claimed s r e;
      figure = λ d f. figure_opened s (state_of d) (serves s r e d f);
      ticket = λ d f. IfOk-at_ok (λ (x : Dispatcher). x.ticket ≡ 0) f c.open.ensures.ticket;
      look_first = λ d f. look_first (state_of d) (claimed s r e d f);
    }
  where
    refusal_same : (r : Result Dispatcher Refusal) (o : Result State Refusal) → opening_of r ≡ o → result_err r ≡ result_err o
    refusal_same (Ok d) o e = ap result_err e
    refusal_same (Err x) o e = ap result_err e
