-- `run::first_tick` meets its contract: the first of the releases. Assumes nothing.
use mathlib.Core.Path.{sym, ap, ◌∙◌, subst}
use native.Mathlib.Omega.{arith}
use Rattle.rules.specs.Steps.{Stands}
use Rattle.rules.proofs.Ticks.{stands, never_stands}
use Rattle.run.specs.Types.{Some}
use Rattle.run.specs.Run.{first_time}
use Rattle.run.proofs.Listing.{here, none}
use Rattle.run.proofs.releases.first_tick.Goals as goal

pub returns-then-rest-lt-RELEASE_SIZE : goal.returns-then-rest-lt-RELEASE_SIZE
returns-then-rest-lt-RELEASE_SIZE c = never_stands _ (ap first_time (none c.args.rest.now 0 (omega (arith, c.if-rest-lt-RELEASE_SIZE.true))))

pub returns : goal.returns
returns c =
    let s = c.args.rest.now in
    subst (Stands c.release_time.result)
    (ap Some c.release_time.ensures ∙ ap first_time (sym (here s 0 (omega (arith, c.if-rest-lt-RELEASE_SIZE.false)))))
    (stands c.release_time.result (omega arith))
