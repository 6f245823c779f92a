-- The iterator over a set meets its laws: the next member is the lowest, and one member fewer is left. Assumes nothing.
use mathlib.Core.Path.{ap}
use Rattle.std.proofs.Common.{rules, length}
use Rattle.sets.proofs.Listing.{next_member, no_member}
use Rattle.sets.proofs.EachMemberIterator.next.Goals as goal

pub returns-then-set-eq0-clause-steps : goal.returns-then-set-eq0-clause-steps
returns-then-set-eq0-clause-steps c = rw c.if-set-eq0.true ((no_member, no_member), search rules)

pub returns-clause-steps : goal.returns-clause-steps
returns-clause-steps c =
    (rw (c.lowest.ensures, c.rest-self.ensures) (next_member c.args.self.now.left (search rules) c.if-set-eq0.false), c.rest-self.type_inv)

pub returns-clause-goes : goal.returns-clause-goes
returns-clause-goes c =
    let e = ap length (next_member c.args.self.now.left (search rules) c.if-set-eq0.false) in
    rw c.rest-self.ensures (search (rules, e))
