-- `dispatcher::refusing::refusal` meets its contract: the tests in their order, each with those before it failed. Assumes nothing.
use Rattle.std.proofs.Common.{◌≡◌, ℕ, Bool, not, ◌&&◌, ap, ◌∙◌, le-ltb, lt-ltb, eq-eqb, ne_eqb}
use Rattle.sets.specs.Sets.{member, difference}
use Rattle.sets.proofs.Laws.{none, empty, difference_member, difference_small}
use Rattle.rules.specs.Calls.{refusal, unknown}
use Rattle.rules.specs.Registers.{state_in}
use Rattle.dispatcher.proofs.refusing.refusal.Goals as goal

-- the empty set names no unknown task
none_unknown : (t : ℕ) → difference 0 t ≡ 0
none_unknown t = empty (difference 0 t) (difference_small 0 t) (λ k l. difference_member 0 t k l ∙ ap (λ (b : Bool). b && not (member k t)) (none k))

pub returns-then-set-eq0 : goal.returns-then-set-eq0
unfolding refusal unknown state_in
returns-then-set-eq0 c b = simp (c.if-set-eq0.true, none_unknown, c.time_refusal.ensures c.args.sets.now)

pub returns-then-difference-ne0 : goal.returns-then-difference-ne0
unfolding refusal unknown state_in
returns-then-difference-ne0 c b = simp (← c.difference.ensures, ne_eqb _ _ c.if-difference-ne0.true)

pub returns-then-t-gt-LAST_RELEASE : goal.returns-then-t-gt-LAST_RELEASE
unfolding refusal unknown state_in
returns-then-t-gt-LAST_RELEASE c b = simp (← c.difference.ensures, eq-eqb _ _ c.if-difference-ne0.false, ne_eqb _ _ c.if-set-eq0.false, lt-ltb _ _ c.if-t-gt-LAST_RELEASE.true)

pub returns : goal.returns
unfolding refusal unknown state_in
returns c b = simp (← c.difference.ensures, eq-eqb _ _ c.if-difference-ne0.false, ne_eqb _ _ c.if-set-eq0.false, le-ltb _ _ c.if-t-gt-LAST_RELEASE.false, c.time_refusal-2.ensures c.args.sets.now)
