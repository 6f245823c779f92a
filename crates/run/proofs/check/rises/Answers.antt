-- `run::rises` meets its contract: by the order of pairs. Assumes nothing.
use Rattle.std.proofs.Common.{◌≡◌, Bool, true, false, refl, ◌∙◌, Some}
use Rattle.std.proofs.Common.{Less, Equal, Greater}
use Rattle.std.specs.Prelude.{cond, ◌||◌, ◌&&◌}
use Rattle.std.specs.Ordering.{is_lt, is_some_and, partial_ordering_then}
use lib.Dec.{eqb, ltb}
use Rattle.run.specs.Files.{rises}
use Rattle.run.proofs.check.rises.Goals as goal

-- one pair is before another where its first part is smaller, or is as large and its second is smaller
pairs : (a b c d : Bool)
    → is_some_and is_lt (partial_ordering_then (Some (cond a Less (cond b Equal Greater))) (Some (cond c Less (cond d Equal Greater)))) ≡ (a || (b && c))
pairs true b c d = refl
pairs false true true d = refl
pairs false true false true = refl
pairs false true false false = refl
pairs false false c d = refl

pub returns-in-None : goal.returns-in-None
unfolding rises
returns-in-None c = simp c.in-None.is

pub returns-in-Some : goal.returns-in-Some
unfolding rises
returns-in-Some c =
    let l = c.in-Some.l in
    let r = c.args.r in
    rw c.in-Some.is (c.lt.ensures ∙ pairs (ltb l.time r.time) (eqb l.time r.time) (ltb l.task r.task) (eqb l.task r.task))
