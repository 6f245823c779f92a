-- `reading::replay::yields` meets its contract: by what checking the input found. Assumes nothing.
use mathlib.Core.Path.{◌≡◌, sym, ◌∙◌}
use mathlib.Core.List.{List}
use Prim.Native.Nat.{ℕ}
use mathlib.Core.Bool.{false≢true}
use native.Mathlib.Omega.{arith}
use lib.ListN.{length}
use Rattle.guarantees.specs.Types.{Head, Refusal}
use Rattle.record.specs.Types.{None}
use Rattle.std.proofs.Common.{Result}
use Rattle.run.specs.Files.{refusal_of, releases_from, head_unless, file_head}
use Rattle.run.proofs.Checking.{file_behind}
use Rattle.reading.specs.Parts.{ReadHead}
use Rattle.run.proofs.Advancing.{releases_within}
use Rattle.record.proofs.Outcomes.{runs_whole}
use Rattle.reading.proofs.Holding.{yields_accepted, yields_refused}
use Rattle.reading.proofs.replay.yields.Goals as goal

-- the head of an input that is accepted so far
whole : {x y : Result Head Refusal} (s : List ℕ) (k : Head) → ReadHead s k
    → x ≡ head_unless k (refusal_of (releases_from (length s) s k.end k.table.present None 0)) → x ≡ y → file_head s ≡ y
whole s k h e f = sym (e ∙ file_behind s h.some k h.is) ∙ f

pub overflow_sub-n : goal.overflow_sub-n
overflow_sub-n c = releases_within c.args.s.now _ (whole c.args.s.now c.args.head c.requires c.check_behind.ensures c.in-Ok.is)

pub overflow_mul-budget : goal.overflow_mul-budget
overflow_mul-budget c =
    let runs = runs_whole c.args.s.now _ (whole c.args.s.now c.args.head c.requires c.check_behind.ensures c.in-Ok.is) in
    omega (arith, runs.few)

pub overflow_add-budget : goal.overflow_add-budget
overflow_add-budget c =
    let runs = runs_whole c.args.s.now _ (whole c.args.s.now c.args.head c.requires c.check_behind.ensures c.in-Ok.is) in
    omega (arith, runs.few)

pub replays-requires : goal.replays-requires
replays-requires c =
    let runs = runs_whole c.args.s.now _ (whole c.args.s.now c.args.head c.requires c.check_behind.ensures c.in-Ok.is) in
    record { kept = λ e. absurd (false≢true e); few = omega (arith, runs.few); served = runs.served }

pub returns-in_default : goal.returns-in_default
returns-in_default c = yields_refused c.args.s.now c.args.stored.now _ (whole c.args.s.now c.args.head c.requires c.check_behind.ensures c.in_default.is)

pub returns : goal.returns
returns c = c.replays.ensures ∙ yields_accepted c.args.s.now c.args.stored.now _ (whole c.args.s.now c.args.head c.requires c.check_behind.ensures c.in-Ok.is)
