-- `rules::spacing::too_soon` meets its contract: of the tasks passed, those whose release comes too soon are gathered. Assumes nothing.
use Rattle.std.proofs.Common.{◌&&◌, ◌^◌, ◌<◌, ◌≡◌}
use Rattle.rules.specs.Types.{Bool, true, false, List, [], ℕ, refl, sym, ap, ◌∙◌}
use native.Mathlib.Omega.{arith}
use borrow.Author.Tests.{eqb-true}
use lib.Dec.{eqb}
use lib.ListN.{get_or}
use Rattle.sets.specs.Sets.{member, collect, insert, intersection}
use Rattle.sets.proofs.Laws.{none, ext, collected, collect_small, inserted, insert_small, intersection_small, intersection_member}
use Rattle.rules.specs.Instant.{previous_release, too_soon}
use Rattle.rules.specs.Registers.{state_in}
use Rattle.rules.specs.Kept.{kept, by_task, beside, read}
use Rattle.rules.proofs.Members.{passed, Turn, start, onward, ended, at_start, at_end, gathers_one, gathers_none}
use Rattle.rules.proofs.spacing.too_soon.Invariants.{Gathered, soon_by}
use Rattle.rules.proofs.spacing.too_soon.Goals as goal

-- of the tasks that the loop has passed, those that meet a test are gathered
module _ (test : ℕ → Bool) where
  begun : {all : ℕ} → all < 2 ^ 32 → Gathered test all all 0
  begun {all} l = record { tasks = start l; small = omega arith; members = λ j m. none j ∙ sym (ap (λ (b : Bool). b && test j) (at_start all j)) }

  -- one turn: task n is passed, and it is gathered if it meets the test
  module _ {all left soon n after : ℕ} (t : Turn all left n after) (h : Gathered test all left soon) where
    at_n : (b : Bool) → test n ≡ b → (j : ℕ) → eqb j n ≡ true → test j ≡ b
    at_n b p j e = ap test (eqb-true j n e) ∙ p

    gathers : {x : ℕ} → test n ≡ true → x ≡ insert n soon → Gathered test all after x
    gathers p e = record {
      tasks = t.next;
      small = rw e (insert_small n soon);
      members = λ j l.
          ap (member j) e ∙ inserted n soon j l ∙ gathers_one (eqb j n) (passed all left j) (member j soon) (test j) (at_n true p j) (h.members j l)
          ∙ ap (λ (b : Bool). b && test j) (sym (t.one_more j));
    }

    passes : test n ≡ false → Gathered test all after soon
    passes p = record {
      tasks = t.next;
      small = h.small;
      members = λ j l.
          gathers_none (eqb j n) (passed all left j) (member j soon) (test j) (at_n false p j) (h.members j l)
          ∙ ap (λ (b : Bool). b && test j) (sym (t.one_more j));
    }

-- whether the release of a task comes too soon, by the numbers that are lent
all_gathered : (t set : ℕ) (times sets codes priority columns release blocked waits : List ℕ) (all left soon : ℕ) → all ≡ intersection set (get_or sets 6 0)
    → Gathered (soon_by t sets columns release waits) all left soon → left ≡ 0
    → soon ≡ too_soon (read (kept times sets codes) (beside priority columns (by_task release blocked waits))) t set
unfolding too_soon previous_release state_in
all_gathered t set times sets codes priority columns release blocked waits all left soon e h z =
    let test : ℕ → Bool = soon_by t sets columns release waits in
    let p : ℕ → Bool = λ j. member j set && (member j (get_or sets 6 0) && test j) in
    ext 32 soon (collect p) h.small (collect_small p)
    (λ j l.
    h.members j l
    ∙ ap (λ (x : ℕ). passed all x j && test j) z
    ∙ ap (λ (b : Bool). b && test j) (at_end all j ∙ ap (member j) e ∙ intersection_member set (get_or sets 6 0) j l)
    ∙ in_turn (member j set) (member j (get_or sets 6 0)) (test j)
    ∙ sym (collected p j l))
  where
    in_turn : (a b c : Bool) → ((a && b) && c) ≡ (a && (b && c))
    in_turn true b c = refl
    in_turn false b c = refl

pub loop-n-init : goal.loop-n-init
loop-n-init c =
    rw (c.into_iter-n-iterator.ensures.into_iter_gives, c.members-n-items.ensures) (begun _ (rw c.intersection-spaced.ensures (intersection_small _ _)))

pub loop-n-preserved-then-is_too_soon : goal.loop-n-preserved-then-is_too_soon
unfolding previous_release state_in
loop-n-preserved-then-is_too_soon c =
    let w = c.loop-n in
    let u = onward w.n-iterator.left c.in-Some.n c.next.new.self.left w.invariant.tasks c.in-Some.ensures.steps in
    let is = c.is_too_soon.ensures [] [] [] [] in
    gathers _ u w.invariant (sym is ∙ c.if-is_too_soon.true) c.insert-soon.ensures

pub loop-n-preserved : goal.loop-n-preserved
unfolding previous_release state_in
loop-n-preserved c =
    let w = c.loop-n in
    let u = onward w.n-iterator.left c.in-Some.n c.next.new.self.left w.invariant.tasks c.in-Some.ensures.steps in
    let is = c.is_too_soon.ensures [] [] [] [] in
    passes _ u w.invariant (sym is ∙ c.if-is_too_soon.false)

pub returns : goal.returns
returns c times codes priority blocked =
    let a = c.args in
    let z = ended c.loop-n.n-iterator.left c.loop-n.invariant.tasks c.in-None.ensures.steps.0.0 in
    all_gathered a.t a.set times a.sets.now codes priority a.columns.now a.release.now blocked a.waits.now _ _ _ c.intersection-spaced.ensures c.loop-n.invariant z
