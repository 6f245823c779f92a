-- `run::gather` meets its contract: what is left to gather, gathered from here, gives what the whole gives. Assumes nothing.
use mathlib.Core.Path.{◌≡◌, refl, sym, ap, ◌∙◌, subst}
use mathlib.Core.List.{List}
use Prim.Native.Nat.{ℕ, ◌+◌}
use native.Mathlib.Omega.{arith}
use lib.ListN.{length}
use Rattle.sets.specs.Sets.{insert}
use Rattle.rules.specs.Steps.{Stands}
use Rattle.entries.specs.Entries.{size, release_at}
use Rattle.entries.proofs.Places.{release_is}
use Rattle.run.specs.Types.{Release}
use Rattle.run.specs.Listed.{releases_at}
use Rattle.run.specs.Run.{first_time, released_from, released_after}
use Rattle.run.proofs.Listing.{here, in_part, how_many, taken, after_taken, stands_here, stops_here}
use Rattle.run.proofs.releases.gather.Goals as goal

-- what the rest from a place on begins with
first_in : (s : List ℕ) (at : ℕ) {x : ℕ} {rs : List Release} → rs ≡ releases_at s at → Stands x (first_time rs) → Stands x (first_time (releases_at s at))
first_in s at {x} e h = subst (λ (rs : List Release). Stands x (first_time rs)) e h

-- whole entries were read

pub loop-next-init : goal.loop-next-init
loop-next-init c = (refl, record { entries = 0; at_is = refl; within = omega arith; after = refl })

pub slice_bounds-first_tick-count : goal.slice_bounds-first_tick-count
slice_bounds-first_tick-count c = omega (arith, c.loop-next.invariant.1.within)

pub slice_bounds-first_tick-start : goal.slice_bounds-first_tick-start
slice_bounds-first_tick-start c = omega (arith, c.loop-next.invariant.1.within)

pub slice_bounds-next-count : goal.slice_bounds-next-count
slice_bounds-next-count c = omega (arith, c.loop-next.invariant.1.within)

pub slice_bounds-next-start : goal.slice_bounds-next-start
slice_bounds-next-start c = omega (arith, c.loop-next.invariant.1.within)

pub overflow_add-at : goal.overflow_add-at
overflow_add-at c =
    let s = c.args.rest.now in let v = c.loop-next in
    omega (arith, (stands_here s v.at c.args.t (first_in s v.at (in_part s v.at) c.first_tick.ensures) c.loop-next-test.true c.requires).0)

pub loop-next-smaller : goal.loop-next-smaller
loop-next-smaller c =
    let s = c.args.rest.now in let v = c.loop-next in
    omega (arith, (stands_here s v.at c.args.t (first_in s v.at (in_part s v.at) c.first_tick.ensures) c.loop-next-test.true c.requires).0)

pub loop-next-preserved : goal.loop-next-preserved
loop-next-preserved c =
    let s = c.args.rest.now in let t = c.args.t in
    let v = c.loop-next in
    let h = stands_here s v.at t (first_in s v.at (in_part s v.at) c.first_tick.ensures) c.loop-next-test.true c.requires in
    let e = here s v.at h.0 in
    let next = c.insert-set.ensures ∙ ap (λ (n : ℕ). insert n v.set) (c.release_task.ensures ∙ ap (λ (r : Release). r.task) (release_is s v.at)) in (
      ap (λ (x : ℕ). released_from t x (releases_at s (v.at + size 2))) next ∙ sym (ap (released_from t v.set) e ∙ taken t v.set (release_at s v.at) _ h.1) ∙ v.invariant.0,
      record {
        entries = v.invariant.1.entries + 1;
        at_is = omega (arith, v.invariant.1.at_is);
        within = omega (arith, h.0);
        after = sym (ap (released_after t) e ∙ after_taken t v.set (release_at s v.at) _ h.1) ∙ v.invariant.1.after;
      },
    )

pub returns : goal.returns
returns c =
    let s = c.args.rest.now in let v = c.loop-next in let t = c.args.t in
    let h = stops_here s v.at t (first_in s v.at (in_part s v.at) c.first_tick.ensures) c.loop-next-test.false v.set in
    let after : releases_at s v.at ≡ released_after t (releases_at s 0) = sym h.1 ∙ v.invariant.1.after in
    record {
      set_is = sym h.0 ∙ v.invariant.0;
      after = after;
      read_is = omega (arith, v.invariant.1.at_is, v.invariant.1.within, how_many s 0, how_many s v.at, ap (λ (rs : List Release). length rs) after);
      within = v.invariant.1.within;
    }
