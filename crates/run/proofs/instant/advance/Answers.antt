-- `run::advance` meets its contract: the next instant's time and releases, and the steps, one behind the other. Assumes nothing.
use mathlib.Core.Path.{refl, ◌∙◌}
use mathlib.Core.List.{[]}
use native.Mathlib.Omega.{arith}
use Rattle.rules.specs.Registers.{state_in}
use Rattle.rules.specs.Kept.{kept, by_task, beside}
use Rattle.run.proofs.Slices.{skips_most}
use Rattle.run.proofs.InOrder.{composed, advanced, job_most, span_place}
use Rattle.run.proofs.instant.advance.Goals as goal

-- little is put before: a job, an interval, 32 skipped releases

pub returns-then-t : goal.returns-then-t
unfolding state_in
returns-then-t c =
    record {
      time_is = c.next_tick-t.ensures c.args.sets.now;
      ended = λ e. record { numbers_are = refl; beside_is = refl; none_read = refl; none_put = refl; slice_is = refl };
      made = λ e. absurd (e c.if-t.true);
    }

pub end_before-first-requires : goal.end_before-first-requires
end_before-first-requires c =
    let at = c.stamp.ensures (beside [] [] (by_task [] [] [])) in
    let o = c.end_copyout-done.ensures [] [] [] at.whole in
    omega (arith, job_most o)

pub skips_at-skipped-requires : goal.skips_at-skipped-requires
skips_at-skipped-requires c =
    let at = c.stamp.ensures (beside [] [] (by_task [] [] [])) in
    let o = c.end_copyout-done.ensures [] [] [] at.whole in
    let a = c.others_end.ensures [] _ o.copies.no_more (by_task [] [] []) o.copies.whole in
    let b = c.end_before-first.ensures [] [] a.whole in
    omega (arith, job_most o, span_place b)

pub end_after-size-requires : goal.end_after-size-requires
end_after-size-requires c =
    let at = c.stamp.ensures (beside [] [] (by_task [] [] [])) in
    let o = c.end_copyout-done.ensures [] [] [] at.whole in
    let a = c.others_end.ensures [] _ o.copies.no_more (by_task [] [] []) o.copies.whole in
    let b = c.end_before-first.ensures [] [] a.whole in
    omega (arith, job_most o, span_place b, c.skips_at-skipped.ensures.place_is, skips_most 32 c.union.result c.next_tick-t.result)

pub shape_of-out : goal.shape_of-out
shape_of-out c = c.out-4-1.given ∙ c.out-3-1.given ∙ c.out-2-1.given ∙ c.out-1.given

pub returns : goal.returns
unfolding state_in
returns c =
    let s = c.args in
    let t = c.next_tick-t.result in
    let batch = c.gather-batch in
    let k = kept s.times.now s.sets.now s.codes.now in
    let b = beside s.priority.now s.columns.now (by_task s.release.now s.blocked.now s.waits.now) in
    let at = c.stamp.ensures b in
    let o = c.end_copyout-done.ensures s.priority.now s.columns.now s.waits.now at.whole in
    let a = c.others_end.ensures s.priority.now _ o.copies.no_more _ o.copies.whole in
    let e = c.end_before-first.ensures s.columns.now s.waits.now a.whole in
    let x = c.take_releases.ensures _ s.columns.now e.whole in
    let f = c.end_after-size.ensures _ x.whole in
    let g = c.begin_interval.ensures _ _ f.whole in
    advanced s.rest.now t batch.result c.end_after-size.result k b s.out.now (c.next_tick-t.ensures s.sets.now) c.if-t.false batch.ensures
    (composed k b t batch.result.set c.too_soon-soon.ensures at o a e c.difference-passing.ensures c.released-r.ensures c.union.ensures c.skips_at-skipped.ensures c.held_over-held.ensures x f g)
