-- `record_lines::fill` meets its contract. The loop's invariant: the slice holds the lines of the entries passed. The measure is how many
-- bytes of the record are left. Assumes nothing.
use mathlib.Core.Path.{refl}
use native.Mathlib.Omega.{arith}
use Rattle.record_lines.proofs.Filling.{none_yet, goes_on, turned, stopped}
use borrow.Author.Rules.{rules}
use Rattle.record_lines.proofs.fill.Goals as goal

pub loop-line-init : goal.loop-line-init
loop-line-init c = let a = c.args in (none_yet a.s.now a.at a.out.now, refl)

pub slice_bounds-put-count : goal.slice_bounds-put-count
slice_bounds-put-count c = omega (arith, c.loop-line.invariant.0.fits, c.loop-line.invariant.1)

pub slice_bounds-put-start : goal.slice_bounds-put-start
slice_bounds-put-start c = omega (arith, c.loop-line.invariant.0.fits, c.loop-line.invariant.1)

pub slice_bounds-put-end : goal.slice_bounds-put-end
slice_bounds-put-end c = omega (arith, c.loop-line.invariant.0.fits, c.loop-line.invariant.1)

pub overflow_add-len : goal.overflow_add-len
overflow_add-len c =
    let a = c.args in
    let v = c.loop-line in
    let l = c.line_at-line in
    let p = c.put-n in
    omega (arith, (goes_on a.s.now a.at a.out.now v.len v.next v.out l.result.text l.result.next p.result p.new.out v.invariant.0 v.invariant.1 l.ensures p.ensures.0 (search rules)).0)

pub loop-line-smaller : goal.loop-line-smaller
loop-line-smaller c =
    let a = c.args in
    let v = c.loop-line in
    let l = c.line_at-line in
    let p = c.put-n in
    let g = goes_on a.s.now a.at a.out.now v.len v.next v.out l.result.text l.result.next p.result p.new.out v.invariant.0 v.invariant.1 l.ensures p.ensures.0 (search rules) in
    omega (arith, g.1, g.2)

pub loop-line-preserved : goal.loop-line-preserved
loop-line-preserved c =
    let a = c.args in
    let v = c.loop-line in
    let l = c.line_at-line in
    let p = c.put-n in
    (turned a.s.now a.at a.out.now v.len v.next v.out l.result.text l.result.next p.result p.new.out v.invariant.0 v.invariant.1 l.ensures p.ensures.0 (search rules) p.ensures.1, search rules)

pub returns : goal.returns
returns c =
    let a = c.args in
    let v = c.loop-line in
    let l = c.line_at-line in
    let p = c.put-n in
    stopped a.s.now a.at a.out.now v.len v.next v.out l.result.text l.result.next p.result p.new.out v.invariant.0 v.invariant.1 l.ensures p.ensures.0 (search rules) p.ensures.1
