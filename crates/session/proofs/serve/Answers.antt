-- A call is no longer than the bytes that are left.
use Rattle.std.proofs.Common.{arith}
use Rattle.entries.proofs.CallSizes.{size_fits}
use Rattle.session.proofs.serve.Goals as goal

pub loop-entry-smaller : goal.loop-entry-smaller
loop-entry-smaller c =
    let fits = size_fits c.args.s.now c.loop-entry.at c.call_size-size.ensures c.call_at-entry.ensures in
    omega arith

pub loop-entry-preserved : goal.loop-entry-preserved
loop-entry-preserved c =
    let fits = size_fits c.args.s.now c.loop-entry.at c.call_size-size.ensures c.call_at-entry.ensures in
    omega arith
