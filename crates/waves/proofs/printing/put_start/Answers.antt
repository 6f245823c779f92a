-- `waves::put_start` meets its contract: the mark, and the four values. Assumes nothing.
use mathlib.Core.List.{◌++◌}
use native.Mathlib.Omega.{arith}
use Rattle.waves.specs.Dump.{mark, wires, wire, all}
use Rattle.waves.proofs.Laying.{◌then◌, first_room, next_room, wires_size, wire_size}
use Rattle.waves.proofs.printing.put_start.Goals as goal

pub put_mark-a-requires : goal.put_mark-a-requires
put_mark-a-requires c = first_room (mark 0) (all c.args.w) c.requires.room

pub put_wires-b-requires : goal.put_wires-b-requires
unfolding all
put_wires-b-requires c = omega (arith, (first_room (wires 97 c.args.w.processor) (wires 98 c.args.w.copyin ++ (wires 99 c.args.w.copyout ++ wire 100 c.args.w.half)) (next_room (all c.args.w) c.put_mark-a.ensures c.requires.room)).fits, wires_size 97 c.args.w.processor)

pub put_wires-c-requires : goal.put_wires-c-requires
unfolding all
put_wires-c-requires c =
    let r = next_room (all c.args.w) c.put_mark-a.ensures c.requires.room in
    omega (
      arith,
      (first_room (wires 98 c.args.w.copyin) (wires 99 c.args.w.copyout ++ wire 100 c.args.w.half)
          (next_room (wires 98 c.args.w.copyin ++ (wires 99 c.args.w.copyout ++ wire 100 c.args.w.half)) c.put_wires-b.ensures r)).fits,
      wires_size 98 c.args.w.copyin,
    )

pub put_wires-d-requires : goal.put_wires-d-requires
unfolding all
put_wires-d-requires c =
    let r = next_room (all c.args.w) c.put_mark-a.ensures c.requires.room in
    omega (
      arith,
      (first_room (wires 99 c.args.w.copyout) (wire 100 c.args.w.half)
          (next_room (wires 99 c.args.w.copyout ++ wire 100 c.args.w.half) c.put_wires-c.ensures
          (next_room (wires 98 c.args.w.copyin ++ (wires 99 c.args.w.copyout ++ wire 100 c.args.w.half)) c.put_wires-b.ensures r))).fits,
      wires_size 99 c.args.w.copyout,
    )

pub put_wire-requires : goal.put_wire-requires
unfolding all
put_wire-requires c =
    let r = next_room (all c.args.w) c.put_mark-a.ensures c.requires.room in record {
      n_bound = c.requires.half_bound;
      at_in_bounds = omega (
        arith,
        (next_room (wire 100 c.args.w.half) c.put_wires-d.ensures
            (next_room (wires 99 c.args.w.copyout ++ wire 100 c.args.w.half) c.put_wires-c.ensures
            (next_room (wires 98 c.args.w.copyin ++ (wires 99 c.args.w.copyout ++ wire 100 c.args.w.half)) c.put_wires-b.ensures r))).fits,
        wire_size 100 c.args.w.half,
      );
    }

pub returns : goal.returns
unfolding all
returns c = c.put_mark-a.ensures then c.put_wires-b.ensures then c.put_wires-c.ensures then c.put_wires-d.ensures then c.put_wire.ensures
