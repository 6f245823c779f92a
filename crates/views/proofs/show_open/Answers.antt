-- `views::show_open` meets its contract: each phase is stored where it is under way. Assumes nothing.
use mathlib.Core.Path.{refl}
use mathlib.Core.Bool.{cond}
use mathlib.Core.List.{[], ◌∷◌}
use lib.Dec.{eqb}
use lib.ListN.{get_or}
use Rattle.rules.specs.Kept.{kept}
use Rattle.views.proofs.Views.{one_goes_on, three_stored}
use Rattle.views.proofs.show_open.Goals as goal

pub returns : goal.returns
returns c sets =
    let a = c.args in
    let works = c.is_working-works in
    let half = c.half_shown in
    let copies_in = eqb (get_or a.codes.now 6 0) 2 in
    let copies_out = eqb (get_or a.codes.now 4 0) 1 in
    let first = c.show_phase.ensures in
    let second = c.show_phase-2.ensures in
    let third = c.show_phase-3.ensures in
    record {
      view = record {
        begin = get_or a.times.now 0 0;
        until = cond works.result (get_or a.times.now 2 0) 0;
        inuntil = cond copies_in (get_or a.times.now 5 0) 0;
        outuntil = cond copies_out (get_or a.times.now 4 0) 0;
        pending = get_or sets 1 0;
        waiting = get_or sets 5 0;
        marked = get_or sets 0 0;
        opened = 1;
        work = get_or a.codes.now 1 0;
        processor = cond works.result (get_or a.codes.now 3 0) 255;
        copyin = cond copies_in (get_or a.codes.now 7 0) 255;
        copyout = cond copies_out (get_or a.codes.now 5 0) 255;
        half = half.result;
      };
      is_so = λ b ne.
          one_goes_on (kept a.times.now sets a.codes.now) b works.result ne refl refl
          (works.ensures (get_or a.codes.now 3 0) (get_or a.times.now 1 0) (get_or a.times.now 2 0)) refl refl refl refl half.ensures.value;
      ticks_are =
          three_stored (λ x y z. get_or a.times.now 0 0 ∷ x ∷ y ∷ z ∷ []) 0 1 2 3 (λ x y z n. refl) (λ x y z n. refl) (λ x y z n. refl)
          works.result copies_in copies_out (get_or a.times.now 2 0) (get_or a.times.now 5 0) (get_or a.times.now 4 0)
          first.ticks_after second.ticks_after third.ticks_after;
      units_are =
          three_stored (λ x y z. 1 ∷ get_or a.codes.now 1 0 ∷ x ∷ y ∷ z ∷ half.result ∷ []) 255 2 3 4 (λ x y z n. refl) (λ x y z n. refl) (λ x y z n. refl)
          works.result copies_in copies_out (get_or a.codes.now 3 0) (get_or a.codes.now 7 0) (get_or a.codes.now 5 0)
          first.units_after second.units_after third.units_after;
    }
