-- `views::show_none` meets its contract: number by number. Assumes nothing.
use mathlib.Core.Path.{refl}
use lib.ListN.{get_or}
use Rattle.rules.specs.Kept.{kept}
use Rattle.views.proofs.Views.{none_goes_on}
use Rattle.views.proofs.show_none.Goals as goal

pub returns : goal.returns
returns c sets =
    let half = c.half_shown in
    record {
      view = record {
        begin = 0;
        until = 0;
        inuntil = 0;
        outuntil = 0;
        pending = get_or sets 1 0;
        waiting = get_or sets 5 0;
        marked = get_or sets 0 0;
        opened = 0;
        work = 0;
        processor = 255;
        copyin = 255;
        copyout = 255;
        half = half.result;
      };
      is_so = λ times b e. none_goes_on (kept times sets c.args.codes.now) b e half.ensures.value;
      ticks_are = refl;
      units_are = refl;
    }
