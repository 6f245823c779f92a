-- `dispatcher::telling::tell_interval` meets its contract: its nine words, from which it is read back. Assumes nothing.
use Rattle.dispatcher.proofs.ReadBack.{tells}
use Rattle.dispatcher.proofs.telling.tell_interval.Goals as goal

pub returns : goal.returns
returns c sets =
    let a = c.args in
    tells a.times.now sets a.codes.now a.t a.promoted a.told.now
    (c.from.ensures, rw c.from.ensures (c.fits-codes 0)) (c.processor_word.ensures a.times.now sets) (c.from-2.ensures, rw c.from-2.ensures (c.fits-codes 1))
    (c.copyout_word.ensures a.times.now sets) (c.copyin_word.ensures a.times.now sets) (c.fate_word.ensures a.times.now sets) c.promoted_word.ensures
