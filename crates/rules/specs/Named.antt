-- The numbers of a dispatcher by name. Where no interval is open, `work` and `task` are the next one's; specs/Registers says what the
-- codes of the units stand for.
use Rattle.std.specs.Prelude.{ℕ}

pub record Registers : Type 0 where
  pub marked : ℕ
  pub pending : ℕ
  pub ready : ℕ
  pub candidates : ℕ
  pub begin : ℕ
  pub start : ℕ
  pub until : ℕ
  pub outstart : ℕ
  pub outuntil : ℕ
  pub inuntil : ℕ
  pub half : ℕ
  pub work : ℕ
  pub processor : ℕ
  pub task : ℕ
  pub copyout : ℕ
  pub outtask : ℕ
  pub copyin : ℕ
  pub intask : ℕ
