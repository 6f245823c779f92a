-- What goes on now, over the numbers of a dispatcher, and in the arrays of one who looks.
use Rattle.std.specs.Prelude.{◌≡◌, Bool, cond, List, [], ◌∷◌, ℕ, get_or, set}
use Rattle.entries.specs.Entries.{task_byte}
use Rattle.rules.specs.Types.{None}
use Rattle.rules.specs.declared.View.{View}
use Rattle.rules.specs.Registers.{as_processor}
use Rattle.rules.specs.View.{on_processor, processor_until, viewed}
use Rattle.rules.specs.Kept.{kept, Beside, read}

abbrev pub OnProcessor : ℕ → Bool → Type 0
OnProcessor kind x =
    (n start until : ℕ)
    → (task_byte (on_processor (as_processor kind n start until)) ≡ cond x n (task_byte None))
    × (processor_until (as_processor kind n start until) ≡ cond x until 0)

abbrev pub ViewedAt : List ℕ → List ℕ → List ℕ → View → Type 0
ViewedAt times sets codes x = (b : Beside) → x ≡ viewed (read (kept times sets codes) b)

-- where none is open, and where one is
abbrev pub NoneOpen : List ℕ → List ℕ → View → Type 0
NoneOpen sets codes x = (times : List ℕ) (b : Beside) → get_or codes 6 0 ≡ 6 → x ≡ viewed (read (kept times sets codes) b)

abbrev pub OneOpen : List ℕ → List ℕ → List ℕ → View → Type 0
OneOpen times sets codes x = (b : Beside) → (get_or codes 6 0 ≡ 6 → ⊥) → x ≡ viewed (read (kept times sets codes) b)

-- begin and ends; whether an interval is open, its work, and the four values
abbrev pub ticks_of : View → List ℕ
ticks_of v = v.begin ∷ v.until ∷ v.inuntil ∷ v.outuntil ∷ []

abbrev pub units_of : View → List ℕ
units_of v = v.opened ∷ v.work ∷ v.processor ∷ v.copyin ∷ v.copyout ∷ v.half ∷ []

-- they are those of a view of which something is said
pub record Shows (so : View → Type 0) (ticks units : List ℕ) : Type 0 where
  pub view : View
  pub is_so : so view
  pub ticks_are : ticks ≡ ticks_of view
  pub units_are : units ≡ units_of view

-- whatever the sets are
abbrev pub ShowsNone : List ℕ → List ℕ → List ℕ → Type 0
ShowsNone codes ticks units = (sets : List ℕ) → Shows (NoneOpen sets codes) ticks units

abbrev pub ShowsOpen : List ℕ → List ℕ → List ℕ → List ℕ → Type 0
ShowsOpen times codes ticks units = (sets : List ℕ) → Shows (OneOpen times sets codes) ticks units

abbrev pub ShowsNow : List ℕ → List ℕ → List ℕ → List ℕ → Type 0
ShowsNow times codes ticks units = (sets : List ℕ) → Shows (ViewedAt times sets codes) ticks units

-- a number that is stored where a test is met
abbrev pub stored_if : Bool → ℕ → ℕ → List ℕ → List ℕ
stored_if met place n l = cond met (set l place n) l
