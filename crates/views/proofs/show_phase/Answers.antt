-- `views::show_phase` meets its contract: by whether it is under way. Assumes nothing.
use Rattle.views.proofs.show_phase.Goals as goal

pub returns-then-under_way : goal.returns-then-under_way
returns-then-under_way c = record { ticks_after = rw c.if-under_way.true; units_after = rw c.if-under_way.true }

pub returns-else-under_way : goal.returns-else-under_way
returns-else-under_way c = record { ticks_after = rw c.if-under_way.false; units_after = rw c.if-under_way.false }
