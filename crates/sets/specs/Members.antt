-- What the iterator over a set has left.
use Rattle.std.specs.Prelude.{List, ℕ}
use Rattle.sets.specs.declared.EachMember.{EachMember}
use Rattle.sets.specs.Sets.{members_below}

abbrev pub members_left : EachMember → List ℕ
members_left m = members_below 32 m.left
