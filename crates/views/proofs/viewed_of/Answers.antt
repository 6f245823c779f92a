-- `views::viewed_of` meets its contract. Assumes nothing.
use Rattle.views.proofs.viewed_of.Goals as goal

pub returns : goal.returns
returns c = c.viewed.ensures _
