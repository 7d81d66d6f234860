use Rattle.variables.specs.Vdr.{dimensions_right}
use Rattle.variables.proofs.dimensions.Dimensions.are_right.Goals as goal

pub returns : goal.returns
unfolding dimensions_right
returns c = simp (← c.each_within-2.ensures, ← c.each_within.ensures)
