use Rattle.variables.specs.Vdr.{count_right}
use Rattle.variables.proofs.vdr.count_right.Goals as goal

pub returns : goal.returns
unfolding count_right
returns c = simp (← c.within.ensures)
