use Rattle.records.specs.Opening.{magics_right}
use Rattle.records.proofs.opening.magics_right.Goals as goal

pub returns : goal.returns
unfolding magics_right
returns c = simp (← c.big4.ensures, ← c.big4-second.ensures)
