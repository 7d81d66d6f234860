use Rattle.records.specs.Attributes.{adr_right}
use Rattle.records.proofs.attributes.adr_right.Goals as goal

pub returns : goal.returns
unfolding adr_right
returns c = simp (← c.within.ensures, ← c.nat_at.ensures.0)
