use Rattle.records.specs.Index.{rises}
use Rattle.records.proofs.index.rising.Goals as goal

pub returns : goal.returns
unfolding rises
returns c = simp (← c.nat_at.ensures.0, ← c.at_least.ensures)
