use Rattle.records.specs.Index.{closes}
use Rattle.records.proofs.index.closing.Goals as goal

pub returns : goal.returns
unfolding closes
returns c = simp (← c.in_order.ensures, ← c.nat_at.ensures.0)
