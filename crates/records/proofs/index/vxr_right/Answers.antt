use Rattle.records.specs.Index.{vxr_right}
use Rattle.records.proofs.index.vxr_right.Goals as goal

pub returns : goal.returns
unfolding vxr_right
returns c = simp (c.from-entries.ensures, c.from.ensures, ← c.nat_at-2.ensures.0, ← c.in_order.ensures, ← c.at_least.ensures, ← c.nat_at.ensures.0)
