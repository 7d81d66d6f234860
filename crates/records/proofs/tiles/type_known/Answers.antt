use Rattle.records.specs.Tiles.{type_known}
use Rattle.records.proofs.tiles.type_known.Goals as goal

pub returns : goal.returns
unfolding type_known
returns c = simp (← c.within.ensures, ← c.is_type.ensures)
