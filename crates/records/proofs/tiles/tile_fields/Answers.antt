use Rattle.records.specs.Tiles.{tile_fields}
use Rattle.records.proofs.tiles.tile_fields.Goals as goal

pub returns : goal.returns
unfolding tile_fields
returns c = simp (← c.type_known.ensures, ← c.nat_at-size.ensures.0)
