use Rattle.std.proofs.Common.{◌∙◌}
use Rattle.records.specs.Tiles.{tile, tile_right, type_uncarried}
use Rattle.records.proofs.Told.{same_breach, last_not}
use Rattle.records.proofs.tiles.tile_at.Goals as goal

pub returns-in_err-check : goal.returns-in_err-check
unfolding tile tile_right
returns-in_err-check c =
    let e = c.in_err-check.ensures in
    same_breach _ _ c.from_residual.ensures.1 ∙ e.told ∙ simp (← c.end-end.ensures.0, e.tests.0)

pub returns-in_err-check-2 : goal.returns-in_err-check-2
unfolding tile tile_right
returns-in_err-check-2 c =
    let e = c.in_err-check-2.ensures in
    same_breach _ _ c.from_residual-in_err-check-2.ensures.1 ∙ e.told ∙ simp (← c.end-end.ensures.0, c.in_ok-check.ensures.tests, ← c.tile_fields.ensures, e.tests.0)

pub returns : goal.returns
unfolding tile tile_right type_uncarried
returns c = c.check-3.ensures.told ∙ simp (← c.end-end.ensures.0, c.in_ok-check.ensures.tests, ← c.tile_fields.ensures, c.in_ok-check-2.ensures.tests, ← c.at_least.ensures, last_not)
