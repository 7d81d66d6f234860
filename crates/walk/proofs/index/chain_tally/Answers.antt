use mathlib.Core.Path.{◌∙◌, ap}
use mathlib.Core.Bool.{Bool, ◌||◌}
use Rattle.format.specs.Numbers.{unless}
use Rattle.walk.specs.Walk.{chain_tally}
use Rattle.walk.proofs.Chained.{stops_at, goes_on}
use Rattle.walk.proofs.Widened.{widened}
use Rattle.walk.proofs.index.chain_tally.Goals as goal

pub returns-in_err-field_number : goal.returns-in_err-field_number
unfolding chain_tally
returns-in_err-field_number c =
    stops_at _ _ c.from_residual.ensures.1 (rw (widened _ _ c.from.ensures c.from.type_inv) at c.in_err-field_number.ensures.told) _

pub returns : goal.returns
unfolding chain_tally
returns c =
    goes_on _ _ (rw (widened _ _ c.from.ensures c.from.type_inv) at c.in_ok-field_number.ensures.told)
    (c.check.ensures.told ∙ ap (λ (b : Bool). unless 12 (b || c.args.covered)) c.is-none.ensures)
