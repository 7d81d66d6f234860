use Rattle.walk.specs.Walk.{tallied}
use Rattle.walk.proofs.Chained.{stops_at, goes_on}
use Rattle.walk.proofs.Widened.{widened, widened_before}
use Rattle.walk.proofs.links.tally.Goals as goal

pub returns-in_err-field_number : goal.returns-in_err-field_number
unfolding tallied
returns-in_err-field_number c =
    stops_at _ _ c.from_residual.ensures.1 (rw (widened _ _ c.from.ensures c.from.type_inv) at c.in_err-field_number.ensures.told) _

pub returns : goal.returns
unfolding tallied
returns c =
    goes_on _ _ (rw (widened _ _ c.from.ensures c.from.type_inv) at c.in_ok-field_number.ensures.told)
    (rw (widened_before _ _ c.from-2.ensures c.from-2.type_inv) at c.field_number-2.ensures.told)
