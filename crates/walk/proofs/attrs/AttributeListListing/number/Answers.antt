use mathlib.Core.Path.{◌∙◌, ap}
use Rattle.format.specs.Numbers.{unless}
use Rattle.walk.specs.Walk.{attr_number}
use Rattle.walk.proofs.Chained.{stops_at, goes_on}
use Rattle.walk.proofs.attrs.AttributeListListing.number.Goals as goal

pub returns-in_err-adr-clause-told : goal.returns-in_err-adr-clause-told
unfolding attr_number
returns-in_err-adr-clause-told c = stops_at _ _ c.from_residual.ensures.1 c.in_err-adr.ensures.told _

pub returns-clause-told : goal.returns-clause-told
unfolding attr_number
returns-clause-told c = goes_on _ _ c.in_ok-adr.ensures.told (c.check.ensures.told ∙ ap (unless 11) c.is_nat-num.ensures)
