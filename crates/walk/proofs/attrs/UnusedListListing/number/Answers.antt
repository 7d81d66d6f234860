use mathlib.Core.Path.{◌∙◌, ap}
use Rattle.format.specs.Numbers.{unless}
use Rattle.walk.specs.Walk.{unused_number}
use Rattle.walk.proofs.Chained.{stops_at, goes_on}
use Rattle.walk.proofs.attrs.UnusedListListing.number.Goals as goal

pub returns-in_err-uir-clause-told : goal.returns-in_err-uir-clause-told
unfolding unused_number
returns-in_err-uir-clause-told c = stops_at _ _ c.from_residual.ensures.1 c.in_err-uir.ensures.told _

pub returns-clause-told : goal.returns-clause-told
unfolding unused_number
returns-clause-told c = goes_on _ _ c.in_ok-uir.ensures.told (c.check.ensures.told ∙ ap (unless 11) c.is_nat-previous.ensures)
