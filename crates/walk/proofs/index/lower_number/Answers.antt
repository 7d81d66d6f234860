use mathlib.Core.Path.{◌∙◌}
use Rattle.walk.specs.Walk.{lower_number}
use Rattle.walk.proofs.Chained.{stops_at, goes_on}
use Rattle.walk.proofs.index.lower_number.Goals as goal

pub returns-in_err-vxr-clause-told : goal.returns-in_err-vxr-clause-told
unfolding lower_number
returns-in_err-vxr-clause-told c = stops_at _ _ c.from_residual.ensures.1 c.in_err-vxr.ensures.told _

pub returns-clause-told : goal.returns-clause-told
unfolding lower_number
returns-clause-told c = goes_on _ _ c.in_ok-vxr.ensures.told (c.check.ensures.told ∙ simp (← c.is_nat-last.ensures))
