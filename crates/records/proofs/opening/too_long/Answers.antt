use Rattle.records.specs.Opening.{too_long}
use mathlib.Core.Path.{refl}
use Rattle.records.proofs.opening.too_long.Goals as goal

pub returns : goal.returns
unfolding too_long
returns c = refl
