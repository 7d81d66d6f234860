use Rattle.records.specs.Opening.{eof_right}
use mathlib.Core.Path.{refl}
use Rattle.records.proofs.opening.eof_right.Goals as goal

pub returns : goal.returns
unfolding eof_right
returns c = refl
