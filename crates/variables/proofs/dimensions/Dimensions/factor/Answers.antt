use Rattle.std.proofs.Common.{arith}
use Rattle.variables.specs.Vdr.{factor_of}
use Rattle.variables.proofs.dimensions.Dimensions.factor.Goals as goal

pub returns-then-is : goal.returns-then-is
unfolding factor_of
returns-then-is c = (simp (← c.is.ensures, c.if-is.true, ← c.nat_at.ensures.0, c.from.ensures), omega (arith, c.nat_at.ensures.1, c.from.ensures))

pub returns-else-is : goal.returns-else-is
unfolding factor_of
returns-else-is c = (simp (← c.is.ensures, c.if-is.false), omega arith)
