use Rattle.std.proofs.Common.{arith}
use Rattle.variables.specs.Limit.{capped}
use Rattle.variables.proofs.limit.cap.Goals as goal

pub returns : goal.returns
unfolding capped
returns c = (c.min.ensures, omega (arith, c.min.ensures))
