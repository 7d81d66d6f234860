use Rattle.vax.specs.Words.{four_at}
use native.Mathlib.Omega.{arith}
use Rattle.vax.proofs.four.Goals as goal

pub returns : goal.returns
unfolding four_at
returns c = omega (arith, c.pair-a.ensures.0, c.pair-b.ensures.0)
