use Rattle.vax.specs.Words.{pair_at}
use native.Mathlib.Omega.{arith}
use Rattle.vax.proofs.pair.Goals as goal

pub returns : goal.returns
unfolding pair_at
returns c = (omega (arith, c.word-a.ensures.0, c.word-b.ensures.0), omega arith)
