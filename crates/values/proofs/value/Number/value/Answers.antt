use native.Mathlib.Omega.{arith}
use Rattle.values.proofs.Rows.{within}
use Rattle.values.proofs.value.Number.value.Goals as goal

pub overflow_cast-result : goal.overflow_cast-result
overflow_cast-result c = let is = c.args.self.fits in omega (arith, within 4 (rw c.in-Unsigned.is at is.most) is.below)

pub overflow_cast-self : goal.overflow_cast-self
overflow_cast-self c = let is = c.args.self.fits in omega (arith, within 4 (rw c.in-Single.is at is.most) is.below)
