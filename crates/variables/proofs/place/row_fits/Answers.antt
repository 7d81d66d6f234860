use Prim.Native.Nat.{◌+◌, ◌*◌}
use borrow.Author.Tests.{lt-leb}
use Rattle.variables.specs.Place.{row_fits}
use Rattle.variables.proofs.Places.{leb_left}
use native.Mathlib.Omega.{arith}
use Rattle.variables.proofs.place.row_fits.Goals as goal

pub returns-then-end-n : goal.returns-then-end-n
unfolding row_fits
returns-then-end-n c = simp (← c.end-end.ensures.0, lt-leb (c.args.p + 4 * c.args.n) c.end-end.result (omega arith))

pub returns : goal.returns
unfolding row_fits
returns c = let a = c.args in rw (← c.end-end.ensures.0) (leb_left a.p (4 * a.n) c.end-end.result (omega arith))
