use mathlib.Core.Path.{◌≡◌}
use native.Mathlib.Nat.{le_trans, le_of_eq}
use native.Mathlib.Omega.{arith}
use borrow.Author.Tests.{lt-ltb, le-ltb}
use Rattle.vax.specs.Rounding.{kept_of}
use Rattle.vax.proofs.Machine.{product_fits, kept_53}
use Rattle.vax.proofs.kept.Goals as goal

pub overflow_mul-result : goal.overflow_mul-result
overflow_mul-result c =
    omega (arith, product_fits c.args.s.digits c.requires c.if-s-places.true c.power.ensures.0)

pub returns-then-s-places : goal.returns-then-s-places
unfolding kept_of
returns-then-s-places c =
    let small = product_fits c.args.s.digits c.requires c.if-s-places.true c.power.ensures.0 in
    (rw (lt-ltb _ _ c.if-s-places.true, c.power.ensures.0), small)

pub returns : goal.returns
returns c =
    let a = c.args in
    let e : c.nearest.result ≡ kept_of a.s.width a.places a.s.n = unfold kept_of in rw (le-ltb _ _ c.if-s-places.false) c.nearest.ensures in
    (e, le_trans (le_of_eq e) (kept_53 a.s.digits c.requires))
