use Rattle.lookup.proofs.Opening.{opened_part}
use Rattle.lookup.proofs.Asked.{asked_wrong, asked_right}
use Rattle.lookup.specs.Lists.{variable_way}
use Rattle.std.proofs.lemmas.Result.{err_from_is_err_and}
use mir.Facts.{to_z-of_z}
use mir.Syntax.{w64}
use native.Mathlib.Omega.{arith}
use mathlib.Core.Path.{◌∙◌}
use Rattle.lookup.proofs.lists.to_variable.Goals as goal

pub allowed-requires : goal.allowed-requires
allowed-requires c = c.in_ok-t.ensures.fits

pub to_place-requires : goal.to_place-requires
to_place-requires c = omega (arith, (opened_part c.args.f.now.bytes.now c.args.f.now.body.now c.args.f.now.ends c.in_ok-t.ensures.fits).gdr)

pub returns : goal.returns
unfolding variable_way
returns c =
    let e = rw (to_z-of_z {w = w64} c.ranges.kind) at c.in_ok-t.ensures.told in
    let k = asked_right c.args.f.now.bytes.now 3 8 c.args.kind _ _ e in
    rw (to_z-of_z {w = w64} c.ranges.number, k.0, c.allowed.ensures, c.args.f.now.ends) at c.to_place.ensures ∙ k.1

pub returns-in_err-t : goal.returns-in_err-t
unfolding variable_way
returns-in_err-t c =
    let p = err_from_is_err_and c.from_residual.result c.from_residual.ensures.1 in
    rw (p.1, p.2) (asked_wrong c.args.f.now.bytes.now 3 8 c.args.kind _ _ (rw (to_z-of_z {w = w64} c.ranges.kind) at c.in_err-t.ensures.told))
