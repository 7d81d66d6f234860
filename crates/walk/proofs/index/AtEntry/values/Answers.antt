use native.Mathlib.Omega.{arith}
use mathlib.Core.Path.{◌∙◌, sym, ap}
use Rattle.variables.specs.Vdr.{Variable}
use Rattle.variables.proofs.Rule.{bytes_small, vdr_inside}
use Rattle.walk.proofs.index.AtEntry.values.Goals as goal

pub values_number-requires-clause-bytes : goal.values_number-requires-clause-bytes
values_number-requires-clause-bytes c = let u = c.args.self.var in rw c.requires.known (bytes_small c.args.f.now u.kind u.vdr)

pub is_covered-requires : goal.is_covered-requires
is_covered-requires c =
    let u = c.args.self.var in
    let kept = sym (ap (λ (v : Variable). v.fault) c.requires.known) ∙ c.in_default.ensures.fits in
    omega (arith, vdr_inside c.args.f.now u.kind u.vdr kept)
