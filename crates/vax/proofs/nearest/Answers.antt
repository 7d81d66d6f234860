use mathlib.Core.Path.{ap, ◌∙◌}
use Prim.Native.Nat.{ℕ, ◌/◌, ◌^◌}
use Rattle.vax.proofs.Whole.{nearest_by_half}
use Rattle.vax.proofs.Machine.{halved}
use native.Mathlib.Omega.{arith}
use Rattle.vax.proofs.nearest.Goals as goal

pub returns : goal.returns
returns c =
    let a = c.args in
    ap (λ (z : ℕ). z / 2 ^ a.k) (omega arith)
    ∙ nearest_by_half a.n c.power-half.result _ c.power-half.ensures.1 (halved a.k c.power-half.result c.requires.0 c.power-half.ensures.0)
