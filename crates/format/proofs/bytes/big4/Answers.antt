use mathlib.Core.Path.{◌∙◌}
use Prim.Native.Nat.{ℕ}
use native.Mathlib.Omega.{arith}
use Rattle.format.proofs.Widths.{swap_four}
use Rattle.format.proofs.bytes.big4.Goals as goal

pub returns : goal.returns
returns c =
    let a = c.args in
    let bytes = λ (i : ℕ). (c.type_inv.s i).fits in
    c.swap_bytes.ensures
    ∙ swap_four a.s.now a.at c.from_le_bytes.result c.requires bytes c.from_le_bytes.ensures (omega arith) (omega arith) (omega arith) (omega arith)
