use Rattle.std.proofs.Common.{◌≤◌, arith}
use native.Mathlib.Nat.{mul-le-mul}
use Rattle.variables.specs.Vdr.{value_bytes}
use Rattle.variables.proofs.vdr.Head.value_bytes.Goals as goal

pub returns : goal.returns
unfolding value_bytes
returns c =
    let k : c.from.result ≤ 2147483648 = omega (arith, c.nat_at-elements.ensures.1, c.from.ensures) in
    let m : c.from-2.result ≤ 8 = omega (arith, c.args.self.now.typed.1, c.from-2.ensures) in
    (rw (c.from.ensures, c.from-2.ensures, c.nat_at-elements.ensures.0, c.args.self.now.typed.0), omega (arith, mul-le-mul {n₂ = 2147483648} {m₂ = 8} k m))
