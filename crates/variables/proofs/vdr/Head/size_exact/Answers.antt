use native.Mathlib.Nat.{add-zero}
use Rattle.variables.specs.Vdr.{size_exact, pad_bytes}
use Rattle.variables.proofs.vdr.Head.size_exact.Goals as goal

pub returns-then-bit : goal.returns-then-bit
unfolding size_exact pad_bytes
returns-then-bit c = simp (c.if-bit.true, ← c.bit.ensures, ← c.requires.1, c.from.ensures, c.from-2.ensures, ← c.nat_at.ensures.0)

pub returns : goal.returns
unfolding size_exact pad_bytes
returns c = simp (c.if-bit.false, ← c.bit.ensures, c.from.ensures, c.from-2.ensures, ← c.nat_at.ensures.0, add-zero)
