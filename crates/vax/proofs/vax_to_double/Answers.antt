use Rattle.vax.proofs.Machine.{reserved_in, zero_in, negative_in, positive_in}
use native.Mathlib.Omega.{arith}
use Rattle.vax.proofs.vax_to_double.Goals as goal

pub returns-then-upper-span : goal.returns-then-upper-span
returns-then-upper-span c =
    reserved_in _ _ _ _ _ c.args.layout.offset c.power-unit.ensures.0 c.power-span.ensures.0 c.if-exponent-eq0.true (omega (arith, c.if-upper-span.true))

pub returns-then-exponent-eq0 : goal.returns-then-exponent-eq0
returns-then-exponent-eq0 c =
    zero_in _ _ _ _ _ c.args.layout.offset c.power-unit.ensures.0 c.power-span.ensures.0 c.if-exponent-eq0.true (omega (arith, c.if-upper-span.false))

pub returns-then-upper-span-2 : goal.returns-then-upper-span-2
returns-then-upper-span-2 c =
    negative_in _ _ _ _ _ c.args.layout.offset c.power-unit.ensures.0 c.power-span.ensures.0 _ _ c.size-bits.result
    c.if-exponent-eq0.false (omega arith) (omega arith) c.size-bits.ensures.0 (omega (arith, c.if-upper-span-2.true))

pub returns : goal.returns
returns c =
    positive_in _ _ _ _ _ c.args.layout.offset c.power-unit.ensures.0 c.power-span.ensures.0 _ _ c.size-bits.result
    c.if-exponent-eq0.false (omega arith) (omega arith) c.size-bits.ensures.0 (omega (arith, c.if-upper-span-2.false))
