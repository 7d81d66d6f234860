use Rattle.std.proofs.Common.{arith, sym, ◌∙◌}
use mir.Syntax.{w32}
use mir.Val.{to_z, of_z}
use mir.Facts.{to_z-of_z}
use Rattle.format.proofs.Each.{each_start, each_bad, each_good, each_none}
use Rattle.format.proofs.fields.each_within.Goals as goal

pub loop-i-init : goal.loop-i-init
loop-i-init c = let a = c.args in each_start a.f.now a.at a.n (to_z w32 (of_z w32 a.lo)) (to_z w32 (of_z w32 a.hi))

pub returns-then-not-within : goal.returns-then-not-within
returns-then-not-within c =
    let l = c.loop-i in
    let a = c.args in
    let out = sym c.within.ensures ∙ c.if-not-within.true in
    rw (to_z-of_z {w = w32} c.ranges.lo, to_z-of_z {w = w32} c.ranges.hi) at
    (each_bad a.f.now a.at a.n (to_z w32 (of_z w32 a.lo)) (to_z w32 (of_z w32 a.hi)) l.i (omega arith) out ∙ sym l.invariant)

pub loop-i-preserved : goal.loop-i-preserved
loop-i-preserved c =
    let l = c.loop-i in
    let a = c.args in
    let inside = sym c.within.ensures ∙ c.if-not-within.false in
    l.invariant ∙ each_good a.f.now a.at a.n (to_z w32 (of_z w32 a.lo)) (to_z w32 (of_z w32 a.hi)) l.i (omega arith) inside

pub returns : goal.returns
returns c =
    let l = c.loop-i in
    let a = c.args in
    rw (to_z-of_z {w = w32} c.ranges.lo, to_z-of_z {w = w32} c.ranges.hi) at
    (each_none a.f.now a.at a.n (to_z w32 (of_z w32 a.lo)) (to_z w32 (of_z w32 a.hi)) l.i (omega arith) ∙ sym l.invariant)
