use Rattle.std.proofs.Common.{sym, arith}
use borrow.Author.Tests.{ne_eqb}
use Rattle.records.proofs.Told.{number_some}
use Rattle.checker.specs.Step.{swept}
use Rattle.checker.proofs.Passed.{tiled}
use Rattle.checker.proofs.steps.sweep_over.Goals as goal

pub returns-in-Err : goal.returns-in-Err
unfolding swept
returns-in-Err c =
    simp (c.refused.ensures, c.sweeping.ensures, c.from.ensures, ← c.in-Err.ensures, ne_eqb _ 0 (number_some c.in-Err.breach))

pub nat_at-size-requires : goal.nat_at-size-requires
nat_at-size-requires c = omega (arith, tiled c.args.b.now c.args.at (sym c.in_default.ensures))

pub mark-requires : goal.mark-requires
mark-requires c =
    let t = tiled c.args.b.now c.args.at (sym c.in_default.ensures) in
    let n = c.nat_at-size.ensures.0 in
    (omega (arith, t, n, c.requires.marks), omega (arith, t, n))

pub overflow_cast-o-2 : goal.overflow_cast-o-2
overflow_cast-o-2 c =
    let t = tiled c.args.b.now c.args.at (sym c.in_default.ensures) in
    omega (arith, t, c.nat_at-size.ensures.0, c.requires.short)

pub returns : goal.returns
unfolding swept
returns c =
    simp (c.swept_to.ensures, ← c.mark.ensures, ← c.nat_at-size.ensures.0, ← c.in_default.ensures)
