use Rattle.std.proofs.Common.{arith, sym}
use borrow.Author.Tests.{ltb-false, ne_eqb}
use Rattle.records.specs.Opening.{too_long}
use Rattle.records.proofs.Told.{number_some}
use Rattle.checker.specs.Step.{step_by}
use Rattle.checker.proofs.Passed.{opened}
use Rattle.checker.proofs.steps.open.Goals as goal

pub returns-in-Err : goal.returns-in-Err
unfolding step_by
returns-in-Err c =
    simp (c.refused.ensures, c.none_involved.ensures, c.from.ensures, ← c.in-Err.ensures, ne_eqb _ 0 (number_some c.in-Err.breach))

pub overflow_cast-result : goal.overflow_cast-result
unfolding too_long
overflow_cast-result c =
    omega (arith, ltb-false _ _ (opened c.args.f.now c.args.m.now (sym c.in_default.ensures)).0)

pub returns : goal.returns
unfolding step_by
returns c = simp (← c.in_default.ensures)
