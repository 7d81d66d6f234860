use Rattle.std.proofs.Common.{◌∙◌}
use Rattle.records.specs.Opening.{magics_number, wholly_compressed}
use Rattle.records.proofs.Told.{same_breach, last_not}
use Rattle.records.proofs.opening.magics_number.Goals as goal

pub returns-in_err-check-clause-told : goal.returns-in_err-check-clause-told
unfolding magics_number
returns-in_err-check-clause-told c =
    let e = c.in_err-check.ensures in
    same_breach _ _ c.from_residual.ensures.1 ∙ e.told ∙ simp (e.tests.0)

pub returns-in_err-check-2-clause-told : goal.returns-in_err-check-2-clause-told
unfolding magics_number
returns-in_err-check-2-clause-told c =
    let e = c.in_err-check-2.ensures in
    same_breach _ _ c.from_residual-in_err-check-2.ensures.1 ∙ e.told ∙ simp (c.in_ok-check.ensures.tests, ← c.magics_right.ensures, e.tests.0)

pub returns-clause-told : goal.returns-clause-told
unfolding magics_number wholly_compressed
returns-clause-told c =
    c.check-3.ensures.told ∙ simp (c.in_ok-check.ensures.tests, ← c.magics_right.ensures, c.in_ok-check-2.ensures.tests, ← c.big4.ensures, last_not)
