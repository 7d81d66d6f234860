use Rattle.std.proofs.Common.{◌∙◌, sym}
use Rattle.format.proofs.Numbers.{first_last}
use Rattle.records.specs.Opening.{opening}
use Rattle.records.proofs.Told.{same_breach}
use Rattle.checker.specs.Step.{open_number}
use Rattle.checker.proofs.steps.open_number.Goals as goal

pub returns-in_err-check : goal.returns-in_err-check
unfolding open_number
returns-in_err-check c =
    let e = c.in_err-check.ensures in
    same_breach _ _ c.from_residual.ensures.1 ∙ e.told ∙ simp (← c.too_long-fits.ensures, e.tests.0)

pub returns-in_err-check-2 : goal.returns-in_err-check-2
unfolding open_number
returns-in_err-check-2 c =
    let e = c.in_err-check-2.ensures in
    same_breach _ _ c.from_residual-in_err-check-2.ensures.1 ∙ e.told ∙ simp (← c.too_long-fits.ensures, c.in_ok-check.ensures.tests, e.tests.0)

pub returns : goal.returns
unfolding open_number
returns c =
    c.opens.ensures
    ∙ sym (first_last (opening c.args.f.now))
    ∙ simp (← c.too_long-fits.ensures, c.in_ok-check.ensures.tests, c.in_ok-check-2.ensures.tests)
