use Rattle.std.proofs.Common.{◌∙◌}
use Rattle.records.specs.Opening.{descriptors_number, single_file, gdr_at}
use Rattle.records.proofs.Told.{same_breach}
use Rattle.records.proofs.opening.descriptors_number.Goals as goal

pub returns-in_err-check : goal.returns-in_err-check
unfolding descriptors_number
returns-in_err-check c =
    let e = c.in_err-check.ensures in
    same_breach _ _ c.from_residual.ensures.1 ∙ e.told ∙ simp (← c.cdr_right.ensures, e.tests.0)

pub returns-in_err-check-2 : goal.returns-in_err-check-2
unfolding descriptors_number single_file
returns-in_err-check-2 c =
    let e = c.in_err-check-2.ensures in
    same_breach _ _ c.from_residual-in_err-check-2.ensures.1 ∙ e.told ∙ simp (← c.cdr_right.ensures, c.in_ok-check.ensures.tests, ← c.bit.ensures, e.tests.0)

pub returns : goal.returns
unfolding descriptors_number single_file gdr_at
returns c =
    c.check-3.ensures.told
    ∙ simp (← c.cdr_right.ensures, c.in_ok-check.ensures.tests, ← c.bit.ensures, c.in_ok-check-2.ensures.tests, ← c.link_at-gdr.ensures.0, ← c.gdr_right.ensures)
