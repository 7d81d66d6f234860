use Rattle.std.proofs.Common.{◌∙◌, ap}
use borrow.Author.Tests.{leb-true, leb-false, lt-ltb, le-ltb, ne_eqb}
use Rattle.records.specs.Breaches.{number_of}
use Rattle.records.proofs.Told.{number_some}
use Rattle.variables.specs.Vdr.{variable_of, vdr_fault}
use Rattle.variables.proofs.Shapes.{same_fault}
use Rattle.variables.proofs.vdr.variable_at.Goals as goal

pub returns-in_err-reach : goal.returns-in_err-reach
unfolding variable_of
returns-in_err-reach c =
    let y = c.in_err-reach.field-0.0 in
    same_fault _ _ c.from_residual.ensures.1 ∙ simp (← c.head_of.ensures.0, ← c.in_err-reach.ensures.told, ne_eqb (number_of y) 0 (number_some y))

pub returns-in_err-check : goal.returns-in_err-check
unfolding variable_of
returns-in_err-check c =
    let e = c.in_err-check.ensures in
    same_fault _ _ c.from_residual-in_err-check.ensures.1 ∙ ap vdr_fault e.told ∙ simp (← c.head_of.ensures.0, ← c.in_ok-reach.ensures.told, ← c.is_right.ensures, e.tests.0)

pub returns-in_err-check-2 : goal.returns-in_err-check-2
unfolding variable_of
returns-in_err-check-2 c =
    let e = c.in_err-check-2.ensures in
    same_fault _ _ c.from_residual-in_err-check-2.ensures.1 ∙ ap vdr_fault e.told
    ∙ simp (← c.head_of.ensures.0, ← c.in_ok-reach.ensures.told, ← c.is_right.ensures, c.in_ok-check.ensures.tests, ← c.end.ensures.0, ← c.num_dims_at-p.ensures.0, e.tests.0, lt-ltb _ _ (leb-false _ _ e.tests.0))

pub returns-in_err-check-3 : goal.returns-in_err-check-3
unfolding variable_of
returns-in_err-check-3 c =
    let e = c.in_err-check-3.ensures in
    same_fault _ _ c.from_residual-in_err-check-3.ensures.1 ∙ ap vdr_fault e.told
    ∙ simp (← c.head_of.ensures.0, ← c.in_ok-reach.ensures.told, ← c.is_right.ensures, c.in_ok-check.ensures.tests, ← c.end.ensures.0, ← c.num_dims_at-p.ensures.0, le-ltb _ _ (leb-true _ _ c.in_ok-check-2.ensures.tests), ← c.count_right.ensures, e.tests.0)

pub returns : goal.returns
unfolding variable_of
returns c =
    c.shaped.ensures
    ∙ simp (← c.dimensions_at.ensures.0, ← c.head_of.ensures.0, ← c.in_ok-reach.ensures.told, ← c.is_right.ensures, c.in_ok-check.ensures.tests, ← c.end.ensures.0, ← c.num_dims_at-p.ensures.0, le-ltb _ _ (leb-true _ _ c.in_ok-check-2.ensures.tests), ← c.count_right.ensures, c.in_ok-check-3.ensures.tests)
