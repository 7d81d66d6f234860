use Rattle.std.proofs.Common.{◌∙◌, sym}
use borrow.Author.Tests.{leb-true, leb-false, lt-ltb, le-ltb}
use Rattle.records.specs.Index.{range_number}
use Rattle.records.proofs.Told.{last_test, same_breach, if_told}
use Rattle.records.proofs.Ranges.{range_bounds}
use Rattle.records.proofs.index.range_right.Goals as goal

pub returns-in_err-check-clause-told : goal.returns-in_err-check-clause-told
unfolding range_number
returns-in_err-check-clause-told c =
    let e = c.in_err-check.ensures in
    same_breach _ _ c.from_residual.ensures.1 ∙ e.told ∙ simp (← c.rising.ensures, e.tests.0)

pub returns-in_err-check-2-clause-told : goal.returns-in_err-check-2-clause-told
unfolding range_number
returns-in_err-check-2-clause-told c =
    let e = c.in_err-check-2.ensures in
    same_breach _ _ c.from_residual-in_err-check-2.ensures.1 ∙ e.told
    ∙ simp (← c.rising.ensures, c.in_ok-check.ensures.tests, ← c.end-end.ensures.0, e.tests.0, lt-ltb _ _ (leb-false _ _ e.tests.0))

pub returns-in_err-check-3-clause-told : goal.returns-in_err-check-3-clause-told
unfolding range_number
returns-in_err-check-3-clause-told c =
    let e = c.in_err-check-3.ensures in
    same_breach _ _ c.from_residual-in_err-check-3.ensures.1 ∙ e.told
    ∙ simp (← c.rising.ensures, c.in_ok-check.ensures.tests, ← c.end-end.ensures.0, le-ltb _ _ (leb-true _ _ c.in_ok-check-2.ensures.tests), ← c.closing.ensures, e.tests.0)

pub returns-clause-told : goal.returns-clause-told
unfolding range_number
returns-clause-told c =
    c.check-4.ensures.told
    ∙ simp (← c.rising.ensures, c.in_ok-check.ensures.tests, ← c.end-end.ensures.0, le-ltb _ _ (leb-true _ _ c.in_ok-check-2.ensures.tests), ← c.closing.ensures, c.in_ok-check-3.ensures.tests, last_test)

pub returns-clause-fits : goal.returns-clause-fits
returns-clause-fits c =
    let a = c.args in
    if_told _ (λ z. range_bounds a.f.now a.first a.last a.offset a.floor a.most (sym (returns-clause-told c) ∙ z))
