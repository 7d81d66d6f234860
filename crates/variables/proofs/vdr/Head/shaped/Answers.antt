use Rattle.std.proofs.Common.{◌∙◌, ap}
use borrow.Author.Tests.{leb-true, leb-false, lt-ltb, le-ltb}
use Rattle.variables.specs.Vdr.{dimensioned, record_bytes, vdr_fault}
use Rattle.variables.proofs.Capped.{capped_over, capped_under}
use Rattle.variables.proofs.Shapes.{same_fault}
use Rattle.variables.proofs.vdr.Head.shaped.Goals as goal

pub returns-in_err-check : goal.returns-in_err-check
unfolding dimensioned
returns-in_err-check c =
    let e = c.in_err-check.ensures in
    same_fault _ _ c.from_residual.ensures.1 ∙ ap vdr_fault e.told ∙ simp (← c.size_exact.ensures, e.tests.0)

pub returns-in_err-check-2 : goal.returns-in_err-check-2
unfolding dimensioned
returns-in_err-check-2 c =
    let e = c.in_err-check-2.ensures in
    same_fault _ _ c.from_residual-in_err-check-2.ensures.1 ∙ ap vdr_fault e.told
    ∙ simp (← c.size_exact.ensures, c.in_ok-check.ensures.tests, ← c.end-end.ensures.0, e.tests.0, lt-ltb _ _ (leb-false _ _ e.tests.0))

pub returns-in_err-check-3 : goal.returns-in_err-check-3
unfolding dimensioned
returns-in_err-check-3 c =
    let e = c.in_err-check-3.ensures in
    same_fault _ _ c.from_residual-in_err-check-3.ensures.1 ∙ ap vdr_fault e.told
    ∙ simp (← c.size_exact.ensures, c.in_ok-check.ensures.tests, ← c.end-end.ensures.0, le-ltb _ _ (leb-true _ _ c.in_ok-check-2.ensures.tests), e.tests.0, lt-ltb _ _ (leb-false _ _ e.tests.0))

pub returns-in_err-check-4 : goal.returns-in_err-check-4
unfolding dimensioned
returns-in_err-check-4 c =
    let e = c.in_err-check-4.ensures in
    let sizes = le-ltb _ _ (leb-true _ _ c.in_ok-check-2.ensures.tests) in
    let variances = le-ltb _ _ (leb-true _ _ c.in_ok-check-3.ensures.tests) in
    same_fault _ _ c.from_residual-in_err-check-4.ensures.1 ∙ ap vdr_fault e.told
    ∙ simp (← c.size_exact.ensures, c.in_ok-check.ensures.tests, ← c.end-end.ensures.0, sizes, variances, ← c.are_right.ensures, e.tests.0)

pub returns-in_err-check-5 : goal.returns-in_err-check-5
unfolding dimensioned record_bytes
returns-in_err-check-5 c =
    let e = c.in_err-check-5.ensures in
    let sizes = le-ltb _ _ (leb-true _ _ c.in_ok-check-2.ensures.tests) in
    let variances = le-ltb _ _ (leb-true _ _ c.in_ok-check-3.ensures.tests) in
    let above = capped_over _ _ c.record_bytes-bytes.ensures.0 (leb-false _ _ e.tests.0) in
    same_fault _ _ c.from_residual-in_err-check-5.ensures.1 ∙ ap vdr_fault e.told
    ∙ simp (← c.size_exact.ensures, c.in_ok-check.ensures.tests, ← c.end-end.ensures.0, sizes, variances, ← c.are_right.ensures, c.in_ok-check-4.ensures.tests, ← c.value_bytes-value.ensures.0, above, e.tests.0)

pub returns : goal.returns
unfolding dimensioned record_bytes
returns c =
    let sizes = le-ltb _ _ (leb-true _ _ c.in_ok-check-2.ensures.tests) in
    let variances = le-ltb _ _ (leb-true _ _ c.in_ok-check-3.ensures.tests) in
    let bytes = c.record_bytes-bytes.ensures.0 in
    let under = capped_under _ _ bytes (leb-true _ _ c.in_ok-check-5.ensures.tests) in
    simp (← c.size_exact.ensures, c.in_ok-check.ensures.tests, ← c.end-end.ensures.0, sizes, variances, ← c.are_right.ensures, c.in_ok-check-4.ensures.tests, ← c.value_bytes-value.ensures.0, under, ← bytes, ← c.cap.ensures.0)
