use Rattle.std.proofs.Common.{◌∙◌}
use Rattle.std.proofs.Math.Facts.{to_z-of_z}
use borrow.Author.Tests.{leb-true, leb-false, lt-ltb, le-ltb}
use Rattle.records.proofs.Told.{same_breach}
use Rattle.walk.specs.Walk.{field_number}
use Rattle.walk.proofs.links.field_number.Goals as goal

pub returns-in_err-check-clause-told : goal.returns-in_err-check-clause-told
unfolding field_number
returns-in_err-check-clause-told c =
    let e = c.in_err-check.ensures in
    same_breach _ _ c.from_residual.ensures.1 ∙ e.told ∙ simp (← c.end.ensures.0, e.tests.0, lt-ltb _ _ (leb-false _ _ e.tests.0))

pub returns-clause-told : goal.returns-clause-told
unfolding field_number
returns-clause-told c =
    let s = rw (to_z-of_z c.ranges.z) at c.is_at.ensures in
    c.check-2.ensures.told ∙ simp (← s, ← c.end.ensures.0, le-ltb _ _ (leb-true _ _ c.in_ok-check.ensures.tests))
