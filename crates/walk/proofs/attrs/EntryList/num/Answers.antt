use Rattle.std.proofs.Common.{◌∙◌}
use borrow.Author.Tests.{leb-true, leb-false, lt-ltb, le-ltb}
use Rattle.records.proofs.Told.{same_breach}
use Rattle.walk.specs.Walk.{num_number}
use Rattle.walk.proofs.attrs.EntryList.num.Goals as goal

pub returns-in_err-check : goal.returns-in_err-check
unfolding num_number
returns-in_err-check c =
    let e = c.in_err-check.ensures in
    same_breach _ _ c.from_residual.ensures.1 ∙ e.told ∙ simp (← c.end.ensures.0, e.tests.0, lt-ltb _ _ (leb-false _ _ e.tests.0))

pub returns : goal.returns
unfolding num_number
returns c = c.check-2.ensures.told ∙ simp (c.same-num.ensures, ← c.end.ensures.0, le-ltb _ _ (leb-true _ _ c.in_ok-check.ensures.tests))
