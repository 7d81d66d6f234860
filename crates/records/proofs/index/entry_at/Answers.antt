use Rattle.std.proofs.Common.{◌∙◌, ap}
use borrow.Author.Tests.{leb-true, leb-false, lt-ltb, le-ltb, ne_eqb}
use Rattle.records.specs.Breaches.{number_of}
use Rattle.records.specs.Index.{entry_fault, entry_of}
use Rattle.records.proofs.Told.{number_some}
use Rattle.records.proofs.Ranges.{same_entry}
use Rattle.records.proofs.index.entry_at.Goals as goal

pub returns-in_err-check-clause-told : goal.returns-in_err-check-clause-told
unfolding entry_of
returns-in_err-check-clause-told c =
    let e = c.in_err-check.ensures in
    same_entry _ _ c.from_residual.ensures.1 ∙ ap entry_fault e.told ∙ simp (← c.end.ensures.0, e.tests.0, lt-ltb _ _ (leb-false _ _ e.tests.0))

pub returns-in_err-range_right-clause-told : goal.returns-in_err-range_right-clause-told
unfolding entry_of
returns-in_err-range_right-clause-told c =
    let y = c.in_err-range_right.field-0.0 in
    same_entry _ _ c.from_residual-in_err-range_right.ensures.1
    ∙ simp (← c.end.ensures.0, le-ltb _ _ (leb-true _ _ c.in_ok-check.ensures.tests), ← c.nat_at-n.ensures.0, ← c.in_err-range_right.ensures.told, ne_eqb (number_of y) 0 (number_some y))

pub returns-clause-told : goal.returns-clause-told
unfolding entry_of
returns-clause-told c =
    simp (← c.link_at.ensures.0, ← c.nat_at-2.ensures.0, ← c.nat_at.ensures.0, ← c.end.ensures.0, le-ltb _ _ (leb-true _ _ c.in_ok-check.ensures.tests), ← c.nat_at-n.ensures.0, ← c.in_ok-range_right.ensures.told)
