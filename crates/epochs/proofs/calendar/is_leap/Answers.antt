use borrow.Author.Tests.{eq-eqb, ne_eqb}
use Rattle.epochs.specs.Calendar.{leap}
use Rattle.epochs.proofs.calendar.is_leap.Goals as goal

pub returns-then-y-ne0 : goal.returns-then-y-ne0
unfolding leap
returns-then-y-ne0 c = rw (eq-eqb _ _ c.if-y-eq0.true, ne_eqb _ _ c.if-y-ne0.true)

pub returns-else-y-ne0 : goal.returns-else-y-ne0
unfolding leap
returns-else-y-ne0 c = rw (eq-eqb _ _ c.if-y-eq0.true, eq-eqb _ _ c.if-y-ne0.false)

pub returns-else-y-eq0 : goal.returns-else-y-eq0
unfolding leap
returns-else-y-eq0 c = rw (ne_eqb _ _ c.if-y-eq0.false)
