use native.Mathlib.Omega.{arith}
use Rattle.epochs.proofs.Months.{no_month, month_zero, february, other_month}
use Rattle.epochs.proofs.calendar.month_days.Goals as goal

pub returns-then-m-eq2 : goal.returns-then-m-eq2
returns-then-m-eq2 c = rw c.short.ensures.0 (february c.args.l c.args.m c.if-m-eq2.true)

pub returns-else-m-eq2 : goal.returns-else-m-eq2
returns-else-m-eq2 c = grind (arith, other_month)

pub returns-in_default : goal.returns-in_default
returns-in_default c = grind (arith, month_zero)

pub returns-in_default-2 : goal.returns-in_default-2
returns-in_default-2 c = grind (arith, no_month)
