use Rattle.epochs.proofs.Months.{before_early, before_late}
use Rattle.epochs.proofs.calendar.before_month.Goals as goal

pub returns-then-m-le2 : goal.returns-then-m-le2
returns-then-m-le2 c = before_early c.args.l c.args.m c.requires.1 c.if-m-le2.true

pub returns-else-m-le2 : goal.returns-else-m-le2
returns-else-m-le2 c = rw c.short.ensures.0 (before_late c.args.l c.args.m c.requires.1 c.if-m-le2.false)
