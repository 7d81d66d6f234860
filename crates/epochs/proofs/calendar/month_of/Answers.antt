use Rattle.epochs.proofs.Months.{month_early, month_late}
use Rattle.epochs.proofs.calendar.month_of.Goals as goal

pub returns-then-d-s : goal.returns-then-d-s
returns-then-d-s c = month_early c.args.l c.args.d c.requires (rw c.short-s.ensures.0 at c.if-d-s.true)

pub returns-else-d-s : goal.returns-else-d-s
returns-else-d-s c =
    rw c.short-s.ensures.0 (month_late c.args.l c.args.d c.requires (rw c.short-s.ensures.0 at c.if-d-s.false))
