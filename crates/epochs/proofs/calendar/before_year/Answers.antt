use Rattle.epochs.proofs.Years.{by_division}
use Rattle.epochs.proofs.calendar.before_year.Goals as goal

pub returns : goal.returns
returns c = by_division c.args.y
