use Rattle.epochs.proofs.Dates.{date_test}
use Rattle.epochs.proofs.calendar.is_date.Goals as goal

pub returns : goal.returns
returns c =
    let d = c.args.d in
    let l = c.is_leap in
    let k = c.month_days in
    date_test d.year d.month d.day l.result k.result k.ensures l.ensures
