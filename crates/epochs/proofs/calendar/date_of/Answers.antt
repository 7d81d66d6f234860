use Rattle.epochs.proofs.Dates.{date_found}
use Rattle.epochs.proofs.calendar.date_of.Goals as goal

pub returns : goal.returns
returns c =
    let p = c.year_of-p in
    let l = c.is_leap-l in
    let m = c.month_of-m in
    let b = c.before_month-b in
    date_found c.args.n p.result.year p.result.day l.result p.ensures l.ensures
    m.result b.result m.ensures b.ensures
