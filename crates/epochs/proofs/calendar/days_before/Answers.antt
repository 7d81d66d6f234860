use native.Mathlib.Omega.{arith}
use mathlib.Core.Path.{◌≡◌}
use Prim.Native.Nat.{◌+◌, ◌-◌, ◌<◌}
use Rattle.epochs.specs.Calendar.{days_before}
use Rattle.epochs.proofs.Dates.{valid_of, month_of_date, days_found}
use Rattle.epochs.proofs.calendar.days_before.Goals as goal
use Rattle.epochs.proofs.calendar.days_before.Goals.{After-before_month}

pub before_month-requires : goal.before_month-requires
before_month-requires c = let d = c.args.d in month_of_date d.year d.month d.day c.requires.1

-- the days are those of the date, and few
days : (c : After-before_month) → let d = c.args.d in
    let n = c.before_year.result + c.before_month.result + (d.day - 1) in (n ≡ days_before d) × (n < 3652425)
days c =
    let d = c.args.d in
    days_found d.year d.month d.day c.requires.1 c.requires.0 c.is_leap.result c.before_year.result c.before_month.result
    c.before_year.ensures c.is_leap.ensures c.before_month.ensures

pub overflow_add-result : goal.overflow_add-result
overflow_add-result c = omega (arith, (days c).1)

pub overflow_sub-result : goal.overflow_sub-result
overflow_sub-result c = let d = c.args.d in (valid_of d.year d.month d.day c.requires.1).some

pub overflow_add-result-2 : goal.overflow_add-result-2
overflow_add-result-2 c = omega (arith, (days (goal.at.overflow_add-result-2 c).After-before_month).1)

pub returns : goal.returns
returns c = days (goal.at.returns c).After-before_month
