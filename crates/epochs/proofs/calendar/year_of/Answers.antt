use mathlib.Core.Path.{refl}
use Rattle.epochs.proofs.Years.{year_found, some_year, before_some, year_before}
use Rattle.epochs.proofs.calendar.year_of.Goals as goal

pub overflow_sub-year : goal.overflow_sub-year
overflow_sub-year c = some_year c.args.n _ refl c.requires c.before_year-before.result c.before_year-before.ensures c.if-n-before.true

pub overflow_sub-result : goal.overflow_sub-result
overflow_sub-result c =
    let b = c.before_year-before in
    before_some c.args.n _ refl c.requires b.result b.ensures c.if-n-before.true c.before_year.result c.before_year.ensures

pub returns-then-n-before : goal.returns-then-n-before
returns-then-n-before c =
    let b = c.before_year-before in
    year_before c.args.n _ refl c.requires b.result b.ensures c.if-n-before.true c.before_year.result c.before_year.ensures

pub returns : goal.returns
returns c =
    let b = c.before_year-before in
    year_found c.args.n _ refl c.requires b.result b.ensures c.if-n-before.false
