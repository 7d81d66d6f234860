use mathlib.Core.Path.{refl, sym, ◌∙◌}
use Rattle.epochs.proofs.Moments.{given}
use Rattle.epochs.proofs.counts.count_from.Goals as goal

pub returns-in_err-natural : goal.returns-in_err-natural
returns-in_err-natural c =
    let f = c.ranges in
    given f.year f.month f.day f.milliseconds (sym c.in_err-natural.was ∙ c.natural.ensures) refl refl refl c.from_residual.ensures

pub returns-in_err-natural-2 : goal.returns-in_err-natural-2
returns-in_err-natural-2 c =
    let f = c.ranges in
    given f.year f.month f.day f.milliseconds
    (sym c.in_ok-natural.was ∙ c.natural.ensures)
    (sym c.in_err-natural-2.was ∙ c.natural-2.ensures)
    refl refl
    c.from_residual-in_err-natural-2.ensures

pub returns-in_err-natural-3 : goal.returns-in_err-natural-3
returns-in_err-natural-3 c =
    let f = c.ranges in
    given f.year f.month f.day f.milliseconds
    (sym c.in_ok-natural.was ∙ c.natural.ensures)
    (sym c.in_ok-natural-2.was ∙ c.natural-2.ensures)
    (sym c.in_err-natural-3.was ∙ c.natural-3.ensures)
    refl
    c.from_residual-in_err-natural-3.ensures

pub returns-in_err-natural-4 : goal.returns-in_err-natural-4
returns-in_err-natural-4 c =
    let f = c.ranges in
    given f.year f.month f.day f.milliseconds
    (sym c.in_ok-natural.was ∙ c.natural.ensures)
    (sym c.in_ok-natural-2.was ∙ c.natural-2.ensures)
    (sym c.in_ok-natural-3.was ∙ c.natural-3.ensures)
    (sym c.in_err-natural-4.was ∙ c.natural-4.ensures)
    c.from_residual-in_err-natural-4.ensures

pub returns : goal.returns
returns c =
    let f = c.ranges in
    given f.year f.month f.day f.milliseconds
    (sym c.in_ok-natural.was ∙ c.natural.ensures)
    (sym c.in_ok-natural-2.was ∙ c.natural-2.ensures)
    (sym c.in_ok-natural-3.was ∙ c.natural-3.ensures)
    (sym c.in_ok-natural-4.was ∙ c.natural-4.ensures)
    c.count_moment.ensures
