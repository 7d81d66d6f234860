use Rattle.epochs.specs.Epochs.{count_of}
use Rattle.epochs.proofs.Shown.{day_fits, date_shown_lem, date_not_shown}
use Rattle.epochs.proofs.tlz_epoch_date.Goals as goal

pub date_of-d-requires : goal.date_of-d-requires
date_of-d-requires c =
    let k = c.count_of in
    day_fits c.args.epoch k.result k.ensures c.in-Some.n c.in-Some.is

pub returns-in-Some : goal.returns-in-Some
returns-in-Some c =
    let a = c.args in
    let k = c.count_of in
    let d = c.date_of-d in
    date_shown_lem a.epoch k.result k.ensures c.in-Some.n c.in-Some.is d.result d.ensures a.year.now a.month.now a.day.now a.milliseconds.now

pub returns-in-None : goal.returns-in-None
returns-in-None c =
    let a = c.args in
    let k = c.count_of in
    date_not_shown (count_of a.epoch) k.result k.ensures c.in-None.is a.year.now a.month.now a.day.now a.milliseconds.now
