use Rattle.epochs.proofs.Shown.{difference_is_shown, difference_not_shown}
use Rattle.epochs.proofs.tlz_epoch_difference.Goals as goal

pub returns-then-not-is_epoch : goal.returns-then-not-is_epoch
returns-then-not-is_epoch c =
    let a = c.args in
    let p = c.is_epoch in
    let q = c.is_epoch-2 in
    difference_not_shown a.a a.b p.result q.result p.ensures q.ensures c.if-not-is_epoch.true a.difference.now

pub returns : goal.returns
returns c =
    let a = c.args in
    let p = c.is_epoch in
    let q = c.is_epoch-2 in
    difference_is_shown a.a a.b p.result q.result p.ensures q.ensures c.if-not-is_epoch.false a.difference.now
