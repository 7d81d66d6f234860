use mathlib.Core.Path.{◌≡◌, sym, ◌∙◌}
use native.Mathlib.Omega.{arith}
use Prim.Native.Nat.{ℕ, ◌≤◌}
use lib.IntN.{ℤ, pos}
use mir.Syntax.{w64}
use mir.Val.{to_z, of_z}
use Rattle.std.proofs.lemmas.Int.{to_z_pos, of_z-to_z}
use Rattle.epochs.specs.Epochs.{last_epoch, count_from}
use Rattle.epochs.proofs.Moments.{passed, from_small}
use Rattle.epochs.proofs.Wholes.{may_cast}
use Rattle.epochs.proofs.Shown.{epoch_is_shown, epoch_not_shown}
use Rattle.epochs.proofs.tlz_epoch_from.Goals.{In-Some}
use Rattle.epochs.proofs.tlz_epoch_from.Goals as goal

-- a count that a date has is no more than the last epoch
small : (c : In-Some) → c.in-Some.n ≤ last_epoch
small c =
    let a = c.args in
    let f = c.ranges in
    let e = passed f.year f.month f.day f.milliseconds c.count_from.ensures in
    from_small a.year a.month a.day a.milliseconds c.in-Some.n (sym e ∙ c.in-Some.is)

-- so it is the same as a signed number
signed : {n : ℕ} {k : ℤ} → n ≤ last_epoch → k ≡ to_z w64 n → to_z w64 (of_z w64 k) ≡ pos n
signed {n} h e = rw (e, of_z-to_z w64 n (omega arith)) (to_z_pos w64 n (omega arith))

pub int_to_float-epoch : goal.int_to_float-epoch
int_to_float-epoch c =
    let w = (goal.at.int_to_float-epoch c).In-Some in rw (signed (small w) c.cast_signed.ensures) (may_cast c.in-Some.n (small w))

pub returns-in-Some : goal.returns-in-Some
returns-in-Some c =
    let a = c.args in
    let f = c.ranges in
    let k = c.count_from in
    let e = passed f.year f.month f.day f.milliseconds k.ensures in
    rw (signed (small (goal.at.returns-in-Some c).In-Some) c.cast_signed.ensures)
    (epoch_is_shown (count_from a.year a.month a.day a.milliseconds) k.result e c.in-Some.n c.in-Some.is a.epoch.now)

pub returns-in-None : goal.returns-in-None
returns-in-None c =
    let a = c.args in
    let f = c.ranges in
    let k = c.count_from in
    let e = passed f.year f.month f.day f.milliseconds k.ensures in
    epoch_not_shown (count_from a.year a.month a.day a.milliseconds) k.result e c.in-None.is a.epoch.now
