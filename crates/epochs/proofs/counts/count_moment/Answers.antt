use mathlib.Core.Path.{sym, ap, ◌∙◌}
use native.Mathlib.Omega.{arith}
use Prim.Native.Nat.{ℕ, ◌+◌, ◌*◌}
use Rattle.std.specs.Prelude.{Some}
use Rattle.epochs.specs.Epochs.{count_at}
use Rattle.epochs.proofs.Moments.{moment_of, counted, not_counted}
use Rattle.epochs.proofs.counts.count_moment.Goals as goal

pub returns-then-not-is_moment : goal.returns-then-not-is_moment
returns-then-not-is_moment c =
    let d = c.args.d in
    not_counted d.year d.month d.day c.args.t (sym c.is_moment.ensures ∙ c.if-not-is_moment.true)

pub days_before-requires : goal.days_before-requires
days_before-requires c =
    let d = c.args.d in
    let k = moment_of d.year d.month d.day c.args.t (sym c.is_moment.ensures ∙ c.if-not-is_moment.false) in
    (k.year, k.there)

pub overflow_add-result : goal.overflow_add-result
overflow_add-result c =
    let d = c.args.d in
    let k = moment_of d.year d.month d.day c.args.t (sym c.is_moment.ensures ∙ c.if-not-is_moment.false) in
    omega (arith, k.time, c.days_before.ensures.1)

pub returns : goal.returns
unfolding count_at
returns c =
    let d = c.args.d in
    ap (λ (n : ℕ). Some (n * 86400000 + c.args.t)) c.days_before.ensures.0
    ∙ counted d.year d.month d.day c.args.t (sym c.is_moment.ensures ∙ c.if-not-is_moment.false)
