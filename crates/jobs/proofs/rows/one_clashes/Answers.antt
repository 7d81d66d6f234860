use mathlib.Core.Path.{refl, sym, ◌∙◌}
use native.Mathlib.Omega.{arith}
use Rattle.jobs.specs.Parts.{clash_before, any_to}
use Rattle.jobs.specs.Turns.{parts_at}
use Rattle.jobs.proofs.Tests.{none_more, found}
use Rattle.jobs.proofs.Turning.{shares_before}
use Rattle.jobs.proofs.rows.one_clashes.Goals as goal

pub loop-i-init : goal.loop-i-init
unfolding any_to
loop-i-init c = refl

pub returns-then-one_shares : goal.returns-then-one_shares
returns-then-one_shares c =
    let js = c.args.jobs.now in
    sym (found (clash_before (parts_at js)) c.loop-i.i _ (sym (shares_before js c.loop-i.i _ c.one_shares.ensures (omega arith)) ∙ c.if-one_shares.true) c.loop-i-test.true)

pub loop-i-preserved : goal.loop-i-preserved
loop-i-preserved c =
    let js = c.args.jobs.now in
    none_more (clash_before (parts_at js)) c.loop-i.i c.loop-i.invariant (sym (shares_before js c.loop-i.i _ c.one_shares.ensures (omega arith)) ∙ c.if-one_shares.false)
