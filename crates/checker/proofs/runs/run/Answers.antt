use Rattle.std.proofs.Common.{◌≡◌, ◌∙◌, sym, ap, ℕ, arith, rules}
use Rattle.checker.specs.Step.{conf, run_of}
use Rattle.checker.proofs.Loop.{at_first, run_on, early, still_on}
use Rattle.checker.proofs.runs.run.Goals as goal

pub loop-ran-init : goal.loop-ran-init
loop-ran-init c = (search rules, at_first _ _ _)

pub run_stage-more-requires : goal.run_stage-more-requires
run_stage-more-requires c =
    rw c.new-file.ensures (still_on c.requires c.loop-ran.invariant.1, omega (arith, c.loop-ran-test.true))

pub loop-ran-preserved : goal.loop-ran-preserved
loop-ran-preserved c =
    let i = c.loop-ran.invariant in
    let more = c.run_stage-more.ensures in
    (omega (arith, i.0, more.most), run_on i.1 (rw c.new-file.ensures at more.run))

pub returns-else-not-is_finished : goal.returns-else-not-is_finished
returns-else-not-is_finished c =
    early c.loop-ran.invariant.1 (sym c.if-not-is_finished.ensures) c.args.n (omega (arith, c.loop-ran-test.true))

pub returns-after-loop-ran : goal.returns-after-loop-ran
returns-after-loop-ran c =
    let a = c.args in
    let i = c.loop-ran.invariant in
    let all : c.loop-ran.ran.made ≡ a.n = omega (arith, i.0, c.loop-ran-test.false) in
    i.1.stands ∙ ap (λ (j : ℕ). run_of a.f.now (conf a.s a.m.now) j) all
