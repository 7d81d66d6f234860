use Rattle.std.proofs.Common.{◌≡◌, refl, arith}
use Rattle.checker.proofs.Loop.{at_first, once_of, steps_made}
use Rattle.checker.proofs.runs.run_sweep.Goals as goal

pub loop-k-init : goal.loop-k-init
loop-k-init c = (c.requires.1, at_first _ _ _)

pub returns-in_default : goal.returns-in_default
returns-in_default c =
    let i = c.loop-k.invariant in
    steps_made c.loop-k-test.true (once_of i.1 i.0 refl c.sweep-state.ensures)

pub loop-k-preserved : goal.loop-k-preserved
loop-k-preserved c =
    let i = c.loop-k.invariant in
    (c.in-Sweep.is, once_of i.1 i.0 refl c.sweep-state.ensures)

pub returns : goal.returns
returns c =
    let all : c.loop-k.k ≡ c.args.n = omega arith in
    record { run = rw (← all) c.loop-k.invariant.1; some = λ _. c.requires.2; most = omega arith }
