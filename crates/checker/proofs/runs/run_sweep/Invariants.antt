use Rattle.std.proofs.Common.{◌≡◌}
use Rattle.checker.specs.Bounds.{InRun}
use Rattle.states.specs.declared.state.Stage.TheVariants.{Sweep}
use Rattle.checker.proofs.runs.run_sweep.Given as goal

-- Idea: each turn of the loop is one step of the plain run. Invariant: the sweep stands at `at`, where the plain run does after k steps.
abbrev pub invariant-loop-k : goal.invariant-loop-k
invariant-loop-k l = (l.state.stage ≡ Sweep l.at) × InRun l.f.bytes.now l.initial.state l.initial.m l.state l.m l.k
