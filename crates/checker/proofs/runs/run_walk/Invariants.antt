use Rattle.variables.specs.Vdr.{variable_told}
use Rattle.walk.specs.Bounds.{Known}
use Rattle.checker.specs.Step.{walking}
use Rattle.checker.specs.Bounds.{InRun}
use Rattle.checker.proofs.runs.run_walk.Given as goal

-- Idea: each turn of the loop is one step of the plain run. Invariant: v is the variable whose index is walked at w, and the walk stands where the
-- plain run from s does after k steps.
abbrev pub invariant-loop-k : goal.invariant-loop-k
invariant-loop-k l = Known l.b (variable_told l.v) l.w × InRun l.f.bytes.now l.s l.initial.m (walking l.s.length l.w l.up) l.m l.k
