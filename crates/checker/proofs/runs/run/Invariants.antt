use Rattle.std.proofs.Common.{◌≤◌, ◌-◌}
use Rattle.checker.specs.Bounds.{InRun}
use Rattle.checker.proofs.runs.run.Given as goal

-- Idea: the steps of one stage after those of the other. Invariant: at most n steps were made, and the check stands where the plain run does
-- after so many.
abbrev pub invariant-loop-ran : goal.invariant-loop-ran
invariant-loop-ran l = (l.ran.made ≤ l.n) × InRun l.f l.fn.s l.initial.m l.ran.state l.m l.ran.made

abbrev pub decreases-loop-ran : goal.decreases-loop-ran
decreases-loop-ran l = l.n - l.ran.made
