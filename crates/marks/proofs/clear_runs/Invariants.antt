use mathlib.Core.Path.{◌≡◌}
use Prim.Native.Nat.{◌*◌}
use Rattle.marks.specs.Marks.{cleared}
use Rattle.marks.proofs.clear_runs.Given as goal

-- Run by run. The invariant: the marks of the first i runs are 0, all others as they were.
abbrev pub invariant-loop-i : goal.invariant-loop-i
invariant-loop-i l = l.m ≡ cleared l.initial.m l.at (16 * l.i)
