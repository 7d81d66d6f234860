use mathlib.Core.Path.{◌≡◌}
use Rattle.marks.specs.Marks.{cleared}
use Rattle.marks.proofs.clear_singly.Given as goal

-- Mark by mark. The invariant: the first i of them are 0, all others as they were.
abbrev pub invariant-loop-i : goal.invariant-loop-i
invariant-loop-i l = l.m ≡ cleared l.initial.m l.at l.i
