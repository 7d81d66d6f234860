use Rattle.std.proofs.Common.{◌≡◌}
use Rattle.variables.specs.Place.{indices_right}
use Rattle.variables.proofs.place.indices_right.Given as goal

-- Invariant: right says whether the first d indices are right.
abbrev pub invariant-loop-d : goal.invariant-loop-d
invariant-loop-d l = l.right ≡ indices_right l.f l.p l.indices l.d
