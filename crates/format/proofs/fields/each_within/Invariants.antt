use Prim.Native.Nat.{◌+◌, ◌-◌, ◌*◌}
use mathlib.Core.Path.{◌≡◌}
use Rattle.format.specs.Fields.{each_within}
use Rattle.format.proofs.fields.each_within.Given as goal

-- The fields from number i on decide. Invariant: each of all n is within exactly if each of these is.
abbrev pub invariant-loop-i : goal.invariant-loop-i
invariant-loop-i l = each_within l.f l.at l.n l.lo l.hi ≡ each_within l.f (l.at + 4 * l.i) (l.n - l.i) l.lo l.hi
