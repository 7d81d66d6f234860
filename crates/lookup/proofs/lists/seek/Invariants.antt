use Prim.Native.Nat.{◌-◌}
use Rattle.lookup.proofs.Links.{StillSought}
use Rattle.lookup.proofs.lists.seek.Given as goal

-- The list is followed link by link. What remains is always the same question, asked from the link at p, at the place i, with allowed - i
-- more records that may be met.
abbrev pub invariant-loop-i : goal.invariant-loop-i
invariant-loop-i l = StillSought l.f l.t l.w l.link l.allowed l.p l.i (l.allowed - l.i)
