use Prim.Native.Nat.{◌-◌}
use lib.ListN.{length}
use Rattle.marks.proofs.Onward.{StillLeft}
use Rattle.marks.proofs.left.Given as goal

-- From record to record, as many at most as there are bytes. The invariant: what is found from o on in as many records as are left is what is
-- found from 8 on.
abbrev pub invariant-loop : goal.invariant-loop
invariant-loop l = StillLeft l.f l.m l.o (length l.f - l.counter)
