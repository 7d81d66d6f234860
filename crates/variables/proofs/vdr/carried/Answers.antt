use Rattle.std.proofs.Common.{◌∙◌}
use borrow.Author.Tests.{lt-ltb, le-ltb}
use Rattle.records.proofs.Told.{last_not}
use Rattle.variables.specs.Vdr.{carried_of}
use Rattle.variables.proofs.vdr.carried.Goals as goal

pub returns-then-end-o : goal.returns-then-end-o
unfolding carried_of
returns-then-end-o c = simp (lt-ltb _ _ c.if-end-o.true, ← c.end.ensures.0)

pub returns-then-nat_at-lt32 : goal.returns-then-nat_at-lt32
unfolding carried_of
returns-then-nat_at-lt32 c = simp (lt-ltb _ _ c.if-nat_at-lt32.true, ← c.nat_at.ensures.0, le-ltb _ _ c.if-end-o.false, ← c.end.ensures.0)

pub returns : goal.returns
unfolding carried_of
returns c =
    c.check.ensures.told ∙ simp (← c.bit.ensures, le-ltb _ _ c.if-nat_at-lt32.false, ← c.nat_at.ensures.0, le-ltb _ _ c.if-end-o.false, ← c.end.ensures.0, last_not)
