use lib.Dec.{lit≤}
use Rattle.format.proofs.Table.{size_by}
use Rattle.format.proofs.types.size_of.Goals as goal

pub returns-then-t : goal.returns-then-t
returns-then-t c = (simp (size_by, c.if-t.true), lit≤ tt)

pub returns-then-t-2 : goal.returns-then-t-2
returns-then-t-2 c = (simp (size_by, c.if-t-2.true, c.if-t.false), lit≤ tt)

pub returns-then-t-3 : goal.returns-then-t-3
returns-then-t-3 c = (simp (size_by, c.if-t-3.true, c.if-t-2.false, c.if-t.false), lit≤ tt)

pub returns-then-t-4 : goal.returns-then-t-4
returns-then-t-4 c = (simp (size_by, c.if-t-4.true, c.if-t-3.false, c.if-t-2.false, c.if-t.false), lit≤ tt)

pub returns : goal.returns
returns c = (simp (size_by, c.if-t-4.false, c.if-t-3.false, c.if-t-2.false, c.if-t.false), lit≤ tt)
