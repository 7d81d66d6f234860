use Rattle.vax.specs.Rounding.{size_of}
use borrow.Author.Tests.{lt-ltb, le-ltb}
use native.Mathlib.Omega.{arith}
use Rattle.vax.proofs.size.Goals as goal

pub returns-then-places-lt53 : goal.returns-then-places-lt53
unfolding size_of
returns-then-places-lt53 c = (rw (lt-ltb _ _ c.if-places-lt53.true) c.kept.ensures.0, omega arith)

pub returns : goal.returns
unfolding size_of
returns c = (rw (le-ltb _ _ c.if-places-lt53.false, c.from.ensures, c.kept-2.ensures.0), omega arith)
