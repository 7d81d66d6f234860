use mathlib.Core.Path.{sym}
use mathlib.Core.Bool.{true≢false}
use borrow.Author.Tests.{lt-leb, le-leb, leb-true}
use native.Mathlib.Omega.{arith}
use Rattle.marks.specs.Marks.{followed_at}
use Rattle.marks.proofs.is_followed.Goals as goal

pub returns-then-size-lt8 : goal.returns-then-size-lt8
unfolding followed_at
returns-then-size-lt8 c = (simp (← c.nat_at-size.ensures.0, lt-leb _ _ c.if-size-lt8.true), λ e. absurd (true≢false (sym e)))

pub returns : goal.returns
unfolding followed_at
returns c = (simp (← c.end.ensures.0, ← c.nat_at-size.ensures.0, le-leb _ _ c.if-size-lt8.false), λ e. omega (arith, leb-true, e, c.end.ensures.1, c.nat_at-size.ensures.0))
