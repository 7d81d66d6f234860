use mathlib.Core.Path.{sym}
use mathlib.Core.Bool.{true≢false}
use borrow.Author.Tests.{lt-ltb, le-ltb, lt-leb, le-leb}
use Rattle.marks.specs.Marks.{start_at}
use native.Mathlib.Omega.{arith}
use Rattle.marks.proofs.is_start.Goals as goal

pub returns-then-o-lt8 : goal.returns-then-o-lt8
unfolding start_at
returns-then-o-lt8 c = (simp (lt-leb _ _ c.if-o-lt8.true), λ e. absurd (true≢false (sym e)))

pub returns-then-end-o : goal.returns-then-end-o
unfolding start_at
returns-then-end-o c = (simp (← c.end.ensures.0, le-ltb _ _ c.if-end-o.true, le-leb _ _ c.if-o-lt8.false), λ e. absurd (true≢false (sym e)))

pub returns : goal.returns
unfolding start_at
returns c = (simp (← c.end.ensures.0, lt-ltb _ _ c.if-end-o.false, le-leb _ _ c.if-o-lt8.false, c.marks_start.ensures), λ e. omega (arith, c.if-end-o.false, c.end.ensures.1))
