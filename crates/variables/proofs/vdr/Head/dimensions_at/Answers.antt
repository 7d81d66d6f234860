use borrow.Author.Tests.{eq-eqb, ne_eqb}
use Rattle.variables.specs.Vdr.{layout_of, layout_at}
use borrow.Author.Rules.{rules}
use Rattle.variables.proofs.vdr.Head.dimensions_at.Goals as goal

pub returns-then-self-eq8 : goal.returns-then-self-eq8
unfolding layout_of layout_at
returns-then-self-eq8 c = (simp (← c.requires.counted, ← c.nat_at-n.ensures.0, eq-eqb _ _ c.if-self-eq8.true), search rules)

pub returns-else-self-eq8 : goal.returns-else-self-eq8
unfolding layout_of layout_at
returns-else-self-eq8 c = (simp (← c.requires.counted, c.r_sizes_at.ensures.0, ← c.nat_at-n.ensures.0, ne_eqb _ _ c.if-self-eq8.false), search rules)
