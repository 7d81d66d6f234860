use borrow.Author.Tests.{eq-eqb, ne_eqb}
use Rattle.records.specs.Opening.{gdr_at}
use Rattle.variables.specs.Vdr.{num_dims_at}
use native.Mathlib.Omega.{arith}
use Rattle.variables.proofs.vdr.Head.num_dims_at.Goals as goal

pub returns-then-self-eq8 : goal.returns-then-self-eq8
unfolding num_dims_at
returns-then-self-eq8 c = (simp (eq-eqb _ _ c.if-self-eq8.true), omega arith)

pub returns-else-self-eq8 : goal.returns-else-self-eq8
unfolding num_dims_at gdr_at
returns-else-self-eq8 c = (simp (ne_eqb _ _ c.if-self-eq8.false, ← c.link_at.ensures.0), omega arith)
