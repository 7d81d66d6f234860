use borrow.Author.Tests.{eq-eqb, ne_eqb}
use Rattle.walk.proofs.Widened.{widened}
use Rattle.walk.specs.Walk.{vars_tally}
use Rattle.walk.proofs.vars.VariableList.tally.Goals as goal

pub returns-then-self-eq8 : goal.returns-then-self-eq8
unfolding vars_tally
returns-then-self-eq8 c =
    let k = rw (widened _ _ c.from.ensures c.from.type_inv) at c.field_number.ensures.told in
    simp (k, eq-eqb _ _ c.if-self-eq8.true, ← c.requires.is)

pub returns : goal.returns
unfolding vars_tally
returns c = simp (c.tally.ensures, ne_eqb _ _ c.if-self-eq8.false, ← c.requires.is)
