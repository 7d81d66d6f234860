use borrow.Author.Tests.{eq-eqb}
use Rattle.states.specs.Saved.{load}
use Rattle.states.proofs.saved.load_state.Goals as goal

pub returns-then-s-eq0 : goal.returns-then-s-eq0
unfolding load
returns-then-s-eq0 c = simp (c.checked_stage.ensures, ← c.stage_of.ensures, eq-eqb _ _ c.if-s-eq0.true)
