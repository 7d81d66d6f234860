use Rattle.states.specs.Saved.{save}
use Rattle.states.proofs.saved.checked_stage.Goals as goal

pub returns-then-eq : goal.returns-then-eq
unfolding save
returns-then-eq c =
    simp (c.if-eq.true, ← c.eq.ensures, ← c.save_state.ensures, c.if-not-stage_range.false, ← c.stage_range.ensures)

pub returns-else-eq : goal.returns-else-eq
unfolding save
returns-else-eq c =
    simp (c.if-eq.false, ← c.eq.ensures, ← c.save_state.ensures, c.if-not-stage_range.false, ← c.stage_range.ensures)
