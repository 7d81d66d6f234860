use Rattle.std.proofs.Common.{◌∙◌}
use Rattle.records.specs.Attributes.{aedr_rule}
use Rattle.records.proofs.Told.{same_breach}
use Rattle.records.proofs.Judged.{judged_err, judged_ok}
use Rattle.records.proofs.attributes.aedr.Goals as goal

pub returns-in_err-reach-clause-told : goal.returns-in_err-reach-clause-told
unfolding aedr_rule
returns-in_err-reach-clause-told c = same_breach _ _ c.from_residual.ensures.1 ∙ judged_err _ _ _ _ _ c.in_err-reach.ensures.told

pub returns-clause-told : goal.returns-clause-told
unfolding aedr_rule
returns-clause-told c = rw (← c.aedr_right.ensures) (c.check.ensures.told ∙ judged_ok _ _ _ _ c.in_ok-reach.ensures.told)
