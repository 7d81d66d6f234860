use Rattle.std.proofs.Common.{◌∙◌}
use Rattle.records.specs.Index.{vvr_rule}
use Rattle.records.proofs.Told.{same_breach}
use Rattle.records.proofs.Judged.{judged_err, judged_ok}
use Rattle.records.proofs.index.vvr.Goals as goal

pub returns-in_err-reach : goal.returns-in_err-reach
unfolding vvr_rule
returns-in_err-reach c = same_breach _ _ c.from_residual.ensures.1 ∙ judged_err _ _ _ _ _ c.in_err-reach.ensures.told

pub returns : goal.returns
unfolding vvr_rule
returns c = c.check.ensures.told ∙ simp (c.from-size.ensures, c.from.ensures, c.from-2.ensures, c.nat_at.ensures.0) (judged_ok _ _ _ _ c.in_ok-reach.ensures.told)
