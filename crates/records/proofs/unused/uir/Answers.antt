use Rattle.std.proofs.Common.{◌∙◌}
use Rattle.records.specs.Unused.{uir_rule}
use Rattle.records.proofs.Judged.{judged_reach}
use Rattle.records.proofs.unused.uir.Goals as goal

pub returns-clause-told : goal.returns-clause-told
unfolding uir_rule
returns-clause-told c = c.reach.ensures.told ∙ judged_reach c.args.f.now c.args.at 16
