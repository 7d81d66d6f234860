use mathlib.Core.Path.{ap, ◌∙◌}
use Rattle.std.specs.Prelude.{is_some}
use Rattle.epochs.specs.Epochs.{is_epoch}
use Rattle.epochs.proofs.counts.is_epoch.Goals as goal

pub returns : goal.returns
unfolding is_epoch
returns c = c.is_some.ensures ∙ ap is_some c.count_of.ensures
