use Rattle.epochs.specs.Epochs.{is_moment}
use Rattle.epochs.proofs.counts.is_moment.Goals as goal

pub returns : goal.returns
unfolding is_moment
returns c = rw c.is_date.ensures
