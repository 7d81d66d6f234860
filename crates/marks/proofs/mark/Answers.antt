use Rattle.marks.specs.Marks.{marked}
use Rattle.marks.proofs.mark.Goals as goal

pub returns : goal.returns
unfolding marked
returns c = rw c.clear.ensures
