use Rattle.std.proofs.Common.{sym}
use Rattle.variables.proofs.Capped.{capped_small}
use Rattle.variables.proofs.dimensions.Dimensions.next_place.Goals as goal

pub returns-else-is : goal.returns-else-is
returns-else-is c = (simp (← c.is.ensures, c.if-is.false) (sym (capped_small c.args.place c.requires.1)), c.requires.1)
