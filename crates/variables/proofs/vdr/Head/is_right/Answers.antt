use Rattle.variables.specs.Vdr.{vdr_fields}
use Rattle.variables.proofs.vdr.Head.is_right.Goals as goal

pub returns : goal.returns
unfolding vdr_fields
returns c =
    simp (← c.at_least-2.ensures, ← c.within.ensures, ← c.big4.ensures, ← c.at_least.ensures, ← c.is-3.ensures, ← c.is-2.ensures, ← c.is.ensures, ← c.args.self.now.typed.0)
