use Rattle.variables.proofs.Rule.{bytes_small}
use Rattle.walk.proofs.index.entry_step.Goals as goal

pub entry_faulty-requires : goal.entry_faulty-requires
entry_faulty-requires c = let u = c.args.at.var in rw c.requires (bytes_small c.args.f.now u.kind u.vdr)
