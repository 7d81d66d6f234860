use Rattle.marks.proofs.Parts.{filled}
use Rattle.marks.proofs.clear_run.Goals as goal

pub returns : goal.returns
returns c = filled c.args.m.now c.args.at 16 c.fill.new.self c.requires (c.fill.ensures.after (λ y e. e))
