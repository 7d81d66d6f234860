use Rattle.checker.proofs.Parts.{lent_body}
use Rattle.checker.proofs.steps.sweep.Goals as goal

pub sweep_over-requires : goal.sweep_over-requires
sweep_over-requires c =
    let f = c.args.f.now in
    search (c.requires, lent_body f.bytes.now c.args.m.now f.body.now f.ends c.requires)
