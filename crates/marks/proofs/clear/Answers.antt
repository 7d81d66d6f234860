use native.Mathlib.Omega.{arith}
use mathlib.Core.Path.{◌∙◌}
use Rattle.marks.proofs.Parts.{cleared_on}
use Rattle.marks.proofs.clear.Goals as goal

pub returns : goal.returns
returns c =
    c.clear_singly.ensures
    ∙ rw c.clear_runs.ensures (cleared_on c.args.m.now c.args.at _ _ _ c.args.n (omega arith) (omega arith) c.requires)
