use Rattle.std.proofs.Common.{◌*◌, ◌+◌, sym, refl, ◌∙◌, arith}
use Rattle.marks.proofs.Parts.{cleared_none, cleared_on}
use Rattle.marks.proofs.clear_runs.Goals as goal

pub loop-i-init : goal.loop-i-init
loop-i-init c = sym (cleared_none _ _)

pub loop-i-preserved : goal.loop-i-preserved
loop-i-preserved c =
    let l = c.loop-i in
    let a = c.args in
    c.clear_run.ensures ∙ rw l.invariant (cleared_on a.m.now a.at (16 * l.i) _ 16 (16 * (l.i + 1)) refl (omega arith) (omega arith))
