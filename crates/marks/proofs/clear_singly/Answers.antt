use Rattle.std.proofs.Common.{sym, arith}
use Rattle.marks.proofs.Parts.{cleared_none, cleared_more}
use Rattle.marks.proofs.clear_singly.Goals as goal

pub loop-i-init : goal.loop-i-init
loop-i-init c = sym (cleared_none _ _)

pub loop-i-preserved : goal.loop-i-preserved
loop-i-preserved c =
    let l = c.loop-i in
    let a = c.args in
    rw l.invariant (cleared_more a.m.now a.at l.i (omega arith))
