use Rattle.std.proofs.Common.{arith, sym, ◌∙◌}
use Rattle.checker.proofs.Outcomes.{link_passes}
use Rattle.checker.proofs.Passed.{started}
use Rattle.checker.proofs.steps.claim.Goals as goal

pub bounds-m-t : goal.bounds-m-t
bounds-m-t c =
    let a = c.args in
    let p = link_passes a.f.now a.m.now a.early a.t a.typed a.late (sym c.link_number-number.ensures ∙ c.if-number-ne0.false) in
    omega (arith, (started a.f.now a.m.now a.t p.start).1, c.requires.marks)
