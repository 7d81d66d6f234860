use mir.Syntax.{w32}
use mir.Facts.{to_z-of_z}
use Rattle.checker.specs.Grant.{granted}
use Rattle.jobs.proofs.Turning.{turn_is}
use Rattle.jobs.proofs.turns.Job.turn.Goals as goal

pub returns : goal.returns
returns c =
    let g = c.grant-self in
    let a = c.args in
    let given = granted g.result g.new.location g.new.steps g.new.state g.new.marks in
    rw (to_z-of_z {w = w32} (record { sfits = g.type_inv })) (turn_is a.files.now a.marks.now a.self.now a.q given g.ensures)
