use mir.Syntax.{w32}
use mir.Facts.{to_z-of_z}
use Rattle.jobs.proofs.Turning.{round_stops, too_many}
use Rattle.jobs.specs.Turns.{window}
use Rattle.jobs.proofs.rows.round_by_value.Goals as goal

pub returns-then-n-gt8 : goal.returns-then-n-gt8
returns-then-n-gt8 c =
    let a = c.args in
    round_stops a.files.now (window a.rows.row a.marks.now) a.n a.q (too_many _ _ _ _ _ c.if-n-gt8.true)

pub returns : goal.returns
returns c = rw (to_z-of_z {w = w32} (record { sfits = c.round_over_first-answer.type_inv })) c.round_over_first-answer.ensures
