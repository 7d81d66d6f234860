use mir.Syntax.{w32}
use mir.Facts.{to_z-of_z}
use Rattle.jobs.proofs.Turning.{round_of_first}
use Rattle.jobs.proofs.rows.round_over_first.Goals as goal

pub returns : goal.returns
returns c =
    let a = c.args in
    let r = c.round_in_place in
    rw (to_z-of_z {w = w32} (record { sfits = r.type_inv })) (round_of_first a.files.now a.jobs.now a.marks.now a.n a.q _ _ _ c.requires r.ensures)
