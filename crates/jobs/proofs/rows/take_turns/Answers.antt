use mathlib.Core.Path.{refl, ◌∙◌}
use native.Mathlib.Omega.{arith}
use lib.ListN.{length}
use Rattle.jobs.specs.Turns.{job_turned, window, turns_to}
use Rattle.jobs.proofs.Turning.{turns_more, turn_fits}
use Rattle.jobs.proofs.rows.take_turns.Goals as goal

pub loop-j-init : goal.loop-j-init
unfolding turns_to
loop-j-init c = (refl, refl)

pub turn-requires : goal.turn-requires
turn-requires c =
    let l = c.loop-j in
    let w = window c.args.jobs.now c.args.marks.now in
    turn_fits c.args.files.now c.args.q w (length c.args.jobs.now) c.requires l.jobs l.marks l.j-index (omega arith) l.invariant.1 l.invariant.0

pub loop-j-preserved : goal.loop-j-preserved
loop-j-preserved c =
    let l = c.loop-j in
    let a = c.args in
    let w = window a.jobs.now a.marks.now in
    let turned = job_turned c.turn.new.self c.turn.new.marks in
    (c.turn.auto.marks ∙ l.invariant.0, turns_more a.files.now a.q w l.jobs l.marks l.j-index turned l.invariant.1 c.turn.ensures)
