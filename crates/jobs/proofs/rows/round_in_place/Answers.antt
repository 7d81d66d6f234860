use mathlib.Core.Path.{sym, ◌∙◌}
use lib.ListN.{length}
use Rattle.jobs.specs.Turns.{window}
use Rattle.jobs.proofs.Tests.{runs_inside}
use Rattle.jobs.proofs.Turning.{round_stops, round_goes}
use Rattle.jobs.proofs.rows.round_in_place.Goals as goal

pub returns-then-is_refused : goal.returns-then-is_refused
returns-then-is_refused c =
    let a = c.args in
    round_stops a.files.now (window a.jobs.now a.marks.now) (length a.jobs.now) a.q (sym c.is_refused.ensures ∙ c.if-is_refused.true)

pub take_turns-requires : goal.take_turns-requires
take_turns-requires c = runs_inside _ _ _ _ _ (sym c.is_refused.ensures ∙ c.if-is_refused.false)

pub returns : goal.returns
returns c =
    let a = c.args in
    round_goes a.files.now (window a.jobs.now a.marks.now) (length a.jobs.now) a.q _ (sym c.is_refused.ensures ∙ c.if-is_refused.false) c.take_turns.ensures
