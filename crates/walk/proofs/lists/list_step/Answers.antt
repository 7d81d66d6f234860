use mathlib.Core.Path.{◌∙◌}
use Rattle.walk.proofs.Leads.{led, led_small, led_to, step_claim, step_over, step_past}
use Rattle.walk.proofs.lists.list_step.Goals as goal

pub claim-requires-clause-matches : goal.claim-requires-clause-matches
claim-requires-clause-matches g c =
    let t = led_to _ _ _ c.link_from-l.ensures _ c.in-To.is in
    rw t.1 at (c.requires t.0)

pub claim-requires-clause-small : goal.claim-requires-clause-small
claim-requires-clause-small g c = led_small _ _ _ c.link_from-l.ensures _ c.in-To.is

pub returns-in-Past : goal.returns-in-Past
returns-in-Past g c = c.stopped.ensures ∙ step_past _ _ _ (led _ _ _ c.link_from-l.ensures c.in-Past.is)

pub returns-in-Zero : goal.returns-in-Zero
returns-in-Zero g c = c.over.ensures ∙ step_over _ _ _ (led _ _ _ c.link_from-l.ensures c.in-Zero.is)

pub returns-in-To : goal.returns-in-To
returns-in-To g c = c.claim.ensures ∙ step_claim _ _ _ _ (led _ _ _ c.link_from-l.ensures c.in-To.is)
