use mathlib.Core.Path.{sym, ◌∙◌}
use Rattle.stored_fields.proofs.Fields.{one_more_lem, all_past, none_left}
use Rattle.stored_fields.proofs.put_all.Goals as goal

pub returns-then-f-to : goal.returns-then-f-to
returns-then-f-to c = let l = c.loop-n in sym (l.invariant ∙ all_past l.f l.to _ c.if-f-to.true)

pub loop-n-preserved : goal.loop-n-preserved
loop-n-preserved c =
    let l = c.loop-n in l.invariant ∙ one_more_lem l.f l.to l.n-index c.args.fields.now c.loop-n-test.true ∙ rw c.put.ensures

pub returns : goal.returns
returns c = let l = c.loop-n in sym (l.invariant ∙ none_left l.f l.to l.n-index _ c.loop-n-test.false)
