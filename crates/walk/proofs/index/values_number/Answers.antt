use mathlib.Core.Path.{◌∙◌, sym, ap}
use Rattle.format.proofs.Numbers.{first_last}
use Rattle.std.proofs.Common.{Result}
use Rattle.records.specs.declared.breaches.Breach.{Breach}
use Rattle.variables.specs.declared.vdr.Shape.{Shape}
use Rattle.variables.specs.Vdr.{variable_told}
use Rattle.walk.specs.Walk.{values_number}
use Rattle.walk.proofs.Chained.{stops_at, passed}
use Rattle.walk.proofs.index.values_number.Goals as goal

pub returns-in_err-reach-clause-told : goal.returns-in_err-reach-clause-told
unfolding values_number
returns-in_err-reach-clause-told c = stops_at _ _ c.from_residual.ensures.1 c.in_err-reach.ensures.told _

pub returns-in_err-shape-clause-told : goal.returns-in_err-shape-clause-told
unfolding values_number
returns-in_err-shape-clause-told c =
    stops_at _ _ c.from_residual-in_err-shape.ensures.1 (ap (λ (v : Result Shape Breach). (variable_told v).fault) (sym c.in_err-shape.was)) _
    ∙ passed _ c.in_ok-reach.ensures.told _

pub returns-clause-told : goal.returns-clause-told
unfolding values_number
returns-clause-told c = rw c.in_ok-shape.was (c.vvr.ensures ∙ sym (first_last _) ∙ passed _ c.in_ok-reach.ensures.told _)
