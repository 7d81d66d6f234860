use Rattle.std.proofs.Common.{◌∙◌, sym, [], ◌∷◌}
use Rattle.format.proofs.Numbers.{first_some, by_two}
use Rattle.records.specs.Opening.{magics_number, descriptors_number, opening}
use Rattle.records.proofs.Told.{number_some, same_breach}
use Rattle.records.proofs.opening.opens.Goals as goal

pub returns-in_err-magics_number : goal.returns-in_err-magics_number
unfolding opening
returns-in_err-magics_number c =
    let f = c.args.f.now in
    let y = c.in_err-magics_number.field-0.0 in
    let is = c.in_err-magics_number.ensures.told in
    same_breach _ _ c.from_residual.ensures.1 ∙ is ∙ sym (first_some {v = magics_number f} (λ z. number_some y (is ∙ z)) (descriptors_number f ∷ []))

pub returns : goal.returns
unfolding opening
returns c =
    let f = c.args.f.now in
    by_two (magics_number f) (descriptors_number f) (sym c.in_ok-magics_number.ensures.told) c.descriptors_number.ensures
