use mathlib.Core.Path.{◌≡◌, sym, ◌∙◌}
use mathlib.Core.Bool.{true}
use Rattle.variables.proofs.Places.{row_in}
use native.Mathlib.Omega.{arith}
use borrow.Author.Tests.{eq-eqb, ne_eqb}
use Rattle.variables.specs.Place.{place_of, placed, row_fits}
use Rattle.variables.proofs.place.place_of.Goals.{Else-not-row_fits, Else-not-row_fits-2}
use Rattle.variables.proofs.place.place_of.Goals as goal

pub returns-then-indices-n : goal.returns-then-indices-n
unfolding place_of placed
returns-then-indices-n c = simp (ne_eqb _ _ c.if-indices-n.true)

pub returns-then-not-row_fits : goal.returns-then-not-row_fits
unfolding place_of placed
returns-then-not-row_fits c = simp (c.if-not-row_fits.true, ← c.row_fits.ensures, eq-eqb _ _ c.if-indices-n.false)

-- the sizes lie before the end
sizes_fit : (c : Else-not-row_fits) → let a = c.args in
    row_fits a.f.now a.l.sizes a.l.count ≡ true
sizes_fit c = sym c.row_fits.ensures ∙ c.if-not-row_fits.false

pub returns-then-not-row_fits-2 : goal.returns-then-not-row_fits-2
unfolding place_of placed
returns-then-not-row_fits-2 c =
    simp (c.if-not-row_fits-2.true, ← c.row_fits-2.ensures, sizes_fit (goal.at.returns-then-not-row_fits-2 c).Else-not-row_fits, eq-eqb _ _ c.if-indices-n.false)

-- and the variances
variances_fit : (c : Else-not-row_fits-2) → let a = c.args in
    row_fits a.f.now a.l.variances a.l.count ≡ true
variances_fit c = sym c.row_fits-2.ensures ∙ c.if-not-row_fits-2.false

pub indices_right-requires : goal.indices_right-requires
indices_right-requires c = omega (arith, c.if-indices-n.false, row_in _ _ _ (sizes_fit (goal.at.indices_right-requires c).Else-not-row_fits))

pub returns-then-not-indices_right : goal.returns-then-not-indices_right
unfolding place_of placed
returns-then-not-indices_right c =
    let wrong = c.if-not-indices_right.true in
    simp (← c.if-indices-n.false, wrong, ← c.indices_right.ensures, variances_fit (goal.at.returns-then-not-indices_right c).Else-not-row_fits-2, sizes_fit (goal.at.returns-then-not-indices_right c).Else-not-row_fits, eq-eqb _ _ c.if-indices-n.false)

pub invariant_of-dimensions : goal.invariant_of-dimensions
invariant_of-dimensions c =
    record { sizes_inside = row_in _ _ _ (sizes_fit (goal.at.invariant_of-dimensions c).Else-not-row_fits); variances_inside = row_in _ _ _ (variances_fit (goal.at.invariant_of-dimensions c).Else-not-row_fits-2) }

pub returns : goal.returns
unfolding place_of placed
returns c =
    let right = c.if-not-indices_right.false in
    simp (← c.place.ensures, ← c.if-indices-n.false, right, ← c.indices_right.ensures, variances_fit (goal.at.returns c).Else-not-row_fits-2, sizes_fit (goal.at.returns c).Else-not-row_fits, eq-eqb _ _ c.if-indices-n.false)
