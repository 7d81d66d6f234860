use mathlib.Core.Path.{◌≡◌, ◌∙◌, ap, sym}
use native.Mathlib.Omega.{arith}
use Rattle.format.proofs.Numbers.{first_some, first_last}
use Rattle.records.specs.Breaches.{number_of, told}
use Rattle.records.proofs.Told.{number_some, same_breach, if_told}
use Rattle.variables.specs.Vdr.{Variable}
use Rattle.variables.proofs.Rule.{vdr_inside}
use Rattle.walk.specs.Walk.{var_number}
use Rattle.walk.proofs.Chained.{both_told, and_first, and_second, fault_told}
use Rattle.walk.proofs.vars.VariableListListing.number.Goals as goal

pub returns-in_err-and-clause-told : goal.returns-in_err-and-clause-told
unfolding var_number
returns-in_err-and-clause-told c =
    let l = fault_told c.args.self.linked ∙ ap (λ (w : Variable). w.fault) c.requires in
    let y : told c.from_residual.result ≡ number_of c.in_err-and.field-0.0 = same_breach _ _ c.from_residual.ensures.1 in
    simp (← c.carried.ensures, ← l, both_told, ← c.and.ensures, c.in_err-and.was, first_some (number_some c.in_err-and.field-0.0)) y

pub is_nat-num-requires : goal.is_nat-num-requires
is_nat-num-requires c =
    let a = c.args in
    let l = fault_told a.self.linked ∙ ap (λ (w : Variable). w.fault) c.requires in
    let e : told c.and.result ≡ 0 = ap told c.in_ok-and.was in
    let p : told a.self.linked ≡ 0 = search (and_first, and_second, c.and.ensures, e) in
    omega (arith, vdr_inside a.f.now a.self.kind a.o (sym l ∙ p))

pub returns-clause-told : goal.returns-clause-told
unfolding var_number
returns-clause-told c =
    let l = fault_told c.args.self.linked ∙ ap (λ (w : Variable). w.fault) c.requires in
    simp (c.check.ensures.told, ← c.is_nat-num.ensures, ← c.carried.ensures, ← l, both_told, ← c.and.ensures, c.in_ok-and.was) (sym (first_last _))

pub returns-clause-fits : goal.returns-clause-fits
returns-clause-fits c =
    let a = c.args in
    let l = fault_told a.self.linked ∙ ap (λ (w : Variable). w.fault) c.requires in
    let e : told c.and.result ≡ 0 = ap told c.in_ok-and.was in
    let p : told a.self.linked ≡ 0 = search (and_first, and_second, c.and.ensures, e) in
    if_told c.check.result (λ _. vdr_inside a.f.now a.self.kind a.o (sym l ∙ p))
