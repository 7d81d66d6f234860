-- A test that passed has the number 0, and no other has. Assumes nothing.
use Rattle.std.proofs.Common.{◌≡◌, true, refl, sym, Result, Ok, Err, IfOk}
use Rattle.std.specs.Prelude.{is_ok, eqb}
use borrow.Author.Tests.{ne_eqb}
use Rattle.records.specs.declared.breaches.Breach.{Breach}
use Rattle.records.specs.Breaches.{number_of, told}
use Rattle.records.proofs.Told.{number_some}
use Rattle.variables.specs.declared.vdr.Shape.{Shape}
use Rattle.variables.specs.Vdr.{variable_told}

pub passed : {A : Type 0} (r : Result A Breach) → is_ok r ≡ eqb (told r) 0
passed (Ok x) = refl
passed (Err b) = sym (ne_eqb (number_of b) 0 (number_some b))

pub shape_passed : (r : Result Shape Breach) → is_ok r ≡ eqb (variable_told r).fault 0
shape_passed (Ok s) = refl
shape_passed (Err b) = sym (ne_eqb (number_of b) 0 (number_some b))

-- what holds of a test that passed
pub if_passed : {A Fact : Type 0} (r : Result A Breach) → IfOk r (λ _. Fact) → is_ok r ≡ true → Fact
if_passed (Ok x) h e = h
if_passed (Err b) h e = cc
