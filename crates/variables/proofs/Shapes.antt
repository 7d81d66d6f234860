-- What `?` gives back of a breach says the same of a VDR. Assumes nothing.
use Rattle.std.proofs.Common.{◌≡◌, Result, IsErrAnd}
use Rattle.std.proofs.lemmas.Result.{err_from_is_err_and}
use Rattle.records.specs.declared.breaches.Breach.{Breach}
use Rattle.records.specs.Breaches.{number_of}
use Rattle.variables.specs.declared.vdr.Shape.{Shape}
use Rattle.variables.specs.Vdr.{vdr_fault, variable_told}

pub same_fault : (r : Result Shape Breach) (y : Breach) → IsErrAnd r (λ z. z ≡ y) → variable_told r ≡ vdr_fault (number_of y)
same_fault r y h = let p = err_from_is_err_and r h in rw (p.1, p.2)
